-- All buckets are priced anew between a clearing and a filling.
use Rattle.std.proofs.Common.{refl}
use Rattle.cluster_queue.specs.declared.heaps.Heaps.{Heaps}
use Rattle.cluster_queue.proofs.HeapsRefreshed.{can_begin, can_fill_then, heaps_refreshed}
use Rattle.cluster_queue.proofs.heaps.Heaps.refresh.Goals as goal

pub refresh_buckets-changed-requires-clause-can : goal.refresh_buckets-changed-requires-clause-can
refresh_buckets-changed-requires-clause-can g c =
    let laws = c.refresh_laws.ensures in
    let cleared : Heaps = record c.args.self.now { foreign = c.clear.new.self } in
    can_begin laws.queues laws.stay c.args.arena.now c.clear.new.arena c.args.self.now cleared c.args.now c.args.turns.now refl c.clear.ensures.clears c.clear.ensures.offers c.requires.can

pub fill_foreign-requires : goal.fill_foreign-requires
fill_foreign-requires g c =
    let laws = c.refresh_laws.ensures in
    let cleared : Heaps = record c.args.self.now { foreign = c.clear.new.self } in
    let all = c.refresh_buckets-changed in
    record {
      can = can_fill_then laws.queues laws.stay c.args.arena.now c.clear.new.arena c.args.self.now cleared c.args.now c.args.turns.now refl c.clear.ensures.clears c.clear.ensures.offers
          all.new.arena all.new.self all.new.turns all.result all.ensures.prices c.requires.can;
    }

pub returns-clause-refreshes : goal.returns-clause-refreshes
returns-clause-refreshes g c =
    let laws = c.refresh_laws.ensures in
    let cleared : Heaps = record c.args.self.now { foreign = c.clear.new.self } in
    let all = c.refresh_buckets-changed in
    let fill = c.fill_foreign in
    heaps_refreshed laws.queues laws.stay c.args.arena.now c.clear.new.arena c.args.self.now cleared c.args.now c.args.turns.now refl c.clear.ensures.clears c.clear.ensures.offers
    all.new.arena all.new.self all.new.turns all.result all.ensures.prices
    laws.by_bucket fill.new.arena fill.new.self fill.ensures.same fill.ensures.follows fill.ensures.values c.requires.can fill.ensures.spare all.ensures.room
