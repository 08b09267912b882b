-- The two lanes of a bucket are priced anew, one after the other.
use Rattle.std.proofs.Common.{◌+◌, ◌≤◌, refl, arith}
use Rattle.cluster_queue.proofs.PricedCalls.{prices, queue_room, queue_stands, told_few}
use Rattle.cluster_queue.proofs.heaps.Heaps.refresh_bucket.Goals as goal

pub refresh_queue-bound-requires-clause-stands : goal.refresh_queue-bound-requires-clause-stands
refresh_queue-bound-requires-clause-stands g c =
    let r = c.refresh-unbound.ensures in
    queue_stands c.price_laws.ensures.live c.args.arena.now c.refresh-unbound.new.arena c.args.self.now c.refresh-unbound.new.self c.args.bucket c.args.now c.args.turns.now c.refresh-unbound.new.turns c.refresh-unbound.result
    c.index-at.result c.index-self-at.result c.index-self-at-2.result c.index-at.ensures.index c.requires.can
    (record { follows = r.follows; changed = r.changed; repriced = r.repriced; others = r.others; second = r.second; spare = r.spare; groups = r.groups; queues = r.queues })

pub refresh_queue-bound-requires-clause-room : goal.refresh_queue-bound-requires-clause-room
refresh_queue-bound-requires-clause-room g c =
    queue_room c.args.arena.now c.args.self.now c.args.bucket c.args.now c.index-at.result c.index-self-at-2.result c.index-at.ensures.index c.requires.can

pub overflow_add-result : goal.overflow_add-result
overflow_add-result g c =
    let r = c.refresh-unbound.ensures in
    let few : c.refresh-unbound.result + c.refresh_queue-bound.result ≤ 8192 =
    told_few c.price_laws.ensures.live c.args.arena.now c.refresh-unbound.new.arena c.args.self.now c.refresh-unbound.new.self c.args.bucket c.args.now c.args.turns.now c.refresh-unbound.new.turns c.refresh-unbound.result
    c.index-at.result c.index-self-at.result c.index-self-at-2.result c.index-at.ensures.index c.requires.can
    (record { follows = r.follows; changed = r.changed; repriced = r.repriced; others = r.others; second = r.second; spare = r.spare; groups = r.groups; queues = r.queues })
    c.refresh_queue-bound.result c.refresh_queue-bound.ensures.most in
    omega (arith, few)

pub returns-clause-most : goal.returns-clause-most
returns-clause-most g c =
    let r = c.refresh-unbound.ensures in
    told_few c.price_laws.ensures.live c.args.arena.now c.refresh-unbound.new.arena c.args.self.now c.refresh-unbound.new.self c.args.bucket c.args.now c.args.turns.now c.refresh-unbound.new.turns c.refresh-unbound.result
    c.index-at.result c.index-self-at.result c.index-self-at-2.result c.index-at.ensures.index c.requires.can
    (record { follows = r.follows; changed = r.changed; repriced = r.repriced; others = r.others; second = r.second; spare = r.spare; groups = r.groups; queues = r.queues })
    c.refresh_queue-bound.result c.refresh_queue-bound.ensures.most

pub returns-clause-prices : goal.returns-clause-prices
returns-clause-prices g c =
    let laws = c.price_laws.ensures in
    let r = c.refresh-unbound.ensures in
    prices c.price_laws.ensures.live c.args.arena.now c.refresh-unbound.new.arena c.args.self.now c.refresh-unbound.new.self c.args.bucket c.args.now c.args.turns.now c.refresh-unbound.new.turns c.refresh-unbound.result
    c.index-at.result c.index-self-at.result c.index-self-at-2.result c.index-at.ensures.index c.requires.can
    (record { follows = r.follows; changed = r.changed; repriced = r.repriced; others = r.others; second = r.second; spare = r.spare; groups = r.groups; queues = r.queues })
    (record { live = laws.live; bound = laws.bound; none = laws.none; foreign = laws.foreign; stay = laws.stay })
    c.refresh_queue-bound.new.arena _ c.refresh_queue-bound.new.queue c.refresh_queue-bound.result c.requires.bucket c.refresh_queue-bound.ensures.reprices c.refresh_queue-bound.ensures.changed refl refl refl
