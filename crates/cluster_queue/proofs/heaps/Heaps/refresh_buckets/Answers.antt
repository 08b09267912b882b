-- One bucket after the other is priced anew.
use Rattle.std.proofs.Common.{refl}
use Rattle.sched_base.specs.declared.Bucket.TheVariants.{Bg, Df, Fg, Ini, Ut}
use Rattle.cluster_queue.proofs.PricesSteps.{Point, can_price, five_priced, goes_first, goes_on}
use Rattle.cluster_queue.proofs.heaps.Heaps.refresh_buckets.Goals as goal

pub refresh_bucket-ini-requires-clause-can : goal.refresh_bucket-ini-requires-clause-can
refresh_bucket-ini-requires-clause-can g c =
    let now_ = c.args.now in
    let u : Point = record { arena = c.args.arena.now; heaps = c.args.self.now; turns = c.args.turns.now } in
    let v : Point = record { arena = c.refresh_bucket-fg.new.arena; heaps = c.refresh_bucket-fg.new.self; turns = c.refresh_bucket-fg.new.turns } in
    can_price v Ini now_
    (goes_on u v Fg Ini now_ c.refresh_bucket-fg.result refl c.refresh_bucket-fg.ensures.room c.refresh_bucket-fg.ensures.prices (goes_first u now_ c.requires.can))

pub refresh_bucket-df-requires-clause-can : goal.refresh_bucket-df-requires-clause-can
refresh_bucket-df-requires-clause-can g c =
    let now_ = c.args.now in
    let u : Point = record { arena = c.args.arena.now; heaps = c.args.self.now; turns = c.args.turns.now } in
    let v : Point = record { arena = c.refresh_bucket-fg.new.arena; heaps = c.refresh_bucket-fg.new.self; turns = c.refresh_bucket-fg.new.turns } in
    let w : Point = record { arena = c.refresh_bucket-ini.new.arena; heaps = c.refresh_bucket-ini.new.self; turns = c.refresh_bucket-ini.new.turns } in
    can_price w Df now_
    (goes_on v w Ini Df now_ c.refresh_bucket-ini.result refl c.refresh_bucket-ini.ensures.room c.refresh_bucket-ini.ensures.prices
    (goes_on u v Fg Ini now_ c.refresh_bucket-fg.result refl c.refresh_bucket-fg.ensures.room c.refresh_bucket-fg.ensures.prices (goes_first u now_ c.requires.can)))

pub refresh_bucket-ut-requires-clause-can : goal.refresh_bucket-ut-requires-clause-can
refresh_bucket-ut-requires-clause-can g c =
    let now_ = c.args.now in
    let u : Point = record { arena = c.args.arena.now; heaps = c.args.self.now; turns = c.args.turns.now } in
    let v : Point = record { arena = c.refresh_bucket-fg.new.arena; heaps = c.refresh_bucket-fg.new.self; turns = c.refresh_bucket-fg.new.turns } in
    let w : Point = record { arena = c.refresh_bucket-ini.new.arena; heaps = c.refresh_bucket-ini.new.self; turns = c.refresh_bucket-ini.new.turns } in
    let x : Point = record { arena = c.refresh_bucket-df.new.arena; heaps = c.refresh_bucket-df.new.self; turns = c.refresh_bucket-df.new.turns } in
    can_price x Ut now_
    (goes_on w x Df Ut now_ c.refresh_bucket-df.result refl c.refresh_bucket-df.ensures.room c.refresh_bucket-df.ensures.prices
    (goes_on v w Ini Df now_ c.refresh_bucket-ini.result refl c.refresh_bucket-ini.ensures.room c.refresh_bucket-ini.ensures.prices
    (goes_on u v Fg Ini now_ c.refresh_bucket-fg.result refl c.refresh_bucket-fg.ensures.room c.refresh_bucket-fg.ensures.prices (goes_first u now_ c.requires.can))))

pub refresh_bucket-bg-requires-clause-can : goal.refresh_bucket-bg-requires-clause-can
refresh_bucket-bg-requires-clause-can g c =
    let now_ = c.args.now in
    let u : Point = record { arena = c.args.arena.now; heaps = c.args.self.now; turns = c.args.turns.now } in
    let v : Point = record { arena = c.refresh_bucket-fg.new.arena; heaps = c.refresh_bucket-fg.new.self; turns = c.refresh_bucket-fg.new.turns } in
    let w : Point = record { arena = c.refresh_bucket-ini.new.arena; heaps = c.refresh_bucket-ini.new.self; turns = c.refresh_bucket-ini.new.turns } in
    let x : Point = record { arena = c.refresh_bucket-df.new.arena; heaps = c.refresh_bucket-df.new.self; turns = c.refresh_bucket-df.new.turns } in
    let y : Point = record { arena = c.refresh_bucket-ut.new.arena; heaps = c.refresh_bucket-ut.new.self; turns = c.refresh_bucket-ut.new.turns } in
    can_price y Bg now_
    (goes_on x y Ut Bg now_ c.refresh_bucket-ut.result refl c.refresh_bucket-ut.ensures.room c.refresh_bucket-ut.ensures.prices
    (goes_on w x Df Ut now_ c.refresh_bucket-df.result refl c.refresh_bucket-df.ensures.room c.refresh_bucket-df.ensures.prices
    (goes_on v w Ini Df now_ c.refresh_bucket-ini.result refl c.refresh_bucket-ini.ensures.room c.refresh_bucket-ini.ensures.prices
    (goes_on u v Fg Ini now_ c.refresh_bucket-fg.result refl c.refresh_bucket-fg.ensures.room c.refresh_bucket-fg.ensures.prices (goes_first u now_ c.requires.can)))))

pub returns-clause-prices : goal.returns-clause-prices
returns-clause-prices g c =
    let u : Point = record { arena = c.args.arena.now; heaps = c.args.self.now; turns = c.args.turns.now } in
    let v : Point = record { arena = c.refresh_bucket-fg.new.arena; heaps = c.refresh_bucket-fg.new.self; turns = c.refresh_bucket-fg.new.turns } in
    let w : Point = record { arena = c.refresh_bucket-ini.new.arena; heaps = c.refresh_bucket-ini.new.self; turns = c.refresh_bucket-ini.new.turns } in
    let x : Point = record { arena = c.refresh_bucket-df.new.arena; heaps = c.refresh_bucket-df.new.self; turns = c.refresh_bucket-df.new.turns } in
    let y : Point = record { arena = c.refresh_bucket-ut.new.arena; heaps = c.refresh_bucket-ut.new.self; turns = c.refresh_bucket-ut.new.turns } in
    let z : Point = record { arena = c.refresh_bucket-bg.new.arena; heaps = c.refresh_bucket-bg.new.self; turns = c.refresh_bucket-bg.new.turns } in
    five_priced c.args.now c.refresh_bucket-fg.result c.refresh_bucket-ini.result c.refresh_bucket-df.result c.refresh_bucket-ut.result c.refresh_bucket-bg.result u v w x y z
    c.refresh_bucket-fg.ensures.prices c.refresh_bucket-ini.ensures.prices c.refresh_bucket-df.ensures.prices c.refresh_bucket-ut.ensures.prices c.refresh_bucket-bg.ensures.prices
