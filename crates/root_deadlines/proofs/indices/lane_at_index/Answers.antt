use Rattle.std.proofs.Common.{◌≡◌, ◌+◌, ◌/◌, Option, subst}
use Rattle.std.specs.Option.{IfSome}
use Rattle.sched_base.specs.Bucket.{index}
use Rattle.sched_base.specs.declared.buckets.Bucket.{Bucket}
use Rattle.root_deadlines.proofs.IndexedLanes.{lane_is}
use Rattle.root_deadlines.proofs.indices.lane_at_index.Goals as goal

pub returns-clause-at : goal.returns-clause-at
returns-clause-at c =
    lane_is c.args.index c.unwrap.result c.requires
    (subst (λ (o : Option Bucket). IfSome o (λ b. index b ≡ c.args.index / 2 + 1)) c.unwrap.ensures c.from_index.ensures.found)
