-- No lane of any bucket has entries.
use Rattle.std.proofs.Common.{Bool, false, sym, ◌∙◌, ◌≡◌}
use Rattle.sched_base.specs.declared.buckets.Bucket.{Bucket}
use Rattle.flat_policy.specs.Policy.Queue.{has_entries, lane}
use Rattle.cluster_queue.specs.Queues.{flat_of}
use Rattle.cluster_queue.proofs.Held.{each_bucket, from_none}
use Rattle.cluster_queue.proofs.queue.Queue.first_slot.Goals as goal

pub returns-clause-none : goal.returns-clause-none
returns-clause-none c =
    each_bucket (λ (b : Bucket). (bound : Bool) → has_entries (flat_of c.args.self.now) (lane b bound) ≡ false)
    (from_none _ c.first_in-slot.result (sym c.is_some.ensures ∙ c.if-is_some.false) c.first_in-slot.ensures.none)
    (from_none _ c.first_in-slot-2.result (sym c.is_some-2.ensures ∙ c.if-is_some-2.false) c.first_in-slot-2.ensures.none)
    (from_none _ c.first_in-slot-3.result (sym c.is_some-3.ensures ∙ c.if-is_some-3.false) c.first_in-slot-3.ensures.none)
    (from_none _ c.first_in-slot-4.result (sym c.is_some-4.ensures ∙ c.if-is_some-4.false) c.first_in-slot-4.ensures.none)
    (from_none _ c.first_in-slot-5.result (sym c.is_some-5.ensures ∙ c.if-is_some-5.false) c.first_in-slot-5.ensures.none)
    (from_none _ c.first_in-slot-6.result (sym c.is_some-6.ensures ∙ c.if-is_some-6.false) c.first_in-slot-6.ensures.none)
