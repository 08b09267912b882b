use Rattle.std.proofs.Common.{◌&&◌, false, ap, sym, ◌∙◌}
use Rattle.flat_policy.specs.Policy.Queue.{has_entries, lane}
use Rattle.cluster_queue.specs.Queues.{flat_of}
use Rattle.cluster_queue.proofs.queue.Queue.has_masked.Goals as goal

pub returns-then-is_in_mask : goal.returns-then-is_in_mask
returns-then-is_in_mask c =
    let q = c.args.self.now in
    c.has_lane.ensures q.arena q.groups (flat_of q) c.requires.nested.stored.heaps
    ∙ ap (λ b. b && has_entries (flat_of q) (lane c.args.bucket false)) (sym c.if-is_in_mask.true ∙ c.is_in_mask.ensures)
