-- A queue without entries has no item in its arena.
use Rattle.std.proofs.Common.{sym, ◌∙◌}
use Rattle.cluster_queue.proofs.Rows.{none_stored}
use Rattle.cluster_queue.proofs.queue.Queue.end.Goals as goal

pub destroy_empty-requires : goal.destroy_empty-requires
destroy_empty-requires c =
    let q = c.args.self in
    none_stored q.arena q.next_arrival c.requires.nested.stored.arrivals (sym c.requires.nested.stored.len ∙ c.requires.none)
