use Rattle.std.proofs.Common.{arith, subst, sym}
use Rattle.flat_policy.specs.Policy.Clusters.{IsCluster}
use Rattle.cells.specs.Held.{AreSmall}
use Rattle.cells.proofs.Keeping.{kept_small}
use Rattle.cells.proofs.held_cluster.HeldCluster.close.Goals as goal

pub end_queue-requires-clause-numbers : goal.end_queue-requires-clause-numbers
end_queue-requires-clause-numbers g c =
    subst (λ q. AreSmall (g.K.Cluster.view q).flat) (sym c.into_inner.ensures)
    (kept_small g.N.RunName.setup g.N.RunName.programs g.N.RunName.desks g.row.C
    (record { cluster = g.K.Cluster.view c.self.inside.queue.value; journal = c.self.inside.journal; slots = c.self.inside.slots; lines = c.self.inside.lines; others = c.self.inside.others })
    c.self.invariant (subst (λ q. IsCluster (g.K.Cluster.view q)) c.deref.ensures c.keeps.ensures) (omega (arith, c.len.ensures.limit)))
