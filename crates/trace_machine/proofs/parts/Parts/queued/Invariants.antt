use Rattle.trace_machine.proofs.Queued.{CountedSoFar}
use Rattle.trace_machine.proofs.parts.Parts.queued.Given as goal

abbrev pub invariant-loop-cluster : goal.invariant-loop-cluster
invariant-loop-cluster g l = CountedSoFar g.K.Cluster.view l.cluster-items l.cluster-index l.count
