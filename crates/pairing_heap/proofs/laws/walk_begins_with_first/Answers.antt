use Rattle.pairing_heap.proofs.Walking.{begins}
use Rattle.pairing_heap.proofs.laws.walk_begins_with_first.Goals as goal

pub returns : goal.returns
returns g c = begins g.row.K g.V.Keyed.key_of g.V.Key.HeapKey.precedes
