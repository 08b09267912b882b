use Rattle.pairing_heap.proofs.Staying.{taken_lacked}
use Rattle.pairing_heap.proofs.laws.taken_is_lacked.Goals as goal

pub returns : goal.returns
returns g c = taken_lacked g.row.K g.V.Keyed.key_of g.V.Key.HeapKey.precedes
