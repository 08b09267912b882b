use Rattle.pairing_heap.proofs.Staying.{takes_slot}
use Rattle.pairing_heap.proofs.laws.takes_one_slot.Goals as goal

pub returns : goal.returns
returns g c = takes_slot g.row.K g.V.Keyed.key_of g.V.Key.HeapKey.precedes
