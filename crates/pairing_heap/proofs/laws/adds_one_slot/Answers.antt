use Rattle.pairing_heap.proofs.Staying.{adds_slot}
use Rattle.pairing_heap.proofs.laws.adds_one_slot.Goals as goal

pub returns : goal.returns
returns g c = adds_slot g.row.K g.V.Keyed.key_of g.V.Key.HeapKey.precedes
