use Rattle.pairing_heap.proofs.Staying.{rekeys_slot}
use Rattle.pairing_heap.proofs.laws.rekeys_no_slot.Goals as goal

pub returns : goal.returns
returns g c = rekeys_slot g.row.K g.V.Keyed.key_of g.V.Key.HeapKey.precedes
