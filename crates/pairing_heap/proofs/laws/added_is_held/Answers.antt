use Rattle.pairing_heap.proofs.Staying.{added_held}
use Rattle.pairing_heap.proofs.laws.added_is_held.Goals as goal

pub returns : goal.returns
returns g c = added_held g.row.K g.V.Keyed.key_of g.V.Key.HeapKey.precedes
