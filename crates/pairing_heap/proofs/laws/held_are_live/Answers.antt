use Rattle.pairing_heap.proofs.Rekeying.{live_held}
use Rattle.pairing_heap.proofs.laws.held_are_live.Goals as goal

pub returns : goal.returns
returns g c = live_held g.row.K g.V.Keyed.key_of g.V.Key.HeapKey.precedes
