use Rattle.pairing_heap.proofs.Apart.{added_apart}
use Rattle.pairing_heap.proofs.laws.added_stays_apart.Goals as goal

pub returns : goal.returns
returns g c = added_apart g.row.K g.V.Keyed.key_of g.V.Key.HeapKey.precedes
