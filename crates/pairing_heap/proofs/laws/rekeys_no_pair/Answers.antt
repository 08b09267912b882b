use Rattle.pairing_heap.proofs.Apart.{rekeys_pair}
use Rattle.pairing_heap.proofs.laws.rekeys_no_pair.Goals as goal

pub returns : goal.returns
returns g c = rekeys_pair g.row.K g.V.Keyed.key_of g.V.Key.HeapKey.precedes
