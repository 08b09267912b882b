use Rattle.pairing_heap.proofs.Apart.{takes_pair}
use Rattle.pairing_heap.proofs.laws.takes_one_pair.Goals as goal

pub returns : goal.returns
returns g c = takes_pair g.row.K g.V.Keyed.key_of g.V.Key.HeapKey.precedes
