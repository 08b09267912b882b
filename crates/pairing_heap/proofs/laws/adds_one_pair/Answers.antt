use Rattle.pairing_heap.proofs.Apart.{adds_pair}
use Rattle.pairing_heap.proofs.laws.adds_one_pair.Goals as goal

pub returns : goal.returns
returns g c = adds_pair g.row.K g.V.Keyed.key_of g.V.Key.HeapKey.precedes
