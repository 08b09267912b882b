use Rattle.pairing_heap.proofs.Apart.{rekeyed_apart}
use Rattle.pairing_heap.proofs.laws.rekeyed_stays_apart.Goals as goal

pub returns : goal.returns
returns g c = rekeyed_apart g.row.K g.V.Keyed.key_of g.V.Key.HeapKey.precedes
