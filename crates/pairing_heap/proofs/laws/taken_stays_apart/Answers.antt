use Rattle.pairing_heap.proofs.Apart.{taken_apart}
use Rattle.pairing_heap.proofs.laws.taken_stays_apart.Goals as goal

pub returns : goal.returns
returns g c = taken_apart g.row.K g.V.Keyed.key_of g.V.Key.HeapKey.precedes
