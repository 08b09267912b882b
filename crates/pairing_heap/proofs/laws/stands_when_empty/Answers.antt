use Rattle.pairing_heap.proofs.Standing.{Stands-empty}
use Rattle.pairing_heap.proofs.laws.stands_when_empty.Goals as goal

pub returns : goal.returns
returns g c set a = Stands-empty g.row.K g.V.Keyed.key_of g.V.Key.HeapKey.precedes a set
