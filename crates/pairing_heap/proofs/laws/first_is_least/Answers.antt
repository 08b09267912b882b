use Rattle.pairing_heap.proofs.Least.{first_least}
use Rattle.pairing_heap.proofs.laws.first_is_least.Goals as goal

pub returns : goal.returns
returns g c = first_least g.row.K g.V.Keyed.key_of g.V.Key.HeapKey.precedes g.V.Key.HeapKey.order
