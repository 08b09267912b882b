use Rattle.pairing_heap.proofs.Apart.{stays_cleared}
use Rattle.pairing_heap.proofs.laws.stays_where_cleared.Goals as goal

pub returns : goal.returns
returns g c = stays_cleared g.row.K g.V.Keyed.key_of g.V.Key.HeapKey.precedes
