use Rattle.pairing_heap.proofs.Apart.{stays_keyed}
use Rattle.pairing_heap.proofs.laws.stays_where_key_stays.Goals as goal

pub returns : goal.returns
returns g c = stays_keyed g.row.K g.V.Keyed.key_of g.V.Key.HeapKey.precedes
