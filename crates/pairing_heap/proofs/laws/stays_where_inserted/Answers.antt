use Rattle.pairing_heap.proofs.Staying.{stays_inserted}
use Rattle.pairing_heap.proofs.laws.stays_where_inserted.Goals as goal

pub returns : goal.returns
returns g c = stays_inserted g.row.K g.V.Keyed.key_of g.V.Key.HeapKey.precedes
