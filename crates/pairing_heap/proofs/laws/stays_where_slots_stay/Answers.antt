use Rattle.pairing_heap.proofs.Staying.{stays}
use Rattle.pairing_heap.proofs.laws.stays_where_slots_stay.Goals as goal

pub returns : goal.returns
returns g c = stays g.row.K g.V.Keyed.key_of g.V.Key.HeapKey.precedes
