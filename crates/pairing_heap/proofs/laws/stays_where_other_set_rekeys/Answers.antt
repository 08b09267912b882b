use Rattle.pairing_heap.proofs.Apart.{stays_rekeyed}
use Rattle.pairing_heap.proofs.laws.stays_where_other_set_rekeys.Goals as goal

pub returns : goal.returns
returns g c = stays_rekeyed g.row.K g.V.Keyed.key_of g.V.Key.HeapKey.precedes
