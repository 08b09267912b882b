use Rattle.pairing_heap.proofs.Apart.{rekeys_there}
use Rattle.pairing_heap.proofs.laws.rekeys_where_key_stays.Goals as goal

pub returns : goal.returns
returns g c = rekeys_there g.row.K g.V.Keyed.key_of g.V.Key.HeapKey.precedes
