use Rattle.pairing_heap.proofs.Apart.{rekeys_again}
use Rattle.pairing_heap.proofs.laws.rekeys_where_pushed_again.Goals as goal

pub returns : goal.returns
returns g c = rekeys_again g.row.K g.V.Keyed.key_of g.V.Key.HeapKey.precedes
