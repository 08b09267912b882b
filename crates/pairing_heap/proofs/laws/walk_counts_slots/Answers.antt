use Rattle.pairing_heap.proofs.Walking.{counts}
use Rattle.pairing_heap.proofs.laws.walk_counts_slots.Goals as goal

pub returns : goal.returns
returns g c = counts g.row.K g.V.Keyed.key_of g.V.Key.HeapKey.precedes
