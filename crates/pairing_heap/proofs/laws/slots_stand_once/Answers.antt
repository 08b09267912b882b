use Rattle.pairing_heap.proofs.Staying.{once}
use Rattle.pairing_heap.proofs.laws.slots_stand_once.Goals as goal

pub returns : goal.returns
returns g c = once g.row.K g.V.Keyed.key_of g.V.Key.HeapKey.precedes
