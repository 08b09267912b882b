use Rattle.pairing_heap.proofs.Staying.{stays_elsewhere}
use Rattle.pairing_heap.proofs.laws.stays_where_removed.Goals as goal

pub returns : goal.returns
returns g c = λ old new slot removes.
    stays_elsewhere g.row.K g.V.Keyed.key_of g.V.Key.HeapKey.precedes old new slot removes.elsewhere.values (λ other unlike. removes.elsewhere.links g.row.K other unlike)
