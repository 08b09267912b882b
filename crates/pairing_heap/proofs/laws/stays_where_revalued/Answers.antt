use Rattle.pairing_heap.proofs.Staying.{stays_elsewhere}
use Rattle.pairing_heap.proofs.laws.stays_where_revalued.Goals as goal

pub returns : goal.returns
returns g c = λ old new slot value revalues.
    stays_elsewhere g.row.K g.V.Keyed.key_of g.V.Key.HeapKey.precedes old new slot revalues.elsewhere (λ other unlike. revalues.links g.row.K other)
