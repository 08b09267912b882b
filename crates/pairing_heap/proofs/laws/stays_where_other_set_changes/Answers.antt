use Rattle.std.proofs.Common.{ap}
use Rattle.pairing_heap.specs.Heap.{key_of_value}
use Rattle.pairing_heap.proofs.Staying.{stays}
use Rattle.pairing_heap.proofs.laws.stays_where_other_set_changes.Goals as goal

pub returns : goal.returns
returns g c = λ old new set times unlike kept heap stands.
    stays g.row.K g.V.Keyed.key_of g.V.Key.HeapKey.precedes old new heap stands record {
      keys = λ slot held. ap (key_of_value g.V.Keyed.key_of) (kept.values slot);
      links = λ slot held. kept.other_set g.row.K slot unlike;
    }
