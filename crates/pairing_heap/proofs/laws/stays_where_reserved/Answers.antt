use Rattle.std.proofs.Common.{ap}
use Rattle.pairing_heap.specs.Heap.{key_of_value}
use Rattle.pairing_heap.proofs.Staying.{stays}
use Rattle.pairing_heap.proofs.laws.stays_where_reserved.Goals as goal

pub returns : goal.returns
returns g c = λ old new map heap stands.
    stays g.row.K g.V.Keyed.key_of g.V.Key.HeapKey.precedes old new heap stands record {
      keys = λ slot held. ap (key_of_value g.V.Keyed.key_of) (map.values slot);
      links = λ slot held. map.links g.row.K slot;
    }
