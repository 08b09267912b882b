-- What a heap does for a caller that counts no comparisons.
use Rattle.std.specs.Prelude.{Bool, Option, Some, ℕ, ◌≡◌}
use Rattle.link_arena.specs.Arena.{Arena, IsLive}
use Rattle.pairing_heap.specs.Heap.{AddsPair, Holds, Lacks, Stands, TakesPair, keys_at, tree_at}
use Rattle.pairing_heap.specs.Melding.{melded, taken_out}
use Rattle.pairing_heap.specs.Tree.{leaf, node}

module _ {V X : Type 0} (k : ℕ) (key_of : V → X) (precedes : X → X → Bool) where
  -- the heap stands, and the slot holds a value and is none of the heap's
  abbrev pub CanAdd : Arena V → Option ℕ → ℕ → Type 0
  CanAdd a heap slot = Stands k key_of precedes a heap × IsLive a slot × Lacks k key_of a heap slot

  -- the slot's pair comes in, melded with the root
  abbrev pub Adds : Arena V → Arena V → Option ℕ → Option ℕ → ℕ → Type 0
  Adds old new heap later slot =
      AddsPair k key_of precedes old new heap later slot
      × ((key : X) → keys_at key_of old slot ≡ Some key → tree_at k key_of new later ≡ melded precedes (tree_at k key_of old heap) (node key slot leaf leaf))

  -- the heap stands, and the slot is one of the heap's
  abbrev pub CanTake : Arena V → Option ℕ → ℕ → Type 0
  CanTake a heap slot = Stands k key_of precedes a heap × Holds k key_of a heap slot

  -- the slot's pair goes out, and its children are melded in pairs
  abbrev pub Takes : Arena V → Arena V → Option ℕ → Option ℕ → ℕ → Type 0
  Takes old new heap later slot = TakesPair k key_of precedes old new heap later slot × (tree_at k key_of new later ≡ taken_out precedes slot (tree_at k key_of old heap))
