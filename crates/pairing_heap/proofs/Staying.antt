-- Heaps stay where the arena changes elsewhere, and slots are counted where a pair comes or goes.
use Rattle.std.proofs.Common.{◌≡◌, ◌≢◌, ℕ, ◌+◌, ◌≤◌, Bool, Option, None, IsSome, is_some, sym, ap, ◌∙◌, inl, inr, arith}
use Rattle.std.specs.Prelude.{◌==◌, if◌then◌else◌}
use Rattle.link_arena.specs.Arena.{Arena, value_at, links_at, IsLive, Inserts}
use Rattle.pairing_heap.specs.Heap.{times_of, key_of_value, pairs_at, Stands, Holds, Lacks, SameSlots, AddsPair, TakesPair, RekeysPair}
use Rattle.pairing_heap.specs.Laws.{StaysIn, StaysWithout}
use Rattle.pairing_heap.proofs.Adding.{key_from_live}
use Rattle.pairing_heap.proofs.Counts.{one_same}
use Rattle.pairing_heap.proofs.Rekeying.{live_held}
use Rattle.pairing_heap.proofs.Size.{none_or_some}
use Rattle.pairing_heap.proofs.Standing.{Stands-same, count_by-stands, count_by-more}

module _ {V X : Type 0} (k : ℕ) (key_of : V → X) (precedes : X → X → Bool) where
  pub stays : (old new : Arena V) (heap : Option ℕ) → Stands k key_of precedes old heap → SameSlots k key_of old new heap → StaysIn k key_of precedes old new heap
  stays old new heap stands same =
      let still = Stands-same k key_of precedes old new heap stands same in
      record { stands = still.0; same = still.1 }

  -- a slot that the heap holds differs from one that it lacks
  differs : (a : Arena V) (heap : Option ℕ) (slot other : ℕ) → Lacks k key_of a heap slot → Holds k key_of a heap other → other ≢ slot
  differs a heap slot other lacks held same =
      omega (arith, lacks, held, ap (λ (s : ℕ). times_of (pairs_at k key_of a heap) s) same)

  -- a heap that lacks the one slot that changes stays
  pub stays_elsewhere : (old new : Arena V) (slot : ℕ) → ((other : ℕ) → other ≢ slot → value_at new other ≡ value_at old other) → ((other : ℕ) → other ≢ slot → links_at new k other ≡ links_at old k other) → (heap : Option ℕ) → Stands k key_of precedes old heap → Lacks k key_of old heap slot → StaysIn k key_of precedes old new heap
  stays_elsewhere old new slot values links heap stands lacks =
      stays old new heap stands record {
        keys = λ other held. ap (λ (o : Option V). key_of_value key_of o) (values other (differs old heap slot other lacks held));
        links = λ other held. links other (differs old heap slot other lacks held);
      }

  no_value : (o : Option V) → o ≡ None → IsSome o → ⊥
  no_value o none live = let e = ap is_some (sym none) ∙ live in cc

  -- a heap lacks a slot that has no value
  lacks_free : (a : Arena V) (heap : Option ℕ) (slot : ℕ) → Stands k key_of precedes a heap → value_at a slot ≡ None → Lacks k key_of a heap slot
  lacks_free a heap slot stands free =
      elim (none_or_some (times_of (pairs_at k key_of a heap) slot)) [
        | inl none ↦ none
        | inr some ↦ absurd (no_value (value_at a slot) free (live_held k key_of precedes a heap slot stands some))
      ]

  pub stays_inserted : (old new : Arena V) (slot : ℕ) (value : V) → Inserts old new slot value → (heap : Option ℕ) → Stands k key_of precedes old heap → StaysWithout k key_of precedes old new heap slot
  stays_inserted old new slot value inserts heap stands =
      let lacks = lacks_free old heap slot stands inserts.was_free in
      let kept = stays_elsewhere old new slot inserts.elsewhere.values (λ other unlike. inserts.elsewhere.links k other unlike) heap stands lacks in
      record { stays = kept; lacks = ap (λ xs. times_of xs slot) kept.same ∙ lacks }

  pub once : (a : Arena V) (heap : Option ℕ) (slot : ℕ) → Stands k key_of precedes a heap → times_of (pairs_at k key_of a heap) slot ≤ 1
  once a heap slot stands =
      omega (arith, stands.heap.once slot, count_by-stands k key_of precedes a heap (λ pair. pair.1 == slot))

  pub adds_slot : (old new : Arena V) (heap later : Option ℕ) (slot : ℕ) → IsLive old slot → AddsPair k key_of precedes old new heap later slot → (other : ℕ) → times_of (pairs_at k key_of new later) other ≡ (if slot == other then 1 else 0) + times_of (pairs_at k key_of old heap) other
  adds_slot old new heap later slot live adds other =
      let keyed = key_from_live key_of (value_at old slot) live in
      adds.pairs keyed.0 keyed.1 (λ pair. pair.1 == other)
      ∙ count_by-more (λ pair. pair.1 == other) (keyed.0, slot) (pairs_at k key_of old heap)

  pub takes_slot : (old new : Arena V) (heap later : Option ℕ) (slot : ℕ) → Stands k key_of precedes old heap → TakesPair k key_of precedes old new heap later slot → (other : ℕ) → times_of (pairs_at k key_of old heap) other ≡ (if slot == other then 1 else 0) + times_of (pairs_at k key_of new later) other
  takes_slot old new heap later slot stands takes other =
      let keyed = key_from_live key_of (value_at old slot) (live_held k key_of precedes old heap slot stands takes.held) in
      takes.pairs keyed.0 keyed.1 (λ pair. pair.1 == other)
      ∙ count_by-more (λ pair. pair.1 == other) (keyed.0, slot) (pairs_at k key_of new later)

  pub added_held : (old new : Arena V) (heap later : Option ℕ) (slot : ℕ) → IsLive old slot → AddsPair k key_of precedes old new heap later slot → Holds k key_of new later slot
  added_held old new heap later slot live adds =
      omega (arith, adds_slot old new heap later slot live adds slot, one_same slot)

  pub taken_lacked : (old new : Arena V) (heap later : Option ℕ) (slot : ℕ) → Stands k key_of precedes old heap → TakesPair k key_of precedes old new heap later slot → Lacks k key_of new later slot
  taken_lacked old new heap later slot stands takes =
      omega (arith, takes_slot old new heap later slot stands takes slot, one_same slot, once old heap slot stands)

  pub rekeys_slot : (old new : Arena V) (heap later : Option ℕ) (slot : ℕ) (value : V) → IsLive old slot → RekeysPair k key_of precedes old new heap later slot value → (other : ℕ) → times_of (pairs_at k key_of new later) other ≡ times_of (pairs_at k key_of old heap) other
  rekeys_slot old new heap later slot value live rekeys other =
      let keyed = key_from_live key_of (value_at old slot) live in
      omega (
        arith,
        rekeys.pairs keyed.0 keyed.1 (λ pair. pair.1 == other),
        count_by-more (λ pair. pair.1 == other) (keyed.0, slot) (pairs_at k key_of new later),
        count_by-more (λ pair. pair.1 == other) (key_of value, slot) (pairs_at k key_of old heap),
      )
