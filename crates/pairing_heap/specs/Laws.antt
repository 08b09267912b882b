-- What stays of a heap where the arena changes, and how often slots stand in it where a pair comes or goes.
use Rattle.std.specs.Prelude.{◌≡◌, ◌≢◌, ℕ, ◌+◌, ◌<◌, ◌≤◌, Bool, false, [], Option, Some, None, IsNone, IfSome, length, count_by, ◌==◌, if◌then◌else◌, ◌↔◌}
use Rattle.link_arena.specs.Arena.{Arena, IsLive, SameMap, Inserts, Removes, Revalues}
use Rattle.pairing_heap.specs.Heap.{times_of, keys_at, LinksOnly, RevaluesOnly, pairs_at, slots_at, first_slot, Stands, Holds, Lacks, SameSlots, AddsPair, TakesPair, RekeysPair, ClearsSlots}

module _ {V X : Type 0} (k : ℕ) (key_of : V → X) (precedes : X → X → Bool) where
  -- each slot of a heap holds a value
  abbrev pub HeldAreLive : Type 0
  HeldAreLive = (a : Arena V) (heap : Option ℕ) (slot : ℕ) → Stands k key_of precedes a heap → Holds k key_of a heap slot → IsLive a slot

  -- the empty heap stands in every arena
  abbrev pub StandsWhenEmpty : Type 0
  StandsWhenEmpty = k < 2 → (a : Arena V) → Stands k key_of precedes a None

  -- no slot stands twice in a heap
  abbrev pub SlotsStandOnce : Type 0
  SlotsStandOnce = (a : Arena V) (heap : Option ℕ) (slot : ℕ) → Stands k key_of precedes a heap → times_of (pairs_at k key_of a heap) slot ≤ 1

  -- the heap stands in the new arena too, with the same pairs
  pub record StaysIn (old new : Arena V) (heap : Option ℕ) : Type 0 where
    pub stands : Stands k key_of precedes new heap
    pub same : pairs_at k key_of new heap ≡ pairs_at k key_of old heap

  -- a heap stays where its slots keep their keys and their links
  abbrev pub StaysWhereSlotsStay : Type 0
  StaysWhereSlotsStay = (old new : Arena V) (heap : Option ℕ) → Stands k key_of precedes old heap → SameSlots k key_of old new heap → StaysIn old new heap

  -- a heap stays where the arena gets room
  abbrev pub StaysWhereReserved : Type 0
  StaysWhereReserved = (old new : Arena V) → SameMap old new → (heap : Option ℕ) → Stands k key_of precedes old heap → StaysIn old new heap

  -- the heap stands in the new arena too, with the same pairs, and has not the slot
  pub record StaysWithout (old new : Arena V) (heap : Option ℕ) (slot : ℕ) : Type 0 where
    pub stays : StaysIn old new heap
    pub lacks : Lacks k key_of new heap slot

  -- a heap stays where a value comes into the arena, and has not its slot
  abbrev pub StaysWhereInserted : Type 0
  StaysWhereInserted = (old new : Arena V) (slot : ℕ) (value : V) → Inserts old new slot value → (heap : Option ℕ) → Stands k key_of precedes old heap → StaysWithout old new heap slot

  -- a heap that has not the slot stays where the slot's value leaves the arena
  abbrev pub StaysWhereRemoved : Type 0
  StaysWhereRemoved = (old new : Arena V) (slot : ℕ) → Removes old new slot → (heap : Option ℕ) → Stands k key_of precedes old heap → Lacks k key_of old heap slot → StaysIn old new heap

  -- a heap that has not the slot stays where the slot gets another value
  abbrev pub StaysWhereRevalued : Type 0
  StaysWhereRevalued = (old new : Arena V) (slot : ℕ) (value : V) → Revalues old new slot value → (heap : Option ℕ) → Stands k key_of precedes old heap → Lacks k key_of old heap slot → StaysIn old new heap

  -- a heap stays where a slot gets another value with the same key
  abbrev pub StaysWhereKeyStays : Type 0
  StaysWhereKeyStays = (old new : Arena V) (slot : ℕ) (value : V) → Revalues old new slot value → keys_at key_of old slot ≡ Some (key_of value) → (heap : Option ℕ) → Stands k key_of precedes old heap → StaysIn old new heap

  -- a heap stays where only links of the other set change
  abbrev pub StaysWhereOtherSetChanges : Type 0
  StaysWhereOtherSetChanges = (old new : Arena V) (set : ℕ) (times : ℕ → ℕ) → k ≢ set → LinksOnly set old new times → (heap : Option ℕ) → Stands k key_of precedes old heap → StaysIn old new heap

  -- a heap stays where a heap of the other set is rekeyed, and the slot is none of this heap's or keeps its key for it
  abbrev pub StaysWhereOtherSetRekeys : Type 0
  StaysWhereOtherSetRekeys =
      (old new : Arena V) (set slot : ℕ) (value : V) → k ≢ set → RevaluesOnly set old new slot value
      → (heap : Option ℕ) → (Holds k key_of old heap slot → keys_at key_of old slot ≡ Some (key_of value)) → Stands k key_of precedes old heap → StaysIn old new heap

  -- where a pair comes in, its slot stands once more in the heap, and each other slot as often
  abbrev pub AddsOneSlot : Type 0
  AddsOneSlot =
      (old new : Arena V) (heap later : Option ℕ) (slot : ℕ) → IsLive old slot → AddsPair k key_of precedes old new heap later slot → (other : ℕ)
      → times_of (pairs_at k key_of new later) other ≡ (if slot == other then 1 else 0) + times_of (pairs_at k key_of old heap) other

  -- where a pair goes out, its slot stands in the heap no more, and each other slot as often
  abbrev pub TakesOneSlot : Type 0
  TakesOneSlot =
      (old new : Arena V) (heap later : Option ℕ) (slot : ℕ) → Stands k key_of precedes old heap → TakesPair k key_of precedes old new heap later slot → (other : ℕ)
      → times_of (pairs_at k key_of old heap) other ≡ (if slot == other then 1 else 0) + times_of (pairs_at k key_of new later) other

  -- where a pair comes in, the heap has one pair more
  abbrev pub AddsOnePair : Type 0
  AddsOnePair =
      (old new : Arena V) (heap later : Option ℕ) (slot : ℕ) → IsLive old slot → AddsPair k key_of precedes old new heap later slot
      → length (pairs_at k key_of new later) ≡ length (pairs_at k key_of old heap) + 1

  -- where a pair goes out, the heap has one pair less
  abbrev pub TakesOnePair : Type 0
  TakesOnePair =
      (old new : Arena V) (heap later : Option ℕ) (slot : ℕ) → Stands k key_of precedes old heap → TakesPair k key_of precedes old new heap later slot
      → length (pairs_at k key_of old heap) ≡ length (pairs_at k key_of new later) + 1

  -- the heap has the slot of a pair that came in
  abbrev pub AddedIsHeld : Type 0
  AddedIsHeld = (old new : Arena V) (heap later : Option ℕ) (slot : ℕ) → IsLive old slot → AddsPair k key_of precedes old new heap later slot → Holds k key_of new later slot

  -- the heap has not the slot of a pair that went out
  abbrev pub TakenIsLacked : Type 0
  TakenIsLacked = (old new : Arena V) (heap later : Option ℕ) (slot : ℕ) → Stands k key_of precedes old heap → TakesPair k key_of precedes old new heap later slot → Lacks k key_of new later slot

  -- where a slot gets another value, each slot stands in the heap as often
  abbrev pub RekeysNoSlot : Type 0
  RekeysNoSlot =
      (old new : Arena V) (heap later : Option ℕ) (slot : ℕ) (value : V) → IsLive old slot → RekeysPair k key_of precedes old new heap later slot value → (other : ℕ)
      → times_of (pairs_at k key_of new later) other ≡ times_of (pairs_at k key_of old heap) other

  -- where a slot gets another value, the heap has as many pairs
  abbrev pub RekeysNoPair : Type 0
  RekeysNoPair =
      (old new : Arena V) (heap later : Option ℕ) (slot : ℕ) (value : V) → IsLive old slot → RekeysPair k key_of precedes old new heap later slot value
      → length (pairs_at k key_of new later) ≡ length (pairs_at k key_of old heap)

  -- a slot that is taken out, gets another value, and is pushed again is rekeyed
  abbrev pub RekeysWherePushedAgain : Type 0
  RekeysWherePushedAgain =
      (a b c d : Arena V) (heap mid later : Option ℕ) (slot : ℕ) (value : V) → Stands k key_of precedes a heap
      → TakesPair k key_of precedes a b heap mid slot → Revalues b c slot value → c.spare ≡ b.spare → AddsPair k key_of precedes c d mid later slot
      → RekeysPair k key_of precedes a d heap later slot value

  -- a slot that gets another value with the same key is rekeyed where it stands
  abbrev pub RekeysWhereKeyStays : Type 0
  RekeysWhereKeyStays =
      (old new : Arena V) (heap : Option ℕ) (slot : ℕ) (value : V) → Stands k key_of precedes old heap → Holds k key_of old heap slot
      → Revalues old new slot value → new.spare ≡ old.spare → keys_at key_of old slot ≡ Some (key_of value)
      → RekeysPair k key_of precedes old new heap heap slot value

  -- the first slot is the heap's, there is none exactly where the heap is empty, and no key of the heap precedes its key
  pub record IsFirst (a : Arena V) (heap : Option ℕ) : Type 0 where
    pub none : IsNone heap ↔ (pairs_at k key_of a heap ≡ [])
    pub held : IfSome heap (λ slot. Holds k key_of a heap slot)
    pub least : (slot other : ℕ) (key rival : X) → heap ≡ Some slot → keys_at key_of a slot ≡ Some key → Holds k key_of a heap other → keys_at key_of a other ≡ Some rival → precedes rival key ≡ false

  -- a walk begins with the first slot of the heap
  abbrev pub WalkBeginsWithFirst : Type 0
  WalkBeginsWithFirst = (a : Arena V) (heap : Option ℕ) → Stands k key_of precedes a heap → first_slot (slots_at k key_of a heap) ≡ heap

  -- a walk comes to each slot as often as it stands in the heap
  abbrev pub WalkCountsSlots : Type 0
  WalkCountsSlots = (a : Arena V) (heap : Option ℕ) (slot : ℕ) → count_by (λ other. other == slot) (slots_at k key_of a heap) ≡ times_of (pairs_at k key_of a heap) slot

  -- the first slot of each heap is so
  abbrev pub FirstIsLeast : Type 0
  FirstIsLeast = (a : Arena V) (heap : Option ℕ) → Stands k key_of precedes a heap → IsFirst a heap

  -- the heaps share no slot
  abbrev pub AreApart : Arena V → Option ℕ → Option ℕ → Type 0
  AreApart a heap other = (slot : ℕ) → Holds k key_of a heap slot → Lacks k key_of a other slot

  -- the other heap stands in the new arena too, with the same pairs, and shares no slot with what the first became
  pub record StaysApart (old new : Arena V) (later other : Option ℕ) : Type 0 where
    pub stays : StaysIn old new other
    pub apart : AreApart new later other
    pub back : AreApart new other later

  -- heaps stay apart where a slot that the other lacks comes into the one
  abbrev pub AddedStaysApart : Type 0
  AddedStaysApart =
      (old new : Arena V) (heap later : Option ℕ) (slot : ℕ) → IsLive old slot → Stands k key_of precedes old heap → AddsPair k key_of precedes old new heap later slot
      → (other : Option ℕ) → Stands k key_of precedes old other → AreApart old heap other → Lacks k key_of old other slot → StaysApart old new later other

  -- heaps stay apart where a slot goes out of the one
  abbrev pub TakenStaysApart : Type 0
  TakenStaysApart =
      (old new : Arena V) (heap later : Option ℕ) (slot : ℕ) → Stands k key_of precedes old heap → TakesPair k key_of precedes old new heap later slot
      → (other : Option ℕ) → Stands k key_of precedes old other → AreApart old heap other → StaysApart old new later other

  -- heaps stay apart where a slot of the one gets another value
  abbrev pub RekeyedStaysApart : Type 0
  RekeyedStaysApart =
      (old new : Arena V) (heap later : Option ℕ) (slot : ℕ) (value : V) → IsLive old slot → Stands k key_of precedes old heap → RekeysPair k key_of precedes old new heap later slot value
      → (other : Option ℕ) → Stands k key_of precedes old other → AreApart old heap other → StaysApart old new later other

  -- a heap that shares no slot with another stays where that is cleared
  abbrev pub StaysWhereCleared : Type 0
  StaysWhereCleared =
      (old new : Arena V) (heap : Option ℕ) → Stands k key_of precedes old heap → ClearsSlots k key_of precedes old new heap
      → (other : Option ℕ) → Stands k key_of precedes old other → AreApart old heap other → StaysIn old new other
