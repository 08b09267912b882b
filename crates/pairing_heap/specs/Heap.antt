-- What contracts say of a heap: with its arena, it is a list of keys and slots.
use Rattle.std.specs.Prelude.{◌≡◌, ◌≢◌, ℕ, ◌+◌, ◌<◌, ◌≤◌, Bool, List, [], ◌∷◌, length, Option, Some, None, count_by, ◌==◌}
use Rattle.link_arena.specs.Arena.{Arena, value_at, links_at, unlinked}
use Rattle.pairing_heap.specs.Tree.{Tree, pairs, slots, tree_from, IsHeap}

-- the lists have the same elements, each as often: every test counts as many in both
abbrev pub SameElements : {X : Type 0} → List X → List X → Type 0
SameElements {X} xs ys = (test : X → Bool) → count_by test xs ≡ count_by test ys

-- how often a slot stands in a list of keys and slots
abbrev pub times_of : {X : Type 0} → List (X × ℕ) → ℕ → ℕ
times_of xs slot = count_by (λ pair. pair.1 == slot) xs

-- the key of a value, if there is one
abbrev pub key_of_value : {V X : Type 0} → (V → X) → Option V → Option X
key_of_value key_of None = None
key_of_value key_of (Some value) = Some (key_of value)

-- the first slot of a list, if there is one
abbrev pub first_slot : List ℕ → Option ℕ
first_slot [] = None
first_slot (slot ∷ more) = Some slot

-- values, spare slots, the other link set, and the links of set k at each slot that stands nowhere here stay
pub record LinksOnly {V : Type 0} (k : ℕ) (old new : Arena V) (times : ℕ → ℕ) : Type 0 where
  pub values : (slot : ℕ) → value_at new slot ≡ value_at old slot
  pub other_set : (set slot : ℕ) → set ≢ k → links_at new set slot ≡ links_at old set slot
  pub elsewhere : (slot : ℕ) → times slot ≡ 0 → links_at new k slot ≡ links_at old k slot
  pub spare : new.spare ≡ old.spare

-- the slot has this value; other values, and links of other sets than k, stay
pub record RevaluesOnly {V : Type 0} (k : ℕ) (old new : Arena V) (slot : ℕ) (value : V) : Type 0 where
  pub stored : value_at new slot ≡ Some value
  pub values : (other : ℕ) → other ≢ slot → value_at new other ≡ value_at old other
  pub other_set : (set other : ℕ) → set ≢ k → links_at new set other ≡ links_at old set other

module _ {V X : Type 0} where
  -- the key at each slot of the arena
  abbrev pub keys_at : (V → X) → Arena V → ℕ → Option X
  keys_at key_of a slot = key_of_value key_of (value_at a slot)

  -- the shape of the heap of link set k with this root
  abbrev pub tree_at : ℕ → (V → X) → Arena V → Option ℕ → Tree X
  tree_at k key_of a root = tree_from (keys_at key_of a) (links_at a k) (length a.nodes) root

  -- the heap's list of keys and slots
  abbrev pub pairs_at : ℕ → (V → X) → Arena V → Option ℕ → List (X × ℕ)
  pairs_at k key_of a root = pairs (tree_at k key_of a root)

  -- the heap's slots in the order of a walk: each before those below it, and these before those of its siblings after it
  abbrev pub slots_at : ℕ → (V → X) → Arena V → Option ℕ → List ℕ
  slots_at k key_of a root = slots (tree_at k key_of a root)

  -- the heap stands in the arena: its links of set k join live slots in heap order
  pub record Stands (k : ℕ) (key_of : V → X) (precedes : X → X → Bool) (a : Arena V) (root : Option ℕ) : Type 0 where
    pub set : k < 2
    pub heap : IsHeap precedes (keys_at key_of a) (links_at a k) root (tree_at k key_of a root)

  -- the slot is one of the heap's
  abbrev pub Holds : ℕ → (V → X) → Arena V → Option ℕ → ℕ → Type 0
  Holds k key_of a root slot = 0 < times_of (pairs_at k key_of a root) slot

  -- the slot is none of the heap's
  abbrev pub Lacks : ℕ → (V → X) → Arena V → Option ℕ → ℕ → Type 0
  Lacks k key_of a root slot = times_of (pairs_at k key_of a root) slot ≡ 0

module _ {V X : Type 0} where
  -- the heap has no slot that stands here
  abbrev pub IsApart : ℕ → (V → X) → Arena V → Option ℕ → (ℕ → ℕ) → Type 0
  IsApart k key_of a root times = (slot : ℕ) → times_of (pairs_at k key_of a root) slot + times slot ≤ 1

  -- each heap of the set that has no slot of these stands as it stood
  abbrev pub OthersStay : ℕ → (V → X) → (X → X → Bool) → Arena V → Arena V → (ℕ → ℕ) → Type 0
  OthersStay k key_of precedes old new times =
      (root : Option ℕ) → Stands k key_of precedes old root → IsApart k key_of old root times
      → Stands k key_of precedes new root × (pairs_at k key_of new root ≡ pairs_at k key_of old root)

  -- the heap's slots have the same keys and links in both arenas
  pub record SameSlots (k : ℕ) (key_of : V → X) (old new : Arena V) (root : Option ℕ) : Type 0 where
    pub keys : (slot : ℕ) → Holds k key_of old root slot → keys_at key_of new slot ≡ keys_at key_of old slot
    pub links : (slot : ℕ) → Holds k key_of old root slot → links_at new k slot ≡ links_at old k slot

  -- the heap has one pair more, that of the slot; the rest stays
  pub record AddsPair (k : ℕ) (key_of : V → X) (precedes : X → X → Bool) (old new : Arena V) (heap later : Option ℕ) (slot : ℕ) : Type 0 where
    pub stands : Stands k key_of precedes new later
    pub pairs : (key : X) → keys_at key_of old slot ≡ Some key → SameElements (pairs_at k key_of new later) ((key, slot) ∷ pairs_at k key_of old heap)
    pub kept : LinksOnly k old new (times_of (pairs_at k key_of new later))
    pub others : OthersStay k key_of precedes old new (times_of (pairs_at k key_of new later))

  -- the heap has one pair less, that of the slot, whose links lead nowhere; the rest stays
  pub record TakesPair (k : ℕ) (key_of : V → X) (precedes : X → X → Bool) (old new : Arena V) (heap later : Option ℕ) (slot : ℕ) : Type 0 where
    pub held : Holds k key_of old heap slot
    pub stands : Stands k key_of precedes new later
    pub pairs : (key : X) → keys_at key_of old slot ≡ Some key → SameElements (pairs_at k key_of old heap) ((key, slot) ∷ pairs_at k key_of new later)
    pub free : links_at new k slot ≡ unlinked
    pub kept : LinksOnly k old new (times_of (pairs_at k key_of old heap))
    pub others : OthersStay k key_of precedes old new (times_of (pairs_at k key_of old heap))

  -- the slot's value, and with it the slot's pair, is another; the rest stays
  pub record RekeysPair (k : ℕ) (key_of : V → X) (precedes : X → X → Bool) (old new : Arena V) (heap later : Option ℕ) (slot : ℕ) (value : V) : Type 0 where
    pub stands : Stands k key_of precedes new later
    pub stored : value_at new slot ≡ Some value
    pub values : (other : ℕ) → other ≢ slot → value_at new other ≡ value_at old other
    pub pairs : (key : X) → keys_at key_of old slot ≡ Some key → SameElements ((key, slot) ∷ pairs_at k key_of new later) ((key_of value, slot) ∷ pairs_at k key_of old heap)
    pub other_set : (set other : ℕ) → set ≢ k → links_at new set other ≡ links_at old set other
    pub elsewhere : (other : ℕ) → times_of (pairs_at k key_of old heap) other ≡ 0 → links_at new k other ≡ links_at old k other
    pub spare : new.spare ≡ old.spare
    pub others : OthersStay k key_of precedes old new (times_of (pairs_at k key_of old heap))

  -- the links of each of the heap's slots lead nowhere; the rest stays
  pub record ClearsSlots (k : ℕ) (key_of : V → X) (precedes : X → X → Bool) (old new : Arena V) (heap : Option ℕ) : Type 0 where
    pub free : (slot : ℕ) → Holds k key_of old heap slot → links_at new k slot ≡ unlinked
    pub kept : LinksOnly k old new (times_of (pairs_at k key_of old heap))
    pub others : OthersStay k key_of precedes old new (times_of (pairs_at k key_of old heap))
