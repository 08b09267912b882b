-- How a heap is taken apart. No public clause cites this module.
use Rattle.std.specs.Prelude.{◌≡◌, ℕ, ◌+◌, ◌*◌, ◌<◌, ◌≤◌, Bool, true, Option, Some, None}
use Rattle.link_arena.specs.declared.arena.Links.{Links}
use Rattle.link_arena.specs.Arena.{Arena, links_at, unlinked}
use Rattle.pairing_heap.specs.Tree.{Tree, leaf, node, tally, slot_count}
use Rattle.pairing_heap.specs.Heap.{keys_at, LinksOnly}

module _ {X : Type 0} where
  -- from this slot on, keys and links are those of the tree, in any order and whatever comes before each node
  abbrev pub Hangs : (ℕ → Option X) → (ℕ → Links) → Option ℕ → Tree X → Type 0
  Hangs keys links at leaf = at ≡ None
  Hangs keys links at (node key slot children rest) =
      (at ≡ Some slot) × (keys slot ≡ Some key)
      × Hangs keys links (links slot).child children
      × Hangs keys links (links slot).next rest

  -- how many steps it takes at most to take a forest apart: one for each root, and two for each node below
  abbrev pub effort : Tree X → ℕ
  effort leaf = 0
  effort (node key slot children rest) = 1 + (tally (λ _. true) children * 2 + effort rest)

module _ {V X : Type 0} (k : ℕ) (key_of : V → X) where
  -- a forest from this root on, with no slot twice
  pub record Forest (a : Arena V) (first : Option ℕ) : Type 0 where
    pub set : k < 2
    pub tree : Tree X
    pub hangs : Hangs (keys_at key_of a) (links_at a k) first tree
    pub once : (slot : ℕ) → slot_count slot tree ≤ 1

  -- the forest became another of the same slots, or of one less, whose links lead nowhere
  pub record Loosens (old new : Arena V) (first later : Option ℕ) (was : Tree X) : Type 0 where
    pub now : Tree X
    pub hangs : Hangs (keys_at key_of new) (links_at new k) later now
    pub fewer : (test : X × ℕ → Bool) → tally test now ≤ tally test was
    pub freed : (slot : ℕ) → slot_count slot now < slot_count slot was → links_at new k slot ≡ unlinked
    pub kept : LinksOnly k old new (λ slot. slot_count slot was)

  -- the same, with less left to do
  pub record LoosensOne (old new : Arena V) (first later : Option ℕ) (was : Tree X) : Type 0 where
    pub loosens : Loosens old new first later was
    pub less : effort loosens.now < effort was
