-- How the work on a heap is said: roots, and chains of them. No public clause cites this module.
use Rattle.std.specs.Prelude.{◌≡◌, ◌≢◌, ◌⊎◌, ℕ, ◌+◌, ◌-◌, ◌/◌, ◌<◌, ◌≤◌, Bool, true, List, [], ◌∷◌, Option, Some, None, ◌==◌}
use Rattle.std.specs.List.{fold}
use Rattle.link_arena.specs.declared.arena.Links.{Links}
use Rattle.link_arena.specs.Arena.{Arena, value_at, links_at, IsLive}
use Rattle.pairing_heap.specs.Tree.{Tree, leaf, node, tally, slot_count, Joined, Ordered, IsHeap}
use Rattle.pairing_heap.specs.Melding.{heaps, melded, paired, folded}
use Rattle.pairing_heap.specs.Heap.{keys_at, LinksOnly}

-- the links of the child, the parent and its former first child are those after the child was put first
pub record Adopts (links later : ℕ → Links) (parent child : ℕ) : Type 0 where
  pub below : later child ≡ record { child = (links child).child; next = (links parent).child; prev = Some parent }
  pub above : later parent ≡ record { child = Some child; next = (links parent).next; prev = (links parent).prev }
  pub beside : (sibling : ℕ) → (links parent).child ≡ Some sibling → later sibling ≡ record { child = (links sibling).child; next = (links sibling).next; prev = Some child }
  pub elsewhere : (other : ℕ) → other ≢ parent → other ≢ child → (links parent).child ≢ Some other → later other ≡ links other

-- the parent, the child and the parent's first child are unlike and hold values
pub record CanAdopt {V : Type 0} (k : ℕ) (a : Arena V) (parent child : ℕ) : Type 0 where
  pub set : k < 2
  pub parent_live : IsLive a parent
  pub child_live : IsLive a child
  pub apart : parent ≢ child
  pub not_parent : (links_at a k parent).child ≢ Some parent
  pub not_child : (links_at a k parent).child ≢ Some child
  pub sibling_live : (sibling : ℕ) → (links_at a k parent).child ≡ Some sibling → IsLive a sibling

-- the slot before one, and the one after it, are joined past it
pub record Unhooks (links later : ℕ → Links) (slot pred : ℕ) : Type 0 where
  pub child : (links pred).child ≡ Some slot → later pred ≡ record { child = (links slot).next; next = (links pred).next; prev = (links pred).prev }
  pub next : (links pred).child ≢ Some slot → later pred ≡ record { child = (links pred).child; next = (links slot).next; prev = (links pred).prev }
  pub beside : (after : ℕ) → (links slot).next ≡ Some after → later after ≡ record { child = (links after).child; next = (links after).next; prev = Some pred }
  pub elsewhere : (other : ℕ) → other ≢ pred → (links slot).next ≢ Some other → later other ≡ links other

-- the slot before one, and the one after it, are unlike and hold values
pub record CanUnhook {V : Type 0} (k : ℕ) (a : Arena V) (slot pred : ℕ) : Type 0 where
  pub set : k < 2
  pub slot_live : IsLive a slot
  pub pred_live : IsLive a pred
  pub apart : (links_at a k slot).next ≢ Some pred
  pub after_live : (after : ℕ) → (links_at a k slot).next ≡ Some after → IsLive a after

-- values, spare slots and the other link set stay
pub record KeepsRest {V : Type 0} (k : ℕ) (old new : Arena V) : Type 0 where
  pub values : (slot : ℕ) → value_at new slot ≡ value_at old slot
  pub other_set : (set slot : ℕ) → set ≢ k → links_at new set slot ≡ links_at old set slot
  pub spare : new.spare ≡ old.spare

module _ {X : Type 0} where
  -- how many roots a chain has
  abbrev pub siblings : Tree X → ℕ
  siblings leaf = 0
  siblings (node key slot children rest) = 1 + siblings rest

  -- the tree of one root
  abbrev pub solo : X → ℕ → Tree X → Tree X
  solo key slot children = node key slot children leaf

  -- a list with its items in the other order, and a second one after it
  abbrev pub turned : List (Tree X) → List (Tree X) → List (Tree X)
  turned [] done = done
  turned (a ∷ more) done = turned more (a ∷ done)

  -- the slot is the root of a heap with these children, whatever comes before or after it
  pub record IsRoot (precedes : X → X → Bool) (keys : ℕ → Option X) (links : ℕ → Links) (slot : ℕ) (key : X) (children : Tree X) : Type 0 where
    pub keyed : keys slot ≡ Some key
    pub joined : Joined keys links (Some slot) (links slot).child children
    pub ordered : Ordered precedes key children

  -- from this slot on, `next` joins roots of heaps
  abbrev pub IsChain : (X → X → Bool) → (ℕ → Option X) → (ℕ → Links) → Option ℕ → Tree X → Type 0
  IsChain precedes keys links at leaf = at ≡ None
  IsChain precedes keys links at (node key slot children rest) =
      (at ≡ Some slot) × IsRoot precedes keys links slot key children
      × IsChain precedes keys links (links slot).next rest

module _ {V X : Type 0} (k : ℕ) (key_of : V → X) (precedes : X → X → Bool) where
  -- two heaps with no common slot
  pub record CanMeld (arena : Arena V) (a b : ℕ) : Type 0 where
    pub set : k < 2
    pub a_key : X
    pub b_key : X
    pub a_children : Tree X
    pub b_children : Tree X
    pub a_root : IsRoot precedes (keys_at key_of arena) (links_at arena k) a a_key a_children
    pub b_root : IsRoot precedes (keys_at key_of arena) (links_at arena k) b b_key b_children
    pub once : (slot : ℕ) → slot_count slot (solo a_key a a_children) + slot_count slot (solo b_key b b_children) ≤ 1

  -- the two became one, with all their nodes, and what came before and after its root stayed
  pub record Melds (old new : Arena V) (a b root : ℕ) (both : CanMeld old a b) : Type 0 where
    pub key : X
    pub children : Tree X
    pub rooted : IsRoot precedes (keys_at key_of new) (links_at new k) root key children
    pub becomes : solo key root children ≡ melded precedes (solo both.a_key a both.a_children) (solo both.b_key b both.b_children)
    pub nodes : (test : X × ℕ → Bool) → tally test (solo key root children) ≡ tally test (solo both.a_key a both.a_children) + tally test (solo both.b_key b both.b_children)
    pub next : (links_at new k root).next ≡ (links_at old k root).next
    pub prev : (links_at new k root).prev ≡ (links_at old k root).prev
    pub which : (root ≡ a) ⊎ (root ≡ b)
    pub kept : LinksOnly k old new (λ slot. slot_count slot (solo both.a_key a both.a_children) + slot_count slot (solo both.b_key b both.b_children))

  -- a chain of heaps with no slot twice
  pub record Chained (arena : Arena V) (first : Option ℕ) : Type 0 where
    pub set : k < 2
    pub tree : Tree X
    pub chain : IsChain precedes (keys_at key_of arena) (links_at arena k) first tree
    pub once : (slot : ℕ) → slot_count slot tree ≤ 1

  -- the root of a heap, and a chain of further ones, with no slot twice
  pub record Split (arena : Arena V) (top : ℕ) (rest : Option ℕ) : Type 0 where
    pub set : k < 2
    pub key : X
    pub children : Tree X
    pub left : Tree X
    pub rooted : IsRoot precedes (keys_at key_of arena) (links_at arena k) top key children
    pub chain : IsChain precedes (keys_at key_of arena) (links_at arena k) rest left
    pub once : (slot : ℕ) → slot_count slot (solo key top children) + slot_count slot left ≤ 1

  -- how many nodes of both pass a test
  abbrev pub split_tally : (arena : Arena V) (top : ℕ) (rest : Option ℕ) → Split arena top rest → (X × ℕ → Bool) → ℕ
  split_tally arena top rest split test = tally test (solo split.key top split.children) + tally test split.left

  -- the heaps of a root and of the chain after it
  abbrev pub split_heaps : (arena : Arena V) (top : ℕ) (rest : Option ℕ) → Split arena top rest → List (Tree X)
  split_heaps arena top rest split = solo split.key top split.children ∷ heaps split.left

  -- the first of the chain went into the root's heap
  pub record Resplits (old new : Arena V) (top other later : ℕ) (rest : Option ℕ) (was : Split old top (Some other)) : Type 0 where
    pub now : Split new later rest
    pub second : Tree X
    pub before : heaps was.left ≡ second ∷ heaps now.left
    pub becomes : solo now.key later now.children ≡ melded precedes (solo was.key top was.children) second
    pub nodes : (test : X × ℕ → Bool) → split_tally new later rest now test ≡ split_tally old top (Some other) was test
    pub less : tally (λ _. true) now.left < tally (λ _. true) was.left
    pub fewer : 1 + siblings now.left ≡ siblings was.left
    pub kept : LinksOnly k old new (λ slot. split_tally old top (Some other) was (λ pair. pair.1 == slot))

  -- the first one or two of the chain became one root
  pub record Pairs (old new : Arena V) (first later : ℕ) (rest : Option ℕ) (was : Chained old (Some first)) : Type 0 where
    pub now : Split new later rest
    pub pairs : paired precedes (heaps was.tree) ≡ solo now.key later now.children ∷ paired precedes (heaps now.left)
    pub nodes : (test : X × ℕ → Bool) → split_tally new later rest now test ≡ tally test was.tree
    pub less : tally (λ _. true) now.left < tally (λ _. true) was.tree
    pub fewer : siblings now.left ≡ siblings was.tree - 2
    pub kept : LinksOnly k old new (λ slot. slot_count slot was.tree)

  -- the chain became a root and a chain of the same nodes, with one root less for each comparison
  pub record Folds (old new : Arena V) (first : Option ℕ) (top : ℕ) (rest : Option ℕ) (was : Chained old first) (start steps : ℕ) : Type 0 where
    pub now : Split new top rest
    pub folds : fold (melded precedes) leaf (split_heaps new top rest now) ≡ fold (melded precedes) leaf (heaps was.tree)
    pub some : 1 ≤ siblings was.tree
    pub spent : steps + (1 + siblings now.left) ≡ start + siblings was.tree
    pub nodes : (test : X × ℕ → Bool) → split_tally new top rest now test ≡ tally test was.tree
    pub kept : LinksOnly k old new (λ slot. slot_count slot was.tree)

  -- the chain became two of the same nodes, what is left and what is done, with one root less for each comparison
  pub record Halves (old new : Arena V) (first rest done : Option ℕ) (was : Chained old first) (start steps : ℕ) : Type 0 where
    pub left : Tree X
    pub ready : Tree X
    pub left_chain : IsChain precedes (keys_at key_of new) (links_at new k) rest left
    pub ready_chain : IsChain precedes (keys_at key_of new) (links_at new k) done ready
    pub pairs : turned (paired precedes (heaps left)) (heaps ready) ≡ turned (paired precedes (heaps was.tree)) []
    pub half : siblings ready + (siblings left + 1) / 2 ≡ (siblings was.tree + 1) / 2
    pub spent : steps + (siblings left + siblings ready) ≡ start + siblings was.tree
    pub nodes : (test : X × ℕ → Bool) → tally test left + tally test ready ≡ tally test was.tree
    pub kept : LinksOnly k old new (λ slot. slot_count slot was.tree)

  -- the chain became another of the same nodes, that of its pairs, the last pair first
  pub record Rechains (old new : Arena V) (first later : Option ℕ) (was : Chained old first) : Type 0 where
    pub tree : Tree X
    pub chain : IsChain precedes (keys_at key_of new) (links_at new k) later tree
    pub pairs : heaps tree ≡ turned (paired precedes (heaps was.tree)) []
    pub half : siblings tree ≡ (siblings was.tree + 1) / 2
    pub nodes : (test : X × ℕ → Bool) → tally test tree ≡ tally test was.tree
    pub kept : LinksOnly k old new (λ slot. slot_count slot was.tree)

  -- the chain became one heap of the same nodes, this one
  pub record Merges (old new : Arena V) (first root : Option ℕ) (was : Chained old first) (one : Tree X) : Type 0 where
    pub tree : Tree X
    pub is : tree ≡ one
    pub heap : IsHeap precedes (keys_at key_of new) (links_at new k) root tree
    pub nodes : (test : X × ℕ → Bool) → tally test tree ≡ tally test was.tree
    pub kept : LinksOnly k old new (λ slot. slot_count slot was.tree)

  -- the chain went into the root's heap, its heaps melded in pairs first and the pairs into one
  pub record Joins (old new : Arena V) (root : ℕ) (children : Option ℕ) (result : ℕ) (was : Split old root children) : Type 0 where
    pub tree : Tree X
    pub heap : IsHeap precedes (keys_at key_of new) (links_at new k) (Some result) tree
    pub becomes : tree ≡ melded precedes (solo was.key root was.children) (folded precedes (paired precedes (heaps was.left)))
    pub nodes : (test : X × ℕ → Bool) → tally test tree ≡ split_tally old root children was test
    pub kept : LinksOnly k old new (λ slot. split_tally old root children was (λ pair. pair.1 == slot))
