-- The shape of a heap, and how links say it.
use Rattle.std.specs.Prelude.{◌≡◌, ℕ, zero, suc, ◌+◌, ◌≤◌, Bool, false, List, [], ◌∷◌, ◌++◌, Option, Some, None, ◌==◌, if◌then◌else◌}
use Rattle.link_arena.specs.declared.arena.Links.{Links}

-- nothing, or a node: its key, its slot, its children from the first on, and its siblings after it
pub data Tree (X : Type 0) : Type 0 where
  leaf : Tree X
  node : X → ℕ → Tree X → Tree X → Tree X

module _ {X : Type 0} where
  -- the keys and slots of the nodes
  abbrev pub pairs : Tree X → List (X × ℕ)
  pairs leaf = []
  pairs (node key slot children rest) = (key, slot) ∷ (pairs children ++ pairs rest)

  -- the slots of the nodes, each before those below it, and these before those of its siblings after it
  abbrev pub slots : Tree X → List ℕ
  slots leaf = []
  slots (node key slot children rest) = slot ∷ (slots children ++ slots rest)

  -- how many nodes pass a test of the key and the slot
  abbrev pub tally : (X × ℕ → Bool) → Tree X → ℕ
  tally test leaf = 0
  tally test (node key slot children rest) =
      (if test (key, slot) then 1 else 0) + (tally test children + tally test rest)

  -- how often a slot stands in the tree
  abbrev pub slot_count : ℕ → Tree X → ℕ
  slot_count slot tree = tally (λ pair. pair.1 == slot) tree

  -- a node, where the slot has a key
  abbrev pub node_with : Option X → ℕ → Tree X → Tree X → Tree X
  node_with None slot children rest = leaf
  node_with (Some key) slot children rest = node key slot children rest

  -- the tree that links lead to, down to this depth
  abbrev pub tree_from : (ℕ → Option X) → (ℕ → Links) → ℕ → Option ℕ → Tree X
  tree_from keys links zero at = leaf
  tree_from keys links (suc depth) None = leaf
  tree_from keys links (suc depth) (Some slot) =
      node_with
      (keys slot)
      slot
      (tree_from keys links depth (links slot).child)
      (tree_from keys links depth (links slot).next)

  -- from this slot on, keys and links are those of the tree, and each node's `prev` names the sibling or else the parent
  -- before it
  abbrev pub Joined : (ℕ → Option X) → (ℕ → Links) → Option ℕ → Option ℕ → Tree X → Type 0
  Joined keys links prev at leaf = at ≡ None
  Joined keys links prev at (node key slot children rest) =
      (at ≡ Some slot) × (keys slot ≡ Some key) × ((links slot).prev ≡ prev)
      × Joined keys links (Some slot) (links slot).child children
      × Joined keys links (Some slot) (links slot).next rest

  -- no key of the tree precedes this one, and no key precedes that of its parent
  abbrev pub Ordered : (X → X → Bool) → X → Tree X → Type 0
  Ordered precedes top leaf = Unit {0}
  Ordered precedes top (node key slot children rest) =
      (precedes key top ≡ false) × Ordered precedes key children × Ordered precedes top rest

  -- the tree has one root, and no key precedes that of its parent
  abbrev pub IsHeapOrdered : (X → X → Bool) → Tree X → Type 0
  IsHeapOrdered precedes leaf = Unit {0}
  IsHeapOrdered precedes (node key slot children rest) =
      (rest ≡ leaf) × Ordered precedes key children

  -- keys and links from the root are those of the tree, which is in heap order and has no slot twice
  pub record IsHeap (precedes : X → X → Bool) (keys : ℕ → Option X) (links : ℕ → Links) (root : Option ℕ) (tree : Tree X) : Type 0 where
    pub joined : Joined keys links None root tree
    pub once : (slot : ℕ) → slot_count slot tree ≤ 1
    pub ordered : IsHeapOrdered precedes tree
