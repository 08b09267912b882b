-- How heaps are melded, two into one and the children of a root in pairs.
use Rattle.std.specs.Prelude.{ℕ, Bool, List, [], ◌∷◌, ◌==◌, if◌then◌else◌}
use Rattle.pairing_heap.specs.Tree.{Tree, leaf, node}

module _ {X : Type 0} where
  -- the heaps that siblings are, from the first on
  abbrev pub heaps : Tree X → List (Tree X)
  heaps leaf = []
  heaps (node key slot children rest) = node key slot children leaf ∷ heaps rest

  -- one heap of two: the second, if its key precedes, adopts the first as its first child, else the first adopts the second
  abbrev pub melded : (X → X → Bool) → Tree X → Tree X → Tree X
  melded precedes leaf b = b
  melded precedes (node key slot children rest) leaf = node key slot children rest
  melded precedes (node a_key a a_children a_rest) (node b_key b b_children b_rest) =
      if precedes b_key a_key
      then node b_key b (node a_key a a_children b_children) leaf
      else node a_key a (node b_key b b_children a_children) leaf

  -- neighbours are melded two by two, from the first on, and a last heap without a neighbour stays
  abbrev pub paired : (X → X → Bool) → List (Tree X) → List (Tree X)
  paired precedes [] = []
  paired precedes (a ∷ []) = a ∷ []
  paired precedes (a ∷ (b ∷ more)) = melded precedes a b ∷ paired precedes more

  -- one heap of all: the last takes in the one before it, that heap the one before, and so on up to the first
  abbrev pub folded : (X → X → Bool) → List (Tree X) → Tree X
  folded precedes [] = leaf
  folded precedes (a ∷ more) = melded precedes (folded precedes more) a

  -- the first of two that is not empty
  abbrev pub first_of : Tree X → Tree X → Tree X
  first_of leaf other = other
  first_of (node key slot children rest) other = node key slot children rest

  -- the children of a slot
  abbrev pub children_of : ℕ → Tree X → Tree X
  children_of slot leaf = leaf
  children_of slot (node key here children rest) =
      if here == slot then children else first_of (children_of slot children) (children_of slot rest)

  -- the tree without a slot and what is below it
  abbrev pub without : ℕ → Tree X → Tree X
  without slot leaf = leaf
  without slot (node key here children rest) =
      if here == slot then rest else node key here (without slot children) (without slot rest)

  -- a heap once a slot is taken out: its children, melded in pairs and the pairs into one, are melded with the rest
  abbrev pub taken_out : (X → X → Bool) → ℕ → Tree X → Tree X
  taken_out precedes slot tree =
      melded precedes (without slot tree) (folded precedes (paired precedes (heaps (children_of slot tree))))
