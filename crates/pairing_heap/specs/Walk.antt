-- How a walk goes on from a slot. No public clause cites this module.
use Rattle.std.specs.Prelude.{ℕ, List, [], ◌∷◌, Option, Some, None, ltb, ◌+◌, ◌==◌, if◌then◌else◌}
use Rattle.pairing_heap.specs.Tree.{Tree, leaf, node, slot_count, slots}

-- the first of a list, or what comes after the list
abbrev pub start : List ℕ → Option ℕ → Option ℕ
start [] out = out
start (slot ∷ more) out = Some slot

-- a place, or another one where there is none
abbrev pub or_else : Option ℕ → Option ℕ → Option ℕ
or_else None out = out
or_else (Some slot) out = Some slot

module _ {X : Type 0} where
  -- what comes after a slot of the tree, all below it, and its siblings; `out` comes after the tree
  abbrev pub beyond : ℕ → Tree X → Option ℕ → Option ℕ
  beyond slot leaf out = out
  beyond slot (node key here children rest) out =
      if here == slot then out
      else if ltb 0 (slot_count slot children) then beyond slot children (start (slots rest) out)
      else beyond slot rest out
