-- How the keys of a lane's units stand in a heap. No public clause cites this module.
use Rattle.std.specs.Prelude.{List, None, Option, Some, length, slice_index, slice_index_or, ℕ, ◌<◌, ◌≡◌}
use Rattle.link_arena.specs.Arena.{Arena, value_at}
use Rattle.pairing_heap.specs.Heap.{Holds, Lacks, Stands}
use Rattle.clutch_bucket.specs.Ranks.{unit_key_precedes}
use Rattle.clutch_bucket.specs.declared.ranks.Ranked.{Ranked}
use Rattle.clutch_bucket.specs.declared.ranks.UnitKey.{UnitKey}

-- the key of what the arena holds for a group
abbrev pub key_of_ranked : Ranked → UnitKey
key_of_ranked ranked = ranked.key

-- the slot has some key, and this group
pub record IsPlaced (arena : Arena Ranked) (slot group : ℕ) : Type 0 where
  pub key : UnitKey
  pub stored : value_at arena slot ≡ Some (record { key = key; group = group })

-- the slot has this key and this group, and is the heap's
pub record IsEntered (arena : Arena Ranked) (heap : Option ℕ) (slot group : ℕ) (key : UnitKey) : Type 0 where
  pub held : Holds 0 key_of_ranked arena heap slot
  pub stored : value_at arena slot ≡ Some (record { key = key; group = group })

-- the slot is that of a group
pub record IsOwned (slots : List ℕ) (count slot : ℕ) : Type 0 where
  pub group : ℕ
  pub within : group < count
  pub same : slice_index slots group ≡ slot

-- each group has a slot of its own, and the heap has the slots of the groups that have a key, each with that key
pub record AreKept (keys : List (Option UnitKey)) (slots : List ℕ) (arena : Arena Ranked) (heap : Option ℕ) : Type 0 where
  pub sized : length slots ≡ length keys
  pub stands : Stands 0 key_of_ranked unit_key_precedes arena heap
  pub placed : (group : ℕ) → group < length keys → IsPlaced arena (slice_index slots group) group
  pub entered : (group : ℕ) (key : UnitKey) → slice_index_or keys group None ≡ Some key → IsEntered arena heap (slice_index slots group) group key
  pub bare : (group : ℕ) → group < length keys → slice_index_or keys group None ≡ None → Lacks 0 key_of_ranked arena heap (slice_index slots group)
  pub owned : (slot : ℕ) → Holds 0 key_of_ranked arena heap slot → IsOwned slots (length keys) slot
