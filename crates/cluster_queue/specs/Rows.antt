-- The entries of a cluster's queue and their slots, read off its arena by arrival.
use Rattle.std.specs.Prelude.{Bool, List, None, Option, Some, [], false, if◌then◌else◌, map, suc, zero, ℕ, ◌++◌, ◌<◌, ◌==◌, ◌∷◌, ◌≡◌}
use Rattle.flat_policy.specs.Policy.Queue.{Queued}
use Rattle.link_arena.specs.Arena.{Arena, Node, value_at}
use Rattle.thread_queue.specs.Item.{entry_of}
use Rattle.thread_queue.specs.declared.item.Item.{Item}

-- an entry and the slot that it lies in
pub record Row : Type 0 where
  pub entry : Queued
  pub slot : ℕ

-- whether a node, if it is there, holds an item of an arrival
abbrev pub has_arrival : ℕ → Option (Node Item) → Bool
has_arrival arrival None = false
has_arrival arrival (Some node) = node.value.arrival == arrival

-- the first slot that holds an item of an arrival, among nodes that begin at a slot
abbrev pub slot_from : ℕ → ℕ → List (Option (Node Item)) → Option ℕ
slot_from arrival slot [] = None
slot_from arrival slot (node ∷ nodes) = if has_arrival arrival node then Some slot else slot_from arrival (suc slot) nodes

-- the first slot that holds an item of an arrival
abbrev pub slot_of : Arena Item → ℕ → Option ℕ
slot_of arena arrival = slot_from arrival 0 arena.nodes

-- the row of a slot with its item, if it has one
abbrev pub row_with : ℕ → Option Item → List Row
row_with slot None = []
row_with slot (Some item) = record { entry = entry_of item; slot = slot } ∷ []

-- the row of a slot, if there is one and it holds an item
abbrev pub row_at : Arena Item → Option ℕ → List Row
row_at arena None = []
row_at arena (Some slot) = row_with slot (value_at arena slot)

-- the rows of all arrivals below a number, the earliest first
abbrev pub rows_below : Arena Item → ℕ → List Row
rows_below arena zero = []
rows_below arena (suc arrival) = rows_below arena arrival ++ row_at arena (slot_of arena arrival)

-- their entries
abbrev pub entries_in : Arena Item → ℕ → List Queued
entries_in arena next = map (λ (r : Row). r.entry) (rows_below arena next)

-- their slots
abbrev pub slots_in : Arena Item → ℕ → List ℕ
slots_in arena next = map (λ (r : Row). r.slot) (rows_below arena next)

-- no two slots hold items of one arrival, all arrivals are below the next, and a slot is a number of 32 bits
pub record ArrivalsApart (arena : Arena Item) (next : ℕ) : Type 0 where
  pub once : (slot other : ℕ) (item rival : Item) → value_at arena slot ≡ Some item → value_at arena other ≡ Some rival → rival.arrival ≡ item.arrival → other ≡ slot
  pub below : (slot : ℕ) (item : Item) → value_at arena slot ≡ Some item → item.arrival < next
  pub small : (slot : ℕ) (item : Item) → value_at arena slot ≡ Some item → slot < 4294967296
