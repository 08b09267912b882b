-- The first slot of an arrival, told from what the arena holds.
use Rattle.std.proofs.Common.{◌≡◌, ◌⊎◌, ℕ, zero, suc, ◌+◌, ◌==◌, true, false, List, [], ◌∷◌, Option, Some, None, refl, sym, ap, ◌∙◌, subst, inl, inr, arith, eq-eqb, eqb-true}
use Rattle.std.specs.Prelude.{slice_index_or}
use Rattle.std.proofs.lemmas.Bool.{cases_Bool, cond-true, cond-false, false≢true}
use Rattle.std.proofs.lemmas.Option.{none-some, same_Some}
use Rattle.link_arena.specs.Arena.{Arena, Node, node_at, value_at, value_of}
use Rattle.thread_queue.specs.declared.item.Item.{Item}
use Rattle.cluster_queue.specs.Rows.{has_arrival, slot_from, slot_of}

-- a place with a node of an arrival, among nodes that begin at a slot, or none
abbrev IsPlace : ℕ → ℕ → List (Option (Node Item)) → Option ℕ → Type 0
IsPlace arrival start nodes None = (i : ℕ) → has_arrival arrival (slice_index_or nodes i None) ≡ false
IsPlace arrival start nodes (Some slot) = (i : ℕ) × ((slot ≡ start + i) × (has_arrival arrival (slice_index_or nodes i None) ≡ true))

none_more : (arrival : ℕ) (at : Option (Node Item)) (nodes : List (Option (Node Item))) → has_arrival arrival at ≡ false → ((i : ℕ) → has_arrival arrival (slice_index_or nodes i None) ≡ false) → (i : ℕ) → has_arrival arrival (slice_index_or (at ∷ nodes) i None) ≡ false
none_more arrival at nodes other none zero = other
none_more arrival at nodes other none (suc i) = none i

place_more : (arrival start : ℕ) (at : Option (Node Item)) (nodes : List (Option (Node Item))) (place : Option ℕ) → has_arrival arrival at ≡ false → IsPlace arrival (suc start) nodes place → IsPlace arrival start (at ∷ nodes) place
place_more arrival start at nodes None other none = none_more arrival at nodes other none
place_more arrival start at nodes (Some slot) other (i, (is, here)) = (suc i, (omega (arith, is), here))

is_place : (arrival start : ℕ) (nodes : List (Option (Node Item))) → IsPlace arrival start nodes (slot_from arrival start nodes)
is_place arrival start [] = λ i. refl
is_place arrival start (node ∷ nodes) =
    let rest = slot_from arrival (suc start) nodes in
    elim (cases_Bool (has_arrival arrival node)) [
      | inl here ↦ subst (IsPlace arrival start (node ∷ nodes)) (sym (cond-true (has_arrival arrival node) (Some start) rest here)) (0, (omega arith, here))
      | inr other ↦ subst (IsPlace arrival start (node ∷ nodes)) (sym (cond-false (has_arrival arrival node) (Some start) rest other)) (place_more arrival start node nodes rest other (is_place arrival (suc start) nodes))
    ]

-- some slot holds an item of an arrival, or none does
abbrev pub HasArrival : Arena Item → ℕ → ℕ → Type 0
HasArrival arena arrival slot = (item : Item) × ((value_at arena slot ≡ Some item) × (item.arrival ≡ arrival))

abbrev pub LacksArrival : Arena Item → ℕ → Type 0
LacksArrival arena arrival = (slot : ℕ) (item : Item) → value_at arena slot ≡ Some item → item.arrival ≡ arrival → ⊥

abbrev pub IsSlotOf : Arena Item → ℕ → Option ℕ → Type 0
IsSlotOf arena arrival None = LacksArrival arena arrival
IsSlotOf arena arrival (Some slot) = HasArrival arena arrival slot

node_tells : (arrival : ℕ) (node : Option (Node Item)) (item : Item) → value_of node ≡ Some item → has_arrival arrival node ≡ (item.arrival == arrival)
node_tells arrival None item stored = absurd (none-some item stored)
node_tells arrival (Some node) item stored = ap (λ (x : Item). x.arrival == arrival) (same_Some node.value item stored)

node_has : (arrival : ℕ) (node : Option (Node Item)) → has_arrival arrival node ≡ true → (item : Item) × ((value_of node ≡ Some item) × (item.arrival ≡ arrival))
node_has arrival None h = absurd (false≢true h)
node_has arrival (Some node) h = (node.value, (refl, eqb-true node.value.arrival arrival h))

from_place : (arena : Arena Item) (arrival : ℕ) (place : Option ℕ) → IsPlace arrival 0 arena.nodes place → IsSlotOf arena arrival place
from_place arena arrival None none = λ slot item stored is.
    false≢true (sym (none slot) ∙ (node_tells arrival (node_at arena slot) item stored ∙ eq-eqb item.arrival arrival is))
from_place arena arrival (Some slot) (i, (is, here)) =
    subst (HasArrival arena arrival) (omega (arith, is)) (node_has arrival (node_at arena i) here)

pub slot_of_is : (arena : Arena Item) (arrival : ℕ) → IsSlotOf arena arrival (slot_of arena arrival)
slot_of_is arena arrival = from_place arena arrival (slot_of arena arrival) (is_place arrival 0 arena.nodes)

-- no two slots hold items of one arrival
abbrev pub ArrivesOnce : Arena Item → Type 0
ArrivesOnce arena = (slot other : ℕ) (item rival : Item) → value_at arena slot ≡ Some item → value_at arena other ≡ Some rival → rival.arrival ≡ item.arrival → other ≡ slot

-- where this is so, what a slot holds tells the slot of an arrival
only_slot : (arena : Arena Item) (arrival : ℕ) → ArrivesOnce arena → (place other : Option ℕ) → IsSlotOf arena arrival place → IsSlotOf arena arrival other → place ≡ other
only_slot arena arrival once None None lacks none = refl
only_slot arena arrival once None (Some slot) lacks (item, (stored, is)) = absurd (lacks slot item stored is)
only_slot arena arrival once (Some slot) None (item, (stored, is)) lacks = absurd (lacks slot item stored is)
only_slot arena arrival once (Some slot) (Some other) (item, (stored, is)) (rival, (there, like)) =
    ap Some (sym (once slot other item rival stored there (like ∙ sym is)))

pub slot_is : (arena : Arena Item) (arrival : ℕ) → ArrivesOnce arena → (place : Option ℕ) → IsSlotOf arena arrival place → slot_of arena arrival ≡ place
slot_is arena arrival once place is = only_slot arena arrival once (slot_of arena arrival) place (slot_of_is arena arrival) is

-- an arrival that no item has is in no slot
no_slot : (arena : Arena Item) (arrival : ℕ) (place : Option ℕ) → LacksArrival arena arrival → IsSlotOf arena arrival place → place ≡ None
no_slot arena arrival None lacks is = refl
no_slot arena arrival (Some slot) lacks (item, (stored, is)) = absurd (lacks slot item stored is)

pub slot_none : (arena : Arena Item) (arrival : ℕ) → LacksArrival arena arrival → slot_of arena arrival ≡ None
slot_none arena arrival lacks = no_slot arena arrival (slot_of arena arrival) lacks (slot_of_is arena arrival)

-- an arrival has a slot, or lacks one
slot_or_none : (arena : Arena Item) (arrival : ℕ) (place : Option ℕ) → IsSlotOf arena arrival place → ((slot : ℕ) × HasArrival arena arrival slot) ⊎ LacksArrival arena arrival
slot_or_none arena arrival None lacks = inr lacks
slot_or_none arena arrival (Some slot) has = inl (slot, has)

pub has_or_lacks : (arena : Arena Item) (arrival : ℕ) → ((slot : ℕ) × HasArrival arena arrival slot) ⊎ LacksArrival arena arrival
has_or_lacks arena arrival = slot_or_none arena arrival (slot_of arena arrival) (slot_of_is arena arrival)

-- a place holds nothing, or some item
pub none_or_some : (o : Option Item) → (o ≡ None) ⊎ ((item : Item) × (o ≡ Some item))
none_or_some None = inl refl
none_or_some (Some item) = inr (item, refl)
