-- The rows of one arrival, and of all arrivals below a number.
use Rattle.std.proofs.Common.{◌≡◌, ℕ, zero, suc, ◌<◌, Contains, List, [], ◌∷◌, ◌++◌, Some, refl, sym, ap, ap₂, ◌∙◌, subst, inl, inr, arith}
use Rattle.std.proofs.lemmas.Bool.{cases_eq}
use Rattle.std.proofs.lemmas.List.Elements.{Contains-append_cases, Contains-append_left, Contains-append_right}
use Rattle.link_arena.specs.Arena.{Arena, value_at}
use Rattle.thread_queue.specs.Item.{entry_of}
use Rattle.thread_queue.specs.declared.item.Item.{Item}
use Rattle.cluster_queue.specs.Rows.{Row, row_at, row_with, rows_below, slot_of, ArrivalsApart}
use Rattle.cluster_queue.proofs.ArrivalSlots.{LacksArrival, ArrivesOnce, has_or_lacks, slot_is, slot_none}
use Rattle.cluster_queue.proofs.Members.{none_within}

-- the row of an arrival, if it has one
abbrev pub row_of : Arena Item → ℕ → List Row
row_of arena arrival = row_at arena (slot_of arena arrival)

-- the row of an item in a slot
abbrev pub row_in : ℕ → Item → Row
row_in slot item = record { entry = entry_of item; slot = slot }

pub row_some : (arena : Arena Item) (arrival slot : ℕ) (item : Item) → ArrivesOnce arena → value_at arena slot ≡ Some item → item.arrival ≡ arrival → row_of arena arrival ≡ row_in slot item ∷ []
row_some arena arrival slot item once stored is =
    ap (row_at arena) (slot_is arena arrival once (Some slot) (item, (stored, is))) ∙ ap (row_with slot) stored

pub row_none : (arena : Arena Item) (arrival : ℕ) → LacksArrival arena arrival → row_of arena arrival ≡ []
row_none arena arrival lacks = ap (row_at arena) (slot_none arena arrival lacks)

-- an arrival of the same items in the same slots has the same row
pub row_alike : (old new : Arena Item) (arrival : ℕ) → ArrivesOnce old → ArrivesOnce new → ((slot : ℕ) (item : Item) → value_at old slot ≡ Some item → item.arrival ≡ arrival → value_at new slot ≡ Some item) → ((slot : ℕ) (item : Item) → value_at new slot ≡ Some item → item.arrival ≡ arrival → value_at old slot ≡ Some item) → row_of new arrival ≡ row_of old arrival
row_alike old new arrival once still stays was =
    elim (has_or_lacks old arrival) [
      | inl (slot, (item, (stored, is))) ↦ row_some new arrival slot item still (stays slot item stored is) is ∙ sym (row_some old arrival slot item once stored is)
      | inr lacks ↦ row_none new arrival (λ slot item stored is. lacks slot item (was slot item stored is) is) ∙ sym (row_none old arrival lacks)
    ]

-- rows that follow those of another arena, arrival by arrival
pub rows_follow : (old new : Arena Item) (F : List Row → List Row) → F [] ≡ [] → ((xs ys : List Row) → F (xs ++ ys) ≡ F xs ++ F ys) → (next : ℕ) → ((arrival : ℕ) → arrival < next → row_of new arrival ≡ F (row_of old arrival)) → rows_below new next ≡ F (rows_below old next)
rows_follow old new F none append zero each = sym none
rows_follow old new F none append (suc next) each =
    ap₂ (λ (xs ys : List Row). xs ++ ys) (rows_follow old new F none append next (λ arrival lt. each arrival (omega (arith, lt)))) (each next (omega arith))
    ∙ sym (append (rows_below old next) (row_of old next))

-- arrivals are still apart where each item was there before
pub apart_fewer : (old new : Arena Item) (next : ℕ) → ArrivalsApart old next → ((slot : ℕ) (item : Item) → value_at new slot ≡ Some item → value_at old slot ≡ Some item) → ArrivalsApart new next
apart_fewer old new next apart was = record {
  once = λ at other x rival here there like. apart.once at other x rival (was at x here) (was other rival there) like;
  below = λ at x here. apart.below at x (was at x here);
  small = λ at x here. apart.small at x (was at x here);
}

-- a row lies where the arena holds its entry's item
abbrev pub HoldsRow : Arena Item → Row → Type 0
HoldsRow arena r = (item : Item) × ((value_at arena r.slot ≡ Some item) × (entry_of item ≡ r.entry))

-- the row of an arrival is one of those below each greater number
pub has_row : (arena : Arena Item) (slot : ℕ) (item : Item) → ArrivesOnce arena → value_at arena slot ≡ Some item → (upto : ℕ) → item.arrival < upto → Contains (rows_below arena upto) (row_in slot item)
has_row arena slot item once stored zero lt = absurd (omega (arith, lt))
has_row arena slot item once stored (suc upto) lt =
    elim (cases_eq item.arrival upto) [
      | inl is ↦ Contains-append_right (rows_below arena upto) (row_of arena upto) (row_in slot item)
          (subst (λ (rs : List Row). Contains rs (row_in slot item)) (sym (row_some arena upto slot item once stored is)) (0, omega arith, refl))
      | inr differ ↦ Contains-append_left (rows_below arena upto) (row_of arena upto) (row_in slot item)
          (has_row arena slot item once stored upto (omega (arith, lt, differ)))
    ]

only_member : (x r : Row) → Contains (x ∷ []) r → x ≡ r
only_member x r (zero, within, is) = is
only_member x r (suc k, within, is) = absurd (omega (arith, within))

row_of_back : (arena : Arena Item) (arrival : ℕ) (r : Row) → ArrivesOnce arena → Contains (row_of arena arrival) r → HoldsRow arena r × (r.entry.arrival ≡ arrival)
row_of_back arena arrival r once c =
    elim (has_or_lacks arena arrival) [
      | inl has ↦ (
          let here : Contains (row_in has.0 has.1.0 ∷ []) r = subst (λ (rs : List Row). Contains rs r) (row_some arena arrival has.0 has.1.0 once has.1.1.0 has.1.1.1) c in
          let is : row_in has.0 has.1.0 ≡ r = only_member (row_in has.0 has.1.0) r here in
          let held : HoldsRow arena (row_in has.0 has.1.0) = (has.1.0, (has.1.1.0, refl)) in
          (subst (HoldsRow arena) is held, ap (λ (x : Row). x.entry.arrival) (sym is) ∙ has.1.1.1))
      | inr lacks ↦ absurd (none_within r (subst (λ (rs : List Row). Contains rs r) (row_none arena arrival lacks) c))
    ]

-- each row lies where its item is, and has an arrival below the number
pub rows_back : (arena : Arena Item) → ArrivesOnce arena → (upto : ℕ) (r : Row) → Contains (rows_below arena upto) r → HoldsRow arena r × (r.entry.arrival < upto)
rows_back arena once zero r c = absurd (none_within r c)
rows_back arena once (suc upto) r c =
    elim (Contains-append_cases (rows_below arena upto) (row_of arena upto) r c) [
      | inl before ↦ (let h = rows_back arena once upto r before in (h.0, omega (arith, h.1)))
      | inr here ↦ (let h = row_of_back arena upto r once here in (h.0, omega (arith, h.1)))
    ]
