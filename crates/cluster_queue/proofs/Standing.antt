-- The entry that stands in a slot with an arrival, among rows.
use Rattle.std.proofs.Common.{◌≡◌, ℕ, zero, suc, ◌==◌, ◌&&◌, Contains, List, [], ◌∷◌, Option, Some, None, map, refl, sym, ap, ◌∙◌, subst, inl, inr, arith, eq-eqb, eqb-true}
use Rattle.std.specs.Prelude.{if◌then◌else◌}
use Rattle.std.proofs.lemmas.Bool.{and_from, and_parts, cases_Bool, cases_eq, cond-false, cond-true, false≢true, ne_eqb}
use Rattle.flat_policy.specs.Policy.Clusters.{standing_among}
use Rattle.flat_policy.specs.Policy.Queue.{Queued}
use Rattle.link_arena.specs.Arena.{Arena, value_at}
use Rattle.thread_queue.specs.Item.{entry_of}
use Rattle.thread_queue.specs.declared.item.Item.{Item}
use Rattle.cluster_queue.specs.Rows.{ArrivalsApart, Row, rows_below}
use Rattle.cluster_queue.proofs.ArrivalSlots.{none_or_some}
use Rattle.cluster_queue.proofs.RowLists.{has_row, row_in, rows_back}

-- a row with a slot and an arrival
abbrev pub IsRowAt : ℕ → ℕ → Row → Type 0
IsRowAt slot arrival r = (r.slot ≡ slot) × (r.entry.arrival ≡ arrival)

-- the entry is that of such a row, or there is none
abbrev pub IsStanding : ℕ → ℕ → List Row → Option Queued → Type 0
IsStanding slot arrival rs None = (r : Row) → Contains rs r → IsRowAt slot arrival r → ⊥
IsStanding slot arrival rs (Some e) = (r : Row) × (Contains rs r × (IsRowAt slot arrival r × (r.entry ≡ e)))

none_more : (slot arrival : ℕ) (x : Row) (rs : List Row) → (IsRowAt slot arrival x → ⊥) → IsStanding slot arrival rs None → IsStanding slot arrival (x ∷ rs) None
none_more slot arrival x rs other none r (zero, within, is) at = other (subst (IsRowAt slot arrival) (sym is) at)
none_more slot arrival x rs other none r (suc k, within, is) at = none r (k, omega (arith, within), is) at

standing_more : (slot arrival : ℕ) (x : Row) (rs : List Row) (o : Option Queued) → (IsRowAt slot arrival x → ⊥) → IsStanding slot arrival rs o → IsStanding slot arrival (x ∷ rs) o
standing_more slot arrival x rs None other none = none_more slot arrival x rs other none
standing_more slot arrival x rs (Some e) other (r, (c, at)) = (r, ((suc c.0, omega (arith, c.1), c.2), at))

pub standing_row : (slot arrival : ℕ) (rs : List Row) → IsStanding slot arrival rs (standing_among slot arrival (map (λ (r : Row). r.entry) rs) (map (λ (r : Row). r.slot) rs))
standing_row slot arrival [] = λ r c at. absurd (omega (arith, c.1))
standing_row slot arrival (x ∷ rs) =
    let test = (x.slot == slot) && (x.entry.arrival == arrival) in
    let rest = standing_among slot arrival (map (λ (r : Row). r.entry) rs) (map (λ (r : Row). r.slot) rs) in
    elim (cases_Bool test) [
      | inl here ↦ (
          let parts = and_parts (x.slot == slot) (x.entry.arrival == arrival) here in
          subst (IsStanding slot arrival (x ∷ rs)) (sym (cond-true test (Some x.entry) rest here))
          (x, ((0, omega arith, refl), ((eqb-true x.slot slot parts.0, eqb-true x.entry.arrival arrival parts.1), refl))))
      | inr other ↦
          subst (IsStanding slot arrival (x ∷ rs)) (sym (cond-false test (Some x.entry) rest other))
          (standing_more slot arrival x rs rest
          (λ at. false≢true (sym other ∙ and_from (x.slot == slot) (x.entry.arrival == arrival) (eq-eqb x.slot slot at.0) (eq-eqb x.entry.arrival arrival at.1)))
          (standing_row slot arrival rs))
    ]

-- the entry that stands in a slot with an arrival, by the item there
abbrev pub standing_item : ℕ → Option Item → Option Queued
standing_item arrival None = None
standing_item arrival (Some item) = if item.arrival == arrival then Some (entry_of item) else None

standing_some : (arrival : ℕ) (item : Item) → item.arrival ≡ arrival → standing_item arrival (Some item) ≡ Some (entry_of item)
standing_some arrival item is = cond-true (item.arrival == arrival) (Some (entry_of item)) None (eq-eqb item.arrival arrival is)

standing_other : (arrival : ℕ) (item : Item) → (item.arrival ≡ arrival → ⊥) → standing_item arrival (Some item) ≡ None
standing_other arrival item unlike = cond-false (item.arrival == arrival) (Some (entry_of item)) None (ne_eqb item.arrival arrival unlike)

-- among the rows of an arena it is that of the item in the slot
pub standing_by_item : (arena : Arena Item) (next slot arrival : ℕ) → ArrivalsApart arena next → (o : Option Queued) → IsStanding slot arrival (rows_below arena next) o → o ≡ standing_item arrival (value_at arena slot)
standing_by_item arena next slot arrival apart None none = elim (none_or_some (value_at arena slot)) [
  | inl free ↦ ap (standing_item arrival) (sym free)
  | inr (item, stored) ↦ elim (cases_eq item.arrival arrival) [
    | inl is ↦ absurd (none (row_in slot item) (has_row arena slot item apart.once stored next (apart.below slot item stored)) (refl, is))
    | inr unlike ↦ sym (ap (standing_item arrival) stored ∙ standing_other arrival item unlike)
  ]
]
standing_by_item arena next slot arrival apart (Some e) (r, (c, (at, is))) =
    let held = (rows_back arena apart.once next r c).0 in
    sym (ap (λ (k : ℕ). standing_item arrival (value_at arena k)) (sym at.0)
    ∙ (ap (standing_item arrival) held.1.0
    ∙ (standing_some arrival held.0 (ap (λ (x : Queued). x.arrival) held.1.1 ∙ at.1)
    ∙ ap Some (held.1.1 ∙ is))))
