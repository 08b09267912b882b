-- The rows where one item goes out.
use Rattle.std.proofs.Common.{◌≡◌, ◌≢◌, ℕ, zero, suc, ◌<◌, ◌+◌, ◌==◌, Bool, List, [], ◌∷◌, Some, filter, length, map, refl, sym, ap, ◌∙◌, subst, inl, inr, arith, eq-eqb}
use Rattle.std.specs.Prelude.{not}
use Rattle.std.proofs.lemmas.Bool.{cases_Bool, cases_eq, cond-false, cond-true, ne_eqb, not_from_false, not_from_true}
use Rattle.std.proofs.lemmas.List.{length-append}
use Rattle.std.proofs.lemmas.List.Elements.{filter-append}
use Rattle.std.proofs.lemmas.Option.{none-some, same_Some}
use Rattle.flat_policy.specs.Policy.Clusters.{slots_without}
use Rattle.flat_policy.specs.Policy.Moves.{without}
use Rattle.flat_policy.specs.Policy.Queue.{Queued}
use Rattle.link_arena.specs.Arena.{Arena, Removes, value_at}
use Rattle.thread_queue.specs.declared.item.Item.{Item}
use Rattle.cluster_queue.specs.Rows.{ArrivalsApart, Row, rows_below}
use Rattle.cluster_queue.proofs.ArrivalSlots.{has_or_lacks}
use Rattle.cluster_queue.proofs.RowLists.{apart_fewer, row_alike, row_in, row_none, row_of, row_some, rows_follow}
use Rattle.cluster_queue.proofs.RowsChanged.{rows_alike}

-- whether a row is of another arrival
abbrev pub is_other : ℕ → Row → Bool
is_other arrival r = not (r.entry.arrival == arrival)

-- the entries and the slots of the rows of other arrivals
pub entries_of_others : (arrival : ℕ) (rs : List Row) → map (λ (r : Row). r.entry) (filter (is_other arrival) rs) ≡ without arrival (map (λ (r : Row). r.entry) rs)
entries_of_others arrival [] = refl
entries_of_others arrival (r ∷ rs) = elim (cases_Bool (is_other arrival r)) [
  | inl other ↦ (let rest = filter (is_other arrival) rs in let left = without arrival (map (λ (x : Row). x.entry) rs) in
      ap (map (λ (x : Row). x.entry)) (cond-true (is_other arrival r) (r ∷ rest) rest other)
      ∙ (ap (λ (es : List Queued). r.entry ∷ es) (entries_of_others arrival rs)
      ∙ sym (cond-true (is_other arrival r) (r.entry ∷ left) left other)))
  | inr same_one ↦ (let rest = filter (is_other arrival) rs in let left = without arrival (map (λ (x : Row). x.entry) rs) in
      ap (map (λ (x : Row). x.entry)) (cond-false (is_other arrival r) (r ∷ rest) rest same_one)
      ∙ (entries_of_others arrival rs
      ∙ sym (cond-false (is_other arrival r) (r.entry ∷ left) left same_one)))
]

pub slots_of_others : (arrival : ℕ) (rs : List Row) → map (λ (r : Row). r.slot) (filter (is_other arrival) rs) ≡ slots_without arrival (map (λ (r : Row). r.entry) rs) (map (λ (r : Row). r.slot) rs)
slots_of_others arrival [] = refl
slots_of_others arrival (r ∷ rs) =
    let rest = filter (is_other arrival) rs in
    let left = slots_without arrival (map (λ (x : Row). x.entry) rs) (map (λ (x : Row). x.slot) rs) in
    elim (cases_Bool (r.entry.arrival == arrival)) [
      | inl like ↦
          ap (map (λ (x : Row). x.slot)) (cond-false (is_other arrival r) (r ∷ rest) rest (not_from_true (r.entry.arrival == arrival) like))
          ∙ (slots_of_others arrival rs
          ∙ sym (cond-true (r.entry.arrival == arrival) left (r.slot ∷ left) like))
      | inr unlike ↦
          ap (map (λ (x : Row). x.slot)) (cond-true (is_other arrival r) (r ∷ rest) rest (not_from_false (r.entry.arrival == arrival) unlike))
          ∙ (ap (λ (ks : List ℕ). r.slot ∷ ks) (slots_of_others arrival rs)
          ∙ sym (cond-false (r.entry.arrival == arrival) left (r.slot ∷ left) unlike))
    ]

module _ (old new : Arena Item) (next slot : ℕ) (item : Item) (apart : ArrivalsApart old next) (removes : Removes old new slot) (stored : value_at old slot ≡ Some item) where
  was_elsewhere : (other : ℕ) (x : Item) → value_at new other ≡ Some x → other ≢ slot
  was_elsewhere other x there here = none-some x (sym removes.free ∙ (ap (value_at new) (sym here) ∙ there))

  was : (other : ℕ) (x : Item) → value_at new other ≡ Some x → value_at old other ≡ Some x
  was other x there = sym (removes.elsewhere.values other (was_elsewhere other x there)) ∙ there

  stays : (other : ℕ) (x : Item) → value_at old other ≡ Some x → x.arrival ≢ item.arrival → value_at new other ≡ Some x
  stays other x there unlike =
      removes.elsewhere.values other (λ here. unlike (ap (λ (i : Item). i.arrival) (same_Some x item (sym there ∙ (ap (value_at old) here ∙ stored))))) ∙ there

  pub apart_removed : ArrivalsApart new next
  apart_removed = apart_fewer old new next apart was

  -- the arrival of the item has no row then, and each other arrival has its row
  row_gone : row_of new item.arrival ≡ []
  row_gone = row_none new item.arrival
      (λ other x there like. was_elsewhere other x there (apart.once slot other item x stored (was other x there) like))

  row_there : row_of old item.arrival ≡ row_in slot item ∷ []
  row_there = row_some old item.arrival slot item apart.once stored refl

  row_stays : (arrival : ℕ) → arrival ≢ item.arrival → row_of new arrival ≡ row_of old arrival
  row_stays arrival unlike = row_alike old new arrival apart.once apart_removed.once
      (λ other x there like. stays other x there (λ e. unlike (sym like ∙ e)))
      (λ other x there like. was other x there)

  others_row : (arrival : ℕ) → arrival ≢ item.arrival → filter (is_other item.arrival) (row_of old arrival) ≡ row_of old arrival
  others_row arrival unlike = elim (has_or_lacks old arrival) [
    | inl (at, (x, (there, like))) ↦ (
        let e = row_some old arrival at x apart.once there like in
        ap (filter (is_other item.arrival)) e
        ∙ (cond-true (is_other item.arrival (row_in at x)) (row_in at x ∷ []) [] (not_from_false (x.arrival == item.arrival) (ne_eqb x.arrival item.arrival (λ h. unlike (sym like ∙ h))))
        ∙ sym e))
    | inr lacks ↦ (let e = row_none old arrival lacks in ap (filter (is_other item.arrival)) e ∙ sym e)
  ]

  row_removed : (arrival : ℕ) → row_of new arrival ≡ filter (is_other item.arrival) (row_of old arrival)
  row_removed arrival = elim (cases_eq item.arrival arrival) [
    | inl like ↦ subst (λ (n : ℕ). row_of new n ≡ filter (is_other item.arrival) (row_of old n)) like
        (row_gone
        ∙ sym (ap (filter (is_other item.arrival)) row_there ∙ cond-false (is_other item.arrival (row_in slot item)) (row_in slot item ∷ []) [] (not_from_true (item.arrival == item.arrival) (eq-eqb item.arrival item.arrival refl))))
    | inr unlike ↦ row_stays arrival (λ e. unlike (sym e)) ∙ sym (others_row arrival (λ e. unlike (sym e)))
  ]

  pub rows_removed : rows_below new next ≡ filter (is_other item.arrival) (rows_below old next)
  rows_removed = rows_follow old new (filter (is_other item.arrival)) refl (filter-append (is_other item.arrival)) next (λ arrival lt. row_removed arrival)

  -- there is one row less
  pub rows_shorter : (upto : ℕ) → item.arrival < upto → length (rows_below new upto) + 1 ≡ length (rows_below old upto)
  rows_shorter zero lt = absurd (omega (arith, lt))
  rows_shorter (suc upto) lt =
      let now_long = length-append (rows_below new upto) (row_of new upto) in
      let was_long = length-append (rows_below old upto) (row_of old upto) in
      elim (cases_eq item.arrival upto) [
        | inl like ↦ (
            let gone : length (row_of new upto) ≡ 0 = subst (λ (n : ℕ). length (row_of new n) ≡ 0) like (ap length row_gone) in
            let there : length (row_of old upto) ≡ 1 = subst (λ (n : ℕ). length (row_of old n) ≡ 1) like (ap length row_there) in
            let before = ap length (rows_alike old new upto (λ arrival low. row_stays arrival (λ e. absurd (omega (arith, low, e, like))))) in
            omega (arith, now_long, was_long, gone, there, before))
        | inr unlike ↦ (
            let before = rows_shorter upto (omega (arith, lt, unlike)) in
            let last = ap length (row_stays upto (λ e. unlike (sym e))) in
            omega (arith, now_long, was_long, before, last))
      ]
