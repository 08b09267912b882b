-- The rows where all items stay, and where one comes in.
use Rattle.std.proofs.Common.{◌≡◌, ◌⊎◌, ℕ, suc, ◌<◌, ◌+◌, List, [], ◌∷◌, ◌++◌, Some, refl, sym, ap, ap₂, ◌∙◌, inl, inr, arith}
use Rattle.std.proofs.lemmas.Bool.{cases_eq}
use Rattle.std.proofs.lemmas.Option.{none-some, same_Some}
use Rattle.link_arena.specs.Arena.{Arena, Inserts, value_at}
use Rattle.thread_queue.specs.declared.item.Item.{Item}
use Rattle.cluster_queue.specs.Rows.{ArrivalsApart, Row, rows_below}
use Rattle.cluster_queue.proofs.ArrivalSlots.{ArrivesOnce}
use Rattle.cluster_queue.proofs.RowLists.{apart_fewer, row_alike, row_in, row_of, row_some, rows_follow}

-- the rows below a number stay where those of each arrival below it do
pub rows_alike : (old new : Arena Item) (next : ℕ) → ((arrival : ℕ) → arrival < next → row_of new arrival ≡ row_of old arrival) → rows_below new next ≡ rows_below old next
rows_alike old new next each = rows_follow old new (λ rs. rs) refl (λ xs ys. refl) next each

module _ (old new : Arena Item) (next : ℕ) (apart : ArrivalsApart old next) (values : (slot : ℕ) → value_at new slot ≡ value_at old slot) where
  was_same : (slot : ℕ) (item : Item) → value_at new slot ≡ Some item → value_at old slot ≡ Some item
  was_same slot item stored = sym (values slot) ∙ stored

  pub apart_same : ArrivalsApart new next
  apart_same = apart_fewer old new next apart was_same

  pub rows_same : rows_below new next ≡ rows_below old next
  rows_same = rows_alike old new next
      (λ arrival lt. row_alike old new arrival apart.once apart_same.once (λ slot item stored is. values slot ∙ stored) (λ slot item stored is. was_same slot item stored))

module _ (old new : Arena Item) (next slot : ℕ) (item : Item) (apart : ArrivalsApart old next) (inserts : Inserts old new slot item) (is : item.arrival ≡ next) where
  stays : (other : ℕ) (x : Item) → value_at old other ≡ Some x → value_at new other ≡ Some x
  stays other x stored =
      inserts.elsewhere.values other (λ here. none-some x (sym inserts.was_free ∙ (ap (value_at old) (sym here) ∙ stored))) ∙ stored

  was : (other : ℕ) (x : Item) → value_at new other ≡ Some x → ((other ≡ slot) × (item ≡ x)) ⊎ (value_at old other ≡ Some x)
  was other x stored = elim (cases_eq other slot) [
    | inl here ↦ inl (here, same_Some item x (sym inserts.stored ∙ (ap (value_at new) (sym here) ∙ stored)))
    | inr differ ↦ inr (sym (inserts.elsewhere.values other differ) ∙ stored)
  ]

  -- the new item alone has the next arrival
  pub once_inserted : ArrivesOnce new
  once_inserted at other x rival stored there like = elim (was at x stored) [
    | inl here ↦ elim (was other rival there) [
      | inl too ↦ too.0 ∙ sym here.0
      | inr old_one ↦ absurd (omega (arith, apart.below other rival old_one, like, is, ap (λ (i : Item). i.arrival) here.1))
    ]
    | inr before ↦ elim (was other rival there) [
      | inl here ↦ absurd (omega (arith, apart.below at x before, like, is, ap (λ (i : Item). i.arrival) here.1))
      | inr too ↦ apart.once at other x rival before too like
    ]
  ]

  pub apart_inserted : slot < 4294967296 → ArrivalsApart new (next + 1)
  apart_inserted small = record {
    once = once_inserted;
    below = λ other x stored. elim (was other x stored) [
      | inl here ↦ omega (arith, is, ap (λ (i : Item). i.arrival) here.1)
      | inr before ↦ omega (arith, apart.below other x before)
    ];
    small = λ other x stored. elim (was other x stored) [
      | inl here ↦ omega (arith, small, here.0)
      | inr before ↦ apart.small other x before
    ];
  }

  row_before : (arrival : ℕ) → arrival < next → row_of new arrival ≡ row_of old arrival
  row_before arrival lt = row_alike old new arrival apart.once once_inserted
      (λ other x stored like. stays other x stored)
      (λ other x stored like. elim (was other x stored) [
        | inl here ↦ absurd (omega (arith, lt, like, is, ap (λ (i : Item). i.arrival) here.1))
        | inr before ↦ before
      ])

  pub rows_inserted : rows_below new (suc next) ≡ rows_below old next ++ row_in slot item ∷ []
  rows_inserted = ap₂ (λ (xs ys : List Row). xs ++ ys) (rows_alike old new next row_before) (row_some new next slot item once_inserted inserts.stored is)
