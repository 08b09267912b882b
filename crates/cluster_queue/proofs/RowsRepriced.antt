-- The rows where all items are priced anew.
use Rattle.std.proofs.Common.{◌≡◌, ℕ, List, [], ◌∷◌, Some, map, refl, sym, ap, ◌∙◌, inl, inr, arith}
use Rattle.std.proofs.lemmas.List.{map-append}
use Rattle.flat_policy.specs.Policy.Queue.{Flat, Queued}
use Rattle.flat_policy.specs.Policy.Refresh.{repriced}
use Rattle.link_arena.specs.Arena.{Arena, value_at}
use Rattle.thread_queue.specs.Item.{entry_of}
use Rattle.thread_queue.specs.declared.item.Item.{Item}
use Rattle.cluster_queue.specs.Refreshing.{AreRepriced}
use Rattle.cluster_queue.specs.Rows.{ArrivalsApart, Row, rows_below}
use Rattle.cluster_queue.proofs.ArrivalSlots.{has_or_lacks}
use Rattle.cluster_queue.proofs.RowLists.{row_none, row_of, row_some, rows_follow}
use Rattle.cluster_queue.proofs.Slots.{item_before}
use Rattle.cluster_queue.proofs.PricedEntries.{repriced_alike}

-- a row with its entry priced anew
abbrev pub repriced_row : Flat → ℕ → Row → Row
repriced_row s now r = record { entry = repriced s now r.entry; slot = r.slot }

-- the entries and the slots of such rows
pub entries_of_repriced : (s : Flat) (now : ℕ) (rs : List Row) → map (λ (r : Row). r.entry) (map (repriced_row s now) rs) ≡ map (repriced s now) (map (λ (r : Row). r.entry) rs)
entries_of_repriced s now [] = refl
entries_of_repriced s now (r ∷ rs) = ap (λ (es : List Queued). repriced s now r.entry ∷ es) (entries_of_repriced s now rs)

pub slots_of_repriced : (s : Flat) (now : ℕ) (rs : List Row) → map (λ (r : Row). r.slot) (map (repriced_row s now) rs) ≡ map (λ (r : Row). r.slot) rs
slots_of_repriced s now [] = refl
slots_of_repriced s now (r ∷ rs) = ap (λ (ks : List ℕ). r.slot ∷ ks) (slots_of_repriced s now rs)

module _ (old new : Arena Item) (next now : ℕ) (s : Flat) (apart : ArrivalsApart old next) (priced : AreRepriced old new s now) where
  -- each item was one of the same arrival
  was : (slot : ℕ) (later : Item) → value_at new slot ≡ Some later → (item : Item) × ((value_at old slot ≡ Some item) × (later.arrival ≡ item.arrival))
  was slot later stored =
      let w = item_before old new (λ x y. entry_of y ≡ repriced s now (entry_of x)) slot later (priced.items slot) (priced.free slot) stored in
      (w.0, (w.1.0, ap (λ (e : Queued). e.arrival) w.1.1 ∙ (repriced_alike s now (entry_of w.0)).arrival))

  pub apart_repriced : ArrivalsApart new next
  apart_repriced = record {
    once = λ slot other item rival stored there like.
        let p = was slot item stored in
        let q = was other rival there in
        apart.once slot other p.0 q.0 p.1.0 q.1.0 (sym q.1.1 ∙ (like ∙ p.1.1));
    below = λ slot item stored. let p = was slot item stored in omega (arith, apart.below slot p.0 p.1.0, p.1.1);
    small = λ slot item stored. let p = was slot item stored in apart.small slot p.0 p.1.0;
  }

  row_repriced : (arrival : ℕ) → row_of new arrival ≡ map (repriced_row s now) (row_of old arrival)
  row_repriced arrival = elim (has_or_lacks old arrival) [
    | inl (slot, (item, (stored, is))) ↦ (
        let p = priced.items slot item stored in
        let like : p.0.arrival ≡ arrival = ap (λ (e : Queued). e.arrival) p.1.1 ∙ ((repriced_alike s now (entry_of item)).arrival ∙ is) in
        row_some new arrival slot p.0 apart_repriced.once p.1.0 like
        ∙ (ap (λ (e : Queued). record { entry = e; slot = slot } ∷ []) p.1.1
        ∙ sym (ap (map (repriced_row s now)) (row_some old arrival slot item apart.once stored is))))
    | inr lacks ↦
        row_none new arrival (λ slot later stored is. let p = was slot later stored in lacks slot p.0 p.1.0 (sym p.1.1 ∙ is))
        ∙ sym (ap (map (repriced_row s now)) (row_none old arrival lacks))
  ]

  pub rows_repriced : rows_below new next ≡ map (repriced_row s now) (rows_below old next)
  rows_repriced = rows_follow old new (map (repriced_row s now)) refl (map-append (repriced_row s now)) next (λ arrival lt. row_repriced arrival)
