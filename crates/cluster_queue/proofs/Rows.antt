-- Entries and slots of an arena where it changes.
use Rattle.std.proofs.Common.{◌≡◌, ℕ, zero, suc, ◌<◌, ◌+◌, Contains, List, [], ◌∷◌, ◌++◌, Some, None, length, map, refl, sym, ap, ap₂, ◌∙◌, inl, inr, arith}
use Rattle.std.proofs.lemmas.List.{length-map, map_push}
use Rattle.std.proofs.lemmas.Option.{none-some}
use Rattle.flat_policy.specs.Policy.Clusters.{slots_without, standing_among}
use Rattle.flat_policy.specs.Policy.Moves.{without}
use Rattle.flat_policy.specs.Policy.Queue.{Flat, Queued}
use Rattle.flat_policy.specs.Policy.Refresh.{repriced}
use Rattle.link_arena.specs.Arena.{Arena, Inserts, Removes, value_at}
use Rattle.thread_queue.specs.Item.{entry_of}
use Rattle.thread_queue.specs.declared.item.Item.{Item}
use Rattle.cluster_queue.specs.Refreshing.{AreRepriced}
use Rattle.cluster_queue.specs.Rows.{ArrivalsApart, Row, entries_in, rows_below, slots_in}
use Rattle.cluster_queue.proofs.ArrivalSlots.{none_or_some}
use Rattle.cluster_queue.proofs.RowLists.{has_row, row_in, row_none, rows_back}
use Rattle.cluster_queue.proofs.RowsChanged.{apart_inserted, apart_same, rows_inserted, rows_same}
use Rattle.cluster_queue.proofs.RowsRemoved.{apart_removed, entries_of_others, rows_removed, rows_shorter, slots_of_others}
use Rattle.cluster_queue.proofs.RowsRepriced.{apart_repriced, entries_of_repriced, rows_repriced, slots_of_repriced}
use Rattle.cluster_queue.proofs.Standing.{standing_by_item, standing_row}
use Rattle.cluster_queue.proofs.Members.{map_has, member_of_map}
pub use Rattle.cluster_queue.proofs.Standing.{standing_item}

-- the entries are those of the items
pub listed : (arena : Arena Item) (next slot : ℕ) (item : Item) → ArrivalsApart arena next → value_at arena slot ≡ Some item → Contains (entries_in arena next) (entry_of item)
listed arena next slot item apart stored =
    map_has (λ (r : Row). r.entry) (rows_below arena next) (row_in slot item) (has_row arena slot item apart.once stored next (apart.below slot item stored))

-- each of them is that of an item
abbrev pub IsStoredIn : Arena Item → Queued → Type 0
IsStoredIn arena e = (slot : ℕ) × (item : Item) × ((value_at arena slot ≡ Some item) × (entry_of item ≡ e))

pub entries_below : (arena : Arena Item) (next : ℕ) (e : Queued) → ArrivalsApart arena next → Contains (entries_in arena next) e → e.arrival < next
entries_below arena next e apart c =
    let m = member_of_map (λ (r : Row). r.entry) (rows_below arena next) e c in
    omega (arith, (rows_back arena apart.once next m.0 m.1.0).1, ap (λ (x : Queued). x.arrival) m.1.1)

-- where there is no entry, no slot holds an item
pub none_stored : (arena : Arena Item) (next : ℕ) → ArrivalsApart arena next → length (entries_in arena next) ≡ 0 → (slot : ℕ) → value_at arena slot ≡ None
none_stored arena next apart none slot =
    elim (none_or_some (value_at arena slot)) [
      | inl free ↦ free
      | inr some ↦ (let c = listed arena next slot some.0 apart some.1 in absurd (omega (arith, none, c.1)))
    ]

-- all items stay where they are
module _ (old new : Arena Item) (next : ℕ) (apart : ArrivalsApart old next) (values : (slot : ℕ) → value_at new slot ≡ value_at old slot) where
  pub entries_same : entries_in new next ≡ entries_in old next
  entries_same = ap (map (λ (r : Row). r.entry)) (rows_same old new next apart values)

  pub slots_same : slots_in new next ≡ slots_in old next
  slots_same = ap (map (λ (r : Row). r.slot)) (rows_same old new next apart values)

  pub arrivals_same : ArrivalsApart new next
  arrivals_same = apart_same old new next apart values

-- an item comes in, with the next arrival
module _ (old new : Arena Item) (next slot : ℕ) (item : Item) (apart : ArrivalsApart old next) (inserts : Inserts old new slot item) (is : item.arrival ≡ next) where
  pub entries_inserted : entries_in new (next + 1) ≡ entries_in old next ++ entry_of item ∷ []
  entries_inserted =
      let one : next + 1 ≡ suc next = omega arith in
      ap (entries_in new) one ∙ (ap (map (λ (r : Row). r.entry)) (rows_inserted old new next slot item apart inserts is) ∙ map_push (λ (r : Row). r.entry) (rows_below old next) (row_in slot item))

  pub slots_inserted : slots_in new (next + 1) ≡ slots_in old next ++ slot ∷ []
  slots_inserted =
      let one : next + 1 ≡ suc next = omega arith in
      ap (slots_in new) one ∙ (ap (map (λ (r : Row). r.slot)) (rows_inserted old new next slot item apart inserts is) ∙ map_push (λ (r : Row). r.slot) (rows_below old next) (row_in slot item))

  pub arrivals_inserted : slot < 4294967296 → ArrivalsApart new (next + 1)
  arrivals_inserted small = apart_inserted old new next slot item apart inserts is small

  pub slot_fresh : ¬ Contains (slots_in old next) slot
  slot_fresh c =
      let m = member_of_map (λ (r : Row). r.slot) (rows_below old next) slot c in
      let held = (rows_back old apart.once next m.0 m.1.0).0 in
      none-some held.0 (sym inserts.was_free ∙ (ap (value_at old) (sym m.1.1) ∙ held.1.0))

-- an item goes out
module _ (old new : Arena Item) (next slot : ℕ) (item : Item) (apart : ArrivalsApart old next) (removes : Removes old new slot) (stored : value_at old slot ≡ Some item) where
  pub entries_removed : entries_in new next ≡ without item.arrival (entries_in old next)
  entries_removed = ap (map (λ (r : Row). r.entry)) (rows_removed old new next slot item apart removes stored) ∙ entries_of_others item.arrival (rows_below old next)

  pub slots_removed : slots_in new next ≡ slots_without item.arrival (entries_in old next) (slots_in old next)
  slots_removed = ap (map (λ (r : Row). r.slot)) (rows_removed old new next slot item apart removes stored) ∙ slots_of_others item.arrival (rows_below old next)

  pub arrivals_removed : ArrivalsApart new next
  arrivals_removed = apart_removed old new next slot item apart removes stored

  pub length_removed : length (entries_in new next) + 1 ≡ length (entries_in old next)
  length_removed =
      omega (arith, length-map (rows_below new next) (λ (r : Row). r.entry), length-map (rows_below old next) (λ (r : Row). r.entry), rows_shorter old new next slot item apart removes stored next (apart.below slot item stored))

-- all items are priced anew where they lie
module _ (old new : Arena Item) (next now : ℕ) (s : Flat) (apart : ArrivalsApart old next) (priced : AreRepriced old new s now) where
  pub entries_repriced : entries_in new next ≡ map (repriced s now) (entries_in old next)
  entries_repriced = ap (map (λ (r : Row). r.entry)) (rows_repriced old new next now s apart priced) ∙ entries_of_repriced s now (rows_below old next)

  pub slots_repriced : slots_in new next ≡ slots_in old next
  slots_repriced = ap (map (λ (r : Row). r.slot)) (rows_repriced old new next now s apart priced) ∙ slots_of_repriced s now (rows_below old next)

  pub arrivals_repriced : ArrivalsApart new next
  arrivals_repriced = apart_repriced old new next now s apart priced

-- the entry that stands in a slot with an arrival, by the item there: `standing_item`
pub standing_is : (arena : Arena Item) (next slot arrival : ℕ) → ArrivalsApart arena next → standing_among slot arrival (entries_in arena next) (slots_in arena next) ≡ standing_item arrival (value_at arena slot)
standing_is arena next slot arrival apart =
    standing_by_item arena next slot arrival apart (standing_among slot arrival (entries_in arena next) (slots_in arena next)) (standing_row slot arrival (rows_below arena next))
