-- What the rows of a cluster and the numbers of its clutch buckets mean.
use Rattle.std.specs.Prelude.{Bool, List, None, Option, Some, count_by, if◌then◌else◌, length, map, max, nat_le, nat_lt, option_map, slice_get, slice_index_or, ℕ, ◌&&◌, ◌+◌, ◌==◌, ◌≤◌}
use Rattle.sched_base.specs.declared.Bucket.{Bucket}
use Rattle.sched_base.specs.Bucket.{index}
use Rattle.flat_policy.specs.Policy.Offer.{is_unbound}
use Rattle.flat_policy.specs.Policy.Queue.{Clutch, Queued, clutch_place, no_spans}
use Rattle.flat_policy.specs.Policy.Usage.{Spans, score}

-- an entry and the slot that it lies in
pub record Slotted : Type 0 where
  pub entry : Queued
  pub slot : ℕ

-- the entries of some rows
abbrev pub entries_of : List Slotted → List Queued
entries_of rows = map (λ (r : Slotted). r.entry) rows

-- the slots of some rows
abbrev pub slots_of : List Slotted → List ℕ
slots_of rows = map (λ (r : Slotted). r.slot) rows

-- whether an entry counts for the load of a bucket: it is unbound, and of that bucket or a higher one
abbrev pub is_unbound_to : Bucket → Queued → Bool
is_unbound_to b e = is_unbound e.facts && nat_le (index e.facts.bucket) (index b)

-- the entry at a place, where there is one
abbrev pub entry_at : List Slotted → Option ℕ → Option Queued
entry_at rows None = None
entry_at rows (Some place) = option_map (λ (r : Slotted). r.entry) (slice_get rows place)

-- the rows in the order of arrival, and how many more there is room for
pub record RowList : Type 0 where
  pub rows : List Slotted
  pub spare : ℕ

-- how often a slot is taken or free
abbrev pub times_there : ℕ → List ℕ → ℕ
times_there slot slots = count_by (λ k. k == slot) slots

-- each slot below their number is either taken or free, and no other is
abbrev pub EachSlotOnce : List ℕ → List ℕ → Type 0
EachSlotOnce taken free =
    (slot : ℕ) → times_there slot taken + times_there slot free ≤ (if nat_lt slot (length taken + length free) then 1 else 0)

-- what each clutch bucket used and was blocked, and its turn, by group * 6 + bucket index; and the next turn
pub record UnitList : Type 0 where
  pub spans : List Spans
  pub turns : List (Option ℕ)
  pub next_turn : ℕ

-- a group's unbound entries of one bucket
abbrev pub clutch : ℕ → Bucket → Clutch
clutch group b = record { group = group; bucket = b }

-- the score of a clutch bucket
abbrev pub score_at : List Spans → Clutch → ℕ
score_at spans k =
    score (slice_index_or spans (clutch_place k) no_spans).used (slice_index_or spans (clutch_place k) no_spans).blocked k.bucket

-- the greater of a number that may be missing and one more
abbrev pub higher : Option ℕ → ℕ → Option ℕ
higher None pri = Some pri
higher (Some top) pri = Some (max top pri)
