-- Numbers for each unit of a queue, and entries priced by them; for private calls only.
use Rattle.std.specs.Prelude.{Bool, List, [], if◌then◌else◌, is_some, length, not, slice_index, slice_index_or, true, ℕ, ◌<◌, ◌==◌, ◌^◌, ◌≡◌, ◌≤◌}
use Rattle.sched_base.specs.Bucket.{index}
use Rattle.sched_base.specs.Limits.{most_groups}
use Rattle.sched_base.specs.declared.Facts.{Facts}
use Rattle.flat_policy.specs.Policy.Precedence.{greatest_pri}
use Rattle.flat_policy.specs.Policy.Queue.{Clutch, Flat, Queued, clutch_entries, clutch_of, in_clutch, in_lane, lane, unit_entries}
use Rattle.flat_policy.specs.Policy.Refresh.{is_ui}
use Rattle.flat_policy.specs.Policy.Usage.{decay, priority}
use Rattle.flat_policy.specs.Policy.WellFormed.{EachQueued}
use Rattle.plain_cluster.specs.Entries.{Slotted}
use Rattle.plain_cluster.specs.declared.counts.Counts.{Counts}

-- each entry's group is one that a table has a row for
abbrev pub HaveGroups : List Queued → Type 0
HaveGroups es = EachQueued (λ (e : Queued). e.facts.group < most_groups) es

-- whether an entry stands in the unit of a thread
abbrev pub in_unit : Facts → Queued → Bool
in_unit t = if is_some t.bound then in_lane (lane t.bucket true) else in_clutch (clutch_of t)

-- the number of a clutch bucket in a table, by group and bucket index
abbrev pub cell : List (List ℕ) → Clutch → ℕ
cell table k = slice_index (slice_index_or table k.group []) (index k.bucket)

-- how many entries the unit of a thread has, by counts
abbrev pub count_of : Counts → Facts → ℕ
count_of counts t = if is_some t.bound then slice_index counts.bound (index t.bucket) else cell counts.unbound (clutch_of t)

-- the counts are those of a queue
abbrev pub CountsAre : Flat → Counts → Type 0
CountsAre s counts = (t : Facts) → count_of counts t ≡ length (unit_entries s t)

-- the greatest priorities of the clutch buckets are those of a queue
abbrev pub TopsAre : Flat → List (List ℕ) → Type 0
TopsAre s tops = (k : Clutch) → cell tops k ≡ greatest_pri (clutch_entries s k)

-- a row can be priced by counts: its unit has some entries
pub record CanPrice (counts : Counts) (r : Slotted) : Type 0 where
  pub group : r.entry.facts.group < most_groups
  pub some : 1 ≤ count_of counts r.entry.facts
  pub fits : count_of counts r.entry.facts < 2 ^ 32

-- a row with its entry decayed to now and priced by counts; one of UI stays
abbrev pub priced : Counts → ℕ → Slotted → Slotted
priced counts now r =
    let t : Facts = record r.entry.facts { usage = decay r.entry.facts.usage r.entry.facts.seen now; seen = now }
    in if is_ui r.entry.facts.bucket then r
    else record r { entry = record r.entry { facts = t; pri = priority t.base t.bucket t.usage (count_of counts r.entry.facts) } }

-- whether its priority changes
abbrev pub is_changed : Counts → ℕ → Slotted → Bool
is_changed counts now r = not ((priced counts now r).entry.pri == r.entry.pri)
