-- Refreshing a queue: every entry is priced anew.
use Rattle.std.specs.Prelude.{Bool, List, count_by, flat_map, fold, if◌then◌else◌, length, map, not, ℕ, ◌==◌}
use Rattle.sched_base.specs.Bucket.{index}
use Rattle.sched_base.specs.declared.Bucket.{Bucket}
use Rattle.sched_base.specs.declared.Facts.{Facts}
use Rattle.flat_policy.specs.Policy.Moves.{with_next_turn}
use Rattle.flat_policy.specs.Policy.Precedence.{clutch_priority}
use Rattle.flat_policy.specs.Policy.Queue.{Clutch, Flat, Queued, unit_entries}
use Rattle.flat_policy.specs.Policy.Setup.{all_buckets, numbers_below}
use Rattle.flat_policy.specs.Policy.Usage.{decay, priority}

-- whether a bucket is UI
abbrev pub is_ui : Bucket → Bool
is_ui b = index b == 0

-- an entry decayed to now and priced again; one of UI stays
abbrev pub repriced : Flat → ℕ → Queued → Queued
repriced s now e =
    let t : Facts = record e.facts { usage = decay e.facts.usage e.facts.seen now; seen = now }
    in if is_ui e.facts.bucket then e
    else record e { facts = t; pri = priority t.base t.bucket t.usage (length (unit_entries s e.facts)) }

-- the clutch buckets of one bucket, for so many groups
abbrev pub clutches_of : ℕ → Bucket → List Clutch
clutches_of groups b = map (λ g. record { group = g; bucket = b }) (numbers_below groups)

-- all clutch buckets of so many groups, by bucket index, then group
abbrev pub all_clutches : ℕ → List Clutch
all_clutches groups = flat_map (clutches_of groups) all_buckets

-- a clutch bucket whose priority is not the one before takes the next turn
abbrev pub turn_on_refresh : Flat → Flat → Clutch → Flat
turn_on_refresh before s k = if clutch_priority before k == clutch_priority s k then s else with_next_turn k s

-- the queue with every entry priced anew, before the turns
abbrev pub with_new_prices : Flat → ℕ → Flat
with_new_prices s now = record s { entries = map (repriced s now) s.entries; last = now }

-- the queue after a refresh
abbrev pub refreshed : ℕ → Flat → ℕ → Flat
refreshed groups s now = fold (turn_on_refresh s) (with_new_prices s now) (all_clutches groups)

-- how many entries a refresh gives another priority
abbrev pub repriced_count : Flat → ℕ → ℕ
repriced_count s now = count_by (λ (e : Queued). not ((repriced s now e).pri == e.pri)) s.entries
