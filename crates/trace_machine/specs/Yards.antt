-- The yard of a machine in code: blocked threads in slots, the number of live threads, and where each name stands.
use Rattle.std.specs.Prelude.{Bool, List, None, Option, Some, false, slice_index_or, ℕ, ◌==◌}
use Rattle.std.specs.BTreeMap.{is_at}
use Rattle.std.specs.Map.{lookup}
use Rattle.std.specs.Ordering.{nat_cmp}
use Rattle.link_arena.specs.Arena.{Arena}
use Rattle.sched_base.specs.declared.Place.{Place}
use Rattle.sched_base.specs.declared.Place.TheVariants as places
use Rattle.flat_policy.specs.Policy.Machine.{Sleeper}
use Rattle.trace_machine.specs.declared.names.Standing.{Standing}
use Rattle.trace_machine.specs.declared.names.Standing.TheVariants as standings
use Rattle.trace_machine.specs.declared.yard.Resting.{Resting}

-- the blocked threads in their slots, how many threads live, and the last moment
pub record YardView : Type 0 where
  pub sleepers : Arena Resting
  pub live : ℕ
  pub last : ℕ

-- a blocked thread as the policy's
abbrev pub sleeper_in : Resting → Sleeper
sleeper_in w = record { facts = w.thread; since = w.since }

-- a table of names: a list by number, and the entries of the names that the list doesn't have
pub record NamesView : Type 0 where
  pub near : List (Option Standing)
  pub far : List (ℕ × Standing)

-- the first standing where there is one, otherwise the second
abbrev pub or_second : Option Standing → Option Standing → Option Standing
or_second None second = second
or_second (Some s) second = Some s

-- where a name stands, by a table of names
abbrev pub standing_of : NamesView → ℕ → Option Standing
standing_of names name = or_second (slice_index_or names.near name None) (lookup (is_at (nat_cmp name)) names.far)

-- the place that a standing names, and nowhere for a name that was never made
abbrev pub place_in : Option Standing → Place
place_in None = places.Nowhere
place_in (Some (standings.Queued t)) = places.Queue t.cluster
place_in (Some (standings.Held a)) = places.Hand a
place_in (Some (standings.Blocked slot)) = places.Blocked
place_in (Some standings.Ended) = places.Ended

-- the slot that a standing names in the yard
abbrev pub slot_in : Option Standing → Option ℕ
slot_in None = None
slot_in (Some (standings.Queued t)) = None
slot_in (Some (standings.Held a)) = None
slot_in (Some (standings.Blocked slot)) = Some slot
slot_in (Some standings.Ended) = None

-- whether a standing is one in the queue of a cluster
abbrev pub is_queued_at : ℕ → Option Standing → Bool
is_queued_at c None = false
is_queued_at c (Some (standings.Queued t)) = t.cluster == c
is_queued_at c (Some (standings.Held a)) = false
is_queued_at c (Some (standings.Blocked slot)) = false
is_queued_at c (Some standings.Ended) = false
