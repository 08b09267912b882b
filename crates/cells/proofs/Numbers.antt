-- The next arrival and turn of a run are bounded by the number of its lines.
use Rattle.std.proofs.Common.{◌≡◌, ℕ, ◌*◌, ◌<◌, ◌≤◌, ◌^◌, ◌==◌, nat_lt, ◌&&◌, not, true, false, List, [], ◌∷◌, length, Option, Some, option_and_then, sym, ap, subst, arith}
use Rattle.std.specs.Option.{option_map}
use Rattle.std.proofs.lemmas.Option.{none-some}
use Rattle.sched_base.specs.Limits.{most_groups, most_threads}
use Rattle.sched_base.specs.declared.Act.{Act}
use Rattle.sched_base.specs.declared.Act.TheVariants as acts
use Rattle.sched_base.specs.declared.Bucket.{Bucket}
use Rattle.sched_base.specs.declared.Facts.{Facts}
use Rattle.flat_policy.specs.declared.journal.Line.{Line}
use Rattle.flat_policy.specs.Laws.Kept.{RisesBy}
use Rattle.flat_policy.specs.Policy.Aim.{may_enter}
use Rattle.flat_policy.specs.Policy.Clusters.{HasNumbers}
use Rattle.flat_policy.specs.Policy.ClusterSteps.{Event, enter_event, look_event, named_entry, offer_event, power_event, pull_event, refresh_event, select_event}
use Rattle.flat_policy.specs.Policy.Queue.{Flat, Queued, empty_flat}
use Rattle.flat_policy.specs.Policy.Setup.{SetupParts, group_count, home_of}
use Rattle.flat_policy.specs.Runs.Histories.{CRun, CRunFrom, act_of, actor_of, bucket_of_index, entering, event_by, flat_after, moment_of}
use Rattle.flat_policy.proofs.Happens.{and_then_gives, cond_gives, map_gives, where_true_gives}
use Rattle.flat_policy.proofs.Reaches.{step_rises}
use Rattle.cells.specs.Held.{AreSmall}

-- the queue of an event rose by few
abbrev Rose : Flat → Event → Type 0
Rose s e = RisesBy 1 384 s e.flat

less : (arrivals turns : ℕ) (s : Flat) (e : Event) → arrivals ≤ 1 → turns ≤ 384 → RisesBy arrivals turns s e.flat → Rose s e
less arrivals turns s e fewer few by = record { arrival = omega (arith, by.arrival, fewer); turn = omega (arith, by.turn, few) }

event_rises : (setup : SetupParts) (c : ℕ) (s : Flat) (l : Line) (event : Event) → group_count setup ≤ most_groups → (act : Act) → event_by setup c s l act ≡ Some event → Rose s event
event_rises setup c s l event few (acts.Make name group bucket base bound) h = absurd (none-some event h)
event_rises setup c s l event few (acts.Enter at head) h =
    let o : Option Facts = l.entry.thread in
    let t = and_then_gives (entering setup c s head (moment_of l)) o event (cond_gives (at == c) (option_and_then (entering setup c s head (moment_of l)) o) event h).1 in
    let parts = where_true_gives (nat_lt (length s.entries) most_threads && may_enter setup t.0 c) (enter_event setup c t.0 head (moment_of l) s) event t.2 in
    subst (Rose s) parts.1 (less 1 1 s (enter_event setup c t.0 head (moment_of l) s) (omega arith) (omega arith) ((step_rises setup s).entering c t.0 head (moment_of l)))
event_rises setup c s l event few acts.Select h =
    subst (Rose s) (where_true_gives (home_of setup (actor_of l) == c) (select_event setup c (moment_of l) s) event h).1
    (less 0 1 s (select_event setup c (moment_of l) s) (omega arith) (omega arith) ((step_rises setup s).selecting c (moment_of l)))
event_rises setup c s l event few (acts.Offer at) h =
    let home : ℕ = home_of setup (actor_of l) in
    subst (Rose s) (where_true_gives ((at == c) && not (home == c)) (offer_event setup c home (moment_of l) s) event h).1
    (less 0 1 s (offer_event setup c home (moment_of l) s) (omega arith) (omega arith) ((step_rises setup s).offering c home (moment_of l)))
event_rises setup c s l event few (acts.Pull name) h =
    let pulling : Queued → Event = λ e. pull_event e (moment_of l) s in
    let e = map_gives pulling (named_entry s name) event (cond_gives (home_of setup (actor_of l) == c) (option_map pulling (named_entry s name)) event h).1 in
    subst (Rose s) e.2 (less 0 1 s (pull_event e.0 (moment_of l) s) (omega arith) (omega arith) ((step_rises setup s).pulling e.0 (moment_of l)))
event_rises setup c s l event few (acts.Look at) h =
    let looking : Bucket → Event = λ b. look_event setup c b (moment_of l) s in
    let o : Option Bucket = option_and_then bucket_of_index l.mark in
    let b = map_gives looking o event (cond_gives (at == c) (option_map looking o) event h).1 in
    subst (Rose s) b.2 (less 0 0 s (look_event setup c b.0 (moment_of l) s) (omega arith) (omega arith) ((step_rises setup s).looking c b.0 (moment_of l)))
event_rises setup c s l event few acts.Aim h = absurd (none-some event h)
event_rises setup c s l event few (acts.Ran us) h = absurd (none-some event h)
event_rises setup c s l event few acts.Sleep h = absurd (none-some event h)
event_rises setup c s l event few (acts.Wake name) h = absurd (none-some event h)
event_rises setup c s l event few acts.End h = absurd (none-some event h)
event_rises setup c s l event few acts.Blocked h = absurd (none-some event h)
event_rises setup c s l event few acts.Refresh h =
    subst (Rose s) (where_true_gives (home_of setup (actor_of l) == c) (refresh_event setup (moment_of l) s) event h).1
    (less 0 (group_count setup * 6) s (refresh_event setup (moment_of l) s) (omega arith) (omega (arith, few)) ((step_rises setup s).refreshing (moment_of l)))
event_rises setup c s l event few (acts.Off at) h =
    subst (Rose s) (where_true_gives (at == c) (power_event false (moment_of l) s) event h).1
    (less 0 0 s (power_event false (moment_of l) s) (omega arith) (omega arith) ((step_rises setup s).powering false (moment_of l)))
event_rises setup c s l event few (acts.On at) h =
    subst (Rose s) (where_true_gives (at == c) (power_event true (moment_of l) s) event h).1
    (less 0 0 s (power_event true (moment_of l) s) (omega arith) (omega arith) ((step_rises setup s).powering true (moment_of l)))

-- a run raises the next arrival by one for each line at the most, and the next turn by 384
run_rises : (setup : SetupParts) (c : ℕ) (s : Flat) (ls : List Line) (end : Flat) → group_count setup ≤ most_groups → CRunFrom setup c s ls end → RisesBy (length ls) (384 * length ls) s end
run_rises setup c s [] end few run = record { arrival = omega (arith, ap (λ (u : Flat). u.next_arrival) run); turn = omega (arith, ap (λ (u : Flat). u.next_turn) run) }
run_rises setup c s (l ∷ ls) end few run =
    let next : Flat = flat_after setup c s l in
    let first : RisesBy 1 384 s next = subst (RisesBy 1 384 s) (sym run.0.leads) (event_rises setup c s l run.0.event few (act_of l) run.0.happens) in
    let rest = run_rises setup c next ls end few run.1 in
    record { arrival = omega (arith, first.arrival, rest.arrival); turn = omega (arith, first.turn, rest.turn) }

-- a cluster whose journal is below 2^40 lines has its numbers far from the end of their type
pub has_numbers : (setup : SetupParts) (c : ℕ) (ls : List Line) (end : Flat) → group_count setup ≤ most_groups → length ls < 2 ^ 40 → CRun setup c ls end → HasNumbers end
has_numbers setup c ls end few short run =
    let by = run_rises setup c (empty_flat (group_count setup)) ls end few run in
    record { arrival = omega (arith, by.arrival, short); turn = omega (arith, by.turn, short) }

-- and a step for each queued thread keeps them so
pub are_small : (setup : SetupParts) (c : ℕ) (ls : List Line) (end : Flat) → group_count setup ≤ most_groups → length ls < 2 ^ 40 → CRun setup c ls end → AreSmall end
are_small setup c ls end few short run =
    let by = run_rises setup c (empty_flat (group_count setup)) ls end few run in
    record { arrival = omega (arith, by.arrival, short); turn = omega (arith, by.turn, short) }
