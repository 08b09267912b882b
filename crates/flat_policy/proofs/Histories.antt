-- Every history of a cluster leaves its queue well-formed.
use Rattle.std.proofs.Common.{◌≡◌, ℕ, ◌==◌, nat_lt, ◌&&◌, not, Bool, true, false, List, [], ◌∷◌, length, Option, Some, option_and_then, sym, subst}
use Rattle.std.specs.Option.{option_map}
use Rattle.std.proofs.lemmas.Bool.{and_parts, ltb-true}
use Rattle.std.proofs.lemmas.Option.{none-some}
use Rattle.sched_base.specs.Limits.{most_threads}
use Rattle.sched_base.specs.declared.Act.{Act}
use Rattle.sched_base.specs.declared.Act.TheVariants as acts
use Rattle.sched_base.specs.declared.Bucket.{Bucket}
use Rattle.sched_base.specs.declared.Facts.{Facts}
use Rattle.flat_policy.specs.declared.journal.Line.{Line}
use Rattle.flat_policy.specs.Policy.Aim.{may_enter}
use Rattle.flat_policy.specs.Policy.ClusterSteps.{Event, enter_event, look_event, named_entry, offer_event, power_event, pull_event, refresh_event, select_event}
use Rattle.flat_policy.specs.Policy.Queue.{Flat, Queued, empty_flat}
use Rattle.flat_policy.specs.Policy.Setup.{SetupParts, group_count, home_of}
use Rattle.flat_policy.specs.Policy.WellFormed.{WellFormed}
use Rattle.flat_policy.specs.Runs.Histories.{CRun, CRunFrom, CStep, EntersFitting, act_of, actor_of, bucket_of_index, entering, event_by, flat_after, moment_of}
use Rattle.flat_policy.proofs.Happens.{and_then_gives, cond_gives, map_gives, where_true_gives}
use Rattle.flat_policy.proofs.Members.{find_finds}
use Rattle.flat_policy.proofs.StepsKeep.{empty_fits, steps_keep}

-- the queue of an event is well-formed
abbrev Formed : SetupParts → Event → Type 0
Formed setup e = WellFormed (group_count setup) e.flat

enter_formed : (setup : SetupParts) (c : ℕ) (s : Flat) (head : Bool) (now at : ℕ) (o : Option Facts) (event : Event) → WellFormed (group_count setup) s → EntersFitting setup (acts.Enter at head) o → option_and_then (entering setup c s head now) o ≡ Some event → Formed setup event
enter_formed setup c s head now at o event w fitting h =
    let t = and_then_gives (entering setup c s head now) o event h in
    let parts = where_true_gives (nat_lt (length s.entries) most_threads && may_enter setup t.0 c) (enter_event setup c t.0 head now s) event t.2 in
    let room = and_parts (nat_lt (length s.entries) most_threads) (may_enter setup t.0 c) parts.0 in
    subst (Formed setup) parts.1
    ((steps_keep setup s w).entering c t.0 head now (ltb-true (length s.entries) most_threads room.0) (subst (EntersFitting setup (acts.Enter at head)) t.1 fitting))

event_formed : (setup : SetupParts) (c : ℕ) (s : Flat) (l : Line) (event : Event) → WellFormed (group_count setup) s → (act : Act) → EntersFitting setup act l.entry.thread → event_by setup c s l act ≡ Some event → Formed setup event
event_formed setup c s l event w (acts.Make name group bucket base bound) fitting h = absurd (none-some event h)
event_formed setup c s l event w (acts.Enter at head) fitting h =
    enter_formed setup c s head (moment_of l) at l.entry.thread event w fitting
    (cond_gives (at == c) (option_and_then (entering setup c s head (moment_of l)) l.entry.thread) event h).1
event_formed setup c s l event w acts.Select fitting h =
    subst (Formed setup) (where_true_gives (home_of setup (actor_of l) == c) (select_event setup c (moment_of l) s) event h).1
    ((steps_keep setup s w).selecting c (moment_of l))
event_formed setup c s l event w (acts.Offer at) fitting h =
    let home : ℕ = home_of setup (actor_of l) in
    subst (Formed setup) (where_true_gives ((at == c) && not (home == c)) (offer_event setup c home (moment_of l) s) event h).1
    ((steps_keep setup s w).offering c home (moment_of l))
event_formed setup c s l event w (acts.Pull name) fitting h =
    let pulling : Queued → Event = λ e. pull_event e (moment_of l) s in
    let e = map_gives pulling (named_entry s name) event (cond_gives (home_of setup (actor_of l) == c) (option_map pulling (named_entry s name)) event h).1 in
    subst (Formed setup) e.2 ((steps_keep setup s w).pulling e.0 (moment_of l) (find_finds (λ (q : Queued). q.facts.name == name) s.entries e.0 e.1).0)
event_formed setup c s l event w (acts.Look at) fitting h =
    let looking : Bucket → Event = λ b. look_event setup c b (moment_of l) s in
    let o : Option Bucket = option_and_then bucket_of_index l.mark in
    let b = map_gives looking o event (cond_gives (at == c) (option_map looking o) event h).1 in
    subst (Formed setup) b.2 ((steps_keep setup s w).looking c b.0 (moment_of l))
event_formed setup c s l event w acts.Aim fitting h = absurd (none-some event h)
event_formed setup c s l event w (acts.Ran us) fitting h = absurd (none-some event h)
event_formed setup c s l event w acts.Sleep fitting h = absurd (none-some event h)
event_formed setup c s l event w (acts.Wake name) fitting h = absurd (none-some event h)
event_formed setup c s l event w acts.End fitting h = absurd (none-some event h)
event_formed setup c s l event w acts.Blocked fitting h = absurd (none-some event h)
event_formed setup c s l event w acts.Refresh fitting h =
    subst (Formed setup) (where_true_gives (home_of setup (actor_of l) == c) (refresh_event setup (moment_of l) s) event h).1
    ((steps_keep setup s w).refreshing (moment_of l))
event_formed setup c s l event w (acts.Off at) fitting h =
    subst (Formed setup) (where_true_gives (at == c) (power_event false (moment_of l) s) event h).1
    ((steps_keep setup s w).powering false (moment_of l))
event_formed setup c s l event w (acts.On at) fitting h =
    subst (Formed setup) (where_true_gives (at == c) (power_event true (moment_of l) s) event h).1
    ((steps_keep setup s w).powering true (moment_of l))

pub step_formed : (setup : SetupParts) (c : ℕ) (s : Flat) (l : Line) (next : Flat) → WellFormed (group_count setup) s → CStep setup c s l next → WellFormed (group_count setup) next
step_formed setup c s l next w step =
    subst (WellFormed (group_count setup)) (sym step.leads) (event_formed setup c s l step.event w (act_of l) step.entering step.happens)

run_formed : (setup : SetupParts) (c : ℕ) (s : Flat) (ls : List Line) (end : Flat) → WellFormed (group_count setup) s → CRunFrom setup c s ls end → WellFormed (group_count setup) end
run_formed setup c s [] end w run = subst (WellFormed (group_count setup)) (sym run) w
run_formed setup c s (l ∷ ls) end w run =
    run_formed setup c (flat_after setup c s l) ls end (step_formed setup c s l (flat_after setup c s l) w run.0) run.1

pub histories_formed : (setup : SetupParts) (c : ℕ) (ls : List Line) (end : Flat) → CRun setup c ls end → WellFormed (group_count setup) end
histories_formed setup c ls end run = run_formed setup c (empty_flat (group_count setup)) ls end (empty_fits (group_count setup)) run
