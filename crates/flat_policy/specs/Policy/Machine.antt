-- The machine: a queue for each cluster, a hand for each actor, and the yard of blocked and ended threads. Every step has one reply.
use Rattle.std.specs.List.{list_any}
use Rattle.std.specs.Option.{option_map_or}
use Rattle.std.specs.Prelude.{Bool, Err, IsTrue, List, None, Ok, Option, Result, Some, [], count_by, false, filter, find, if◌then◌else◌, is_none, is_some, length, max, nat_le, nat_lt, not, replicate, slice_index_or, slice_set, sum_by, true, unwrap_or, ℕ, ◌&&◌, ◌++◌, ◌+◌, ◌-◌, ◌==◌, ◌^◌, ◌∷◌, ◌≡◌}
use Rattle.sched_base.specs.Facts.{charged, rested}
use Rattle.sched_base.specs.Limits.{moment_limit, most_base}
use Rattle.sched_base.specs.declared.Act.{Act}
use Rattle.sched_base.specs.declared.Answer.{Answer}
use Rattle.sched_base.specs.declared.Entry.{Entry}
use Rattle.sched_base.specs.declared.Facts.{Facts}
use Rattle.sched_base.specs.declared.Place.{Place}
use Rattle.sched_base.specs.declared.Spot.{Spot}
use Rattle.sched_base.specs.declared.Step.{Step}
use Rattle.flat_policy.specs.Policy.Aim.{Look, aim, off, loaded, may_enter, not_looked}
use Rattle.flat_policy.specs.Policy.ClusterSteps.{Event, enter_event, look_event, named_entry, offer_event, power_event, pull_event, refresh_event, select_event}
use Rattle.flat_policy.specs.Policy.Queue.{Flat, Queued, empty_flat}
use Rattle.flat_policy.specs.Policy.Setup.{SetupParts, actor_count, cluster_count, group_count, home_of, rate_of}
use Rattle.flat_policy.specs.Policy.Threads.{made_thread}
use Rattle.sched_base.specs.declared.Act.TheVariants as acts
use Rattle.sched_base.specs.declared.Answer.TheVariants as answers
use Rattle.sched_base.specs.declared.Place.TheVariants as places
use Rattle.sched_base.specs.declared.Spot.TheVariants as spots

-- an actor's hand: its thread, its looks by cluster since it was filled, and the actor's last moment
pub record Hand : Type 0 where
  pub thread : Option Facts
  pub looks : List (Option Look)
  pub last : ℕ

-- a blocked thread, and when it went to sleep
pub record Sleeper : Type 0 where
  pub facts : Facts
  pub since : ℕ

-- the yard: the blocked threads, the names ended, the names ever made, and its last moment
pub record Yard : Type 0 where
  pub blocked : List Sleeper
  pub ended : List ℕ
  pub made : List ℕ
  pub last : ℕ

-- the whole state
pub record MachineState : Type 0 where
  pub flats : List Flat
  pub hands : List Hand
  pub yard : Yard

-- looks at no cluster
abbrev pub no_looks : SetupParts → List (Option Look)
no_looks setup = replicate (cluster_count setup) None

-- a hand that holds nothing
abbrev pub empty_hand : SetupParts → ℕ → Hand
empty_hand setup last = record { thread = None; looks = no_looks setup; last = last }

-- the yard before any step
abbrev pub empty_yard : Yard
empty_yard = record { blocked = []; ended = []; made = []; last = 0 }

-- the machine before any step
abbrev pub empty_machine : SetupParts → MachineState
empty_machine setup = record {
  flats = replicate (cluster_count setup) (empty_flat (group_count setup));
  hands = replicate (actor_count setup) (empty_hand setup 0);
  yard = empty_yard;
}

-- the queue of a cluster
abbrev pub flat_at : MachineState → ℕ → Flat
flat_at g c = slice_index_or g.flats c (empty_flat 0)

-- the hand of an actor that is not there
abbrev pub no_hand : Hand
no_hand = record { thread = None; looks = []; last = 0 }

-- the hand of an actor
abbrev pub hand_at : MachineState → ℕ → Hand
hand_at g a = slice_index_or g.hands a no_hand

-- where an act happens: at the actor's home, at a named cluster, in the yard, or in the hand alone
pub data Site : Type 0 where
  at_home : Site
  at_named : ℕ → Site
  in_the_yard : Site
  in_hand : Site

-- where each act happens
abbrev pub site_of : Act → Site
site_of (acts.Make name group bucket base bound) = in_the_yard
site_of (acts.Enter c head) = at_named c
site_of acts.Select = at_home
site_of (acts.Offer c) = at_named c
site_of (acts.Pull name) = at_home
site_of (acts.Look c) = at_named c
site_of acts.Aim = in_hand
site_of (acts.Ran us) = in_hand
site_of acts.Sleep = in_the_yard
site_of (acts.Wake name) = in_the_yard
site_of acts.End = in_the_yard
site_of acts.Blocked = in_the_yard
site_of acts.Refresh = at_home
site_of (acts.Off c) = at_named c
site_of (acts.On c) = at_named c

-- the spot of a site: a cluster, the yard, or none; home is the cluster of the actor
abbrev pub spot_from : ℕ → Site → Option Spot
spot_from home at_home = Some (spots.Cluster home)
spot_from home (at_named c) = Some (spots.Cluster c)
spot_from home in_the_yard = Some spots.Yard
spot_from home in_hand = None

-- the spot of a step
abbrev pub spot_of : SetupParts → Step → Option Spot
spot_of setup step = spot_from (home_of setup step.actor) (site_of step.act)

-- the last moment of a spot, 0 for none
abbrev pub last_at : MachineState → Option Spot → ℕ
last_at g None = 0
last_at g (Some (spots.Cluster c)) = (flat_at g c).last
last_at g (Some spots.Yard) = g.yard.last

-- the effective moment: the greatest of the handed one, the actor's last and the spot's last
abbrev pub effective_moment : SetupParts → MachineState → Step → ℕ
effective_moment setup g step = max (max step.moment (hand_at g step.actor).last) (last_at g (spot_of setup step))

-- the first of some queues that has a name, with the clusters numbered from c on
abbrev pub queued_in : List Flat → ℕ → ℕ → Option Place
queued_in [] c name = None
queued_in (s ∷ ss) c name = if is_some (named_entry s name) then Some (places.Queue c) else queued_in ss (c + 1) name

-- whether a hand holds a thread of that name
abbrev pub holds : ℕ → Option Facts → Bool
holds name None = false
holds name (Some t) = t.name == name

-- the first of some hands that holds a name, with the actors numbered from a on
abbrev pub held_by : List Hand → ℕ → ℕ → Option Place
held_by [] a name = None
held_by (h ∷ hs) a name = if holds name h.thread then Some (places.Hand a) else held_by hs (a + 1) name

-- whether a name is blocked in the yard
abbrev pub is_blocked : Yard → ℕ → Bool
is_blocked y name = list_any (λ (w : Sleeper). w.facts.name == name) y.blocked

-- where a name stands that is in no queue and no hand: blocked, ended, or nowhere
abbrev pub in_yard : Yard → ℕ → Place
in_yard y name = if is_blocked y name then places.Blocked else (if list_any (λ n. n == name) y.ended then places.Ended else places.Nowhere)

-- where a name stands: the first of the queues, then the hands, then the yard that has it
abbrev pub place_of : MachineState → ℕ → Place
place_of g name = unwrap_or (queued_in g.flats 0 name) (unwrap_or (held_by g.hands 0 name) (in_yard g.yard name))

-- a refusal, and whether its condition holds
pub record Refusal : Type 0 where
  pub holds : Bool
  pub answer : Answer

-- a refusal by its condition and its answer
abbrev pub refuse : Bool → Answer → Refusal
refuse holds answer = record { holds = holds; answer = answer }

-- a refusal that never comes
abbrev pub no_refusal : Refusal
no_refusal = refuse false answers.HandEmpty

-- the first refusal whose condition holds
abbrev pub first_refusal : List Refusal → Option Answer
first_refusal [] = None
first_refusal (r ∷ rs) = if r.holds then Some r.answer else first_refusal rs

-- refused where the hand holds a thread
abbrev pub hand_full : Hand → Refusal
hand_full h = refuse (is_some h.thread) answers.HandFull

-- refused where the hand holds no thread
abbrev pub hand_empty : Hand → Refusal
hand_empty h = refuse (is_none h.thread) answers.HandEmpty

-- how many threads live: those made less those ended
abbrev pub live_count : Yard → ℕ
live_count y = length y.made - length y.ended

-- refused where the name was used before
abbrev pub name_used : Yard → ℕ → Refusal
name_used y name = refuse (list_any (λ n. n == name) y.made) answers.NameUsed

-- refused where as many threads live as the setup allows
abbrev pub no_room : SetupParts → Yard → Refusal
no_room setup y = refuse (nat_le setup.threads (live_count y)) answers.NoRoom

-- refused where the hand's thread may not enter the cluster
abbrev pub not_allowed : SetupParts → Option Facts → ℕ → Refusal
not_allowed setup None c = no_refusal
not_allowed setup (Some t) c = refuse (not (may_enter setup t c)) answers.NotAllowed

-- refused where the name does not stand in the home's queue
abbrev pub not_queued : MachineState → Flat → ℕ → Refusal
not_queued g s name = refuse (is_none (named_entry s name)) (answers.NotQueued (place_of g name))

-- refused where the name is not blocked
abbrev pub not_blocked : MachineState → ℕ → Refusal
not_blocked g name = refuse (not (is_blocked g.yard name)) (answers.NotBlocked (place_of g name))

-- refused where a cluster has to be looked at first
abbrev pub look_first_by : Option ℕ → Refusal
look_first_by None = no_refusal
look_first_by (Some c) = refuse true (answers.LookFirst c)

-- refused where the aim of the hand's thread lacks a look
abbrev pub look_first : SetupParts → Hand → Option Facts → Refusal
look_first setup h None = no_refusal
look_first setup h (Some t) = look_first_by (not_looked setup h.looks t)

-- the refusals of each step, in their order
abbrev pub refusals_by : SetupParts → MachineState → ℕ → Hand → Act → List Refusal
refusals_by setup g a h (acts.Make name group bucket base bound) = hand_full h ∷ name_used g.yard name ∷ no_room setup g.yard ∷ []
refusals_by setup g a h (acts.Enter c head) = hand_empty h ∷ not_allowed setup h.thread c ∷ []
refusals_by setup g a h acts.Select = hand_full h ∷ []
refusals_by setup g a h (acts.Offer c) = hand_full h ∷ refuse (c == home_of setup a) answers.OwnCluster ∷ []
refusals_by setup g a h (acts.Pull name) = hand_full h ∷ not_queued g (flat_at g (home_of setup a)) name ∷ []
refusals_by setup g a h (acts.Look c) = hand_empty h ∷ []
refusals_by setup g a h acts.Aim = hand_empty h ∷ look_first setup h h.thread ∷ []
refusals_by setup g a h (acts.Ran us) = hand_empty h ∷ []
refusals_by setup g a h acts.Sleep = hand_empty h ∷ []
refusals_by setup g a h (acts.Wake name) = hand_full h ∷ not_blocked g name ∷ []
refusals_by setup g a h acts.End = hand_empty h ∷ []
refusals_by setup g a h acts.Blocked = []
refusals_by setup g a h acts.Refresh = []
refusals_by setup g a h (acts.Off c) = []
refusals_by setup g a h (acts.On c) = []

-- the refusal of a step, where it is refused
abbrev pub refusal : SetupParts → MachineState → Step → Option Answer
refusal setup g step = first_refusal (refusals_by setup g step.actor (hand_at g step.actor) step.act)

-- a hand with a new thread, which forgets its looks
abbrev pub filled_hand : SetupParts → Facts → ℕ → Hand
filled_hand setup t now = record { thread = Some t; looks = no_looks setup; last = now }

-- a hand as it was, with another last moment
abbrev pub kept_hand : Hand → ℕ → Hand
kept_hand h now = record h { last = now }

-- a hand that takes the thread that a step moved, if it moved one
abbrev pub taking_hand : SetupParts → Hand → Option Facts → ℕ → Hand
taking_hand setup h None now = kept_hand h now
taking_hand setup h (Some t) now = filled_hand setup t now

-- a look, as the answer tells it
abbrev pub look_told : Answer → Look
look_told (answers.Load l) = loaded l
look_told _ = off

-- a hand with the look that a look's answer tells
abbrev pub looked_hand : Hand → ℕ → Answer → ℕ → Hand
looked_hand h c answer now = record h { looks = slice_set h.looks c (Some (look_told answer)); last = now }

-- one actor's hand changes
abbrev pub with_hand : ℕ → Hand → MachineState → MachineState
with_hand a h g = record g { hands = slice_set g.hands a h }

-- one cluster's queue changes
abbrev pub with_flat : ℕ → Flat → MachineState → MachineState
with_flat c s g = record g { flats = slice_set g.flats c s }

-- the yard changes
abbrev pub with_yard : Yard → MachineState → MachineState
with_yard y g = record g { yard = y }

-- what an accepted step comes to
pub record Outcome : Type 0 where
  pub answer : Answer
  pub thread : Option Facts
  pub state : MachineState

-- a step at a cluster that puts what it takes into the actor's hand
abbrev pub taking : SetupParts → MachineState → ℕ → Hand → ℕ → ℕ → Event → Outcome
taking setup g a h c now e =
    record { answer = e.answer; thread = e.thread; state = with_hand a (taking_hand setup h e.thread now) (with_flat c e.flat g) }

-- a step at a cluster that leaves the hand's thread and looks
abbrev pub leaving_hand : MachineState → ℕ → Hand → ℕ → ℕ → Event → Outcome
leaving_hand g a h c now e = record { answer = e.answer; thread = None; state = with_hand a (kept_hand h now) (with_flat c e.flat g) }

-- a step that has no effect; no accepted step comes to it
abbrev pub nothing_done : MachineState → Outcome
nothing_done g = record { answer = answers.Yes; thread = None; state = g }

-- making a thread
abbrev pub make_outcome : SetupParts → MachineState → ℕ → ℕ → Facts → Outcome
make_outcome setup g a now t = record {
  answer = answers.Yes;
  thread = Some t;
  state = with_hand a (filled_hand setup t now) (with_yard (record g.yard { made = g.yard.made ++ t.name ∷ []; last = now }) g);
}

-- entering a cluster's queue, by what that comes to there
abbrev pub enter_outcome_by : SetupParts → MachineState → ℕ → ℕ → ℕ → Event → Outcome
enter_outcome_by setup g a c now e =
    record { answer = e.answer; thread = e.thread; state = with_hand a (empty_hand setup now) (with_flat c e.flat g) }

-- entering a cluster's queue with the hand's thread
abbrev pub enter_outcome : SetupParts → MachineState → ℕ → ℕ → Bool → ℕ → Option Facts → Outcome
enter_outcome setup g a c head now None = nothing_done g
enter_outcome setup g a c head now (Some t) = enter_outcome_by setup g a c now (enter_event setup c t head now (flat_at g c))

-- pulling a named thread
abbrev pub pull_outcome : SetupParts → MachineState → ℕ → Hand → ℕ → ℕ → Option Queued → Outcome
pull_outcome setup g a h c now None = nothing_done g
pull_outcome setup g a h c now (Some e) = taking setup g a h c now (pull_event e now (flat_at g c))

-- looking at a cluster, by what that comes to there
abbrev pub look_outcome_by : MachineState → ℕ → Hand → ℕ → ℕ → Event → Outcome
look_outcome_by g a h c now e = record { answer = e.answer; thread = None; state = with_hand a (looked_hand h c e.answer now) (with_flat c e.flat g) }

-- looking at a cluster for the bucket of the hand's thread
abbrev pub look_outcome : SetupParts → MachineState → ℕ → Hand → ℕ → ℕ → Option Facts → Outcome
look_outcome setup g a h c now None = nothing_done g
look_outcome setup g a h c now (Some t) = look_outcome_by g a h c now (look_event setup c t.bucket now (flat_at g c))

-- the aim as an answer
abbrev pub aim_answer : Result ℕ ℕ → Answer
aim_answer (Ok c) = answers.To c
aim_answer (Err c) = answers.LookFirst c

-- aiming with the hand's thread and looks
abbrev pub aim_outcome : SetupParts → MachineState → ℕ → Hand → ℕ → Option Facts → Outcome
aim_outcome setup g a h now None = nothing_done g
aim_outcome setup g a h now (Some t) =
    record { answer = aim_answer (aim setup h.looks t); thread = None; state = with_hand a (kept_hand h now) g }

-- the hand's thread as charged
abbrev pub ran_outcome_by : MachineState → ℕ → Hand → ℕ → Facts → Outcome
ran_outcome_by g a h now t = record { answer = answers.Work t.work; thread = Some t; state = with_hand a (record h { thread = Some t; last = now }) g }

-- charging the hand's thread at the rate of the actor's home
abbrev pub ran_outcome : SetupParts → MachineState → ℕ → Hand → ℕ → ℕ → Option Facts → Outcome
ran_outcome setup g a h us now None = nothing_done g
ran_outcome setup g a h us now (Some t) = ran_outcome_by g a h now (charged us (rate_of setup (home_of setup a)) t)

-- putting the hand's thread among the blocked ones
abbrev pub sleep_outcome : SetupParts → MachineState → ℕ → ℕ → Option Facts → Outcome
sleep_outcome setup g a now None = nothing_done g
sleep_outcome setup g a now (Some t) = record {
  answer = answers.Yes;
  thread = Some t;
  state = with_hand a (empty_hand setup now)
      (with_yard (record g.yard { blocked = g.yard.blocked ++ record { facts = t; since = now } ∷ []; last = now }) g);
}

-- the blocked thread of a name
abbrev pub sleeper_of : Yard → ℕ → Option Sleeper
sleeper_of y name = find (λ (w : Sleeper). w.facts.name == name) y.blocked

-- the blocked threads without that of a name
abbrev pub sleepers_without : ℕ → List Sleeper → List Sleeper
sleepers_without name ws = filter (λ (w : Sleeper). not (w.facts.name == name)) ws

-- a woken thread goes from the yard into the hand
abbrev pub wake_outcome_by : SetupParts → MachineState → ℕ → ℕ → Facts → Outcome
wake_outcome_by setup g a now t = record {
  answer = answers.Yes;
  thread = Some t;
  state = with_hand a (filled_hand setup t now)
      (with_yard (record g.yard { blocked = sleepers_without t.name g.yard.blocked; last = now }) g);
}

-- waking a blocked thread: the span since it went to sleep is to be counted
abbrev pub wake_outcome : SetupParts → MachineState → ℕ → ℕ → Option Sleeper → Outcome
wake_outcome setup g a now None = nothing_done g
wake_outcome setup g a now (Some w) = wake_outcome_by setup g a now (rested (now - w.since) w.facts)

-- ending the hand's thread
abbrev pub end_outcome : SetupParts → MachineState → ℕ → ℕ → Option Facts → Outcome
end_outcome setup g a now None = nothing_done g
end_outcome setup g a now (Some t) = record {
  answer = answers.Yes;
  thread = Some t;
  state = with_hand a (empty_hand setup now) (with_yard (record g.yard { ended = g.yard.ended ++ t.name ∷ []; last = now }) g);
}

-- counting the blocked threads
abbrev pub blocked_outcome : MachineState → ℕ → Hand → ℕ → Outcome
blocked_outcome g a h now = record {
  answer = answers.Left (length g.yard.blocked);
  thread = None;
  state = with_hand a (kept_hand h now) (with_yard (record g.yard { last = now }) g);
}

-- what each accepted step comes to
abbrev pub accepted_by : SetupParts → MachineState → ℕ → Hand → ℕ → Act → Outcome
accepted_by setup g a h now (acts.Make name group bucket base bound) = make_outcome setup g a now (made_thread setup name group bucket base bound now)
accepted_by setup g a h now (acts.Enter c head) = enter_outcome setup g a c head now h.thread
accepted_by setup g a h now acts.Select =
    taking setup g a h (home_of setup a) now (select_event setup (home_of setup a) now (flat_at g (home_of setup a)))
accepted_by setup g a h now (acts.Offer c) = taking setup g a h c now (offer_event setup c (home_of setup a) now (flat_at g c))
accepted_by setup g a h now (acts.Pull name) =
    pull_outcome setup g a h (home_of setup a) now (named_entry (flat_at g (home_of setup a)) name)
accepted_by setup g a h now (acts.Look c) = look_outcome setup g a h c now h.thread
accepted_by setup g a h now acts.Aim = aim_outcome setup g a h now h.thread
accepted_by setup g a h now (acts.Ran us) = ran_outcome setup g a h us now h.thread
accepted_by setup g a h now acts.Sleep = sleep_outcome setup g a now h.thread
accepted_by setup g a h now (acts.Wake name) = wake_outcome setup g a now (sleeper_of g.yard name)
accepted_by setup g a h now acts.End = end_outcome setup g a now h.thread
accepted_by setup g a h now acts.Blocked = blocked_outcome g a h now
accepted_by setup g a h now acts.Refresh =
    leaving_hand g a h (home_of setup a) now (refresh_event setup now (flat_at g (home_of setup a)))
accepted_by setup g a h now (acts.Off c) = leaving_hand g a h c now (power_event false now (flat_at g c))
accepted_by setup g a h now (acts.On c) = leaving_hand g a h c now (power_event true now (flat_at g c))

-- what a step comes to by its refusal, if it has one: a refused step leaves all as it was
abbrev pub outcome_by : SetupParts → MachineState → Step → Option Answer → Outcome
outcome_by setup g step (Some answer) = record { answer = answer; thread = None; state = g }
outcome_by setup g step None = accepted_by setup g step.actor (hand_at g step.actor) (effective_moment setup g step) step.act

-- what a step comes to
abbrev pub outcome : SetupParts → MachineState → Step → Outcome
outcome setup g step = outcome_by setup g step (refusal setup g step)

-- the reply: the step at its effective moment, its answer, and the thread that it moved or charged
abbrev pub reply : SetupParts → MachineState → Step → Entry
reply setup g step = record {
  step = record step { moment = effective_moment setup g step };
  answer = (outcome setup g step).answer;
  thread = (outcome setup g step).thread;
}

-- the state after a step
abbrev pub state_after : SetupParts → MachineState → Step → MachineState
state_after setup g step = (outcome setup g step).state

-- the replies to a list of steps
abbrev pub replies : SetupParts → MachineState → List Step → List Entry
replies setup g [] = []
replies setup g (step ∷ steps) = reply setup g step ∷ replies setup (state_after setup g step) steps

-- the state after a list of steps
abbrev pub states_after : SetupParts → MachineState → List Step → MachineState
states_after setup g [] = g
states_after setup g (step ∷ steps) = states_after setup (state_after setup g step) steps

-- whether the names and spans of an act are below 2^32
abbrev pub numbers_fit : Act → Bool
numbers_fit (acts.Make name group bucket base bound) = nat_lt name (2 ^ 32)
numbers_fit (acts.Pull name) = nat_lt name (2 ^ 32)
numbers_fit (acts.Wake name) = nat_lt name (2 ^ 32)
numbers_fit (acts.Ran us) = nat_lt us (2 ^ 32)
numbers_fit _ = true

-- whether a cluster that an act names is there, and whether a thread that it makes is in range
abbrev pub fits_act : SetupParts → Act → Bool
fits_act setup (acts.Make name group bucket base bound) =
    nat_lt group (group_count setup) && (nat_le base most_base && option_map_or (λ c. nat_lt c (cluster_count setup)) bound true)
fits_act setup (acts.Enter c head) = nat_lt c (cluster_count setup)
fits_act setup (acts.Offer c) = nat_lt c (cluster_count setup)
fits_act setup (acts.Look c) = nat_lt c (cluster_count setup)
fits_act setup (acts.Off c) = nat_lt c (cluster_count setup)
fits_act setup (acts.On c) = nat_lt c (cluster_count setup)
fits_act setup _ = true

-- whether the setup fits a step: its moment, actor, clusters, group, base, bound cluster, names and spans are in range
abbrev pub fits_step : SetupParts → Step → Bool
fits_step setup step =
    nat_lt step.moment moment_limit
    && (nat_lt step.actor (actor_count setup) && (fits_act setup step.act && numbers_fit step.act))

-- a history from a state: each line is a step that the setup fits, and is what the machine replies to it
abbrev pub RunsFrom : SetupParts → MachineState → List Entry → MachineState → Type 0
RunsFrom setup g [] end = end ≡ g
RunsFrom setup g (e ∷ es) end =
    IsTrue (fits_step setup e.step) × (reply setup g e.step ≡ e) × RunsFrom setup (state_after setup g e.step) es end

-- a history of the machine: one from its empty state
abbrev pub GRun : SetupParts → List Entry → MachineState → Type 0
GRun setup history end = RunsFrom setup (empty_machine setup) history end

-- how often a name stands in a queue
abbrev pub count_queued : ℕ → Flat → ℕ
count_queued name s = count_by (λ (e : Queued). e.facts.name == name) s.entries

-- how often a hand holds a name
abbrev pub count_held : ℕ → Hand → ℕ
count_held name h = if holds name h.thread then 1 else 0

-- how often a name stands among the blocked and the ended threads
abbrev pub count_in_yard : ℕ → Yard → ℕ
count_in_yard name y = count_by (λ (w : Sleeper). w.facts.name == name) y.blocked + count_by (λ n. n == name) y.ended

-- how often a name stands in the queues, the hands and the yard together
abbrev pub place_count : MachineState → ℕ → ℕ
place_count g name = sum_by (count_queued name) g.flats + sum_by (count_held name) g.hands + count_in_yard name g.yard

-- how often a name stands at one place
abbrev pub count_at : MachineState → Place → ℕ → ℕ
count_at g (places.Queue c) name = count_queued name (flat_at g c)
count_at g (places.Hand a) name = count_held name (hand_at g a)
count_at g places.Blocked name = count_by (λ (w : Sleeper). w.facts.name == name) g.yard.blocked
count_at g places.Ended name = count_by (λ n. n == name) g.yard.ended
count_at g places.Nowhere name = 0

-- the number of places that each name should have: 1 where it was made, 0 otherwise
abbrev pub expected_count : MachineState → ℕ → ℕ
expected_count g name = if list_any (λ n. n == name) g.yard.made then 1 else 0
