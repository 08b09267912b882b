-- The load: a trace drawn from a seed, and the summary of its answers.
use Rattle.std.specs.Prelude.{List, None, Option, Some, [], codes, decimal, false, if◌then◌else◌, is_none, is_some, length, map, nat_lt, replicate, slice_index_or, suc, sum_by, true, zero, ℕ, ◌%◌, ◌&&◌, ◌*◌, ◌++◌, ◌+◌, ◌-◌, ◌/◌, ◌==◌, ◌^◌, ◌||◌, ◌∷◌, ◌≤◌}
use Rattle.sched_base.specs.declared.Act.{Act}
use Rattle.sched_base.specs.declared.Answer.{Answer}
use Rattle.sched_base.specs.declared.Bucket.{Bucket}
use Rattle.sched_base.specs.declared.Bucket.TheVariants.{Bg}
use Rattle.sched_base.specs.declared.Facts.{Facts}
use Rattle.sched_base.specs.declared.Step.{Step}
use Rattle.flat_policy.specs.declared.setup.Times.{Times}
use Rattle.flat_policy.specs.Policy.Machine.{MachineState, empty_machine, hand_at, live_count, reply, state_after}
use Rattle.flat_policy.specs.Policy.Queue.{Flat}
use Rattle.flat_policy.specs.Policy.Setup.{SetupParts, all_buckets, home_of, times_of_version_one}
use Rattle.flat_policy.specs.Texts.Lines.{newline}
use Rattle.sched_base.specs.declared.Act.TheVariants as acts
use Rattle.sched_base.specs.declared.Answer.TheVariants as answers

-- the times of version 1, by bucket index
abbrev pub version_one_times : List Times
version_one_times = map times_of_version_one all_buckets

-- the setup of the load: four processors and two slower ones, eight groups, 256 threads
abbrev pub load_setup : SetupParts
load_setup = record {
  clusters = record { cpus = 4; rate = 1000 } ∷ record { cpus = 2; rate = 400 } ∷ [];
  edges = record { from = 0; to = 1; weight = 8000; migrate = true; steal = 48 }
      ∷ record { from = 1; to = 0; weight = 4000; migrate = true; steal = 63 } ∷ [];
  groups = replicate 8 (0 ∷ 0 ∷ 0 ∷ 0 ∷ 1 ∷ 1 ∷ []);
  threads = 256;
  times = version_one_times ∷ version_one_times ∷ [];
  version = 1;
}

-- the state that a draw makes of the one before
abbrev pub next_draw : ℕ → ℕ
next_draw x = (x * 6364136223846793005 + 1442695040888963407) % 2 ^ 64

-- the number that a state of the draw gives
abbrev pub drawn : ℕ → ℕ
drawn x = x / 2 ^ 33

-- how many steps of each kind were made, and how many selects and offers got a thread
pub record Tally : Type 0 where
  pub makes : ℕ
  pub enters : ℕ
  pub selects : ℕ
  pub selected : ℕ
  pub offers : ℕ
  pub offered : ℕ
  pub rans : ℕ
  pub sleeps : ℕ
  pub wakes : ℕ
  pub ends : ℕ
  pub refreshes : ℕ

-- no step yet
abbrev pub no_tally : Tally
no_tally = record { makes = 0; enters = 0; selects = 0; selected = 0; offers = 0; offered = 0; rans = 0; sleeps = 0; wakes = 0; ends = 0; refreshes = 0 }

-- 1 where a thread was got
abbrev pub got_one : Answer → ℕ
got_one (answers.Got name) = 1
got_one _ = 0

-- the tally with one more step
abbrev pub tallied : Tally → Act → Answer → Tally
tallied y (acts.Make name group bucket base bound) answer = record y { makes = y.makes + 1 }
tallied y (acts.Enter c head) answer = record y { enters = y.enters + 1 }
tallied y acts.Select answer = record y { selects = y.selects + 1; selected = y.selected + got_one answer }
tallied y (acts.Offer c) answer = record y { offers = y.offers + 1; offered = y.offered + got_one answer }
tallied y (acts.Pull name) answer = y
tallied y (acts.Look c) answer = y
tallied y acts.Aim answer = y
tallied y (acts.Ran us) answer = record y { rans = y.rans + 1 }
tallied y acts.Sleep answer = record y { sleeps = y.sleeps + 1 }
tallied y (acts.Wake name) answer = record y { wakes = y.wakes + 1 }
tallied y acts.End answer = record y { ends = y.ends + 1 }
tallied y acts.Blocked answer = y
tallied y acts.Refresh answer = record y { refreshes = y.refreshes + 1 }
tallied y (acts.Off c) answer = y
tallied y (acts.On c) answer = y

-- the load so far: the draw's state, the machine, the name that sleeps, and the tally
pub record LoadState : Type 0 where
  pub draw : ℕ
  pub state : MachineState
  pub kept : Option ℕ
  pub tally : Tally

-- the bucket of an index below 6
abbrev pub bucket_at_index : ℕ → Bucket
bucket_at_index i = slice_index_or all_buckets i Bg

-- a make of name i, by what is left of the draw
abbrev pub load_make : ℕ → ℕ → Act
load_make i q = acts.Make i ((q / 8) % 8) (bucket_at_index ((q / 64) % 6)) (20 + (q / 384) % 44) None

-- waking the name that sleeps
abbrev pub free_wake : Option ℕ → Act
free_wake (Some name) = acts.Wake name
free_wake None = acts.Select

-- the step of an actor with an empty hand: the first rule that holds
abbrev pub free_act : ℕ → ℕ → ℕ → ℕ → Option ℕ → Act
free_act i q live other kept =
    if (live == 0) || (nat_lt (q % 8) 2 && nat_lt live 256) then load_make i q
    else (if q % 8 == 2 then acts.Refresh
    else (if (q % 8 == 3) && is_some kept then free_wake kept
    else (if q % 8 == 4 then acts.Offer other else acts.Select)))

-- the step of an actor that holds a thread
abbrev pub busy_act : ℕ → Facts → Option ℕ → Act
busy_act q t kept =
    if nat_lt (q % 8) 2 then acts.Ran ((q / 8) % 10001)
    else (if (q % 8 == 2) && is_none kept then acts.Sleep
    else (if q % 8 == 3 then acts.End else acts.Enter t.prefer false))

-- the cluster that is not an actor's home
abbrev pub other_cluster : ℕ → ℕ
other_cluster c = 1 - c

-- an actor's step, by its hand
abbrev pub load_act : LoadState → ℕ → ℕ → ℕ → Option Facts → Act
load_act st i actor q None = free_act i q (live_count st.state.yard) (other_cluster (home_of load_setup actor)) st.kept
load_act st i actor q (Some t) = busy_act q t st.kept

-- the name that sleeps after a step
abbrev pub kept_after : Option ℕ → Act → Option Facts → Option ℕ
kept_after kept acts.Sleep (Some t) = Some t.name
kept_after kept (acts.Wake name) thread = None
kept_after kept act thread = kept

-- the load after a step, with the draw's new state
abbrev pub load_taken : LoadState → ℕ → Step → LoadState
load_taken st x step = record {
  draw = x;
  state = state_after load_setup st.state step;
  kept = kept_after st.kept step.act (hand_at st.state step.actor).thread;
  tally = tallied st.tally step.act (reply load_setup st.state step).answer;
}

-- the step number i of the load, by the number drawn for it
abbrev pub step_by_draw : LoadState → ℕ → ℕ → Step
step_by_draw st i r = record {
  moment = i * 50;
  actor = r % 6;
  act = load_act st i (r % 6) (r / 6) (hand_at st.state (r % 6)).thread;
}

-- the step number i of the load
abbrev pub step_of_load : LoadState → ℕ → Step
step_of_load st i = step_by_draw st i (drawn (next_draw st.draw))

-- the load with one step more
abbrev pub load_step : LoadState → ℕ → LoadState
load_step st i = load_taken st (next_draw st.draw) (step_of_load st i)

-- the load after so many steps
abbrev pub load_after : ℕ → ℕ → LoadState
load_after seed zero = record { draw = seed; state = empty_machine load_setup; kept = None; tally = no_tally }
load_after seed (suc n) = load_step (load_after seed n) n

-- how many threads are queued
abbrev pub queued_count : MachineState → ℕ
queued_count g = sum_by (λ (s : Flat). length s.entries) g.flats

-- a line of the summary: words and a number
abbrev pub summary_line : List ℕ → ℕ → List ℕ
summary_line words n = words ++ decimal n ++ newline

-- a line of the summary: words, and a number of another
abbrev pub share_line : List ℕ → ℕ → ℕ → List ℕ
share_line words n of = words ++ decimal n ++ codes " of " ++ decimal of ++ newline

-- the summary of so many steps
abbrev pub summary : ℕ → ℕ → LoadState → List ℕ
summary seed n st =
    codes "load " ++ decimal seed ++ codes " steps " ++ decimal n ++ newline
    ++ summary_line (codes "make ") st.tally.makes
    ++ summary_line (codes "enter ") st.tally.enters
    ++ share_line (codes "select ") st.tally.selected st.tally.selects
    ++ share_line (codes "offer ") st.tally.offered st.tally.offers
    ++ summary_line (codes "ran ") st.tally.rans
    ++ summary_line (codes "sleep ") st.tally.sleeps
    ++ summary_line (codes "wake ") st.tally.wakes
    ++ summary_line (codes "end ") st.tally.ends
    ++ summary_line (codes "refresh ") st.tally.refreshes
    ++ summary_line (codes "queued ") (queued_count st.state)

-- the load's text
abbrev pub Load : ℕ → ℕ → List ℕ
Load seed n = summary seed n (load_after seed n)

-- the makes less the ends and the queued threads are those in hands or asleep: at most seven
abbrev pub LivesSomewhere : LoadState → Type 0
LivesSomewhere st =
    (st.tally.ends + queued_count st.state ≤ st.tally.makes) × (st.tally.makes ≤ st.tally.ends + queued_count st.state + 7)
