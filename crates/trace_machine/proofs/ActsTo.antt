-- Acts of a machine in code that are refused, and those that leave every name where it stood.
use Rattle.std.proofs.Common.{◌≡◌, ℕ, ◌+◌, ◌<◌, ◌==◌, false, Option, Some, None, length, slice_set, refl, sym, ap, ◌∙◌, subst, inl, inr, arith}
use Rattle.std.proofs.lemmas.Bool.{cases_eq, false≢true}
use Rattle.sched_base.specs.declared.Act.{Act}
use Rattle.sched_base.specs.declared.Answer.{Answer}
use Rattle.link_arena.specs.Arena.{value_at}
use Rattle.std.specs.List.{list_any}
use Rattle.flat_policy.specs.Policy.Clusters.{NameStands}
use Rattle.flat_policy.specs.Policy.Machine.{Hand, MachineState, Yard, first_refusal, refusals_by}
use Rattle.trace_machine.specs.Acting.{ActsTo, IsSet, outcome_at, outcome_from}
use Rattle.trace_machine.specs.Machines.{MachineView, MeansOver}
use Rattle.trace_machine.specs.Parts.{Does, IsOtherThread, PartsView, accepted_at, cluster_at, hand_of, state_of}
use Rattle.trace_machine.specs.Yards.{standing_of}
use Rattle.trace_machine.proofs.Frames.{Frame, names_after, yard_stays}
use Rattle.trace_machine.proofs.Setting.{hand_changed, hand_other, rehanded, serves_longer}

-- the refusal of an act
abbrev pub refused_by : PartsView → Yard → ℕ → Act → Option Answer
refused_by p y a act = first_refusal (refusals_by p.setup (state_of p y) a (hand_of p a) act)

-- what a refused act comes to, and an accepted one
pub refused_is : (p : PartsView) (y : Yard) (a now : ℕ) (act : Act) (answer : Answer) → refused_by p y a act ≡ Some answer
    → outcome_at p.setup (state_of p y) a now act ≡ record { answer = answer; thread = None; state = state_of p y }
refused_is p y a now act answer is = ap (outcome_from p.setup (state_of p y) a now act) is

pub accepted_is : (p : PartsView) (y : Yard) (a now : ℕ) (act : Act) → refused_by p y a act ≡ None → outcome_at p.setup (state_of p y) a now act ≡ accepted_at p y a now act
accepted_is p y a now act is = ap (outcome_from p.setup (state_of p y) a now act) is

-- a refused act leaves all as it was
pub refused_acts : (v : MachineView) (y : Yard) (a now : ℕ) (act : Act) (answer : Answer) → MeansOver v y → refused_by v.parts y a act ≡ Some answer → ActsTo v v y a now act answer
refused_acts v y a now act answer means is = record {
  after = y;
  answers = ap (λ o. o.answer) (refused_is v.parts y a now act answer is);
  leads = ap (λ o. o.state) (refused_is v.parts y a now act answer is);
  keeps_setup = refl;
  serve = λ c below. serves_longer v.parts.setup v.steps (v.steps + 1) c (cluster_at v.parts c) (omega arith) (means.serve c below);
  yard = means.yard;
  names = means.names;
  steps = refl;
}

-- hands of which one changed and kept its thread hold what they held
pub threads_stay : (p q : PartsView) (a : ℕ) (h : Hand) → q.hands ≡ slice_set p.hands a h → h.thread ≡ (hand_of p a).thread → a < length p.hands
    → (k : ℕ) → (hand_of q k).thread ≡ (hand_of p k).thread
threads_stay p q a h is same lt k =
    ap (λ hs. (hand_of (record p { hands = hs }) k).thread) is
    ∙ elim (cases_eq k a) [
      | inl e ↦ subst (λ i. (hand_of (rehanded p a h) i).thread ≡ (hand_of p i).thread) (sym e) (ap (λ (x : Hand). x.thread) (hand_changed p a h lt) ∙ same)
      | inr differs ↦ ap (λ (x : Hand). x.thread) (hand_other p a h k differs)
    ]

-- what an act has to show that leaves every name where it stood
pub record IsQuiet (old new : MachineView) (a : ℕ) : Type 0 where
  pub hand : Hand
  pub hands : new.parts.hands ≡ slice_set old.parts.hands a hand
  pub thread : hand.thread ≡ (hand_of old.parts a).thread
  pub queues : (c slot arrival name : ℕ) → NameStands (cluster_at old.parts c) slot arrival name → NameStands (cluster_at new.parts c) slot arrival name
  pub names : new.names ≡ old.names
  pub setup : new.parts.setup ≡ old.parts.setup

pub quiet_frame : (old new : MachineView) (y after : Yard) (a : ℕ) → IsQuiet old new a → a < length old.parts.hands → new.yard.sleepers ≡ old.yard.sleepers
    → after.ended ≡ y.ended → after.made ≡ y.made → Frame old new y after (λ name. false)
quiet_frame old new y after a q lt sleepers ended made = record {
  setup = q.setup;
  queues = λ c slot arrival name is. q.queues c slot arrival name;
  hands = λ k t is holds. (t, threads_stay old.parts new.parts a q.hand q.hands q.thread lt k ∙ holds, refl);
  slots = λ slot w is there. subst (λ s. value_at s slot ≡ Some w) (sym sleepers) there;
  ended = λ name is there. ap (list_any (λ n. n == name)) ended ∙ there;
  made = λ name is never. ap (list_any (λ n. n == name)) made ∙ never;
  table = λ name is. ap (λ es. standing_of es name) q.names;
}

-- an accepted act at the clusters and hands that leaves every name where it stood
pub quiet_acts : (old new : MachineView) (y : Yard) (a now : ℕ) (act : Act) (told : Answer) → IsSet old a now act → MeansOver old y
    → refused_by old.parts y a act ≡ None → Does old.parts new.parts a now act told → IsQuiet old new a → new.yard ≡ old.yard → new.steps ≡ old.steps
    → ActsTo old new y a now act told
quiet_acts old new y a now act told set means none does q yard steps =
    let frame = quiet_frame old new y y a q (subst (λ n. a < n) (sym set.ready.hands) set.ready.actor) (ap (λ v. v.sleepers) yard) refl refl in
    record {
      after = y;
      answers = ap (λ o. o.answer) (accepted_is old.parts y a now act none) ∙ does.answers y;
      leads = ap (λ o. o.state) (accepted_is old.parts y a now act none) ∙ does.leads y;
      keeps_setup = does.keeps_setup;
      serve = does.serves old.steps means.serve;
      yard = yard_stays old new y (λ name. false) frame yard means.yard (λ slot w is. refl);
      names = names_after old new y y (λ name. false) frame means.names (λ name is. absurd (false≢true is));
      steps = steps;
    }

-- an act that moves no thread and leaves the names leaves every name where it stood
pub quiet_from : (old new : MachineView) (y : Yard) (a now : ℕ) (act : Act) (told : Answer) (h : Hand) → Does old.parts new.parts a now act told
    → (accepted_at old.parts y a now act).state.hands ≡ slice_set old.parts.hands a h → h.thread ≡ (hand_of old.parts a).thread → (accepted_at old.parts y a now act).thread ≡ None
    → new.names ≡ old.names → IsQuiet old new a
quiet_from old new y a now act told h does hands thread none names = record {
  hand = h;
  hands = sym (ap (λ (g : MachineState). g.hands) (does.leads y)) ∙ hands;
  thread = thread;
  queues = λ c slot arrival name stands. does.stands y c slot arrival name (subst (IsOtherThread name) (sym none) tt) stands;
  names = names;
  setup = does.keeps_setup;
}
