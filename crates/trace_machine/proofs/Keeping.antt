-- What the policy's laws say of the state that a machine means, and of the state after an act.
use Rattle.std.proofs.Common.{◌≡◌, ℕ, ◌≤◌, ◌&&◌, List, Option, Some, None, IsTrue, refl, ap, ap₂, subst, arith, lt-ltb}
use Rattle.sched_base.specs.Limits.{moment_limit}
use Rattle.sched_base.specs.declared.Act.{Act}
use Rattle.sched_base.specs.declared.Answer.{Answer}
use Rattle.sched_base.specs.declared.Entry.{Entry}
use Rattle.sched_base.specs.declared.Spot.{Spot}
use Rattle.sched_base.specs.declared.Spot.TheVariants as spots
use Rattle.sched_base.specs.declared.Step.{Step}
use Rattle.flat_policy.specs.Laws.Counts.{RunsKeepCounts, RunsStaySound, RunsStayWithin}
use Rattle.flat_policy.specs.Laws.Places.{PlaceIsWhereItStands}
use Rattle.flat_policy.specs.Policy.Machine.{GRun, MachineState, Yard, effective_moment, fits_step, last_at, outcome, outcome_by, refusal, site_of, spot_from, state_after}
use Rattle.flat_policy.specs.Policy.Setup.{SetupParts, actor_count, home_of}
use Rattle.trace_machine.specs.Acting.{IsKept, IsSet, KeepsOn, outcome_at, outcome_from}
use Rattle.trace_machine.specs.Machines.{MachineView, MeansOver}
use Rattle.trace_machine.specs.Parts.{cluster_at, state_of}
use Rattle.trace_machine.proofs.Histories.{history_grows}
use Rattle.trace_machine.proofs.Setting.{flat_here}

-- a step at its effective moment
abbrev pub step_at : ℕ → ℕ → Act → Step
step_at now a act = record { moment = now; actor = a; act = act }

-- what a step comes to by its refusal is what its act comes to at the effective moment
pub outcome_by_is : (setup : SetupParts) (g : MachineState) (s : Step) (now : ℕ) → effective_moment setup g s ≡ now → (r : Option Answer)
    → outcome_by setup g s r ≡ outcome_from setup g s.actor now s.act r
outcome_by_is setup g s now is (Some answer) = refl
outcome_by_is setup g s now is None = ap (λ n. outcome_from setup g s.actor n s.act None) is

pub outcome_is : (setup : SetupParts) (g : MachineState) (s : Step) (now : ℕ) → effective_moment setup g s ≡ now → outcome setup g s ≡ outcome_at setup g s.actor now s.act
outcome_is setup g s now is = outcome_by_is setup g s now is (refusal setup g s)

-- the last moment of the place of an act is not after the act's
last_of : (v : MachineView) (y : Yard) (now : ℕ) → y.last ≡ v.yard.last → (o : Option Spot)
    → (o ≡ Some spots.Yard → v.yard.last ≤ now) → ((c : ℕ) → o ≡ Some (spots.Cluster c) → (cluster_at v.parts c).flat.last ≤ now)
    → last_at (state_of v.parts y) o ≤ now
last_of v y now same None yard cluster = omega arith
last_of v y now same (Some spots.Yard) yard cluster = omega (arith, yard refl, same)
last_of v y now same (Some (spots.Cluster c)) yard cluster = omega (arith, cluster c refl, ap (λ s. s.last) (flat_here v.parts y c))

pub effective_is : (v : MachineView) (y : Yard) (a now : ℕ) (act : Act) → IsSet v a now act → y.last ≡ v.yard.last
    → effective_moment v.parts.setup (state_of v.parts y) (step_at now a act) ≡ now
effective_is v y a now act set same =
    let last = last_of v y now same (spot_from (home_of v.parts.setup a) (site_of act)) set.after_yard set.after_cluster in
    omega (arith, set.after_hand, last)

pub fits_is : (v : MachineView) (a now : ℕ) (act : Act) → IsSet v a now act → IsTrue (fits_step v.parts.setup (step_at now a act))
fits_is v a now act set =
    ap₂ (λ b c. b && c) (lt-ltb now moment_limit set.moment)
    (ap₂ (λ b c. b && c) (lt-ltb a (actor_count v.parts.setup) set.ready.actor) (ap₂ (λ b c. b && c) set.act_fits set.numbers))

kept : (setup : SetupParts) (g : MachineState) (h : List Entry) → RunsStaySound → RunsKeepCounts → RunsStayWithin → GRun setup h g → IsKept setup g
kept setup g h sound counts within run = record { sound = sound setup h g run; once = counts setup h g run; within = within setup h g run }

pub keeps_on : (v : MachineView) (y : Yard) → MeansOver v y → RunsStaySound → RunsKeepCounts → RunsStayWithin → PlaceIsWhereItStands → KeepsOn v y
keeps_on v y means sound counts within stands =
    let setup : SetupParts = v.parts.setup in
    let g : MachineState = state_of v.parts y in
    let h : List Entry = means.history.0 in
    record {
      before = kept setup g h sound counts within means.history.1;
      after = λ a now act set same.
          let s : Step = step_at now a act in
          let next = history_grows setup g s v.steps means.history (sound setup h g means.history.1) (fits_is v a now act set) in
          subst (IsKept setup) (ap (λ o. o.state) (outcome_is setup g s now (effective_is v y a now act set same)))
          (kept setup (state_after setup g s) next.0 sound counts within next.1);
      where_it_stands = stands;
    }
