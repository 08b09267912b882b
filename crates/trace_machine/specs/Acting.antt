-- What one act of a machine in code comes to.
use Rattle.std.specs.Prelude.{IsTrue, None, Option, Some, ℕ, ◌+◌, ◌<◌, ◌≡◌, ◌≤◌, ◌^◌}
use Rattle.sched_base.specs.Limits.{moment_limit}
use Rattle.sched_base.specs.declared.Act.{Act}
use Rattle.sched_base.specs.declared.Answer.{Answer}
use Rattle.sched_base.specs.declared.Spot.TheVariants as spots
use Rattle.flat_policy.specs.Laws.Counts.{EachNameOnce, StaysWithin}
use Rattle.flat_policy.specs.Laws.Places.{PlaceIsWhereItStands}
use Rattle.flat_policy.specs.Laws.Sound.{Sound}
use Rattle.flat_policy.specs.Policy.Machine.{MachineState, Outcome, Yard, accepted_by, first_refusal, fits_act, hand_at, numbers_fit, refusals_by, site_of, spot_from}
use Rattle.flat_policy.specs.Policy.Setup.{SetupParts, home_of}
use Rattle.trace_machine.specs.Machines.{HasYard, IsMachine, MachineView, MeansOver, StandsThere}
use Rattle.trace_machine.specs.Parts.{AllServe, IsReady, cluster_at, hand_of, state_of}
use Rattle.trace_machine.specs.Yards.{standing_of}

-- what an act at an effective moment comes to by its refusal, if it has one
abbrev pub outcome_from : SetupParts → MachineState → ℕ → ℕ → Act → Option Answer → Outcome
outcome_from setup g a now act (Some answer) = record { answer = answer; thread = None; state = g }
outcome_from setup g a now act None = accepted_by setup g a (hand_at g a) now act

-- what an act at an effective moment comes to
abbrev pub outcome_at : SetupParts → MachineState → ℕ → ℕ → Act → Outcome
outcome_at setup g a now act = outcome_from setup g a now act (first_refusal (refusals_by setup g a (hand_at g a) act))

-- a machine is set for an act of an actor at a moment: it means some state, the actor is there, the act is in range, and the moment is not
-- before the last one of the actor and of the place of the act
pub record IsSet (v : MachineView) (a now : ℕ) (act : Act) : Type 0 where
  pub machine : IsMachine v
  pub ready : IsReady v.parts a
  pub steps : v.steps < 2 ^ 50
  pub moment : now < moment_limit
  pub act_fits : IsTrue (fits_act v.parts.setup act)
  pub numbers : IsTrue (numbers_fit act)
  pub after_hand : (hand_of v.parts a).last ≤ now
  pub after_yard : spot_from (home_of v.parts.setup a) (site_of act) ≡ Some spots.Yard → v.yard.last ≤ now
  pub after_cluster : (c : ℕ) → spot_from (home_of v.parts.setup a) (site_of act) ≡ Some (spots.Cluster c) → (cluster_at v.parts c).flat.last ≤ now

-- an act comes to what the policy says, over a yard that the machine had: its answer, and the clusters, hands, names and yard after it
pub record ActsTo (old new : MachineView) (y : Yard) (a now : ℕ) (act : Act) (told : Answer) : Type 0 where
  pub after : Yard
  pub answers : (outcome_at old.parts.setup (state_of old.parts y) a now act).answer ≡ told
  pub leads : (outcome_at old.parts.setup (state_of old.parts y) a now act).state ≡ state_of new.parts after
  pub keeps_setup : new.parts.setup ≡ old.parts.setup
  pub serve : AllServe (old.steps + 1) new.parts
  pub yard : HasYard new after
  pub names : (name : ℕ) → StandsThere new after name (standing_of new.names name)
  pub steps : new.steps ≡ old.steps

-- so it is over every yard that the machine had
abbrev pub Acts : MachineView → MachineView → ℕ → ℕ → Act → Answer → Type 0
Acts old new a now act told = (y : Yard) → MeansOver old y → ActsTo old new y a now act told

-- a state is one of a history: it is sound, each name stands once, and no more threads live than may
pub record IsKept (setup : SetupParts) (g : MachineState) : Type 0 where
  pub sound : Sound setup g
  pub once : EachNameOnce g
  pub within : StaysWithin setup g

-- what the policy's laws say of a machine over a yard: of the state that it means, of the state after each act, and of where names stand
pub record KeepsOn (v : MachineView) (y : Yard) : Type 0 where
  pub before : IsKept v.parts.setup (state_of v.parts y)
  pub after : (a now : ℕ) (act : Act) → IsSet v a now act → y.last ≡ v.yard.last → IsKept v.parts.setup (outcome_at v.parts.setup (state_of v.parts y) a now act).state
  pub where_it_stands : PlaceIsWhereItStands
