-- What a machine in code means: a state of the policy's machine that some history led to.
use Rattle.std.specs.List.{list_any}
use Rattle.std.specs.Prelude.{List, None, Option, Some, false, length, true, ℕ, ◌==◌, ◌+◌, ◌<◌, ◌≡◌, ◌≤◌}
use Rattle.sched_base.specs.declared.Entry.{Entry}
use Rattle.sched_base.specs.declared.Facts.{Facts}
use Rattle.sched_base.specs.declared.Step.{Step}
use Rattle.link_arena.specs.Arena.{live_count, value_at}
use Rattle.flat_policy.specs.Policy.BuiltSetups.{IsSetup}
use Rattle.flat_policy.specs.Policy.Clusters.{NameStands}
use Rattle.flat_policy.specs.Policy.Machine.{GRun, MachineState, Yard, live_count as live_of, reply, state_after}
use Rattle.flat_policy.specs.Policy.Setup.{actor_count, cluster_count}
use Rattle.trace_machine.specs.Parts.{AllServe, PartsView, cluster_at, hand_of, state_of}
use Rattle.trace_machine.specs.Yards.{NamesView, YardView, sleeper_in, standing_of}
use Rattle.trace_machine.specs.declared.Reply.{Reply}
use Rattle.trace_machine.specs.declared.names.Standing.{Standing}
use Rattle.trace_machine.specs.declared.names.Standing.TheVariants as standings
use Rattle.trace_machine.specs.declared.yard.Resting.{Resting}
use Rattle.std.specs.Prelude.{Contains}

-- a machine in code: its clusters and hands, its yard, where each name stands, and how many steps it took
pub record MachineView : Type 0 where
  pub parts : PartsView
  pub yard : YardView
  pub names : NamesView
  pub steps : ℕ

-- the yard in code has the blocked threads of the policy's, each in a slot under which its name stands, room for every thread that may live,
-- the number of live threads and the last moment
pub record HasYard (v : MachineView) (y : Yard) : Type 0 where
  pub last : v.yard.last ≡ y.last
  pub live : v.yard.live ≡ live_of y
  pub count : live_count v.yard.sleepers ≡ length y.blocked
  pub blocked : (slot : ℕ) (w : Resting) → value_at v.yard.sleepers slot ≡ Some w → Contains y.blocked (sleeper_in w)
  pub named : (slot : ℕ) (w : Resting) → value_at v.yard.sleepers slot ≡ Some w → standing_of v.names w.thread.name ≡ Some (standings.Blocked slot)
  pub room : v.parts.setup.threads ≤ v.yard.sleepers.spare + live_count v.yard.sleepers

-- a name stands where the table says: in a queue by its ticket, in a hand, in a slot of the yard, or among the ended; one that is not in the
-- table was never made
abbrev pub StandsThere : MachineView → Yard → ℕ → Option Standing → Type 0
StandsThere v y name None = list_any (λ n. n == name) y.made ≡ false
StandsThere v y name (Some (standings.Queued t)) = (t.cluster < cluster_count v.parts.setup) × NameStands (cluster_at v.parts t.cluster) t.slot t.arrival name
StandsThere v y name (Some (standings.Held a)) =
    (a < actor_count v.parts.setup) × ((t : Facts) × ((hand_of v.parts a).thread ≡ Some t) × (t.name ≡ name))
StandsThere v y name (Some (standings.Blocked slot)) = (w : Resting) × (value_at v.yard.sleepers slot ≡ Some w) × (w.thread.name ≡ name)
StandsThere v y name (Some standings.Ended) = list_any (λ n. n == name) y.ended ≡ true

-- a machine in code means a state of the policy's machine over a yard
pub record MeansOver (v : MachineView) (y : Yard) : Type 0 where
  pub setup : IsSetup v.parts.setup
  pub serve : AllServe v.steps v.parts
  pub yard : HasYard v y
  pub names : (name : ℕ) → StandsThere v y name (standing_of v.names name)
  pub history : (h : List Entry) × GRun v.parts.setup h (state_of v.parts y) × (length h ≤ v.steps)

-- a machine in code means a state of the policy's machine, to which a history led
abbrev pub Means : MachineView → MachineState → Type 0
Means v g = (y : Yard) × (g ≡ state_of v.parts y) × MeansOver v y

-- a machine in code means some state
abbrev pub IsMachine : MachineView → Type 0
IsMachine v = (g : MachineState) × Means v g

-- a reply in code is the policy's
abbrev pub reply_in : Entry → Reply
reply_in e = record { moment = e.step.moment; answer = e.answer }

-- a step comes to what the policy says: from every state that the machine meant, its reply, and the state after it
abbrev pub StepsTo : MachineView → MachineView → Step → Reply → Type 0
StepsTo old new s told =
    (g : MachineState) → Means old g
    → (told ≡ reply_in (reply old.parts.setup g s)) × Means new (state_after old.parts.setup g s) × (new.parts.setup ≡ old.parts.setup)
