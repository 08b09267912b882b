-- What lies behind a lock: a cluster with its journal, its books and the rights of the threads queued there.
use Rattle.std.specs.Prelude.{Bool, List, None, Option, Some, false, if◌then◌else◌, length, true, ℕ, ◌+◌, ◌-◌, ◌^◌, ◌≡◌, ◌≤◌}
use Rattle.rights.specs.Values.{Account, DeskId}
use Rattle.flat_policy.specs.Policy.Clusters.{ClusterView, after_select, after_touch, moment_at}
use Rattle.flat_policy.specs.Policy.ClusterSteps.{Event, enter_event, look_event, offer_event, power_event, select_event}
use Rattle.flat_policy.specs.Policy.Queue.{Flat, Queued}
use Rattle.flat_policy.specs.Policy.Setup.{SetupParts}
use Rattle.flat_policy.specs.Policy.WellFormed.{EachQueued}
use Rattle.flat_policy.specs.Runs.Histories.{CRun}
use Rattle.flat_policy.specs.Runs.Journals.{JournalParts, pushed}
use Rattle.flat_policy.specs.Runs.Worker.{Program}
use Rattle.sched_base.specs.Limits.{most_threads}
use Rattle.sched_base.specs.declared.Bucket.{Bucket}
use Rattle.sched_base.specs.declared.Entry.{Entry}
use Rattle.sched_base.specs.declared.Facts.{Facts}
use Rattle.flat_policy.specs.declared.journal.Line.{Line}
use Rattle.sched_base.specs.declared.Act.{Act}
use Rattle.sched_base.specs.declared.Answer.{Answer}
use Rattle.sched_base.specs.declared.Act.TheVariants as acts
use Rattle.sched_base.specs.declared.Answer.TheVariants as answers
use Rattle.cells.specs.Courses.{OnCourse}
use Rattle.cells.specs.Desks.{StandsAt, line_desk, slot_desk}
use Rattle.cells.specs.Packs.{Amounts, amounts_but}

-- a held cluster: the cluster, its journal, its two books, and the other rights of the threads queued there
pub record HeldParts : Type 0 where
  pub cluster : ClusterView
  pub journal : JournalParts
  pub slots : Account
  pub lines : Account
  pub others : Amounts

-- what a held cluster of a run keeps
pub record Keeps (setup : SetupParts) (programs : List Program) (desks : List DeskId) (c : ℕ) (h : HeldParts) : Type 0 where
  pub setup_is : h.cluster.setup ≡ setup
  pub number_is : h.cluster.number ≡ c
  -- the journal leads the empty queue to the queue
  pub history : CRun setup c h.journal.lines h.cluster.flat
  -- every queued thread is on course
  pub course : EachQueued (λ (e : Queued). OnCourse setup programs e.facts) h.cluster.flat.entries
  -- the books are those of the cluster's desks
  pub slots_of : StandsAt desks (slot_desk c) h.slots.desk
  pub lines_of : StandsAt desks (line_desk c) h.lines.desk
  -- as many slot rights are parked as threads are queued
  pub parked : h.slots.parked ≡ length h.cluster.flat.entries
  -- at most 4096 slot rights are minted
  pub few : h.slots.minted ≤ most_threads
  -- spare is at least the slot rights not parked
  pub spare : h.slots.minted ≤ h.slots.parked + h.cluster.spare
  -- the free room is at least the line rights not burnt
  pub room : h.lines.minted ≤ h.journal.free
  -- the rights of the queued threads at the other places lie here
  pub others_are : h.others ≡ amounts_but c 0 (length h.cluster.flat.entries)

-- the entry of what a step comes to
abbrev pub entry_of : ℕ → ℕ → Act → Event → Entry
entry_of moment actor act event = record {
  step = record { moment = moment; actor = actor; act = act };
  answer = event.answer;
  thread = event.thread;
}

-- a line without a mark
abbrev pub unmarked : Entry → Line
unmarked e = record { entry = e; mark = None }

-- a line with a mark
abbrev pub marked : ℕ → Entry → Line
marked m e = record { entry = e; mark = Some m }

-- a held cluster after a step: a line more, a line right burnt, and as many rights of threads as are then queued
abbrev pub stepped : Line → ClusterView → HeldParts → HeldParts
stepped l v h = record {
  cluster = v;
  journal = pushed l h.journal;
  slots = record h.slots { parked = length v.flat.entries };
  lines = record h.lines { minted = h.lines.minted - 1 };
  others = amounts_but v.number 0 (length v.flat.entries);
}

-- what an entering comes to
abbrev pub entering_at : ClusterView → Facts → Bool → ℕ → Event
entering_at v t head now = enter_event v.setup v.number t head (moment_at v now) v.flat

-- its entry
abbrev pub enter_entry : ℕ → ℕ → ClusterView → Facts → Bool → ℕ → Entry
enter_entry c actor v t head now = entry_of (moment_at v now) actor (acts.Enter c head) (entering_at v t head now)

-- what a selection comes to
abbrev pub selecting_at : ClusterView → ℕ → Event
selecting_at v now = select_event v.setup v.number (moment_at v now) v.flat

-- its entry
abbrev pub select_entry : ℕ → ClusterView → ℕ → Entry
select_entry actor v now = entry_of (moment_at v now) actor acts.Select (selecting_at v now)

-- the cluster after a selection; where it is off the last moment alone changes
abbrev pub after_selecting : ClusterView → ℕ → ClusterView
after_selecting v now = if v.flat.on then after_select v now else after_touch v now

-- what an offering to another cluster comes to
abbrev pub offering_at : ClusterView → ℕ → ℕ → Event
offering_at v to now = offer_event v.setup v.number to (moment_at v now) v.flat

-- its entry
abbrev pub offer_entry : ℕ → ℕ → ClusterView → ℕ → ℕ → Entry
offer_entry c actor v to now = entry_of (moment_at v now) actor (acts.Offer c) (offering_at v to now)

-- what a look at the load for a bucket comes to
abbrev pub looking_at : ClusterView → Bucket → ℕ → Event
looking_at v b now = look_event v.setup v.number b (moment_at v now) v.flat

-- its entry
abbrev pub look_entry : ℕ → ℕ → ClusterView → Bucket → ℕ → Entry
look_entry c actor v b now = entry_of (moment_at v now) actor (acts.Look c) (looking_at v b now)

-- the act that turns a cluster on or off
abbrev pub power_act : ℕ → Bool → Act
power_act c true = acts.On c
power_act c false = acts.Off c

-- what a turn on or off comes to
abbrev pub turning_at : ClusterView → Bool → ℕ → Event
turning_at v on now = power_event on (moment_at v now) v.flat

-- its entry
abbrev pub turn_entry : ℕ → ℕ → ClusterView → Bool → ℕ → Entry
turn_entry c actor v on now = entry_of (moment_at v now) actor (power_act c on) (turning_at v on now)

-- how many threads left
abbrev pub left_of : Option Facts → ℕ
left_of None = 0
left_of (Some t) = 1

-- the answer that names a thread that was taken, or tells that there was none or that the cluster is off
abbrev pub answer_told : Bool → Option Facts → Answer
answer_told false thread = answers.Off
answer_told true None = answers.Empty
answer_told true (Some t) = answers.Got t.name

-- whether an answer tells that no thread is given: there was none to take, the cluster is off, or so many are left blocked
abbrev pub gives_none : Answer → Bool
gives_none answers.Empty = true
gives_none answers.Off = true
gives_none (answers.Left n) = true
gives_none _ = false

-- the answer that tells a load, or that the cluster is off
abbrev pub answer_of_load : Option ℕ → Answer
answer_of_load None = answers.Off
answer_of_load (Some load) = answers.Load load

-- the answer is a priority
abbrev pub TellsPriority : Answer → ℕ → Type 0
TellsPriority answer pri = answer ≡ answers.Pri pri

-- the next arrival and turn are so small that a step for each queued thread keeps them far from the end of their type
pub record AreSmall (s : Flat) : Type 0 where
  pub arrival : s.next_arrival ≤ 2 ^ 50
  pub turn : s.next_turn ≤ 2 ^ 50
