-- What lies behind the lock of the yard: the blocked threads with their journal, books and rights.
use Rattle.std.specs.List.{list_any}
use Rattle.std.specs.Option.{option_map_or}
use Rattle.std.specs.Prelude.{Bool, List, None, Option, Some, [], length, max, nat_le, option_and_then, ℕ, ◌+◌, ◌-◌, ◌<◌, ◌≡◌, ◌≤◌, ◌++◌, ◌∷◌}
use Rattle.rights.specs.Values.{Account, DeskId}
use Rattle.flat_policy.specs.Policy.Setup.{SetupParts}
use Rattle.flat_policy.specs.Runs.Histories.{DueSleeper, RunYard, YRun, YardEvent, first_sleeper, others_blocked, where_true}
use Rattle.flat_policy.specs.Runs.Journals.{JournalParts, pushed}
use Rattle.flat_policy.specs.Runs.Worker.{Program}
use Rattle.sched_base.specs.Facts.{rested}
use Rattle.sched_base.specs.Limits.{moment_limit, most_threads}
use Rattle.sched_base.specs.declared.Act.{Act}
use Rattle.sched_base.specs.declared.Entry.{Entry}
use Rattle.sched_base.specs.declared.Facts.{Facts}
use Rattle.flat_policy.specs.declared.journal.Line.{Line}
use Rattle.sched_base.specs.declared.Act.TheVariants as acts
use Rattle.sched_base.specs.declared.Answer.TheVariants as answers
use Rattle.cells.specs.Courses.{OnCourse}
use Rattle.cells.specs.Desks.{StandsAt, yard_line_desk, yard_slot_desk}
use Rattle.cells.specs.Packs.{Amounts, yard_amounts}

-- a held yard: the yard of the run, for how many blocked threads, made names and ended names it has memory, its journal, its two
-- books, and the rights of the blocked and the ended threads that aren't parked
pub record YardParts : Type 0 where
  pub yard : RunYard
  pub room : ℕ
  pub made_room : ℕ
  pub ended_room : ℕ
  pub journal : JournalParts
  pub slots : Account
  pub lines : Account
  pub others : Amounts

-- the room for blocked threads that is free
abbrev pub spare_in : YardParts → ℕ
spare_in h = h.room - length h.yard.blocked

-- a fact of each blocked thread
abbrev pub EachBlocked : (DueSleeper → Type 0) → List DueSleeper → Type 0
EachBlocked P [] = Unit {0}
EachBlocked P (w ∷ ws) = P w × EachBlocked P ws

-- a blocked thread of a run: it is on course, and is due before the first moment that is too late
pub record IsSleeper (setup : SetupParts) (programs : List Program) (w : DueSleeper) : Type 0 where
  pub course : OnCourse setup programs w.facts
  pub soon : w.due < moment_limit

-- what a held yard of a run keeps
pub record KeepsYard (setup : SetupParts) (programs : List Program) (desks : List DeskId) (h : YardParts) : Type 0 where
  -- the journal leads the empty yard to the yard
  pub history : YRun setup h.journal.lines h.yard
  -- every blocked thread is on course
  pub course : EachBlocked (IsSleeper setup programs) h.yard.blocked
  pub last : h.yard.last < moment_limit
  -- the books are those of the yard's desks
  pub slots_of : StandsAt desks yard_slot_desk h.slots.desk
  pub lines_of : StandsAt desks yard_line_desk h.lines.desk
  -- as many slot rights are parked as threads are blocked
  pub parked : h.slots.parked ≡ length h.yard.blocked
  -- as many are minted as names were made
  pub minted : h.slots.minted ≡ length h.yard.made
  -- at most 4096 are minted
  pub few : h.slots.minted ≤ most_threads
  -- the blocked threads are within their room, and spare is at least the slot rights not parked
  pub within : length h.yard.blocked ≤ h.room
  pub spare : h.slots.minted ≤ h.slots.parked + spare_in h
  -- no more ended than were made
  pub ended_few : length h.yard.ended ≤ length h.yard.made
  -- there is room for 4096 names made and 4096 ended
  pub made_fits : most_threads ≤ h.made_room
  pub ended_fits : most_threads ≤ h.ended_room
  -- the free room is at least the line rights not burnt
  pub room_is : h.lines.minted ≤ h.journal.free
  -- the rights of the blocked and the ended threads lie here: of the yard those of the ended ones alone, since the others are parked
  pub others_are : h.others ≡ yard_amounts (length h.yard.blocked + length h.yard.ended) (length h.yard.ended)

-- the effective moment of a step in the yard
abbrev pub yard_moment : RunYard → ℕ → ℕ
yard_moment y now = max now y.last

-- the entry of what a step in the yard comes to
abbrev pub yard_entry : ℕ → ℕ → Act → YardEvent → Entry
yard_entry moment actor act event = record {
  step = record { moment = moment; actor = actor; act = act };
  answer = event.answer;
  thread = event.thread;
}

-- a held yard after a step: a line more, a line right burnt, a slot right minted for each name made, and as many parked as threads are
-- then blocked
abbrev pub yard_stepped : Line → RunYard → YardParts → YardParts
yard_stepped l y h = record {
  yard = y;
  room = h.room;
  made_room = h.made_room;
  ended_room = h.ended_room;
  journal = pushed l h.journal;
  slots = record h.slots { minted = length y.made; parked = length y.blocked };
  lines = record h.lines { minted = h.lines.minted - 1 };
  others = yard_amounts (length y.blocked + length y.ended) (length y.ended);
}

-- what making a thread comes to
abbrev pub enlisting : RunYard → ℕ → Facts → YardEvent
enlisting y now t = record { answer = answers.Yes; thread = Some t; yard = record y { made = y.made ++ t.name ∷ []; last = now } }

-- its act
abbrev pub make_act : Facts → Act
make_act t = acts.Make t.name t.group t.bucket t.base t.bound

-- the thread that is woken at a moment: the first, where it is due
abbrev pub due_first : RunYard → ℕ → Option DueSleeper
due_first y now = option_and_then (λ (w : DueSleeper). where_true (nat_le w.due now) w) (first_sleeper y)

-- the moment of waking a thread that need not be due: its due moment, where that is later
abbrev pub woken_at : Option DueSleeper → ℕ → ℕ
woken_at first now = option_map_or (λ (w : DueSleeper). max now w.due) first now

-- the act of waking a thread, or of counting the blocked ones where there is none
abbrev pub wake_act : Option DueSleeper → Act
wake_act None = acts.Blocked
wake_act (Some w) = acts.Wake w.facts.name

-- what it comes to
abbrev pub waking_at : RunYard → ℕ → Option DueSleeper → YardEvent
waking_at y now None = record { answer = answers.Left (length y.blocked); thread = None; yard = record y { last = now } }
waking_at y now (Some w) = record { answer = answers.Yes; thread = Some (rested (now - w.since) w.facts); yard = record y { blocked = others_blocked y; last = now } }

-- its entry
abbrev pub wake_entry : ℕ → RunYard → ℕ → Option DueSleeper → Entry
wake_entry actor y now w = yard_entry now actor (wake_act w) (waking_at y now w)

-- some blocked thread is due at a moment
abbrev pub some_due : RunYard → ℕ → Bool
some_due y now = list_any (λ (w : DueSleeper). nat_le w.due now) y.blocked
