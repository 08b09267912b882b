-- What the hand of one actor allows.
use Rattle.std.specs.Option.{option_map_or}
use Rattle.std.specs.Prelude.{Bool, Err, List, None, Ok, Option, Result, Some, [], false, if◌then◌else◌, is_some, option_and_then, option_map, ℕ, ⊤, ◌<◌, ◌==◌, ◌∷◌, ◌≡◌, ◌≤◌}
use Rattle.sched_base.specs.Bucket.{index}
use Rattle.sched_base.specs.Facts.{charged}
use Rattle.sched_base.specs.declared.Act.{Act}
use Rattle.sched_base.specs.declared.Answer.{Answer}
use Rattle.sched_base.specs.declared.Facts.{Facts}
use Rattle.flat_policy.specs.declared.journal.Line.{Line}
use Rattle.flat_policy.specs.Policy.Aim.{aim}
use Rattle.flat_policy.specs.Policy.Machine.{Hand, empty_hand, kept_hand, looked_hand, taking_hand}
use Rattle.flat_policy.specs.Policy.Setup.{SetupParts, actor_count, home_of, rate_of}
use Rattle.flat_policy.specs.Runs.Histories.{Carries, LineFits, act_of, actor_of, moment_of, where_true}
use Rattle.sched_base.specs.declared.Act.TheVariants as acts
use Rattle.sched_base.specs.declared.Answer.TheVariants as answers

-- what a line comes to in a hand: its answer and thread as the hand tells them, and the hand afterwards
pub record HandEvent : Type 0 where
  pub answer : Answer
  pub thread : Option Facts
  pub hand : Hand

-- a hand that tells nothing of the line's answer and thread
abbrev pub untold : Line → Hand → HandEvent
untold l h = record { answer = l.entry.answer; thread = l.entry.thread; hand = h }

-- an empty hand takes the thread of the line, whatever it answers
abbrev pub taking_line : SetupParts → Hand → Line → Option HandEvent
taking_line setup h l = if is_some h.thread then None else Some (untold l (taking_hand setup h l.entry.thread (moment_of l)))

-- a hand gives its thread away, which is the thread of the line
abbrev pub giving_line : SetupParts → Line → Facts → HandEvent
giving_line setup l t = record { answer = l.entry.answer; thread = Some t; hand = empty_hand setup (moment_of l) }

-- whether a mark is the index of a thread's bucket
abbrev pub is_mark_of : Facts → Option ℕ → Bool
is_mark_of t mark = option_map_or (λ i. i == index t.bucket) mark false

-- a look is for the bucket of the hand's thread, which its mark tells
abbrev pub looking_line : Hand → Line → ℕ → Facts → Option HandEvent
looking_line h l c t = where_true (is_mark_of t l.mark) (untold l (looked_hand h c l.entry.answer (moment_of l)))

-- an aim is that of the hand's thread and looks, which lack none
abbrev pub aimed_line : Hand → Line → Result ℕ ℕ → Option HandEvent
aimed_line h l (Ok c) = Some (record { answer = answers.To c; thread = None; hand = kept_hand h (moment_of l) })
aimed_line h l (Err c) = None

-- the hand's thread is charged at the rate of the actor's home
abbrev pub charging_line : SetupParts → Hand → Line → ℕ → Facts → HandEvent
charging_line setup h l us t =
    let charged_thread : Facts = charged us (rate_of setup (home_of setup (actor_of l))) t
    in record { answer = answers.Work charged_thread.work; thread = Some charged_thread; hand = record h { thread = Some charged_thread; last = moment_of l } }

-- what a line comes to in a hand, by its act: none where the hand doesn't allow it
abbrev pub hand_event_by : SetupParts → Hand → Line → Act → Option HandEvent
hand_event_by setup h l (acts.Make name group bucket base bound) = taking_line setup h l
hand_event_by setup h l (acts.Enter c head) = option_map (giving_line setup l) h.thread
hand_event_by setup h l acts.Select = taking_line setup h l
hand_event_by setup h l (acts.Offer c) = taking_line setup h l
hand_event_by setup h l (acts.Pull name) = taking_line setup h l
hand_event_by setup h l (acts.Look c) = option_and_then (looking_line h l c) h.thread
hand_event_by setup h l acts.Aim = option_and_then (λ (t : Facts). aimed_line h l (aim setup h.looks t)) h.thread
hand_event_by setup h l (acts.Ran us) = option_map (charging_line setup h l us) h.thread
hand_event_by setup h l acts.Sleep = option_map (giving_line setup l) h.thread
hand_event_by setup h l (acts.Wake name) = taking_line setup h l
hand_event_by setup h l acts.End = option_map (giving_line setup l) h.thread
hand_event_by setup h l _ = Some (untold l (kept_hand h (moment_of l)))

-- what a line comes to in a hand
abbrev pub hand_event : SetupParts → Hand → Line → Option HandEvent
hand_event setup h l = hand_event_by setup h l (act_of l)

-- a line is the actor's, its moment is not before the actor's last, and the hand allows it
pub record Allows (setup : SetupParts) (a : ℕ) (h : Hand) (l : Line) : Type 0 where
  pub there : a < actor_count setup
  pub actor : actor_of l ≡ a
  pub fits : LineFits setup l
  pub not_before : h.last ≤ moment_of l
  pub event : HandEvent
  pub happens : hand_event setup h l ≡ Some event
  pub told : Carries l event.answer event.thread

-- the hand after a line; as it was where the hand doesn't allow it
abbrev pub hand_after : SetupParts → Hand → Line → Hand
hand_after setup h l = option_map_or (λ (e : HandEvent). e.hand) (hand_event setup h l) h

-- a hand allows lines, one after another
abbrev pub OwnFrom : SetupParts → ℕ → Hand → List Line → Type 0
OwnFrom setup a h [] = ⊤
OwnFrom setup a h (l ∷ ls) = Allows setup a h l × OwnFrom setup a (hand_after setup h l) ls

-- the lines are what an actor's hand, looks and last moment allow
abbrev pub Own : SetupParts → ℕ → List Line → Type 0
Own setup a ls = OwnFrom setup a (empty_hand setup 0) ls

-- the hand after all of its lines
abbrev pub hand_after_all : SetupParts → Hand → List Line → Hand
hand_after_all setup h [] = h
hand_after_all setup h (l ∷ ls) = hand_after_all setup (hand_after setup h l) ls
