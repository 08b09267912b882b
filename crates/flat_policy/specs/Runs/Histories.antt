-- Lines, and the histories of one place: of a cluster, and of the yard of a run.
use Rattle.std.specs.List.{list_any}
use Rattle.std.specs.Option.{option_map_or}
use Rattle.std.specs.Prelude.{Bool, IsTrue, List, None, Option, Some, [], false, find, if◌then◌else◌, is_some, length, map, min, nat_le, nat_lt, not, option_and_then, option_map, true, ℕ, ⊤, ◌&&◌, ◌++◌, ◌+◌, ◌-◌, ◌<◌, ◌==◌, ◌||◌, ◌∷◌, ◌≡◌, ◌≤◌}
use Rattle.sched_base.specs.Bucket.{index}
use Rattle.sched_base.specs.Facts.{rested}
use Rattle.sched_base.specs.Limits.{moment_limit, most_threads}
use Rattle.sched_base.specs.declared.Act.{Act}
use Rattle.sched_base.specs.declared.Answer.{Answer}
use Rattle.sched_base.specs.declared.Bucket.{Bucket}
use Rattle.sched_base.specs.declared.Entry.{Entry}
use Rattle.sched_base.specs.declared.Facts.{Facts}
use Rattle.flat_policy.specs.declared.journal.Line.{Line}
use Rattle.flat_policy.specs.Policy.Aim.{may_enter}
use Rattle.flat_policy.specs.Policy.ClusterSteps.{Event, enter_event, look_event, named_entry, offer_event, power_event, pull_event, refresh_event, select_event}
use Rattle.flat_policy.specs.Policy.Machine.{fits_step}
use Rattle.flat_policy.specs.Policy.Queue.{Flat, Queued, empty_flat}
use Rattle.flat_policy.specs.Policy.Setup.{SetupParts, all_buckets, cluster_count, group_count, home_of}
use Rattle.flat_policy.specs.Policy.Threads.{ThreadFits, made_thread}
use Rattle.flat_policy.specs.Policy.Unpreceded.{is_preceded, unpreceded}
use Rattle.sched_base.specs.declared.Act.TheVariants as acts
use Rattle.sched_base.specs.declared.Answer.TheVariants as answers

-- the moment of a line
abbrev pub moment_of : Line → ℕ
moment_of l = l.entry.step.moment

-- the actor of a line
abbrev pub actor_of : Line → ℕ
actor_of l = l.entry.step.actor

-- the act of a line
abbrev pub act_of : Line → Act
act_of l = l.entry.step.act

-- the entries of lines, without their marks
abbrev pub entries_of : List Line → List Entry
entries_of ls = map (λ (l : Line). l.entry) ls

-- a line has an answer and a thread
pub record Carries (l : Line) (told : Answer) (moved : Option Facts) : Type 0 where
  pub answer : l.entry.answer ≡ told
  pub thread : l.entry.thread ≡ moved

-- the bucket of an index, where it is one
abbrev pub bucket_of_index : ℕ → Option Bucket
bucket_of_index i = find (λ b. index b == i) all_buckets

-- whether a line has the mark of its act: a look that of a bucket, a sleep that of a span, and the others none
abbrev pub has_mark : Act → Option ℕ → Bool
has_mark (acts.Look c) (Some i) = is_some (bucket_of_index i)
has_mark (acts.Look c) None = false
has_mark acts.Sleep mark = is_some mark
has_mark _ mark = not (is_some mark)

-- what every line of a journal or a log keeps: the setup fits its step, and it has the mark of its act
pub record LineFits (setup : SetupParts) (l : Line) : Type 0 where
  pub step : IsTrue (fits_step setup l.entry.step)
  pub mark : IsTrue (has_mark (act_of l) l.mark)

-- something, where a condition holds
abbrev pub where_true : {X : Type 0} → Bool → X → Option X
where_true true x = Some x
where_true false x = None

-- a thread enters a cluster: there is room, and it may enter
abbrev pub entering : SetupParts → ℕ → Flat → Bool → ℕ → Facts → Option Event
entering setup c s head now t =
    where_true (nat_lt (length s.entries) most_threads && may_enter setup t c) (enter_event setup c t head now s)

-- what a line comes to at a cluster, by its act: none where it has no place there, or asks for something that isn't so
abbrev pub event_by : SetupParts → ℕ → Flat → Line → Act → Option Event
event_by setup c s l (acts.Enter at head) =
    if at == c then option_and_then (entering setup c s head (moment_of l)) l.entry.thread else None
event_by setup c s l acts.Select = where_true (home_of setup (actor_of l) == c) (select_event setup c (moment_of l) s)
event_by setup c s l (acts.Offer at) =
    where_true ((at == c) && not (home_of setup (actor_of l) == c))
    (offer_event setup c (home_of setup (actor_of l)) (moment_of l) s)
event_by setup c s l (acts.Pull name) =
    if home_of setup (actor_of l) == c then option_map (λ (e : Queued). pull_event e (moment_of l) s) (named_entry s name) else None
event_by setup c s l (acts.Look at) =
    if at == c then option_map (λ b. look_event setup c b (moment_of l) s) (option_and_then bucket_of_index l.mark) else None
event_by setup c s l acts.Refresh = where_true (home_of setup (actor_of l) == c) (refresh_event setup (moment_of l) s)
event_by setup c s l (acts.Off at) = where_true (at == c) (power_event false (moment_of l) s)
event_by setup c s l (acts.On at) = where_true (at == c) (power_event true (moment_of l) s)
event_by setup c s l _ = None

-- what a line comes to at a cluster
abbrev pub cluster_event : SetupParts → ℕ → Flat → Line → Option Event
cluster_event setup c s l = event_by setup c s l (act_of l)

-- a thread that enters fits the setup
abbrev pub EntersFitting : SetupParts → Act → Option Facts → Type 0
EntersFitting setup (acts.Enter at head) (Some t) = ThreadFits setup t
EntersFitting setup _ _ = ⊤

-- a line leads the queue of a cluster from one state to the next, at a moment that is not before its last
pub record CStep (setup : SetupParts) (c : ℕ) (s : Flat) (l : Line) (next : Flat) : Type 0 where
  pub there : c < cluster_count setup
  pub fits : LineFits setup l
  pub not_before : s.last ≤ moment_of l
  pub entering : EntersFitting setup (act_of l) l.entry.thread
  pub event : Event
  pub happens : cluster_event setup c s l ≡ Some event
  pub told : Carries l event.answer event.thread
  pub leads : next ≡ event.flat

-- the queue that a line leads to; as it was where the line comes to nothing
abbrev pub flat_after : SetupParts → ℕ → Flat → Line → Flat
flat_after setup c s l = option_map_or (λ (e : Event). e.flat) (cluster_event setup c s l) s

-- lines lead a queue from one state to another
abbrev pub CRunFrom : SetupParts → ℕ → Flat → List Line → Flat → Type 0
CRunFrom setup c s [] end = end ≡ s
CRunFrom setup c s (l ∷ ls) end = CStep setup c s l (flat_after setup c s l) × CRunFrom setup c (flat_after setup c s l) ls end

-- lines lead the empty queue of a cluster to a state
abbrev pub CRun : SetupParts → ℕ → List Line → Flat → Type 0
CRun setup c ls end = CRunFrom setup c (empty_flat (group_count setup)) ls end

-- a blocked thread of a run: since when, and from when on it may be woken
pub record DueSleeper : Type 0 where
  pub facts : Facts
  pub since : ℕ
  pub due : ℕ

-- the yard of a run: the blocked threads, the names ended and ever made, and its last moment
pub record RunYard : Type 0 where
  pub blocked : List DueSleeper
  pub ended : List ℕ
  pub made : List ℕ
  pub last : ℕ

-- the yard of a run before any line
abbrev pub empty_run_yard : RunYard
empty_run_yard = record { blocked = []; ended = []; made = []; last = 0 }

-- how many threads live: those made less those ended
abbrev pub live_of_run : RunYard → ℕ
live_of_run y = length y.made - length y.ended

-- a thread is woken before another by the due moment, and at one by the name
abbrev pub wakes_before : DueSleeper → DueSleeper → Bool
wakes_before x y = nat_lt x.due y.due || ((x.due == y.due) && nat_lt x.facts.name y.facts.name)

-- the thread to be woken first
abbrev pub first_sleeper : RunYard → Option DueSleeper
first_sleeper y = unpreceded wakes_before y.blocked

-- a list without the first of its members that pass a test
abbrev pub without_first : {X : Type 0} → (X → Bool) → List X → List X
without_first test [] = []
without_first test (x ∷ xs) = if test x then xs else x ∷ without_first test xs

-- the blocked threads without the one to be woken first; any other of its name stays
abbrev pub others_blocked : RunYard → List DueSleeper
others_blocked y = without_first (λ (w : DueSleeper). not (is_preceded wakes_before y.blocked w)) y.blocked

-- when a thread that goes to sleep for a span may be woken
abbrev pub due_after : ℕ → ℕ → ℕ
due_after now span = min (now + span) (moment_limit - 1)

-- what a line comes to in the yard of a run
pub record YardEvent : Type 0 where
  pub answer : Answer
  pub thread : Option Facts
  pub yard : RunYard

-- a thread is made: its name is unused, and there is room
abbrev pub making : SetupParts → RunYard → ℕ → Facts → Option YardEvent
making setup y now t =
    where_true (not (list_any (λ n. n == t.name) y.made) && nat_lt (live_of_run y) setup.threads)
    (record { answer = answers.Yes; thread = Some t; yard = record y { made = y.made ++ t.name ∷ []; last = now } })

-- a thread goes to sleep for a span
abbrev pub sleeping : RunYard → ℕ → Facts → ℕ → YardEvent
sleeping y now t span = record {
  answer = answers.Yes;
  thread = Some t;
  yard = record y { blocked = y.blocked ++ record { facts = t; since = now; due = due_after now span } ∷ []; last = now };
}

-- the thread to be woken first is woken, by its name, at a moment at which it is due
abbrev pub waking : RunYard → ℕ → ℕ → DueSleeper → Option YardEvent
waking y now name w =
    where_true ((name == w.facts.name) && nat_le w.due now)
    (record { answer = answers.Yes; thread = Some (rested (now - w.since) w.facts); yard = record y { blocked = others_blocked y; last = now } })

-- a thread ends
abbrev pub ending : RunYard → ℕ → Facts → YardEvent
ending y now t = record { answer = answers.Yes; thread = Some t; yard = record y { ended = y.ended ++ t.name ∷ []; last = now } }

-- the blocked threads are counted, where none is due
abbrev pub counting : RunYard → ℕ → Option YardEvent
counting y now =
    where_true (not (list_any (λ (w : DueSleeper). nat_le w.due now) y.blocked))
    (record { answer = answers.Left (length y.blocked); thread = None; yard = record y { last = now } })

-- what a line comes to in the yard, by its act: none where it has no place there, or asks for something that isn't so
abbrev pub yard_event_by : SetupParts → RunYard → Line → Act → Option YardEvent
yard_event_by setup y l (acts.Make name group bucket base bound) =
    making setup y (moment_of l) (made_thread setup name group bucket base bound (moment_of l))
yard_event_by setup y l acts.Sleep =
    option_and_then (λ (t : Facts). option_map (sleeping y (moment_of l) t) l.mark) l.entry.thread
yard_event_by setup y l (acts.Wake name) = option_and_then (waking y (moment_of l) name) (first_sleeper y)
yard_event_by setup y l acts.End = option_map (ending y (moment_of l)) l.entry.thread
yard_event_by setup y l acts.Blocked = counting y (moment_of l)
yard_event_by setup y l _ = None

-- what a line comes to in the yard of a run
abbrev pub yard_event : SetupParts → RunYard → Line → Option YardEvent
yard_event setup y l = yard_event_by setup y l (act_of l)

-- a line leads the yard of a run from one state to the next, at a moment that is not before its last
pub record YStep (setup : SetupParts) (y : RunYard) (l : Line) (next : RunYard) : Type 0 where
  pub fits : LineFits setup l
  pub not_before : y.last ≤ moment_of l
  pub event : YardEvent
  pub happens : yard_event setup y l ≡ Some event
  pub told : Carries l event.answer event.thread
  pub leads : next ≡ event.yard

-- the yard that a line leads to; as it was where the line comes to nothing
abbrev pub yard_after : SetupParts → RunYard → Line → RunYard
yard_after setup y l = option_map_or (λ (e : YardEvent). e.yard) (yard_event setup y l) y

-- lines lead the yard from one state to another
abbrev pub YRunFrom : SetupParts → RunYard → List Line → RunYard → Type 0
YRunFrom setup y [] end = end ≡ y
YRunFrom setup y (l ∷ ls) end = YStep setup y l (yard_after setup y l) × YRunFrom setup (yard_after setup y l) ls end

-- lines lead the empty yard to a state
abbrev pub YRun : SetupParts → List Line → RunYard → Type 0
YRun setup ls end = YRunFrom setup empty_run_yard ls end
