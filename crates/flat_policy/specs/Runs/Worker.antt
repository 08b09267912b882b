-- The worker rule: which lines an actor's turn appends to its log.
use Rattle.std.specs.Bool.{MatchBool}
use Rattle.std.specs.List.{list_any}
use Rattle.std.specs.Prelude.{Bool, List, None, Option, Some, [], false, filter, find, if◌then◌else◌, is_some, map, min, nat_lt, not, option_and_then, suc, true, zero, ℕ, ◌&&◌, ◌*◌, ◌++◌, ◌+◌, ◌-◌, ◌/◌, ◌==◌, ◌||◌, ◌∷◌, ◌≡◌, ◌⊎◌}
use Rattle.sched_base.specs.Limits.{moment_limit}
use Rattle.sched_base.specs.declared.Act.{Act}
use Rattle.sched_base.specs.declared.Answer.{Answer}
use Rattle.sched_base.specs.declared.Bucket.{Bucket}
use Rattle.sched_base.specs.declared.Facts.{Facts}
use Rattle.flat_policy.specs.declared.journal.Line.{Line}
use Rattle.flat_policy.specs.Policy.Aim.{needed}
use Rattle.flat_policy.specs.Runs.Interleaving.{EachLine}
use Rattle.flat_policy.specs.Runs.Hands.{Own}
use Rattle.flat_policy.specs.Runs.Histories.{act_of, moment_of}
use Rattle.flat_policy.specs.Policy.Setup.{SetupParts, cluster_count, cluster_times, home_of, migrates, numbers_below, rate_of, steal_mask, times_for}
use Rattle.sched_base.specs.declared.Act.TheVariants as acts
use Rattle.sched_base.specs.declared.Answer.TheVariants as answers

-- a program: a thread, and its run spans (units of work) and sleep spans (microseconds) in turn
pub record Program : Type 0 where
  pub name : ℕ
  pub group : ℕ
  pub bucket : Bucket
  pub base : ℕ
  pub bound : Option ℕ
  pub spans : List ℕ

-- a power: the first actor of a cluster turns it on or off in its turn of that number
pub record PowerAt : Type 0 where
  pub cluster : ℕ
  pub on : Bool
  pub turn : ℕ

-- what a run is given: the setup, the programs, the powers, and how many numbered turns each actor takes
pub record RunParts : Type 0 where
  pub setup : SetupParts
  pub programs : List Program
  pub powers : List PowerAt
  pub turns : ℕ

-- a stage of a program: the work at which it ends, and the sleep that follows; none after the last
pub record Stage : Type 0 where
  pub target : ℕ
  pub sleep : Option ℕ

-- the stages of a list of spans, from an amount of work
abbrev pub stages_from : ℕ → List ℕ → List Stage
stages_from before [] = []
stages_from before (run ∷ []) = record { target = before + run; sleep = None } ∷ []
stages_from before (run ∷ sleep ∷ rest) = record { target = before + run; sleep = Some sleep } ∷ stages_from (before + run) rest

-- the stages of a program
abbrev pub stages : Program → List Stage
stages p = stages_from 0 p.spans

-- the target of the last stage of some, 0 of none
abbrev pub last_target : List Stage → ℕ
last_target [] = 0
last_target (s ∷ []) = s.target
last_target (s ∷ t ∷ ss) = last_target (t ∷ ss)

-- the program of a name
abbrev pub program_of : List Program → ℕ → Option Program
program_of ps name = find (λ (p : Program). p.name == name) ps

-- the stage that a thread is in: the first whose target is greater than the work done
abbrev pub stage_at : Program → ℕ → Option Stage
stage_at p work = find (λ (s : Stage). nat_lt work s.target) (stages p)

-- how long a processor of a rate takes for an amount of work, rounded up
abbrev pub time_for : ℕ → ℕ → ℕ
time_for rate work = (work * 1000 + (rate - 1)) / rate

-- the charge of a turn: the quantum of the thread's bucket at the cluster, or the time for what is left, where that is less
abbrev pub charge_of : SetupParts → ℕ → Facts → Stage → ℕ
charge_of setup c t s = min (times_for (cluster_times setup c) t.bucket).quantum (time_for (rate_of setup c) (s.target - t.work))

-- the moment of a charge that begins at a clock
abbrev pub charge_moment : ℕ → ℕ → ℕ
charge_moment clock charge = min (clock + charge) (moment_limit - 1)

-- a line has an act
abbrev pub Does : Act → Line → Type 0
Does act l = act_of l ≡ act

-- a line has an act and an answer
abbrev pub Answered : Act → Answer → Line → Type 0
Answered act answer l = (act_of l ≡ act) × (l.entry.answer ≡ answer)

-- placing a thread: the looks that its aim needs in ascending order, the aim, and the entering at the tail of the aimed cluster
pub record Placing (setup : SetupParts) (t : Facts) (ls : List Line) : Type 0 where
  pub looks : List Line
  pub aimed : Line
  pub enters : Line
  pub cluster : ℕ
  pub whole : ls ≡ looks ++ aimed ∷ enters ∷ []
  pub each_look : map act_of looks ≡ map (λ c. acts.Look c) (needed setup t)
  pub aim_line : Answered acts.Aim (answers.To cluster) aimed
  pub enter_line : Does (acts.Enter cluster false) enters

-- after a charge that brought a thread to its stage's target: the end, or the sleep that follows
abbrev pub Rests : Option ℕ → List Line → Type 0
Rests sleep [] = ⊥
Rests None (l ∷ []) = Does acts.End l
Rests (Some span) (l ∷ []) = Does acts.Sleep l × (l.mark ≡ Some span)
Rests sleep (l ∷ m ∷ ls) = ⊥

-- after a charge: a placing where work is left in the stage, otherwise the end or a sleep
abbrev pub AfterCharge : SetupParts → Stage → List Line → Option Facts → Type 0
AfterCharge setup s ls None = ⊥
AfterCharge setup s ls (Some t) = MatchBool (nat_lt t.work s.target) (Placing setup t ls) (Rests s.sleep ls)

-- the charge of a thread in a stage, from a clock: one ran of the charge at its moment, and what follows
abbrev pub ChargesStage : SetupParts → ℕ → Facts → ℕ → Stage → List Line → Type 0
ChargesStage setup c t clock s [] = ⊥
ChargesStage setup c t clock s (l ∷ ls) =
    Does (acts.Ran (charge_of setup c t s)) l × (moment_of l ≡ charge_moment clock (charge_of setup c t s))
    × AfterCharge setup s ls l.entry.thread

-- the charge of a thread in the stage that it is in
abbrev pub ChargesAt : SetupParts → ℕ → Facts → ℕ → Option Stage → List Line → Type 0
ChargesAt setup c t clock None ls = ⊥
ChargesAt setup c t clock (Some s) ls = ChargesStage setup c t clock s ls

-- the stage that a thread is in, of the program of its name
abbrev pub stage_of : List Program → Facts → Option Stage
stage_of ps t = option_and_then (λ (p : Program). stage_at p t.work) (program_of ps t.name)

-- the charge of a thread, of some programs
abbrev pub ChargesThread : RunParts → ℕ → Facts → ℕ → List Line → Type 0
ChargesThread run c t clock ls = ChargesAt run.setup c t clock (stage_of run.programs t) ls

-- the placing of a thread that a line took
abbrev pub PlacesThread : SetupParts → List Line → Option Facts → Type 0
PlacesThread setup ls None = ⊥
PlacesThread setup ls (Some t) = Placing setup t ls

-- the first ending of a turn that got no thread: a wake and a placing
abbrev pub WakesAndPlaces : SetupParts → List Line → Type 0
WakesAndPlaces setup [] = ⊥
WakesAndPlaces setup (l ∷ ls) = (name : ℕ) × Does (acts.Wake name) l × PlacesThread setup ls l.entry.thread

-- the other: that none is blocked
abbrev pub IsIdleEnd : List Line → Type 0
IsIdleEnd ls = (l : Line) × (ls ≡ l ∷ []) × Answered acts.Blocked (answers.Left 0) l

-- the ending of a turn that got no thread: either of the two
abbrev pub EndsWithout : SetupParts → List Line → Type 0
EndsWithout setup ls = WakesAndPlaces setup ls ⊎ IsIdleEnd ls

-- the clusters that may be asked for an offer: all but the home whose edge to it moves threads or may be stolen along
abbrev pub neighbours : SetupParts → ℕ → List ℕ
neighbours setup c =
    filter (λ j. not (j == c) && (migrates setup j c || not (steal_mask setup j c == 0))) (numbers_below (cluster_count setup))

-- the charge of the thread that a line took, if it took one; otherwise something else
abbrev pub ChargesOr : RunParts → ℕ → Line → List Line → Type 0 → Option Facts → Type 0
ChargesOr run c l ls Otherwise None = Otherwise
ChargesOr run c l ls Otherwise (Some t) = ChargesThread run c t (moment_of l) ls

-- the offers of neighbours in ascending order, up to the first that got a thread, which is charged; where none did, the ending
abbrev pub OffersInTurn : RunParts → ℕ → List ℕ → List Line → Type 0
OffersInTurn run c [] ls = EndsWithout run.setup ls
OffersInTurn run c (j ∷ js) [] = ⊥
OffersInTurn run c (j ∷ js) (l ∷ ls) = Does (acts.Offer j) l × ChargesOr run c l ls (OffersInTurn run c js ls) l.entry.thread

-- what follows a select that got no thread: the offers where the queue was empty; no offer where the home is off
abbrev pub AfterNone : RunParts → ℕ → List Line → Answer → Type 0
AfterNone run c ls answers.Empty = OffersInTurn run c (neighbours run.setup c) ls
AfterNone run c ls answers.Off = EndsWithout run.setup ls
AfterNone run c ls _ = ⊥

-- a select and what follows: the charge of its thread where it got one
abbrev pub SelectsAndGoesOn : RunParts → ℕ → Line → List Line → Type 0
SelectsAndGoesOn run c l ls = Does acts.Select l × ChargesOr run c l ls (AfterNone run c ls l.entry.answer) l.entry.thread

-- that no thread is due, a select, and what follows
abbrev pub SelectsAfterAsking : RunParts → ℕ → List Line → Type 0
SelectsAfterAsking run c [] = ⊥
SelectsAfterAsking run c (l ∷ []) = ⊥
SelectsAfterAsking run c (l ∷ m ∷ ls) = Does acts.Blocked l × SelectsAndGoesOn run c m ls

-- the numbered steps of a turn: a wake and a placing; or that no thread is due, a select, and what follows
abbrev pub TurnSteps : RunParts → ℕ → List Line → Type 0
TurnSteps run c ls = WakesAndPlaces run.setup ls ⊎ SelectsAfterAsking run c ls

-- the first actor of a cluster: the lowest whose home it is
abbrev pub is_first_actor : SetupParts → ℕ → Bool
is_first_actor setup a = not (list_any (λ b. home_of setup b == home_of setup a) (numbers_below a))

-- the power that an actor does at the start of a turn, where there is one
abbrev pub power_for : RunParts → ℕ → ℕ → Option PowerAt
power_for run a k =
    if is_first_actor run.setup a && nat_lt k run.turns
    then find (λ (p : PowerAt). (p.cluster == home_of run.setup a) && (p.turn == k)) run.powers
    else None

-- turning a cluster on or off, as an act
abbrev pub power_act : Bool → ℕ → Act
power_act true c = acts.On c
power_act false c = acts.Off c

-- a turn begins with its power, where it has one
abbrev pub TurnWith : RunParts → ℕ → Option PowerAt → List Line → Type 0
TurnWith run c None ls = TurnSteps run c ls
TurnWith run c (Some p) [] = ⊥
TurnWith run c (Some p) (l ∷ ls) = Does (power_act p.on c) l × TurnSteps run c ls

-- turn number k of an actor
abbrev pub Turn : RunParts → ℕ → ℕ → List Line → Type 0
Turn run a k ls = TurnWith run (home_of run.setup a) (power_for run a k) ls

-- whether a line is the yard's answer that no thread is blocked
abbrev pub tells_none_blocked : Act → Answer → Bool
tells_none_blocked acts.Blocked (answers.Left zero) = true
tells_none_blocked _ _ = false

-- whether the last line of a turn is that answer
abbrev pub ends_idle : List Line → Bool
ends_idle [] = false
ends_idle (l ∷ []) = tells_none_blocked (act_of l) l.entry.answer
ends_idle (l ∷ m ∷ ls) = ends_idle (m ∷ ls)

-- whether a turn is idle: it ends with that answer, and no line of it moved a thread
abbrev pub is_idle : List Line → Bool
is_idle ls = ends_idle ls && not (list_any (λ (l : Line). is_some l.entry.thread) ls)

-- turns from a number on, so many, one after another
abbrev pub Turns : RunParts → ℕ → ℕ → ℕ → List Line → Type 0
Turns run a k zero ls = ls ≡ []
Turns run a k (suc count) ls =
    (first : List Line) × (rest : List Line) × (ls ≡ first ++ rest) × Turn run a k first × Turns run a (suc k) count rest

-- the opening of one program at moment 0: its make, and the placing of its thread
abbrev pub Opens : RunParts → Program → List Line → Type 0
Opens run p [] = ⊥
Opens run p (l ∷ ls) =
    Does (acts.Make p.name p.group p.bucket p.base p.bound) l
    × EachLine (λ (m : Line). moment_of m ≡ 0) (l ∷ ls)
    × PlacesThread run.setup ls l.entry.thread

-- the opening of all programs in order
abbrev pub Opening : RunParts → List Program → List Line → Type 0
Opening run [] ls = ls ≡ []
Opening run (p ∷ ps) ls =
    (first : List Line) × (rest : List Line) × (ls ≡ first ++ rest) × Opens run p first × Opening run ps rest

-- the opening is actor 0's alone
abbrev pub OpeningOf : RunParts → ℕ → List Line → Type 0
OpeningOf run zero ls = Opening run run.programs ls
OpeningOf run (suc a) ls = ls ≡ []

-- whether a cluster is off after an act, where it was so before
abbrev pub off_after : Bool → Act → Bool
off_after so (acts.Off at) = true
off_after so (acts.On at) = false
off_after so _ = so

-- whether a cluster is off after some lines, where it was so before
abbrev pub ends_off_from : Bool → List Line → Bool
ends_off_from so [] = so
ends_off_from so (l ∷ ls) = ends_off_from (off_after so (act_of l)) ls

-- whether the last off or on of some lines is an off
abbrev pub ends_off : List Line → Bool
ends_off ls = ends_off_from false ls

-- the on before the rounds, where the lines before leave the home off
abbrev pub TurnsOn : RunParts → ℕ → Bool → List Line → Type 0
TurnsOn run a true ls = (l : Line) × (ls ≡ l ∷ []) × Does (acts.On (home_of run.setup a)) l
TurnsOn run a false ls = ls ≡ []

-- the parts of an actor's log: the opening, the numbered turns, the on before the rounds, and the turns of the rounds, which have no power
pub record IsWorked (run : RunParts) (a : ℕ) (ls : List Line) : Type 0 where
  pub opening : List Line
  pub numbered : List Line
  pub on : List Line
  pub rounds : List Line
  pub round_count : ℕ
  pub whole : ls ≡ ((opening ++ numbered) ++ on) ++ rounds
  pub opens : OpeningOf run a opening
  pub turns : Turns run a 0 run.turns numbered
  pub turns_on : TurnsOn run a (ends_off (opening ++ numbered)) on
  pub in_rounds : Turns run a run.turns round_count rounds

-- an actor's log is what its hand allows, and follows the worker rule
pub record Worked (run : RunParts) (a : ℕ) (ls : List Line) : Type 0 where
  pub own : Own run.setup a ls
  pub rule : IsWorked run a ls
