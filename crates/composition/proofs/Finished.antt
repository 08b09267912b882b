-- In a log by the worker rule every thread that ends has done the work of its program.
use Rattle.std.proofs.Common.{◌≡◌, ℕ, zero, suc, ◌≤◌, nat_lt, Bool, true, false, List, [], ◌∷◌, ◌++◌, map, Option, Some, None, option_and_then, refl, sym, ap, ◌∙◌, subst, inl, inr}
use Rattle.std.specs.Bool.{MatchBool}
use Rattle.std.specs.Option.{option_map}
use Rattle.std.proofs.lemmas.Option.{same_Some}
use Rattle.sched_base.specs.Facts.{charged}
use Rattle.sched_base.specs.declared.Act.{Act}
use Rattle.sched_base.specs.declared.Act.TheVariants as acts
use Rattle.sched_base.specs.declared.Answer.{Answer}
use Rattle.sched_base.specs.declared.Answer.TheVariants as answers
use Rattle.sched_base.specs.declared.Facts.{Facts}
use Rattle.flat_policy.specs.declared.journal.Line.{Line}
use Rattle.flat_policy.specs.Policy.Aim.{needed}
use Rattle.flat_policy.specs.Policy.Machine.{Hand, empty_hand, taking_hand}
use Rattle.flat_policy.specs.Policy.Setup.{SetupParts, cluster_times, home_of, rate_of, times_for}
use Rattle.flat_policy.specs.Runs.Hands.{Allows, HandEvent, Own, OwnFrom, charging_line, giving_line, hand_after, hand_after_all, hand_event, hand_event_by, taking_line}
use Rattle.flat_policy.specs.Runs.Histories.{act_of, actor_of, moment_of}
use Rattle.flat_policy.specs.Runs.Interleaving.{EachLine}
use Rattle.flat_policy.specs.Runs.Worker.{AfterCharge, AfterNone, ChargesAt, ChargesOr, ChargesStage, ChargesThread, EndsWithout, IsIdleEnd, IsWorked, OffersInTurn, Opening, OpeningOf, Opens, Placing, PlacesThread, PowerAt, Program, Rests, RunParts, SelectsAfterAsking, SelectsAndGoesOn, Stage, TurnSteps, TurnWith, Turns, TurnsOn, WakesAndPlaces, charge_of, ends_off, last_target, neighbours, power_act, power_for, program_of, stage_at, stages}
use Rattle.composition.proofs.Ahead.{hand_is}
use Rattle.composition.proofs.Charges.{work_done}
use Rattle.composition.proofs.Outcomes.{taken_by}

-- a line's thread has done the work of its program
pub record IsDone (run : RunParts) (l : Line) : Type 0 where
  pub thread : Facts
  pub moved : l.entry.thread ≡ Some thread
  pub program : Program
  pub named : program_of run.programs thread.name ≡ Some program
  pub work : thread.work ≡ last_target (stages program)

-- where a line ends a thread, that thread has
abbrev pub EndsDone : RunParts → Line → Type 0
EndsDone run l = act_of l ≡ acts.End → IsDone run l

abbrev pub AllDone : RunParts → List Line → Type 0
AllDone run ls = EachLine (EndsDone run) ls

each_append : (P : Line → Type 0) (xs ys : List Line) → EachLine P xs → EachLine P ys → EachLine P (xs ++ ys)
each_append P [] ys h k = k
each_append P (x ∷ xs) ys h k = (h.0, each_append P xs ys h.1 k)

own_append : (setup : SetupParts) (a : ℕ) (h : Hand) (xs ys : List Line) → OwnFrom setup a h (xs ++ ys) → OwnFrom setup a h xs × OwnFrom setup a (hand_after_all setup h xs) ys
own_append setup a h [] ys own = (tt, own)
own_append setup a h (x ∷ xs) ys own =
    let rest = own_append setup a (hand_after setup h x) xs ys own.1 in
    ((own.0, rest.0), rest.1)

-- a line with another act ends nothing
other_act : (run : RunParts) (l : Line) (act : Act) → act_of l ≡ act → (act ≡ acts.End → ⊥) → EndsDone run l
other_act run l act is other e = absurd (other (sym is ∙ e))

looks_done : (run : RunParts) (looks : List Line) (cs : List ℕ) → map act_of looks ≡ map (λ c. acts.Look c) cs → AllDone run looks
looks_done run [] cs h = tt
looks_done run (l ∷ ls) [] h = absurd (cc)
looks_done run (l ∷ ls) (c ∷ cs) h =
    let here : act_of l ≡ acts.Look c = cc in
    let rest : map act_of ls ≡ map (λ k. acts.Look k) cs = cc in
    (other_act run l (acts.Look c) here (λ e. cc), looks_done run ls cs rest)

placing_done : (run : RunParts) (t : Facts) (ls : List Line) → Placing run.setup t ls → AllDone run ls
placing_done run t ls p =
    subst (AllDone run) (sym p.whole)
    (each_append (EndsDone run) p.looks (p.aimed ∷ p.enters ∷ []) (looks_done run p.looks (needed run.setup t) p.each_look)
    (other_act run p.aimed acts.Aim p.aim_line.0 (λ e. cc), (other_act run p.enters (acts.Enter p.cluster false) p.enter_line (λ e. cc), tt)))

places_done : (run : RunParts) (ls : List Line) (o : Option Facts) → PlacesThread run.setup ls o → AllDone run ls
places_done run ls None h = absurd h
places_done run ls (Some t) h = placing_done run t ls h

-- the hand after a line that takes a thread holds it
takes : (setup : SetupParts) (a : ℕ) (h : Hand) (l : Line) (t : Facts) → Allows setup a h l → hand_event setup h l ≡ taking_line setup h l → l.entry.thread ≡ Some t → (hand_after setup h l).thread ≡ Some t
takes setup a h l t allows taking thread =
    let by = taken_by setup h l allows.event (sym taking ∙ allows.happens) in
    ap (λ (k : Hand). k.thread) (hand_is setup h l allows.event allows.happens)
    ∙ (ap (λ (k : Hand). k.thread) (sym by.hand) ∙ ap (λ (o : Option Facts). (taking_hand setup h o (moment_of l)).thread) thread)

-- a charge leaves its thread charged, in its line and in the hand
pub record IsCharged (setup : SetupParts) (h : Hand) (l : Line) (t : Facts) : Type 0 where
  pub line : l.entry.thread ≡ Some t
  pub hand : (hand_after setup h l).thread ≡ Some t

charges : (setup : SetupParts) (a : ℕ) (h : Hand) (l : Line) (t : Facts) (us : ℕ) → Allows setup a h l → act_of l ≡ acts.Ran us → h.thread ≡ Some t → IsCharged setup h l (charged us (rate_of setup (home_of setup a)) t)
charges setup a h l t us allows does held =
    let event : Some (charging_line setup h l us t) ≡ Some allows.event =
    sym (ap (hand_event_by setup h l) does ∙ ap (λ (o : Option Facts). option_map (charging_line setup h l us) o) held) ∙ allows.happens in
    let is : charging_line setup h l us t ≡ allows.event = same_Some (charging_line setup h l us t) allows.event event in
    let at_home : charged us (rate_of setup (home_of setup (actor_of l))) t ≡ charged us (rate_of setup (home_of setup a)) t = ap (λ b. charged us (rate_of setup (home_of setup b)) t) allows.actor in
    let thread : allows.event.thread ≡ Some (charged us (rate_of setup (home_of setup a)) t) = ap (λ (v : HandEvent). v.thread) (sym is) ∙ ap (λ (v : Facts). Some v) at_home in
    record {
      line = allows.told.thread ∙ thread;
      hand = ap (λ (k : Hand). k.thread) (hand_is setup h l allows.event allows.happens)
          ∙ (ap (λ (v : HandEvent). v.hand.thread) (sym is) ∙ ap (λ (v : Facts). Some v) at_home);
    }

-- a thread that ends is that of the hand
ends : (setup : SetupParts) (a : ℕ) (h : Hand) (l : Line) (t : Facts) → Allows setup a h l → act_of l ≡ acts.End → h.thread ≡ Some t → l.entry.thread ≡ Some t
ends setup a h l t allows does held =
    let event = sym (ap (hand_event_by setup h l) does ∙ ap (λ (o : Option Facts). option_map (giving_line setup l) o) held) ∙ allows.happens in
    allows.told.thread ∙ sym (ap (λ (v : HandEvent). v.thread) (same_Some (giving_line setup l t) allows.event event))

-- what follows a charge
rests_done : (run : RunParts) (a : ℕ) (h : Hand) (t : Facts) (p : Program) (sleep : Option ℕ) (ls : List Line) → OwnFrom run.setup a h ls → h.thread ≡ Some t → program_of run.programs t.name ≡ Some p → (sleep ≡ None → t.work ≡ last_target (stages p))
    → Rests sleep ls → AllDone run ls
rests_done run a h t p sleep [] own held named work rests = absurd rests
rests_done run a h t p None (l ∷ []) own held named work rests =
    (λ e. record { thread = t; moved = ends run.setup a h l t own.0 e held; program = p; named = named; work = work refl }, tt)
rests_done run a h t p (Some span) (l ∷ []) own held named work rests = (other_act run l acts.Sleep rests.0 (λ e. cc), tt)
rests_done run a h t p None (l ∷ m ∷ ls) own held named work rests = absurd rests
rests_done run a h t p (Some span) (l ∷ m ∷ ls) own held named work rests = absurd rests

match_done : (run : RunParts) (a : ℕ) (h : Hand) (t : Facts) (p : Program) (sleep : Option ℕ) (ls : List Line) (b : Bool) → OwnFrom run.setup a h ls → h.thread ≡ Some t → program_of run.programs t.name ≡ Some p → (b ≡ false → sleep ≡ None → t.work ≡ last_target (stages p))
    → MatchBool b (Placing run.setup t ls) (Rests sleep ls) → AllDone run ls
match_done run a h t p sleep ls true own held named work m = placing_done run t ls m
match_done run a h t p sleep ls false own held named work m = rests_done run a h t p sleep ls own held named (work refl) m

stage_done : (run : RunParts) (a : ℕ) (h : Hand) (t : Facts) (clock : ℕ) (p : Program) (s : Stage) (ls : List Line) → rate_of run.setup (home_of run.setup a) ≤ 1000 → OwnFrom run.setup a h ls → h.thread ≡ Some t → program_of run.programs t.name ≡ Some p → stage_at p t.work ≡ Some s
    → ChargesStage run.setup (home_of run.setup a) t clock s ls → AllDone run ls
stage_done run a h t clock p s [] slow own held named at charge = absurd charge
stage_done run a h t clock p s (l ∷ ls) slow own held named at charge =
    let us : ℕ = charge_of run.setup (home_of run.setup a) t s in
    let u : Facts = charged us (rate_of run.setup (home_of run.setup a)) t in
    let c = charges run.setup a h l t us own.0 charge.0 held in (
      other_act run l (acts.Ran us) charge.0 (λ e. cc),
      match_done run a (hand_after run.setup h l) u p s.sleep ls (nat_lt u.work s.target) own.1 c.hand named
          (work_done p s t (rate_of run.setup (home_of run.setup a)) (times_for (cluster_times run.setup (home_of run.setup a)) t.bucket).quantum slow at)
          (subst (AfterCharge run.setup s ls) c.line charge.2),
    )

stage_by : (run : RunParts) (a : ℕ) (h : Hand) (t : Facts) (clock : ℕ) (p : Program) (ls : List Line) → rate_of run.setup (home_of run.setup a) ≤ 1000 → OwnFrom run.setup a h ls → h.thread ≡ Some t → program_of run.programs t.name ≡ Some p
    → (o : Option Stage) → stage_at p t.work ≡ o → ChargesAt run.setup (home_of run.setup a) t clock o ls → AllDone run ls
stage_by run a h t clock p ls slow own held named None at charge = absurd charge
stage_by run a h t clock p ls slow own held named (Some s) at charge = stage_done run a h t clock p s ls slow own held named at charge

program_by : (run : RunParts) (a : ℕ) (h : Hand) (t : Facts) (clock : ℕ) (ls : List Line) → rate_of run.setup (home_of run.setup a) ≤ 1000 → OwnFrom run.setup a h ls → h.thread ≡ Some t
    → (o : Option Program) → program_of run.programs t.name ≡ o → ChargesAt run.setup (home_of run.setup a) t clock (option_and_then (λ (p : Program). stage_at p t.work) o) ls → AllDone run ls
program_by run a h t clock ls slow own held None named charge = absurd charge
program_by run a h t clock ls slow own held (Some p) named charge = stage_by run a h t clock p ls slow own held named (stage_at p t.work) refl charge

thread_done : (run : RunParts) (a : ℕ) (h : Hand) (t : Facts) (clock : ℕ) (ls : List Line) → rate_of run.setup (home_of run.setup a) ≤ 1000 → OwnFrom run.setup a h ls → h.thread ≡ Some t → ChargesThread run (home_of run.setup a) t clock ls → AllDone run ls
thread_done run a h t clock ls slow own held charge = program_by run a h t clock ls slow own held (program_of run.programs t.name) refl charge

-- what follows a line that may take a thread
or_done : (run : RunParts) (a : ℕ) (h : Hand) (l : Line) (ls : List Line) (Otherwise : Type 0) → rate_of run.setup (home_of run.setup a) ≤ 1000 → OwnFrom run.setup a (hand_after run.setup h l) ls
    → (Otherwise → AllDone run ls) → (o : Option Facts) → ((t : Facts) → o ≡ Some t → (hand_after run.setup h l).thread ≡ Some t) → ChargesOr run (home_of run.setup a) l ls Otherwise o → AllDone run ls
or_done run a h l ls Otherwise slow own else None held charge = else charge
or_done run a h l ls Otherwise slow own else (Some t) held charge = thread_done run a (hand_after run.setup h l) t (moment_of l) ls slow own (held t refl) charge

wakes_done : (run : RunParts) (ls : List Line) → WakesAndPlaces run.setup ls → AllDone run ls
wakes_done run [] h = absurd h
wakes_done run (l ∷ ls) h = (other_act run l (acts.Wake h.0) h.1 (λ e. cc), places_done run ls l.entry.thread h.2)

idle_done : (run : RunParts) (ls : List Line) → IsIdleEnd ls → AllDone run ls
idle_done run ls h = subst (AllDone run) (sym h.1) (other_act run h.0 acts.Blocked h.2.0 (λ e. cc), tt)

without_done : (run : RunParts) (ls : List Line) → EndsWithout run.setup ls → AllDone run ls
without_done run ls h = elim h [ inl w ↦ wakes_done run ls w | inr i ↦ idle_done run ls i ]

offers_done : (run : RunParts) (a : ℕ) (h : Hand) (js : List ℕ) (ls : List Line) → rate_of run.setup (home_of run.setup a) ≤ 1000 → OwnFrom run.setup a h ls → OffersInTurn run (home_of run.setup a) js ls → AllDone run ls
offers_done run a h [] ls slow own offers = without_done run ls offers
offers_done run a h (j ∷ js) [] slow own offers = absurd offers
offers_done run a h (j ∷ js) (l ∷ ls) slow own offers = (
  other_act run l (acts.Offer j) offers.0 (λ e. cc),
  or_done run a h l ls (OffersInTurn run (home_of run.setup a) js ls) slow own.1
      (λ rest. offers_done run a (hand_after run.setup h l) js ls slow own.1 rest)
      l.entry.thread (λ t is. takes run.setup a h l t own.0 (ap (hand_event_by run.setup h l) offers.0) is) offers.1,
)

none_done : (run : RunParts) (a : ℕ) (h : Hand) (ls : List Line) (answer : Answer) → rate_of run.setup (home_of run.setup a) ≤ 1000 → OwnFrom run.setup a h ls → AfterNone run (home_of run.setup a) ls answer → AllDone run ls
none_done run a h ls answers.Empty slow own after = offers_done run a h (neighbours run.setup (home_of run.setup a)) ls slow own after
none_done run a h ls answers.Off slow own after = without_done run ls after
none_done run a h ls _ slow own after = absurd after

selects_done : (run : RunParts) (a : ℕ) (h : Hand) (l : Line) (ls : List Line) → rate_of run.setup (home_of run.setup a) ≤ 1000 → OwnFrom run.setup a h (l ∷ ls) → SelectsAndGoesOn run (home_of run.setup a) l ls → AllDone run (l ∷ ls)
selects_done run a h l ls slow own selects = (
  other_act run l acts.Select selects.0 (λ e. cc),
  or_done run a h l ls (AfterNone run (home_of run.setup a) ls l.entry.answer) slow own.1
      (λ rest. none_done run a (hand_after run.setup h l) ls l.entry.answer slow own.1 rest)
      l.entry.thread (λ t is. takes run.setup a h l t own.0 (ap (hand_event_by run.setup h l) selects.0) is) selects.1,
)

asking_done : (run : RunParts) (a : ℕ) (h : Hand) (ls : List Line) → rate_of run.setup (home_of run.setup a) ≤ 1000 → OwnFrom run.setup a h ls → SelectsAfterAsking run (home_of run.setup a) ls → AllDone run ls
asking_done run a h [] slow own asks = absurd asks
asking_done run a h (l ∷ []) slow own asks = absurd asks
asking_done run a h (l ∷ m ∷ ls) slow own asks =
    (other_act run l acts.Blocked asks.0 (λ e. cc), selects_done run a (hand_after run.setup h l) m ls slow own.1 asks.1)

steps_done : (run : RunParts) (a : ℕ) (h : Hand) (ls : List Line) → rate_of run.setup (home_of run.setup a) ≤ 1000 → OwnFrom run.setup a h ls → TurnSteps run (home_of run.setup a) ls → AllDone run ls
steps_done run a h ls slow own steps = elim steps [ inl w ↦ wakes_done run ls w | inr s ↦ asking_done run a h ls slow own s ]

power_ends_nothing : (b : Bool) (c : ℕ) → power_act b c ≡ acts.End → ⊥
power_ends_nothing true c e = cc
power_ends_nothing false c e = cc

turn_with_done : (run : RunParts) (a : ℕ) (h : Hand) (o : Option PowerAt) (ls : List Line) → rate_of run.setup (home_of run.setup a) ≤ 1000 → OwnFrom run.setup a h ls → TurnWith run (home_of run.setup a) o ls → AllDone run ls
turn_with_done run a h None ls slow own turn = steps_done run a h ls slow own turn
turn_with_done run a h (Some p) [] slow own turn = absurd turn
turn_with_done run a h (Some p) (l ∷ ls) slow own turn =
    (other_act run l (power_act p.on (home_of run.setup a)) turn.0 (power_ends_nothing p.on (home_of run.setup a)), steps_done run a (hand_after run.setup h l) ls slow own.1 turn.1)

turns_done : (run : RunParts) (a : ℕ) (h : Hand) (k count : ℕ) (ls : List Line) → rate_of run.setup (home_of run.setup a) ≤ 1000 → OwnFrom run.setup a h ls → Turns run a k count ls → AllDone run ls
turns_done run a h k zero ls slow own turns = subst (AllDone run) (sym turns) tt
turns_done run a h k (suc count) ls slow own turns =
    let parts = own_append run.setup a h turns.0 turns.1 (subst (OwnFrom run.setup a h) turns.2 own) in
    subst (AllDone run) (sym turns.2)
    (each_append (EndsDone run) turns.0 turns.1 (turn_with_done run a h (power_for run a k) turns.0 slow parts.0 turns.3)
    (turns_done run a (hand_after_all run.setup h turns.0) (suc k) count turns.1 slow parts.1 turns.4))

opens_done : (run : RunParts) (p : Program) (ls : List Line) → Opens run p ls → AllDone run ls
opens_done run p [] opens = absurd opens
opens_done run p (l ∷ ls) opens = (other_act run l (acts.Make p.name p.group p.bucket p.base p.bound) opens.0 (λ e. cc), places_done run ls l.entry.thread opens.2)

opening_done : (run : RunParts) (ps : List Program) (ls : List Line) → Opening run ps ls → AllDone run ls
opening_done run [] ls opening = subst (AllDone run) (sym opening) tt
opening_done run (p ∷ ps) ls opening =
    subst (AllDone run) (sym opening.2) (each_append (EndsDone run) opening.0 opening.1 (opens_done run p opening.0 opening.3) (opening_done run ps opening.1 opening.4))

opening_of_done : (run : RunParts) (a : ℕ) (ls : List Line) → OpeningOf run a ls → AllDone run ls
opening_of_done run zero ls opening = opening_done run run.programs ls opening
opening_of_done run (suc a) ls opening = subst (AllDone run) (sym opening) tt

turns_on_done : (run : RunParts) (a : ℕ) (b : Bool) (ls : List Line) → TurnsOn run a b ls → AllDone run ls
turns_on_done run a true ls on = subst (AllDone run) (sym on.1) (other_act run on.0 (acts.On (home_of run.setup a)) on.2 (λ e. cc), tt)
turns_on_done run a false ls on = subst (AllDone run) (sym on) tt

-- every line of a log
pub worked_done : (run : RunParts) (a : ℕ) (ls : List Line) → rate_of run.setup (home_of run.setup a) ≤ 1000 → Own run.setup a ls → IsWorked run a ls → AllDone run ls
worked_done run a ls slow own w =
    let h : Hand = empty_hand run.setup 0 in
    let outer = own_append run.setup a h ((w.opening ++ w.numbered) ++ w.on) w.rounds (subst (OwnFrom run.setup a h) w.whole own) in
    let middle = own_append run.setup a h (w.opening ++ w.numbered) w.on outer.0 in
    let inner = own_append run.setup a h w.opening w.numbered middle.0 in
    subst (AllDone run) (sym w.whole)
    (each_append (EndsDone run) ((w.opening ++ w.numbered) ++ w.on) w.rounds
    (each_append (EndsDone run) (w.opening ++ w.numbered) w.on
    (each_append (EndsDone run) w.opening w.numbered (opening_of_done run a w.opening w.opens)
    (turns_done run a (hand_after_all run.setup h w.opening) 0 run.turns w.numbered slow inner.1 w.turns))
    (turns_on_done run a (ends_off (w.opening ++ w.numbered)) w.on w.turns_on))
    (turns_done run a (hand_after_all run.setup h ((w.opening ++ w.numbered) ++ w.on)) run.turns w.round_count w.rounds slow outer.1 w.in_rounds))
