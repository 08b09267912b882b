-- Lines in the yard: what the yard of the run and the hand allow, the machine does.
use Rattle.std.proofs.Common.{◌≡◌, ℕ, ◌-◌, ◌≤◌, ◌==◌, ◌&&◌, ◌++◌, nat_le, nat_lt, not, List, [], ◌∷◌, count_by, length, map, set, Option, Some, None, is_none, is_some, refl, sym, ap, ◌∙◌, eqb-true}
use Rattle.std.specs.List.{list_any}
use Rattle.std.specs.Option.{option_map}
use Rattle.std.proofs.lemmas.Bool.{and_parts, lt-leb, ltb-true}
use Rattle.std.proofs.lemmas.List.{length-map, map-append}
use Rattle.std.proofs.lemmas.Option.{none-some, same_Some}
use Rattle.sched_base.specs.Facts.{rested}
use Rattle.sched_base.specs.declared.Act.{Act}
use Rattle.sched_base.specs.declared.Act.TheVariants as acts
use Rattle.sched_base.specs.declared.Answer.TheVariants as answers
use Rattle.sched_base.specs.declared.Bucket.{Bucket}
use Rattle.sched_base.specs.declared.Facts.{Facts}
use Rattle.sched_base.specs.declared.Spot.TheVariants as spots
use Rattle.flat_policy.specs.declared.journal.Line.{Line}
use Rattle.flat_policy.specs.Policy.Machine.{Hand, MachineState, Outcome, Sleeper, empty_hand, end_outcome, filled_hand, kept_hand, live_count, name_used, no_room, not_blocked, sleep_outcome, sleeper_of, taking_hand, wake_outcome}
use Rattle.flat_policy.specs.Policy.Queue.{Flat}
use Rattle.flat_policy.specs.Policy.Setup.{SetupParts}
use Rattle.flat_policy.specs.Policy.Threads.{made_thread}
use Rattle.flat_policy.specs.Policy.Unpreceded.{is_preceded}
use Rattle.flat_policy.specs.Runs.Hands.{HandEvent, hand_event_by, untold}
use Rattle.flat_policy.specs.Runs.Histories.{Carries, DueSleeper, RunYard, YardEvent, actor_of, due_after, ending, first_sleeper, live_of_run, moment_of, others_blocked, sleeping, waking, wakes_before, yard_event_by}
use Rattle.flat_policy.proofs.Happens.{and_then_gives, map_gives, where_true_gives}
use Rattle.composition.specs.Joined.{machine_of, without_due, yard_of_run}
use Rattle.composition.proofs.Outcomes.{Comes, given_by, holds_some, not_holds, outcome_same, passes, taken_by, told}
use Rattle.composition.proofs.Sleepers.{found_is_there, has_name, leaves_by_name}

-- the machine after a line in the yard
abbrev pub after_yard : List Flat → List Hand → Line → YardEvent → HandEvent → MachineState
after_yard fs hs l e f = machine_of fs (set hs (actor_of l) f.hand) e.yard

-- what a line in the yard comes to in the machine
abbrev pub ComesInYard : SetupParts → List Flat → List Hand → RunYard → Hand → Line → YardEvent → HandEvent → Act → Type 0
ComesInYard setup fs hs y h l e f act = Comes setup (machine_of fs hs y) h l act (Some spots.Yard) (after_yard fs hs l e f)

-- what an event of the yard tells, with the hand after it
abbrev yard_tells : List Flat → List Hand → Line → YardEvent → Hand → Outcome
yard_tells fs hs l e h = record { answer = e.answer; thread = e.thread; state = machine_of fs (set hs (actor_of l) h) e.yard }

yard_told : (fs : List Flat) (hs : List Hand) (l : Line) (x e : YardEvent) (h : Hand) (f : HandEvent) → Carries l e.answer e.thread → x ≡ e → h ≡ f.hand → yard_tells fs hs l x h ≡ told l (after_yard fs hs l e f)
yard_told fs hs l x e h f tells is hand =
    ap (λ (v : YardEvent). yard_tells fs hs l v h) is
    ∙ outcome_same e.answer l.entry.answer e.thread l.entry.thread (machine_of fs (set hs (actor_of l) h) e.yard) (after_yard fs hs l e f)
    (sym tells.answer) (sym tells.thread) (ap (λ (k : Hand). machine_of fs (set hs (actor_of l) k) e.yard) hand)

-- a hand that takes the thread of an event
filled : (setup : SetupParts) (h : Hand) (l : Line) (e : YardEvent) (f : HandEvent) (t : Facts) → Carries l e.answer e.thread → ◌≡◌ {A = Option Facts} (Some t) e.thread → taking_hand setup h l.entry.thread (moment_of l) ≡ f.hand → filled_hand setup t (moment_of l) ≡ f.hand
filled setup h l e f t tells is hand = ap (λ (o : Option Facts). taking_hand setup h o (moment_of l)) (is ∙ sym tells.thread) ∙ hand

-- the yard with a name more among those made
abbrev pub with_made : RunYard → ℕ → Facts → YardEvent
with_made y now t = record { answer = answers.Yes; thread = Some t; yard = record y { made = y.made ++ t.name ∷ []; last = now } }

make_comes : (setup : SetupParts) (fs : List Flat) (hs : List Hand) (y : RunYard) (h : Hand) (l : Line) (e : YardEvent) (f : HandEvent) → Carries l e.answer e.thread → (name group : ℕ) (bucket : Bucket) (base : ℕ) (bound : Option ℕ)
    → yard_event_by setup y l (acts.Make name group bucket base bound) ≡ Some e → hand_event_by setup h l (acts.Make name group bucket base bound) ≡ Some f → ComesInYard setup fs hs y h l e f (acts.Make name group bucket base bound)
make_comes setup fs hs y h l e f tells name group bucket base bound happens allowed =
    let now : ℕ = moment_of l in
    let t : Facts = made_thread setup name group bucket base bound now in
    let here = where_true_gives (not (list_any (λ n. n == name) y.made) && nat_lt (live_of_run y) setup.threads) (with_made y now t) e happens in
    let parts = and_parts (not (list_any (λ n. n == name) y.made)) (nat_lt (live_of_run y) setup.threads) here.0 in
    let by = taken_by setup h l f allowed in
    record {
      at = refl;
      accepted = passes (is_some h.thread) answers.HandFull (name_used (yard_of_run y) name ∷ no_room setup (yard_of_run y) ∷ []) by.empty
          ∙ (passes (list_any (λ n. n == name) y.made) answers.NameUsed (no_room setup (yard_of_run y) ∷ []) (not_holds (list_any (λ n. n == name) y.made) parts.0)
          ∙ passes (nat_le setup.threads (live_count (yard_of_run y))) answers.NoRoom [] (lt-leb setup.threads (live_of_run y) (ltb-true (live_of_run y) setup.threads parts.1)));
      comes = yard_told fs hs l (with_made y now t) e (filled_hand setup t now) f tells here.1 (filled setup h l e f t tells (ap (λ (v : YardEvent). v.thread) here.1) by.hand);
    }

sleep_comes : (setup : SetupParts) (fs : List Flat) (hs : List Hand) (y : RunYard) (h : Hand) (l : Line) (e : YardEvent) (f : HandEvent) → Carries l e.answer e.thread → Carries l f.answer f.thread
    → yard_event_by setup y l acts.Sleep ≡ Some e → hand_event_by setup h l acts.Sleep ≡ Some f → ComesInYard setup fs hs y h l e f acts.Sleep
sleep_comes setup fs hs y h l e f tells moves happens allowed =
    let now : ℕ = moment_of l in
    let a : ℕ = actor_of l in
    let asleep : Facts → Option YardEvent = λ t. option_map (sleeping y now t) l.mark in
    let t = and_then_gives asleep l.entry.thread e happens in
    let span = map_gives (sleeping y now t.0) l.mark e t.2 in
    let by = given_by setup h l f t.0 allowed moves.thread t.1 in
    let sleeper : DueSleeper = record { facts = t.0; since = now; due = due_after now span.0 } in
    let with_blocked : List Sleeper → Outcome = λ ws. record {
      answer = answers.Yes;
      thread = Some t.0;
      state = record { flats = fs; hands = set hs a (empty_hand setup now); yard = record { blocked = ws; ended = y.ended; made = y.made; last = now } };
    } in
    record {
      at = refl;
      accepted = passes (is_none h.thread) answers.HandEmpty [] (holds_some h t.0 by.held);
      comes = ap (λ (o : Option Facts). sleep_outcome setup (machine_of fs hs y) a now o) by.held
          ∙ (ap with_blocked (sym (map-append without_due y.blocked (sleeper ∷ [])))
          ∙ yard_told fs hs l (sleeping y now t.0 span.0) e (empty_hand setup now) f tells span.2 by.hand);
    }

-- the yard without the thread that is woken first
abbrev pub with_woken : RunYard → ℕ → DueSleeper → YardEvent
with_woken y now w = record { answer = answers.Yes; thread = Some (rested (now - w.since) w.facts); yard = record y { blocked = others_blocked y; last = now } }

wake_comes : (setup : SetupParts) (fs : List Flat) (hs : List Hand) (y : RunYard) (h : Hand) (l : Line) (e : YardEvent) (f : HandEvent) → ((n : ℕ) → count_by (has_name n) (map without_due y.blocked) ≤ 1) → Carries l e.answer e.thread → (name : ℕ)
    → yard_event_by setup y l (acts.Wake name) ≡ Some e → hand_event_by setup h l (acts.Wake name) ≡ Some f → ComesInYard setup fs hs y h l e f (acts.Wake name)
wake_comes setup fs hs y h l e f few tells name happens allowed =
    let now : ℕ = moment_of l in
    let a : ℕ = actor_of l in
    let g : MachineState = machine_of fs hs y in
    let w = and_then_gives (waking y now name) (first_sleeper y) e happens in
    let here = where_true_gives ((name == w.0.facts.name) && nat_le w.0.due now) (with_woken y now w.0) e w.2 in
    let is : name ≡ w.0.facts.name = eqb-true name w.0.facts.name (and_parts (name == w.0.facts.name) (nat_le w.0.due now) here.0).0 in
    let leaves = leaves_by_name (λ (v : DueSleeper). not (is_preceded wakes_before y.blocked v)) y.blocked w.0 w.1 (few w.0.facts.name) in
    let found : sleeper_of g.yard name ≡ Some (without_due w.0) = ap (sleeper_of g.yard) is ∙ leaves.found in
    let by = taken_by setup h l f allowed in
    let t : Facts = rested (now - w.0.since) w.0.facts in
    let with_blocked : List Sleeper → Outcome = λ ws. record {
      answer = answers.Yes;
      thread = Some t;
      state = record { flats = fs; hands = set hs a (filled_hand setup t now); yard = record { blocked = ws; ended = y.ended; made = y.made; last = now } };
    } in
    record {
      at = refl;
      accepted = passes (is_some h.thread) answers.HandFull (not_blocked g name ∷ []) by.empty
          ∙ passes (not (list_any (has_name name) g.yard.blocked)) (not_blocked g name).answer [] (ap not (found_is_there (has_name name) g.yard.blocked (without_due w.0) found));
      comes = ap (λ (o : Option Sleeper). wake_outcome setup g a now o) found
          ∙ (ap with_blocked leaves.others
          ∙ yard_told fs hs l (with_woken y now w.0) e (filled_hand setup t now) f tells here.1 (filled setup h l e f t tells (ap (λ (v : YardEvent). v.thread) here.1) by.hand));
    }

end_comes : (setup : SetupParts) (fs : List Flat) (hs : List Hand) (y : RunYard) (h : Hand) (l : Line) (e : YardEvent) (f : HandEvent) → Carries l e.answer e.thread → Carries l f.answer f.thread
    → yard_event_by setup y l acts.End ≡ Some e → hand_event_by setup h l acts.End ≡ Some f → ComesInYard setup fs hs y h l e f acts.End
end_comes setup fs hs y h l e f tells moves happens allowed =
    let now : ℕ = moment_of l in
    let t = map_gives (ending y now) l.entry.thread e happens in
    let by = given_by setup h l f t.0 allowed moves.thread t.1 in
    record {
      at = refl;
      accepted = passes (is_none h.thread) answers.HandEmpty [] (holds_some h t.0 by.held);
      comes = ap (λ (o : Option Facts). end_outcome setup (machine_of fs hs y) (actor_of l) now o) by.held
          ∙ yard_told fs hs l (ending y now t.0) e (empty_hand setup now) f tells t.2 by.hand;
    }

-- the yard as it was, with the number of the blocked threads as the answer
abbrev pub with_count : RunYard → ℕ → ℕ → YardEvent
with_count y now n = record { answer = answers.Left n; thread = None; yard = record y { last = now } }

blocked_comes : (setup : SetupParts) (fs : List Flat) (hs : List Hand) (y : RunYard) (h : Hand) (l : Line) (e : YardEvent) (f : HandEvent) → Carries l e.answer e.thread
    → yard_event_by setup y l acts.Blocked ≡ Some e → hand_event_by setup h l acts.Blocked ≡ Some f → ComesInYard setup fs hs y h l e f acts.Blocked
blocked_comes setup fs hs y h l e f tells happens allowed =
    let now : ℕ = moment_of l in
    let here = where_true_gives (not (list_any (λ (w : DueSleeper). nat_le w.due now) y.blocked)) (with_count y now (length y.blocked)) e happens in
    record {
      at = refl;
      accepted = refl;
      comes = ap (λ n. yard_tells fs hs l (with_count y now n) (kept_hand h now)) (length-map y.blocked without_due)
          ∙ yard_told fs hs l (with_count y now (length y.blocked)) e (kept_hand h now) f tells here.1 (ap (λ (v : HandEvent). v.hand) (same_Some (untold l (kept_hand h now)) f allowed));
    }

-- every line in the yard
pub yard_comes : (setup : SetupParts) (fs : List Flat) (hs : List Hand) (y : RunYard) (h : Hand) (l : Line) (e : YardEvent) (f : HandEvent) → ((n : ℕ) → count_by (has_name n) (map without_due y.blocked) ≤ 1) → Carries l e.answer e.thread → Carries l f.answer f.thread → (act : Act)
    → yard_event_by setup y l act ≡ Some e → hand_event_by setup h l act ≡ Some f → ComesInYard setup fs hs y h l e f act
yard_comes setup fs hs y h l e f few tells moves (acts.Make name group bucket base bound) happens allowed = make_comes setup fs hs y h l e f tells name group bucket base bound happens allowed
yard_comes setup fs hs y h l e f few tells moves (acts.Enter at head) happens allowed = absurd (none-some e happens)
yard_comes setup fs hs y h l e f few tells moves acts.Select happens allowed = absurd (none-some e happens)
yard_comes setup fs hs y h l e f few tells moves (acts.Offer at) happens allowed = absurd (none-some e happens)
yard_comes setup fs hs y h l e f few tells moves (acts.Pull name) happens allowed = absurd (none-some e happens)
yard_comes setup fs hs y h l e f few tells moves (acts.Look at) happens allowed = absurd (none-some e happens)
yard_comes setup fs hs y h l e f few tells moves acts.Aim happens allowed = absurd (none-some e happens)
yard_comes setup fs hs y h l e f few tells moves (acts.Ran us) happens allowed = absurd (none-some e happens)
yard_comes setup fs hs y h l e f few tells moves acts.Sleep happens allowed = sleep_comes setup fs hs y h l e f tells moves happens allowed
yard_comes setup fs hs y h l e f few tells moves (acts.Wake name) happens allowed = wake_comes setup fs hs y h l e f few tells name happens allowed
yard_comes setup fs hs y h l e f few tells moves acts.End happens allowed = end_comes setup fs hs y h l e f tells moves happens allowed
yard_comes setup fs hs y h l e f few tells moves acts.Blocked happens allowed = blocked_comes setup fs hs y h l e f tells happens allowed
yard_comes setup fs hs y h l e f few tells moves acts.Refresh happens allowed = absurd (none-some e happens)
yard_comes setup fs hs y h l e f few tells moves (acts.Off at) happens allowed = absurd (none-some e happens)
yard_comes setup fs hs y h l e f few tells moves (acts.On at) happens allowed = absurd (none-some e happens)
