-- The names made and ended in the yard of a run: those of its lines.
use Rattle.std.proofs.Common.{◌≡◌, ◌⊎◌, ℕ, ◌==◌, ◌||◌, ◌&&◌, nat_le, nat_lt, not, Bool, true, false, Contains, List, [], ◌∷◌, ◌++◌, length, Option, Some, refl, sym, ap, ◌∙◌, inl, inr, append-nil, eq-eqb, eqb-true}
use Rattle.std.specs.List.{list_any}
use Rattle.std.specs.Option.{option_map}
use Rattle.std.proofs.lemmas.Bool.{false≢true, or_cases, or_left, or_right}
use Rattle.std.proofs.lemmas.List.Folds.{list_any-append}
use Rattle.std.proofs.lemmas.Option.{none-some}
use Rattle.sched_base.specs.declared.Act.{Act}
use Rattle.sched_base.specs.declared.Act.TheVariants as acts
use Rattle.sched_base.specs.declared.Bucket.{Bucket}
use Rattle.sched_base.specs.declared.Facts.{Facts}
use Rattle.flat_policy.specs.declared.journal.Line.{Line}
use Rattle.flat_policy.specs.Policy.Setup.{SetupParts}
use Rattle.flat_policy.specs.Policy.Threads.{made_thread}
use Rattle.flat_policy.specs.Runs.Histories.{DueSleeper, RunYard, YRunFrom, YStep, YardEvent, act_of, ending, first_sleeper, live_of_run, moment_of, sleeping, waking, yard_after, yard_event, yard_event_by}
use Rattle.flat_policy.proofs.Happens.{and_then_gives, map_gives, where_true_gives}
use Rattle.flat_policy.proofs.Members.{contains_cases, contains_none, contains_here, contains_later}
use Rattle.composition.proofs.Ahead.{yard_is}
use Rattle.composition.proofs.YardActs.{with_count, with_made, with_woken}

-- a thread of a line ends
pub record EndsOne (y : RunYard) (l : Line) (act : Act) (e : YardEvent) : Type 0 where
  pub is : act ≡ acts.End
  pub thread : Facts
  pub moved : l.entry.thread ≡ Some thread
  pub ended : e.yard.ended ≡ y.ended ++ thread.name ∷ []

-- what an event does to the names
pub record Changes (y : RunYard) (l : Line) (act : Act) (e : YardEvent) : Type 0 where
  pub names : List ℕ
  pub made : e.yard.made ≡ y.made ++ names
  pub ended : (e.yard.ended ≡ y.ended) ⊎ EndsOne y l act e

-- an event that leaves both lists
leaves_names : (y : RunYard) (l : Line) (act : Act) (x e : YardEvent) → x ≡ e → x.yard.made ≡ y.made → x.yard.ended ≡ y.ended → Changes y l act e
leaves_names y l act x e is made ended = record {
  names = [];
  made = ap (λ (v : YardEvent). v.yard.made) (sym is) ∙ (made ∙ sym (append-nil y.made));
  ended = inl (ap (λ (v : YardEvent). v.yard.ended) (sym is) ∙ ended);
}

changes : (setup : SetupParts) (y : RunYard) (l : Line) (e : YardEvent) → (act : Act) → yard_event_by setup y l act ≡ Some e → Changes y l act e
changes setup y l e (acts.Make name group bucket base bound) happens =
    let t : Facts = made_thread setup name group bucket base bound (moment_of l) in
    let here = where_true_gives (not (list_any (λ n. n == name) y.made) && nat_lt (live_of_run y) setup.threads) (with_made y (moment_of l) t) e happens in
    record {
      names = name ∷ [];
      made = ap (λ (v : YardEvent). v.yard.made) (sym here.1);
      ended = inl (ap (λ (v : YardEvent). v.yard.ended) (sym here.1));
    }
changes setup y l e (acts.Enter at head) happens = absurd (none-some e happens)
changes setup y l e acts.Select happens = absurd (none-some e happens)
changes setup y l e (acts.Offer at) happens = absurd (none-some e happens)
changes setup y l e (acts.Pull name) happens = absurd (none-some e happens)
changes setup y l e (acts.Look at) happens = absurd (none-some e happens)
changes setup y l e acts.Aim happens = absurd (none-some e happens)
changes setup y l e (acts.Ran us) happens = absurd (none-some e happens)
changes setup y l e acts.Sleep happens =
    let asleep : Facts → Option YardEvent = λ t. option_map (sleeping y (moment_of l) t) l.mark in
    let t = and_then_gives asleep l.entry.thread e happens in
    let span = map_gives (sleeping y (moment_of l) t.0) l.mark e t.2 in
    leaves_names y l acts.Sleep (sleeping y (moment_of l) t.0 span.0) e span.2 refl refl
changes setup y l e (acts.Wake name) happens =
    let w = and_then_gives (waking y (moment_of l) name) (first_sleeper y) e happens in
    let here = where_true_gives ((name == w.0.facts.name) && nat_le w.0.due (moment_of l)) (with_woken y (moment_of l) w.0) e w.2 in
    leaves_names y l (acts.Wake name) (with_woken y (moment_of l) w.0) e here.1 refl refl
changes setup y l e acts.End happens =
    let t = map_gives (ending y (moment_of l)) l.entry.thread e happens in
    record {
      names = [];
      made = ap (λ (v : YardEvent). v.yard.made) (sym t.2) ∙ sym (append-nil y.made);
      ended = inr (record { is = refl; thread = t.0; moved = t.1; ended = ap (λ (v : YardEvent). v.yard.ended) (sym t.2) });
    }
changes setup y l e acts.Blocked happens =
    let here = where_true_gives (not (list_any (λ (w : DueSleeper). nat_le w.due (moment_of l)) y.blocked)) (with_count y (moment_of l) (length y.blocked)) e happens in
    leaves_names y l acts.Blocked (with_count y (moment_of l) (length y.blocked)) e here.1 refl refl
changes setup y l e acts.Refresh happens = absurd (none-some e happens)
changes setup y l e (acts.Off at) happens = absurd (none-some e happens)
changes setup y l e (acts.On at) happens = absurd (none-some e happens)

step_changes : (setup : SetupParts) (y : RunYard) (l : Line) → (step : YStep setup y l (yard_after setup y l)) → Changes y l (act_of l) step.event
step_changes setup y l step = changes setup y l step.event (act_of l) step.happens

-- a name that was made stays among those made
made_stays : (setup : SetupParts) (y : RunYard) (ls : List Line) (end : RunYard) (p : ℕ → Bool) → YRunFrom setup y ls end → list_any p y.made ≡ true → list_any p end.made ≡ true
made_stays setup y [] end p run h = ap (λ (v : RunYard). list_any p v.made) run ∙ h
made_stays setup y (l ∷ ls) end p run h =
    let c = step_changes setup y l run.0 in
    let made : (yard_after setup y l).made ≡ y.made ++ c.names = ap (λ (v : RunYard). v.made) (yard_is setup y l run.0.event run.0.happens) ∙ c.made in
    made_stays setup (yard_after setup y l) ls end p run.1
    (ap (list_any p) made ∙ (list_any-append p y.made c.names ∙ ap (λ b. b || list_any p c.names) h))

-- the name of a line that makes a thread is among those made
makes : (setup : SetupParts) (y : RunYard) (l : Line) (e : YardEvent) (name group : ℕ) (bucket : Bucket) (base : ℕ) (bound : Option ℕ) → act_of l ≡ acts.Make name group bucket base bound → yard_event setup y l ≡ Some e → list_any (λ n. n == name) e.yard.made ≡ true
makes setup y l e name group bucket base bound is happens =
    let t : Facts = made_thread setup name group bucket base bound (moment_of l) in
    let here = where_true_gives (not (list_any (λ n. n == name) y.made) && nat_lt (live_of_run y) setup.threads) (with_made y (moment_of l) t) e
    (sym (ap (yard_event_by setup y l) is) ∙ happens) in
    ap (λ (v : YardEvent). list_any (λ n. n == name) v.yard.made) (sym here.1)
    ∙ (list_any-append (λ n. n == name) y.made (name ∷ [])
    ∙ or_right (list_any (λ n. n == name) y.made) ((name == name) || false) (or_left (name == name) false (eq-eqb name name refl)))

pub made_among : (setup : SetupParts) (y : RunYard) (ls : List Line) (end : RunYard) (l : Line) (name group : ℕ) (bucket : Bucket) (base : ℕ) (bound : Option ℕ) → YRunFrom setup y ls end → Contains ls l → act_of l ≡ acts.Make name group bucket base bound → list_any (λ n. n == name) end.made ≡ true
made_among setup y [] end l name group bucket base bound run c is = absurd (contains_none l c)
made_among setup y (k ∷ ks) end l name group bucket base bound run c is =
    elim (contains_cases k ks l c) [
      | inl here ↦ made_stays setup (yard_after setup y k) ks end (λ n. n == name) run.1
          (ap (λ (v : RunYard). list_any (λ n. n == name) v.made) (yard_is setup y k run.0.event run.0.happens)
          ∙ makes setup y k run.0.event name group bucket base bound (ap act_of here ∙ is) run.0.happens)
      | inr later ↦ made_among setup (yard_after setup y k) ks end l name group bucket base bound run.1 later is
    ]

-- a line ends the thread of a name
pub record EndedBy (ls : List Line) (name : ℕ) : Type 0 where
  pub line : Line
  pub member : Contains ls line
  pub is : act_of line ≡ acts.End
  pub thread : Facts
  pub moved : line.entry.thread ≡ Some thread
  pub named : thread.name ≡ name

-- a name that ended was ended before or by a line
pub ended_by : (setup : SetupParts) (y : RunYard) (ls : List Line) (end : RunYard) (name : ℕ) → YRunFrom setup y ls end → list_any (λ n. n == name) end.ended ≡ true → (list_any (λ n. n == name) y.ended ≡ true) ⊎ EndedBy ls name
ended_by setup y [] end name run h = inl (ap (λ (v : RunYard). list_any (λ n. n == name) v.ended) (sym run) ∙ h)
ended_by setup y (l ∷ ls) end name run h =
    elim (ended_by setup (yard_after setup y l) ls end name run.1 h) [
      | inl before ↦ (
          let event = run.0.event in
          let then : list_any (λ n. n == name) event.yard.ended ≡ true = ap (λ (v : RunYard). list_any (λ n. n == name) v.ended) (sym (yard_is setup y l event run.0.happens)) ∙ before in
          elim ((step_changes setup y l run.0).ended) [
            | inl same ↦ inl (ap (list_any (λ n. n == name)) (sym same) ∙ then)
            | inr one ↦ elim (or_cases (list_any (λ n. n == name) y.ended) ((one.thread.name == name) || false) (sym (ap (list_any (λ n. n == name)) one.ended ∙ list_any-append (λ n. n == name) y.ended (one.thread.name ∷ [])) ∙ then)) [
              | inl old ↦ inl old
              | inr new ↦ elim (or_cases (one.thread.name == name) false new) [
                | inl named ↦ inr (record {
                  line = l;
                  member = contains_here l ls;
                  is = one.is;
                  thread = one.thread;
                  moved = one.moved;
                  named = eqb-true one.thread.name name named;
                })
                | inr never ↦ absurd (false≢true never)
              ]
            ]
          ])
      | inr by ↦ inr (record { line = by.line; member = contains_later l ls by.line by.member; is = by.is; thread = by.thread; moved = by.moved; named = by.named })
    ]
