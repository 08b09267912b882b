-- Acts that take a thread out of a queue into an empty hand.
use Rattle.std.proofs.Common.{◌≡◌, ◌≢◌, ℕ, ◌==◌, ◌≤◌, ◌<◌, true, cond, [], ◌∷◌, Option, Some, None, is_some, slice_set, refl, sym, ap, ◌∙◌, subst, arith, eq-eqb}
use Rattle.std.specs.List.{list_any}
use Rattle.std.proofs.lemmas.Bool.{cond_both, ne_eqb}
use Rattle.std.proofs.lemmas.Option.{same_Some}
use Rattle.link_arena.specs.Arena.{value_at}
use Rattle.sched_base.specs.declared.Act.{Act}
use Rattle.sched_base.specs.declared.Act.TheVariants as acts
use Rattle.sched_base.specs.declared.Answer.{Answer}
use Rattle.sched_base.specs.declared.Answer.TheVariants as answers
use Rattle.sched_base.specs.declared.Facts.{Facts}
use Rattle.flat_policy.specs.Laws.Counts.{EachNameOnce}
use Rattle.flat_policy.specs.Policy.ClusterSteps.{Event, facts_of, got, offer_event, select_event, touched}
use Rattle.flat_policy.specs.Policy.Machine.{Hand, MachineState, Outcome, Sleeper, Yard, count_held, filled_hand, flat_at, hand_at, hand_full, holds, kept_hand, refuse, taking, taking_hand}
use Rattle.flat_policy.specs.Policy.Moves.{pick, selected}
use Rattle.flat_policy.specs.Policy.Offer.{offered_between}
use Rattle.flat_policy.specs.Policy.Queue.{Flat, Queued}
use Rattle.flat_policy.specs.Policy.Setup.{SetupParts, actor_count, cluster_times, home_of}
use Rattle.trace_machine.specs.Acting.{ActsTo, IsSet, KeepsOn}
use Rattle.trace_machine.specs.declared.names.Standing.TheVariants as standings
use Rattle.trace_machine.specs.declared.yard.Resting.{Resting}
use Rattle.trace_machine.specs.Machines.{MachineView, MeansOver}
use Rattle.trace_machine.specs.Parts.{Does, IsOtherThread, PartsView, accepted_at, hand_of, state_of}
use Rattle.trace_machine.specs.Yards.{sleeper_in, standing_of}
use Rattle.trace_machine.proofs.ActsTo.{accepted_is, quiet_acts, quiet_from, refused_by}
use Rattle.trace_machine.proofs.Found.{member_counted}
use Rattle.trace_machine.proofs.LiveNames.{hand_and_yard, made_where_counted}
use Rattle.trace_machine.proofs.MovingActs.{hand_by, move_acts}
use Rattle.trace_machine.proofs.Setting.{hand_changed}
use Rattle.trace_machine.proofs.Standing.{counted_once, used_is}
use Rattle.trace_machine.proofs.YardActs.{actor_within, known}
use Rattle.trace_machine.proofs.YardMoves.{IsNoted, refusal_none}

-- an event that tells the name of the thread that it takes, and of none where it takes none
pub record Tells (e : Event) : Type 0 where
  pub taken : (t : Facts) → e.thread ≡ Some t → e.answer ≡ answers.Got t.name
  pub none : e.thread ≡ None → (name : ℕ) → e.answer ≢ answers.Got name

tells_entry : (o : Option Queued) (s : Flat) → Tells (record { answer = got o; thread = facts_of o; flat = s })
tells_entry None s = record { taken = λ t is. absurd (cc); none = λ is name e. cc }
tells_entry (Some q) s = record {
  taken = λ t is. ap (λ (f : Facts). answers.Got f.name) (same_Some q.facts t is);
  none = λ is name e. cc;
}

pub select_tells : (setup : SetupParts) (c now : ℕ) (s : Flat) → Tells (select_event setup c now s)
select_tells setup c now s =
    let picked : Option Queued = pick (cluster_times setup c) now s in
    let taking_event : Event = record { answer = got picked; thread = facts_of picked; flat = selected (cluster_times setup c) now s } in
    let off : Event = record { answer = answers.Off; thread = None; flat = touched now s } in
    cond_both s.on taking_event off Tells (λ on. tells_entry picked (selected (cluster_times setup c) now s))
    (λ is_off. record { taken = λ t is. absurd (cc); none = λ is name e. cc })

pub offer_tells : (setup : SetupParts) (from to now : ℕ) (s : Flat) → Tells (offer_event setup from to now s)
offer_tells setup from to now s = tells_entry (offered_between setup from to s) (offer_event setup from to now s).flat

-- the table of names after the name that an answer got was noted
pub record NotesHeld (old new : MachineView) (a : ℕ) (told : Answer) : Type 0 where
  pub held : (name : ℕ) → told ≡ answers.Got name → IsNoted old new name (standings.Held a)
  pub rest : ((name : ℕ) → told ≢ answers.Got name) → new.names ≡ old.names

-- an act that takes from a queue into an empty hand what an event tells
pub record IsTake (old : MachineView) (new : PartsView) (y : Yard) (a now : ℕ) (act : Act) (told : Answer) : Type 0 where
  pub set : IsSet old a now act
  pub empty : (hand_of old.parts a).thread ≡ None
  pub accepted : refused_by old.parts y a act ≡ None
  pub cluster : ℕ
  pub event : Event
  pub comes : accepted_at old.parts y a now act ≡ taking old.parts.setup (state_of old.parts y) a (hand_of old.parts a) cluster now event
  pub tells : Tells event
  pub does : Does old.parts new a now act told

-- the answer of such an act is that of its event
told_is : (old : MachineView) (new : PartsView) (y : Yard) (a now : ℕ) (act : Act) (told : Answer) (m : IsTake old new y a now act told) → m.event.answer ≡ told
told_is old new y a now act told m = sym (ap (λ (o : Outcome). o.answer) m.comes) ∙ m.does.answers y

-- the hand after it
taken_hand : (old : MachineView) (new : PartsView) (y : Yard) (a now : ℕ) (act : Act) (told : Answer) (m : IsTake old new y a now act told) (t : Facts) → m.event.thread ≡ Some t
    → (hand_of new a).thread ≡ Some t
taken_hand old new y a now act told m t is =
    let hand : Hand = filled_hand old.parts.setup t now in
    let hands : new.hands ≡ slice_set old.parts.hands a hand =
    sym (ap (λ (g : MachineState). g.hands) (m.does.leads y))
    ∙ ap (λ (o : Outcome). o.state.hands) m.comes
    ∙ ap (λ o. slice_set old.parts.hands a (taking_hand old.parts.setup (hand_of old.parts a) o now)) is in
    hand_by old.parts new a hand a hands ∙ ap (λ (h : Hand). h.thread) (hand_changed old.parts a hand (actor_within old a now act m.set))

-- after it each name stands once
once_after : (old : MachineView) (new : PartsView) (y : Yard) (a now : ℕ) (act : Act) (told : Answer) (m : IsTake old new y a now act told) → MeansOver old y → KeepsOn old y
    → EachNameOnce (state_of new y)
once_after old new y a now act told m means keeps =
    subst EachNameOnce
    (ap (λ (o : Outcome). o.state) (accepted_is old.parts y a now act m.accepted) ∙ m.does.leads y)
    (keeps.after a now act m.set (sym means.yard.last)).once

-- a hand counts the name that it holds
held_counts : (p : PartsView) (y : Yard) (a : ℕ) (t : Facts) → (hand_of p a).thread ≡ Some t → 1 ≤ count_held t.name (hand_at (state_of p y) a)
held_counts p y a t is =
    omega (arith, ap {B = ℕ} (λ (o : Option Facts). cond (holds t.name o) 1 0) is, ap {B = ℕ} (λ b. cond b 1 0) (eq-eqb t.name t.name refl))

-- the thread that was taken was made
taken_made : (old : MachineView) (new : PartsView) (y : Yard) (a now : ℕ) (act : Act) (told : Answer) (m : IsTake old new y a now act told) (t : Facts) → MeansOver old y → KeepsOn old y
    → m.event.thread ≡ Some t → list_any (λ n. n == t.name) y.made ≡ true
taken_made old new y a now act told m t means keeps is =
    made_where_counted (state_of new y) t.name (once_after old new y a now act told m means keeps)
    (omega (arith, held_counts new y a t (taken_hand old new y a now act told m t is), hand_and_yard (state_of new y) a t.name))

got_by : (old : MachineView) (new : PartsView) (y : Yard) (a now : ℕ) (act : Act) (told : Answer) (m : IsTake old new y a now act told) → MeansOver old y → KeepsOn old y
    → (name : ℕ) → told ≡ answers.Got name → (o : Option Facts) → m.event.thread ≡ o → is_some (standing_of old.names name) ≡ true
got_by old new y a now act told m means keeps name is None none = absurd (m.tells.none none name (told_is old new y a now act told m ∙ is))
got_by old new y a now act told m means keeps name is (Some t) taken =
    let same : t.name ≡ name = (let e = sym (m.tells.taken t taken) ∙ told_is old new y a now act told m ∙ is in cc) in
    sym (used_is old y (known old y means keeps) name)
    ∙ subst (λ k. list_any (λ n. n == k) y.made ≡ true) same (taken_made old new y a now act told m t means keeps taken)

-- a name that is told as got stands somewhere before
pub got_stands : (old : MachineView) (new : PartsView) (y : Yard) (a now : ℕ) (act : Act) (told : Answer) (m : IsTake old new y a now act told) → MeansOver old y → KeepsOn old y
    → (name : ℕ) → told ≡ answers.Got name → is_some (standing_of old.names name) ≡ true
got_stands old new y a now act told m means keeps name is = got_by old new y a now act told m means keeps name is m.event.thread refl

-- it was no sleeper's
taken_apart : (old : MachineView) (new : PartsView) (y : Yard) (a now : ℕ) (act : Act) (told : Answer) (m : IsTake old new y a now act told) (t : Facts) → MeansOver old y → KeepsOn old y
    → m.event.thread ≡ Some t → (slot : ℕ) (w : Resting) → value_at old.yard.sleepers slot ≡ Some w → w.thread.name ≢ t.name
taken_apart old new y a now act told m t means keeps is slot w there same =
    omega (
      arith,
      held_counts new y a t (taken_hand old new y a now act told m t is),
      hand_and_yard (state_of new y) a t.name,
      counted_once (state_of new y) t.name (once_after old new y a now act told m means keeps),
      member_counted (λ (s : Sleeper). s.facts.name == t.name) y.blocked (sleeper_in w) (means.yard.blocked slot w there) (eq-eqb w.thread.name t.name same),
    )

-- what it comes to where a thread is taken, and where none is
taken_some : (old new : MachineView) (y : Yard) (a now : ℕ) (act : Act) (told : Answer) (m : IsTake old new.parts y a now act told) (t : Facts) → MeansOver old y → KeepsOn old y
    → NotesHeld old new a told → new.yard ≡ old.yard → new.steps ≡ old.steps → m.event.thread ≡ Some t → ActsTo old new y a now act told
taken_some old new y a now act told m t means keeps notes yard steps is =
    let got_it : told ≡ answers.Got t.name = sym (told_is old new.parts y a now act told m) ∙ m.tells.taken t is in
    move_acts old new y a now act told t.name (standings.Held a) means
    (record {
      accepted = m.accepted;
      does = m.does;
      hand = filled_hand old.parts.setup t now;
      hands = ap (λ (o : Outcome). o.state.hands) m.comes ∙ ap (λ o. slice_set old.parts.hands a (taking_hand old.parts.setup (hand_of old.parts a) o now)) is;
      held = λ u holding. (let e = sym m.empty ∙ holding in absurd (cc));
      moved = λ n other. subst (IsOtherThread n) (sym (ap (λ (o : Outcome). o.thread) m.comes ∙ is)) (λ e. other (sym e));
      noted = notes.held t.name got_it;
      yard = yard;
      steps = steps;
    }) (
      subst (λ (s : SetupParts). a < actor_count s) (sym m.does.keeps_setup) m.set.ready.actor,
      (t, taken_hand old new.parts y a now act told m t is, refl),
    )
    (taken_apart old new.parts y a now act told m t means keeps is)

taken_none : (old new : MachineView) (y : Yard) (a now : ℕ) (act : Act) (told : Answer) (m : IsTake old new.parts y a now act told) → MeansOver old y
    → NotesHeld old new a told → new.yard ≡ old.yard → new.steps ≡ old.steps → m.event.thread ≡ None → ActsTo old new y a now act told
taken_none old new y a now act told m means notes yard steps is =
    quiet_acts old new y a now act told m.set means m.accepted m.does
    (quiet_from old new y a now act told (kept_hand (hand_of old.parts a) now) m.does
    (ap (λ (o : Outcome). o.state.hands) m.comes ∙ ap (λ o. slice_set old.parts.hands a (taking_hand old.parts.setup (hand_of old.parts a) o now)) is)
    refl (ap (λ (o : Outcome). o.thread) m.comes ∙ is)
    (notes.rest (λ name e. m.tells.none is name (told_is old new.parts y a now act told m ∙ e))))
    yard steps

taken_by : (old new : MachineView) (y : Yard) (a now : ℕ) (act : Act) (told : Answer) (m : IsTake old new.parts y a now act told) → MeansOver old y → KeepsOn old y
    → NotesHeld old new a told → new.yard ≡ old.yard → new.steps ≡ old.steps → (o : Option Facts) → m.event.thread ≡ o → ActsTo old new y a now act told
taken_by old new y a now act told m means keeps notes yard steps None is = taken_none old new y a now act told m means notes yard steps is
taken_by old new y a now act told m means keeps notes yard steps (Some t) is = taken_some old new y a now act told m t means keeps notes yard steps is

-- an act that takes from a queue into an empty hand comes to what the policy says, where the name that it got is noted
pub taken_acts : (old new : MachineView) (y : Yard) (a now : ℕ) (act : Act) (told : Answer) → IsTake old new.parts y a now act told → MeansOver old y → KeepsOn old y
    → NotesHeld old new a told → new.yard ≡ old.yard → new.steps ≡ old.steps → ActsTo old new y a now act told
taken_acts old new y a now act told m means keeps notes yard steps = taken_by old new y a now act told m means keeps notes yard steps m.event.thread refl

-- a select and an offer take so
pub select_takes : (old : MachineView) (new : PartsView) (y : Yard) (a now : ℕ) (told : Answer) → IsSet old a now acts.Select → (hand_of old.parts a).thread ≡ None
    → Does old.parts new a now acts.Select told → IsTake old new y a now acts.Select told
select_takes old new y a now told set empty does = record {
  set = set;
  empty = empty;
  accepted = refusal_none (hand_full (hand_of old.parts a)) [] (ap is_some empty) refl;
  cluster = home_of old.parts.setup a;
  event = select_event old.parts.setup (home_of old.parts.setup a) now (flat_at (state_of old.parts y) (home_of old.parts.setup a));
  comes = refl;
  tells = select_tells old.parts.setup (home_of old.parts.setup a) now (flat_at (state_of old.parts y) (home_of old.parts.setup a));
  does = does;
}

pub offer_takes : (old : MachineView) (new : PartsView) (y : Yard) (a now c : ℕ) (told : Answer) → IsSet old a now (acts.Offer c) → (hand_of old.parts a).thread ≡ None
    → c ≢ home_of old.parts.setup a → Does old.parts new a now (acts.Offer c) told → IsTake old new y a now (acts.Offer c) told
offer_takes old new y a now c told set empty other does = record {
  set = set;
  empty = empty;
  accepted = refusal_none (hand_full (hand_of old.parts a)) (refuse (c == home_of old.parts.setup a) answers.OwnCluster ∷ []) (ap is_some empty)
      (refusal_none (refuse (c == home_of old.parts.setup a) answers.OwnCluster) [] (ne_eqb c (home_of old.parts.setup a) other) refl);
  cluster = c;
  event = offer_event old.parts.setup c (home_of old.parts.setup a) now (flat_at (state_of old.parts y) c);
  comes = refl;
  tells = offer_tells old.parts.setup c (home_of old.parts.setup a) now (flat_at (state_of old.parts y) c);
  does = does;
}
