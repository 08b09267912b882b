-- A thread goes to sleep, wakes, and the blocked ones are counted.
use Rattle.std.proofs.Common.{◌≡◌, ◌≢◌, ℕ, ◌==◌, ◌+◌, ◌-◌, Bool, false, not, Contains, [], ◌∷◌, ◌++◌, Some, None, count_by, is_none, is_some, refl, sym, ap, ◌∙◌, subst, inl, inr, arith, eq-eqb}
use Rattle.std.proofs.lemmas.Bool.{cases_eq, false≢true, ne_eqb, cond-false}
use Rattle.std.proofs.lemmas.List.{length_push}
use Rattle.std.proofs.lemmas.List.Elements.{Contains-append_left, Contains-push}
use Rattle.std.proofs.lemmas.Option.{none-some, same_Some}
use Rattle.link_arena.specs.Arena.{Inserts, Removes, live_count, value_at}
use Rattle.sched_base.specs.Facts.{rested}
use Rattle.sched_base.specs.declared.Act.TheVariants as acts
use Rattle.sched_base.specs.declared.Answer.TheVariants as answers
use Rattle.sched_base.specs.declared.Facts.{Facts}
use Rattle.sched_base.specs.declared.Place.TheVariants as places
use Rattle.flat_policy.specs.Policy.Machine.{Hand, Outcome, Sleeper, Yard, empty_hand, filled_hand, first_refusal, hand_empty, hand_full, refuse, kept_hand, not_blocked, sleep_outcome, sleepers_without, wake_outcome, wake_outcome_by, with_hand, with_yard}
use Rattle.flat_policy.specs.Policy.Setup.{SetupParts}
use Rattle.trace_machine.specs.Acting.{ActsTo, IsSet, KeepsOn}
use Rattle.trace_machine.specs.declared.names.Standing.TheVariants as standings
use Rattle.trace_machine.specs.declared.yard.Resting.{Resting}
use Rattle.trace_machine.specs.Machines.{HasYard, MachineView, MeansOver, StandsThere}
use Rattle.trace_machine.specs.Parts.{AllServe, PartsView, cluster_at, hand_of, state_of}
use Rattle.trace_machine.specs.Yards.{YardView, place_in, sleeper_in, slot_in, standing_of}
use Rattle.trace_machine.proofs.ActsTo.{quiet_frame, refused_by}
use Rattle.trace_machine.proofs.Found.{filter_has, member_counted, one_fewer}
use Rattle.trace_machine.proofs.Setting.{rehanded, serves_longer}
use Rattle.trace_machine.proofs.Frames.{names_after}
use Rattle.flat_policy.specs.Policy.Clusters.{NameStands}
use Rattle.trace_machine.proofs.Standing.{KnowsPlaces, counted_once, within_all}
use Rattle.trace_machine.proofs.StandingFound.{blocked_is, is_resting, not_blocked_is, resting_is, sleeper_is}
use Rattle.trace_machine.proofs.YardActs.{actor_within, held_apart, known, stands_held}
use Rattle.trace_machine.proofs.YardMoves.{IsNoted, noted_here, noted_other, refusal_none, same_sleepers, yard_acts}

-- what the yard in code shows of a thread that went to sleep
pub record FallsAsleep (old new : MachineView) (t : Facts) (slot now : ℕ) : Type 0 where
  pub inserts : Inserts old.yard.sleepers new.yard.sleepers slot (record { thread = t; since = now })
  pub spare : new.yard.sleepers.spare + 1 ≡ old.yard.sleepers.spare
  pub count : live_count new.yard.sleepers ≡ live_count old.yard.sleepers + 1
  pub live : new.yard.live ≡ old.yard.live
  pub last : new.yard.last ≡ now

abbrev asleep : Yard → Facts → ℕ → Yard
asleep y t now = record y { blocked = y.blocked ++ record { facts = t; since = now } ∷ []; last = now }

sleep_yard : (old new : MachineView) (y : Yard) (a now slot : ℕ) (t : Facts) → KnowsPlaces old y → (hand_of old.parts a).thread ≡ Some t
    → new.parts.setup ≡ old.parts.setup → FallsAsleep old new t slot now → IsNoted old new t.name (standings.Blocked slot) → HasYard new (asleep y t now)
sleep_yard old new y a now slot t k holding setup f table =
    let rests : Resting = record { thread = t; since = now } in
    let w : Sleeper = record { facts = t; since = now } in
    record {
      last = f.last;
      live = f.live ∙ k.yard.live;
      count = omega (arith, f.count, k.yard.count, length_push y.blocked w);
      blocked = λ at r is.
          elim (cases_eq at slot) [
            | inl here ↦ (
                let same : rests ≡ r = same_Some rests r (sym f.inserts.stored ∙ ap (value_at new.yard.sleepers) (sym here) ∙ is) in
                subst (λ (x : Resting). Contains (y.blocked ++ w ∷ []) (sleeper_in x)) same (Contains-push y.blocked w))
            | inr other ↦ Contains-append_left y.blocked (w ∷ []) (sleeper_in r) (k.yard.blocked at r (sym (f.inserts.elsewhere.values at other) ∙ is))
          ];
      named = λ at r is.
          elim (cases_eq at slot) [
            | inl here ↦ (
                let same : rests ≡ r = same_Some rests r (sym f.inserts.stored ∙ ap (value_at new.yard.sleepers) (sym here) ∙ is) in
                ap (λ (x : Resting). standing_of new.names x.thread.name) (sym same)
                ∙ noted_here old new t.name (standings.Blocked slot) table
                ∙ ap (λ n. Some (standings.Blocked n)) (sym here))
            | inr other ↦ (
                let was = sym (f.inserts.elsewhere.values at other) ∙ is in
                noted_other old new t.name (standings.Blocked slot) r.thread.name table (held_apart old y a t k holding at r was) ∙ k.yard.named at r was)
          ];
      room = omega (arith, k.yard.room, f.spare, f.count, ap (λ (s : SetupParts). s.threads) setup);
    }

-- a thread goes to sleep
pub sleep_acts : (old new : MachineView) (y : Yard) (a now slot : ℕ) (t : Facts)
    → IsSet old a now acts.Sleep → MeansOver old y → KeepsOn old y
    → (hand_of old.parts a).thread ≡ Some t
    → new.parts ≡ rehanded old.parts a (empty_hand old.parts.setup now)
    → FallsAsleep old new t slot now
    → IsNoted old new t.name (standings.Blocked slot) → new.steps ≡ old.steps
    → ActsTo old new y a now acts.Sleep answers.Yes
sleep_acts old new y a now slot t set means keeps holding parts f table steps =
    let k = known old y means keeps in
    yard_acts old new y (asleep y t now) a now acts.Sleep answers.Yes (Some t) (empty_hand old.parts.setup now) t.name (standings.Blocked slot)
    means (refusal_none (hand_empty (hand_of old.parts a)) [] (ap is_none holding) refl)
    (ap (sleep_outcome old.parts.setup (state_of old.parts y) a now) holding)
    (record {
      parts = parts;
      held = λ u holds. (let e = sym holding ∙ holds in ap (λ (g : Facts). g.name) (sym (same_Some t u e)));
      slots = λ at w other is.
          elim (cases_eq at slot) [
            | inl here ↦ absurd (none-some w (sym f.inserts.was_free ∙ ap (value_at old.yard.sleepers) (sym here) ∙ is))
            | inr differs ↦ f.inserts.elsewhere.values at differs ∙ is
          ];
      ended = λ n other is. is;
      made = λ n other never. never;
      table = table;
    })
    (sleep_yard old new y a now slot t k holding (ap (λ (p : PartsView). p.setup) parts) f table)
    (record { thread = t; since = now }, f.inserts.stored, refl)
    steps

-- what the yard in code shows of a thread that woke
pub record WakesUp (old new : MachineView) (slot now : ℕ) : Type 0 where
  pub removes : Removes old.yard.sleepers new.yard.sleepers slot
  pub spare : new.yard.sleepers.spare ≡ old.yard.sleepers.spare + 1
  pub count : live_count new.yard.sleepers + 1 ≡ live_count old.yard.sleepers
  pub live : new.yard.live ≡ old.yard.live
  pub last : new.yard.last ≡ now

abbrev awoken : Yard → ℕ → ℕ → Yard
awoken y name now = record y { blocked = sleepers_without name y.blocked; last = now }

-- another slot than the one that was emptied, and another name than its sleeper's
other_slot : (old new : MachineView) (slot now at : ℕ) (r : Resting) → WakesUp old new slot now → value_at new.yard.sleepers at ≡ Some r → at ≢ slot
other_slot old new slot now at r f is here = none-some r (sym f.removes.free ∙ ap (value_at new.yard.sleepers) (sym here) ∙ is)

other_name : (old : MachineView) (y : Yard) (name slot at : ℕ) (r : Resting) → KnowsPlaces old y → standing_of old.names name ≡ Some (standings.Blocked slot)
    → value_at old.yard.sleepers at ≡ Some r → at ≢ slot → r.thread.name ≢ name
other_name old y name slot at r k stands is differs same =
    let e = sym (k.yard.named at r is) ∙ ap (standing_of old.names) same ∙ stands in
    differs (cc)

wake_yard : (old new : MachineView) (y : Yard) (a now slot name : ℕ) → KnowsPlaces old y → standing_of old.names name ≡ Some (standings.Blocked slot)
    → new.parts.setup ≡ old.parts.setup → WakesUp old new slot now → IsNoted old new name (standings.Held a) → HasYard new (awoken y name now)
wake_yard old new y a now slot name k stands setup f table =
    let found = sleeper_is old y k name slot stands in
    let w : Resting = found.0 in
    let test : Sleeper → Bool = λ s. s.facts.name == name in
    let one : count_by test y.blocked ≡ 1 =
    omega (
      arith,
      member_counted test y.blocked (sleeper_in w) (k.yard.blocked slot w found.1) (eq-eqb w.thread.name name found.2),
      within_all (state_of old.parts y) places.Blocked name,
      counted_once (state_of old.parts y) name k.once,
    ) in
    record {
      last = f.last;
      live = f.live ∙ k.yard.live;
      count = omega (arith, f.count, k.yard.count, one_fewer test y.blocked one);
      blocked = λ at r is.
          let differs = other_slot old new slot now at r f is in
          let was = sym (f.removes.elsewhere.values at differs) ∙ is in
          filter_has (λ (s : Sleeper). not (s.facts.name == name)) y.blocked (sleeper_in r) (k.yard.blocked at r was)
          (ap not (ne_eqb r.thread.name name (other_name old y name slot at r k stands was differs)));
      named = λ at r is.
          let differs = other_slot old new slot now at r f is in
          let was = sym (f.removes.elsewhere.values at differs) ∙ is in
          noted_other old new name (standings.Held a) r.thread.name table (other_name old y name slot at r k stands was differs) ∙ k.yard.named at r was;
      room = omega (arith, k.yard.room, f.spare, f.count, ap (λ (s : SetupParts). s.threads) setup);
    }

-- a wake is accepted where the hand is empty and the name is in a slot
pub wake_accepted : (v : MachineView) (y : Yard) (a name slot : ℕ) → KnowsPlaces v y → (hand_of v.parts a).thread ≡ None
    → standing_of v.names name ≡ Some (standings.Blocked slot) → refused_by v.parts y a (acts.Wake name) ≡ None
wake_accepted v y a name slot k empty stands =
    refusal_none (hand_full (hand_of v.parts a)) (not_blocked (state_of v.parts y) name ∷ []) (ap is_some empty)
    (refusal_none (not_blocked (state_of v.parts y) name) [] (ap not (blocked_is v y k name ∙ ap is_resting stands)) refl)

-- a wake is refused where the hand is empty and the name is in no slot
pub wake_refused : (v : MachineView) (y : Yard) (a name : ℕ) → KnowsPlaces v y → (hand_of v.parts a).thread ≡ None → slot_in (standing_of v.names name) ≡ None
    → refused_by v.parts y a (acts.Wake name) ≡ Some (answers.NotBlocked (place_in (standing_of v.names name)))
wake_refused v y a name k empty elsewhere =
    cond-false (is_some (hand_of v.parts a).thread) (Some answers.HandFull) (first_refusal (not_blocked (state_of v.parts y) name ∷ [])) (ap is_some empty)
    ∙ ap (λ r. first_refusal (r ∷ [])) (not_blocked_is v y k name)
    ∙ ap (λ b. first_refusal (refuse (not b) (answers.NotBlocked (place_in (standing_of v.names name))) ∷ [])) (resting_is (standing_of v.names name) ∙ ap is_some elsewhere)

-- a thread wakes: t is the sleeper's with the span since it went to sleep to be counted
pub wake_acts : (old new : MachineView) (y : Yard) (a now name slot : ℕ) (t : Facts)
    → IsSet old a now (acts.Wake name) → MeansOver old y → KeepsOn old y
    → (hand_of old.parts a).thread ≡ None → standing_of old.names name ≡ Some (standings.Blocked slot)
    → ((w : Resting) → value_at old.yard.sleepers slot ≡ Some w → t ≡ rested (now - w.since) w.thread)
    → new.parts ≡ rehanded old.parts a (filled_hand old.parts.setup t now)
    → WakesUp old new slot now
    → IsNoted old new name (standings.Held a) → new.steps ≡ old.steps
    → ActsTo old new y a now (acts.Wake name) answers.Yes
wake_acts old new y a now name slot t set means keeps empty stands woken parts f table steps =
    let k = known old y means keeps in
    let found = sleeper_is old y k name slot stands in
    let w : Resting = found.0 in
    let is : t ≡ rested (now - w.since) w.thread = woken w found.1 in
    let named : t.name ≡ name = ap (λ (g : Facts). g.name) is ∙ found.2 in
    let woken_as : ℕ → Outcome = λ n. record {
      answer = answers.Yes;
      thread = Some t;
      state = with_hand a (filled_hand old.parts.setup t now) (with_yard (awoken y n now) (state_of old.parts y));
    } in
    yard_acts old new y (awoken y name now) a now (acts.Wake name) answers.Yes (Some t) (filled_hand old.parts.setup t now) name (standings.Held a)
    means (wake_accepted old y a name slot k empty stands)
    (ap (wake_outcome old.parts.setup (state_of old.parts y) a now) found.3
    ∙ ap (wake_outcome_by old.parts.setup (state_of old.parts y) a now) (sym is)
    ∙ ap woken_as named)
    (record {
      parts = parts;
      held = λ u holds. (let e = sym empty ∙ holds in absurd (cc));
      slots = λ at r other there.
          elim (cases_eq at slot) [
            | inl here ↦ (
                let same : w ≡ r = same_Some w r (sym found.1 ∙ ap (value_at old.yard.sleepers) (sym here) ∙ there) in
                absurd (other (ap (λ (x : Resting). x.thread.name) (sym same) ∙ found.2)))
            | inr differs ↦ f.removes.elsewhere.values at differs ∙ there
          ];
      ended = λ n other there. there;
      made = λ n other never. never;
      table = table;
    })
    (wake_yard old new y a now slot name k stands (ap (λ (p : PartsView). p.setup) parts) f table)
    (subst (λ n. StandsThere new (awoken y name now) n (Some (standings.Held a))) named
    (stands_held old new (awoken y name now) a now t parts set.ready.actor (actor_within old a now (acts.Wake name) set)))
    steps

-- the blocked threads are counted, and nothing moves
pub blocked_acts : (old new : MachineView) (y : Yard) (a now count : ℕ)
    → IsSet old a now acts.Blocked → MeansOver old y
    → count ≡ live_count old.yard.sleepers
    → new.parts ≡ rehanded old.parts a (kept_hand (hand_of old.parts a) now)
    → new.yard ≡ record old.yard { last = now }
    → new.names ≡ old.names → new.steps ≡ old.steps
    → ActsTo old new y a now acts.Blocked (answers.Left count)
blocked_acts old new y a now count set means is parts yard names steps =
    let after : Yard = record y { last = now } in
    let hand : Hand = kept_hand (hand_of old.parts a) now in
    let frame = quiet_frame old new y after a
    (record {
      hand = hand;
      hands = ap (λ (p : PartsView). p.hands) parts;
      thread = refl;
      queues = λ c slot arrival name stands. subst (λ (p : PartsView). NameStands (cluster_at p c) slot arrival name) (sym parts) stands;
      names = names;
      setup = ap (λ (p : PartsView). p.setup) parts;
    })
    (actor_within old a now acts.Blocked set) (ap (λ (s : YardView). s.sleepers) yard) refl refl in
    record {
      after = after;
      answers = ap (λ n. answers.Left n) (sym means.yard.count ∙ sym is);
      leads = ap (λ (p : PartsView). state_of p after) (sym parts);
      keeps_setup = ap (λ (p : PartsView). p.setup) parts;
      serve = subst (AllServe (old.steps + 1)) (sym parts)
          (λ c below. serves_longer old.parts.setup old.steps (old.steps + 1) c (cluster_at old.parts c) (omega arith) (means.serve c below));
      yard = same_sleepers old new y after means.yard (ap (λ (p : PartsView). p.setup) parts) (ap (λ (s : YardView). s.sleepers) yard) refl (ap (λ (s : YardView). s.last) yard)
          (ap (λ (s : YardView). s.live) yard ∙ means.yard.live) (λ slot w there. ap (λ es. standing_of es w.thread.name) names);
      names = names_after old new y after (λ name. false) frame means.names (λ name no. absurd (false≢true no));
      steps = steps;
    }
