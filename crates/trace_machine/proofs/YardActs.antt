-- Making and ending a thread.
use Rattle.std.proofs.Common.{◌≡◌, ◌≢◌, ℕ, ◌==◌, ◌+◌, ◌-◌, ◌≤◌, ◌<◌, true, false, [], ◌∷◌, ◌++◌, Option, Some, None, is_none, is_some, length, refl, sym, ap, ◌∙◌, subst, arith, eq-eqb}
use Rattle.std.specs.List.{list_any}
use Rattle.std.proofs.lemmas.Bool.{le-leb, lt-leb, ne_eqb, or_from, or_left, or_right}
use Rattle.std.proofs.lemmas.List.{length_push}
use Rattle.std.proofs.lemmas.List.Folds.{list_any-append}
use Rattle.std.proofs.lemmas.Option.{same_Some}
use Rattle.link_arena.specs.Arena.{value_at}
use Rattle.sched_base.specs.declared.Act.{Act}
use Rattle.sched_base.specs.declared.Act.TheVariants as acts
use Rattle.sched_base.specs.declared.Answer.TheVariants as answers
use Rattle.sched_base.specs.declared.Bucket.{Bucket}
use Rattle.sched_base.specs.declared.Facts.{Facts}
use Rattle.flat_policy.specs.Policy.Machine.{Hand, Yard, empty_hand, end_outcome, filled_hand, hand_empty, hand_full, name_used, no_room}
use Rattle.flat_policy.specs.Policy.Setup.{actor_count}
use Rattle.flat_policy.specs.Policy.Threads.{made_thread}
use Rattle.trace_machine.specs.Acting.{ActsTo, IsSet, KeepsOn}
use Rattle.trace_machine.specs.declared.names.Standing.TheVariants as standings
use Rattle.trace_machine.specs.declared.yard.Resting.{Resting}
use Rattle.trace_machine.specs.Machines.{MachineView, MeansOver, StandsThere}
use Rattle.trace_machine.specs.Parts.{PartsView, hand_of, state_of}
use Rattle.trace_machine.specs.Yards.{YardView, standing_of}
use Rattle.trace_machine.proofs.ActsTo.{refused_by}
use Rattle.trace_machine.proofs.LiveNames.{away_within}
use Rattle.trace_machine.proofs.Setting.{rehanded}
use Rattle.trace_machine.proofs.Standing.{KnowsPlaces, used_is}
use Rattle.trace_machine.proofs.StandingFound.{held_is}
use Rattle.trace_machine.proofs.YardMoves.{IsNoted, apart_from_sleepers, hand_is, noted_other, refusal_here, refusal_next, refusal_none, same_sleepers, yard_acts}

-- what is known of the names of a machine in code, by what the laws say of it
pub known : (v : MachineView) (y : Yard) → MeansOver v y → KeepsOn v y → KnowsPlaces v y
known v y means keeps = record { yard = means.yard; names = means.names; once = keeps.before.once; law = keeps.where_it_stands }

-- the actor is there
pub actor_within : (v : MachineView) (a now : ℕ) (act : Act) → IsSet v a now act → a < length v.parts.hands
actor_within v a now act set = omega (arith, set.ready.actor, set.ready.hands)

-- a thread in the changed hand stands there
pub stands_held : (old new : MachineView) (after : Yard) (a now : ℕ) (t : Facts) → new.parts ≡ rehanded old.parts a (filled_hand old.parts.setup t now)
    → a < actor_count old.parts.setup → a < length old.parts.hands → StandsThere new after t.name (Some (standings.Held a))
stands_held old new after a now t parts below within = (
  subst (λ (p : PartsView). a < actor_count p.setup) (sym parts) below,
  (t, ap (λ (h : Hand). h.thread) (hand_is old new a (filled_hand old.parts.setup t now) parts within), refl),
)

-- a make is accepted where the hand is empty, the name was never made, and fewer threads live than may
pub make_accepted : (v : MachineView) (y : Yard) (a name group base : ℕ) (bucket : Bucket) (bound : Option ℕ) → KnowsPlaces v y
    → (hand_of v.parts a).thread ≡ None → standing_of v.names name ≡ None → v.yard.live < v.parts.setup.threads
    → refused_by v.parts y a (acts.Make name group bucket base bound) ≡ None
make_accepted v y a name group base bucket bound k empty unnamed room =
    refusal_none (hand_full (hand_of v.parts a)) (name_used y name ∷ no_room v.parts.setup y ∷ []) (ap is_some empty)
    (refusal_none (name_used y name) (no_room v.parts.setup y ∷ []) (used_is v y k name ∙ ap is_some unnamed)
    (refusal_none (no_room v.parts.setup y) [] (lt-leb v.parts.setup.threads (length y.made - length y.ended) (omega (arith, room, k.yard.live))) refl))

-- a make is refused where the name was made, and where as many threads live as may
pub make_used : (v : MachineView) (y : Yard) (a name group base : ℕ) (bucket : Bucket) (bound : Option ℕ) → KnowsPlaces v y
    → (hand_of v.parts a).thread ≡ None → is_some (standing_of v.names name) ≡ true
    → refused_by v.parts y a (acts.Make name group bucket base bound) ≡ Some answers.NameUsed
make_used v y a name group base bucket bound k empty named =
    refusal_next (hand_full (hand_of v.parts a)) (name_used y name ∷ no_room v.parts.setup y ∷ []) (ap is_some empty)
    ∙ refusal_here (name_used y name) (no_room v.parts.setup y ∷ []) (used_is v y k name ∙ named)

pub make_crowded : (v : MachineView) (y : Yard) (a name group base : ℕ) (bucket : Bucket) (bound : Option ℕ) → KnowsPlaces v y
    → (hand_of v.parts a).thread ≡ None → standing_of v.names name ≡ None → v.parts.setup.threads ≤ v.yard.live
    → refused_by v.parts y a (acts.Make name group bucket base bound) ≡ Some answers.NoRoom
make_crowded v y a name group base bucket bound k empty unnamed full =
    refusal_next (hand_full (hand_of v.parts a)) (name_used y name ∷ no_room v.parts.setup y ∷ []) (ap is_some empty)
    ∙ refusal_next (name_used y name) (no_room v.parts.setup y ∷ []) (used_is v y k name ∙ ap is_some unnamed)
    ∙ refusal_here (no_room v.parts.setup y) [] (le-leb v.parts.setup.threads (length y.made - length y.ended) (omega (arith, full, k.yard.live)))

-- making a thread
pub make_acts : (old new : MachineView) (y : Yard) (a now name group base : ℕ) (bucket : Bucket) (bound : Option ℕ)
    → IsSet old a now (acts.Make name group bucket base bound) → MeansOver old y → KeepsOn old y
    → (hand_of old.parts a).thread ≡ None → standing_of old.names name ≡ None → old.yard.live < old.parts.setup.threads
    → new.parts ≡ rehanded old.parts a (filled_hand old.parts.setup (made_thread old.parts.setup name group bucket base bound now) now)
    → new.yard ≡ record old.yard { live = old.yard.live + 1; last = now }
    → IsNoted old new name (standings.Held a) → new.steps ≡ old.steps
    → ActsTo old new y a now (acts.Make name group bucket base bound) answers.Yes
make_acts old new y a now name group base bucket bound set means keeps empty unnamed room parts yard table steps =
    let t : Facts = made_thread old.parts.setup name group bucket base bound now in
    let after : Yard = record y { made = y.made ++ name ∷ []; last = now } in
    let k = known old y means keeps in
    let apart = apart_from_sleepers old y name means.yard (λ slot is. let e = sym unnamed ∙ is in cc) in
    yard_acts old new y after a now (acts.Make name group bucket base bound) answers.Yes (Some t) (filled_hand old.parts.setup t now) name (standings.Held a)
    means (make_accepted old y a name group base bucket bound k empty unnamed room) refl
    (record {
      parts = parts;
      held = λ u holds. (let e = sym empty ∙ holds in absurd (cc));
      slots = λ slot w other is. ap (λ (s : YardView). value_at s.sleepers slot) yard ∙ is;
      ended = λ n other is. is;
      made = λ n other never.
          list_any-append (λ m. m == n) y.made (name ∷ [])
          ∙ or_from (list_any (λ m. m == n) y.made) (list_any (λ m. m == n) (name ∷ [])) never (or_from (name == n) false (ne_eqb name n (λ e. other (sym e))) refl);
      table = table;
    })
    (same_sleepers old new y after means.yard (ap (λ (p : PartsView). p.setup) parts) (ap (λ (s : YardView). s.sleepers) yard) refl (ap (λ (s : YardView). s.last) yard)
    (omega (arith, ap (λ (s : YardView). s.live) yard, means.yard.live, length_push y.made name, away_within (state_of old.parts y) keeps.before.once))
    (λ slot w is. noted_other old new name (standings.Held a) w.thread.name table (apart slot w is)))
    (stands_held old new after a now t parts set.ready.actor (actor_within old a now (acts.Make name group bucket base bound) set))
    steps

-- a name whose thread is held is no sleeper's
pub held_apart : (v : MachineView) (y : Yard) (a : ℕ) (t : Facts) → KnowsPlaces v y → (hand_of v.parts a).thread ≡ Some t
    → (slot : ℕ) (w : Resting) → value_at v.yard.sleepers slot ≡ Some w → w.thread.name ≢ t.name
held_apart v y a t k holding = apart_from_sleepers v y t.name k.yard (λ slot is. let e = sym (held_is v y k a t holding) ∙ is in cc)

-- ending a thread
pub end_acts : (old new : MachineView) (y : Yard) (a now : ℕ) (t : Facts)
    → IsSet old a now acts.End → MeansOver old y → KeepsOn old y
    → (hand_of old.parts a).thread ≡ Some t
    → new.parts ≡ rehanded old.parts a (empty_hand old.parts.setup now)
    → new.yard ≡ record old.yard { live = old.yard.live - 1; last = now }
    → IsNoted old new t.name standings.Ended → new.steps ≡ old.steps
    → ActsTo old new y a now acts.End answers.Yes
end_acts old new y a now t set means keeps holding parts yard table steps =
    let after : Yard = record y { ended = y.ended ++ t.name ∷ []; last = now } in
    let k = known old y means keeps in
    yard_acts old new y after a now acts.End answers.Yes (Some t) (empty_hand old.parts.setup now) t.name standings.Ended
    means (refusal_none (hand_empty (hand_of old.parts a)) [] (ap is_none holding) refl)
    (ap (end_outcome old.parts.setup (state_of old.parts y) a now) holding)
    (record {
      parts = parts;
      held = λ u holds. (let e = sym holding ∙ holds in ap (λ (f : Facts). f.name) (sym (same_Some t u e)));
      slots = λ slot w other is. ap (λ (s : YardView). value_at s.sleepers slot) yard ∙ is;
      ended = λ n other is.
          list_any-append (λ m. m == n) y.ended (t.name ∷ [])
          ∙ or_left (list_any (λ m. m == n) y.ended) (list_any (λ m. m == n) (t.name ∷ [])) is;
      made = λ n other never. never;
      table = table;
    })
    (same_sleepers old new y after means.yard (ap (λ (p : PartsView). p.setup) parts) (ap (λ (s : YardView). s.sleepers) yard) refl (ap (λ (s : YardView). s.last) yard)
    (omega (arith, ap (λ (s : YardView). s.live) yard, means.yard.live, length_push y.ended t.name))
    (λ slot w is. noted_other old new t.name standings.Ended w.thread.name table (held_apart old y a t k holding slot w is)))
    (list_any-append (λ m. m == t.name) y.ended (t.name ∷ [])
    ∙ or_right (list_any (λ m. m == t.name) y.ended) (list_any (λ m. m == t.name) (t.name ∷ [])) (or_left (t.name == t.name) false (eq-eqb t.name t.name refl)))
    steps
