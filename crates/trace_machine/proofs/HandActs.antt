-- Acts at a hand that holds a thread, which keeps it.
use Rattle.std.proofs.Common.{◌≡◌, ℕ, ◌∷◌, [], true, false, Option, Some, None, Ok, Err, is_some, is_none, slice_set, length, ◌<◌, ap₂, refl, sym, ap, ◌∙◌, subst, inl, inr}
use Rattle.std.proofs.lemmas.Bool.{cases_eq, false≢true}
use Rattle.std.proofs.lemmas.Option.{same_Some}
use Rattle.link_arena.specs.Arena.{value_at}
use Rattle.sched_base.specs.Facts.{charged}
use Rattle.sched_base.specs.declared.Act.{Act}
use Rattle.sched_base.specs.declared.Act.TheVariants as acts
use Rattle.sched_base.specs.declared.Answer.{Answer}
use Rattle.sched_base.specs.declared.Answer.TheVariants as answers
use Rattle.sched_base.specs.declared.Facts.{Facts}
use Rattle.flat_policy.specs.Policy.Clusters.{NameStands}
use Rattle.flat_policy.specs.Policy.ClusterSteps.{look_event}
use Rattle.flat_policy.specs.Policy.Machine.{Hand, MachineState, Yard, aim_answer, aim_outcome, first_refusal, flat_at, kept_hand, look_first, look_first_by, look_outcome, looked_hand, ran_outcome, refuse}
use Rattle.flat_policy.specs.Policy.Setup.{SetupParts, home_of, rate_of}
use Rattle.migration.specs.Looks.{IsAim}
use Rattle.migration.specs.declared.LookFirst.{LookFirst}
use Rattle.trace_machine.specs.Acting.{ActsTo, IsSet}
use Rattle.trace_machine.specs.Machines.{MachineView, MeansOver}
use Rattle.trace_machine.specs.Parts.{Does, PartsView, cluster_at, hand_of, state_of}
use Rattle.trace_machine.proofs.ActsTo.{accepted_is, quiet_acts, quiet_from, refused_acts, refused_by}
use Rattle.trace_machine.proofs.Frames.{Frame, names_after, yard_stays}
use Rattle.trace_machine.specs.Yards.{YardView, standing_of}
use Rattle.trace_machine.proofs.Setting.{does_in_hand, hand_changed, hand_other, rehanded}

-- a hand that holds a thread isn't refused as empty
pub full_goes_on : (o : Option Facts) → is_some o ≡ true → first_refusal (refuse (is_none o) answers.HandEmpty ∷ []) ≡ None
full_goes_on None full = absurd (false≢true full)
full_goes_on (Some t) full = refl

-- the thread of a full hand
pub thread_of : (o : Option Facts) → is_some o ≡ true → (t : Facts) × (o ≡ Some t)
thread_of None full = absurd (false≢true full)
thread_of (Some t) full = (t, refl)

-- a look
pub look_acts : (old new : MachineView) (y : Yard) (a c now : ℕ) (told : Answer) → IsSet old a now (acts.Look c) → MeansOver old y
    → is_some (hand_of old.parts a).thread ≡ true → Does old.parts new.parts a now (acts.Look c) told → new.names ≡ old.names → new.yard ≡ old.yard → new.steps ≡ old.steps
    → ActsTo old new y a now (acts.Look c) told
look_acts old new y a c now told set means full does names yard steps =
    let setup : SetupParts = old.parts.setup in
    let g : MachineState = state_of old.parts y in
    let h : Hand = hand_of old.parts a in
    let t = thread_of h.thread full in
    quiet_acts old new y a now (acts.Look c) told set means (full_goes_on h.thread full) does
    (quiet_from old new y a now (acts.Look c) told (looked_hand h c (look_event setup c t.0.bucket now (flat_at g c)).answer now) does
    (ap (λ o. (look_outcome setup g a h c now o).state.hands) t.1) refl (ap (λ o. (look_outcome setup g a h c now o).thread) t.1) names)
    yard steps

-- a hand whose thread changed and kept its name
renamed_not : (p q : PartsView) (a : ℕ) (h : Hand) (t u : Facts) → q.hands ≡ slice_set p.hands a h → (hand_of p a).thread ≡ Some t → h.thread ≡ Some u → u.name ≡ t.name → a < length p.hands
    → (k : ℕ) (s : Facts) → (hand_of p k).thread ≡ Some s → (r : Facts) × ((hand_of q k).thread ≡ Some r) × (r.name ≡ s.name)
renamed_not p q a h t u is held new name lt k s there =
    let moved : (hand_of q k).thread ≡ (hand_of (rehanded p a h) k).thread = ap (λ hs. (hand_of (record p { hands = hs }) k).thread) is in
    elim (cases_eq k a) [
      | inl e ↦ (
        u,
        moved ∙ (subst (λ i. (hand_of (rehanded p a h) i).thread ≡ Some u) (sym e) (ap (λ (x : Hand). x.thread) (hand_changed p a h lt) ∙ new)),
        name ∙ ap (λ (f : Facts). f.name) (same_Some t s (sym held ∙ (ap (λ i. (hand_of p i).thread) (sym e) ∙ there))),
      )
      | inr differs ↦ (s, moved ∙ (ap (λ (x : Hand). x.thread) (hand_other p a h k differs) ∙ there), refl)
    ]

-- an act at one hand, whose thread changes and keeps its name
ran_quiet_acts : (old new : MachineView) (y : Yard) (a now : ℕ) (act : Act) (told : Answer) (t u : Facts) (h : Hand) → IsSet old a now act → MeansOver old y
    → refused_by old.parts y a act ≡ None → Does old.parts new.parts a now act told → new.parts.hands ≡ slice_set old.parts.hands a h
    → (hand_of old.parts a).thread ≡ Some t → h.thread ≡ Some u → u.name ≡ t.name
    → new.parts.clusters ≡ old.parts.clusters → new.names ≡ old.names → new.yard ≡ old.yard → new.steps ≡ old.steps → ActsTo old new y a now act told
ran_quiet_acts old new y a now act told t u h set means none does hands held is name clusters names yard steps =
    let lt : a < length old.parts.hands = subst (λ n. a < n) (sym set.ready.hands) set.ready.actor in
    let frame : Frame old new y y (λ n. false) = record {
      setup = does.keeps_setup;
      queues = λ c slot arrival n _ stands. subst (λ (p : PartsView). NameStands (cluster_at p c) slot arrival n)
          (ap₂ (λ s vs. record { setup = s; clusters = vs; hands = new.parts.hands }) (sym does.keeps_setup) (sym clusters)) stands;
      hands = λ k s _ there. renamed_not old.parts new.parts a h t u hands held is name lt k s there;
      slots = λ slot w _ there. subst (λ (x : YardView). value_at x.sleepers slot ≡ Some w) (sym yard) there;
      ended = λ n _ there. there;
      made = λ n _ never. never;
      table = λ n _. ap (λ es. standing_of es n) names;
    } in
    record {
      after = y;
      answers = ap (λ o. o.answer) (accepted_is old.parts y a now act none) ∙ does.answers y;
      leads = ap (λ o. o.state) (accepted_is old.parts y a now act none) ∙ does.leads y;
      keeps_setup = does.keeps_setup;
      serve = does.serves old.steps means.serve;
      yard = yard_stays old new y (λ n. false) frame yard means.yard (λ slot w _. refl);
      names = names_after old new y y (λ n. false) frame means.names (λ n e. absurd (false≢true e));
      steps = steps;
    }

-- a run
pub ran_acts : (old new : MachineView) (y : Yard) (a us now : ℕ) (told : Answer) → IsSet old a now (acts.Ran us) → MeansOver old y
    → is_some (hand_of old.parts a).thread ≡ true → Does old.parts new.parts a now (acts.Ran us) told → new.parts.clusters ≡ old.parts.clusters
    → new.names ≡ old.names → new.yard ≡ old.yard → new.steps ≡ old.steps
    → ActsTo old new y a now (acts.Ran us) told
ran_acts old new y a us now told set means full does clusters names yard steps =
    let setup : SetupParts = old.parts.setup in
    let g : MachineState = state_of old.parts y in
    let h : Hand = hand_of old.parts a in
    let t = thread_of h.thread full in
    let u : Facts = charged us (rate_of setup (home_of setup a)) t.0 in
    let hand : Hand = record h { thread = Some u; last = now } in
    ran_quiet_acts old new y a now (acts.Ran us) told t.0 u hand set means (full_goes_on h.thread full) does
    (sym (ap (λ (s : MachineState). s.hands) (does.leads y)) ∙ ap (λ o. (ran_outcome setup g a h us now o).state.hands) t.1)
    t.1 refl refl clusters names yard steps

-- an aim that lacks a look is refused
pub aim_lacks : (old : MachineView) (y : Yard) (a now : ℕ) (l : LookFirst) → MeansOver old y → is_some (hand_of old.parts a).thread ≡ true
    → ((t : Facts) → (hand_of old.parts a).thread ≡ Some t → IsAim old.parts.setup (hand_of old.parts a).looks t (Err l))
    → ActsTo old old y a now acts.Aim (answers.LookFirst l.cluster)
aim_lacks old y a now l means full aims =
    let h : Hand = hand_of old.parts a in
    let t = thread_of h.thread full in
    refused_acts old y a now acts.Aim (answers.LookFirst l.cluster) means
    (ap (λ o. first_refusal (refuse (is_none o) answers.HandEmpty ∷ look_first old.parts.setup h o ∷ [])) t.1
    ∙ ap (λ n. first_refusal (look_first_by n ∷ [])) (sym (aims t.0 t.1).look_first))

-- an aim that lacks none
pub aim_acts : (old new : MachineView) (y : Yard) (a now to : ℕ) → IsSet old a now acts.Aim → MeansOver old y → is_some (hand_of old.parts a).thread ≡ true
    → ((t : Facts) → (hand_of old.parts a).thread ≡ Some t → IsAim old.parts.setup (hand_of old.parts a).looks t (Ok to))
    → new.parts ≡ rehanded old.parts a (kept_hand (hand_of old.parts a) now) → new.names ≡ old.names → new.yard ≡ old.yard → new.steps ≡ old.steps
    → ActsTo old new y a now acts.Aim (answers.To to)
aim_acts old new y a now to set means full aims parts names yard steps =
    let setup : SetupParts = old.parts.setup in
    let h : Hand = hand_of old.parts a in
    let t = thread_of h.thread full in
    let goes_on = ap (λ o. first_refusal (refuse (is_none o) answers.HandEmpty ∷ look_first setup h o ∷ [])) t.1
    ∙ ap (λ n. first_refusal (look_first_by n ∷ [])) (sym (aims t.0 t.1).look_first) in
    let does : Does old.parts new.parts a now acts.Aim (answers.To to) =
    does_in_hand old.parts new.parts a (kept_hand h now) now acts.Aim (answers.To to) parts
    (λ z. ap (λ o. (aim_outcome setup (state_of old.parts z) a h now o).answer) t.1 ∙ ap aim_answer (sym (aims t.0 t.1).aim))
    (λ z. ap (λ o. (aim_outcome setup (state_of old.parts z) a h now o).state) t.1) in
    quiet_acts old new y a now acts.Aim (answers.To to) set means goes_on does
    (quiet_from old new y a now acts.Aim (answers.To to) (kept_hand h now) does
    (ap (λ o. (aim_outcome setup (state_of old.parts y) a h now o).state.hands) t.1) refl (ap (λ o. (aim_outcome setup (state_of old.parts y) a h now o).thread) t.1) names)
    yard steps
