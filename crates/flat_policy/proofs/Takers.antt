-- A thread that an offer hands out may be taken along the edge, and one that enters may enter.
use Rattle.std.proofs.Common.{◌≡◌, ℕ, Bool, false, [], ◌∷◌, Option, Some, None, refl, sym, ap, ◌∙◌, subst}
use Rattle.std.proofs.lemmas.Bool.{not-false}
use Rattle.std.proofs.lemmas.Option.{none-some, same_Some}
use Rattle.sched_base.specs.declared.Act.TheVariants as acts
use Rattle.sched_base.specs.declared.Answer.{Answer}
use Rattle.sched_base.specs.declared.Entry.{Entry}
use Rattle.sched_base.specs.declared.Facts.{Facts}
use Rattle.sched_base.specs.declared.Step.{Step}
use Rattle.flat_policy.specs.Laws.Places.{TakesRightly}
use Rattle.flat_policy.specs.Policy.Aim.{MayEnter, may_enter}
use Rattle.flat_policy.specs.Policy.ClusterSteps.{facts_of, offer_event}
use Rattle.flat_policy.specs.Policy.Machine.{MachineState, accepted_by, effective_moment, enter_outcome, first_refusal, flat_at, hand_at, hand_empty, not_allowed, outcome_by, refusal, refusals_by, reply}
use Rattle.flat_policy.specs.Policy.Offer.{MayTake, mask_between, offered_between}
use Rattle.flat_policy.specs.Policy.Queue.{Flat, Queued}
use Rattle.flat_policy.specs.Policy.Setup.{SetupParts, home_of, migrates}
use Rattle.flat_policy.proofs.Accepted.{no_refusal}
use Rattle.flat_policy.proofs.Kept.{offered_stands}

-- the facts of an entry that is there
pub facts_stand : (o : Option Queued) (t : Facts) → facts_of o ≡ Some t → (e : Queued) × (o ≡ Some e) × (e.facts ≡ t)
facts_stand None t h = absurd (none-some t h)
facts_stand (Some e) t h = (e, refl, same_Some e.facts t h)

event_may : (setup : SetupParts) (from to now : ℕ) (s : Flat) (t : Facts) → (offer_event setup from to now s).thread ≡ Some t → MayTake setup from to s t
event_may setup from to now s t h =
    let e = facts_stand (offered_between setup from to s) t h in
    subst (MayTake setup from to s) e.2 (offered_stands to (migrates setup from to) (mask_between setup from to s.on) s e.0 e.1).1

offer_may : (setup : SetupParts) (g : MachineState) (step : Step) (c : ℕ) (t : Facts) → step.act ≡ acts.Offer c → (o : Option Answer) → (outcome_by setup g step o).thread ≡ Some t → MayTake setup c (home_of setup step.actor) (flat_at g c) t
offer_may setup g step c t is (Some answer) h = absurd (none-some t h)
offer_may setup g step c t is None h =
    event_may setup c (home_of setup step.actor) (effective_moment setup g step) (flat_at g c) t
    (ap (λ act. (accepted_by setup g step.actor (hand_at g step.actor) (effective_moment setup g step) act).thread) (sym is) ∙ h)

thread_may : (setup : SetupParts) (g : MachineState) (a c : ℕ) (head : Bool) (now : ℕ) (t : Facts) (o : Option Facts) → (not_allowed setup o c).holds ≡ false → (enter_outcome setup g a c head now o).thread ≡ Some t → MayEnter setup t c
thread_may setup g a c head now t None allowed h = absurd (none-some t h)
thread_may setup g a c head now t (Some u) allowed h =
    subst (λ v. MayEnter setup v c) (same_Some u t h) (not-false (may_enter setup u c) allowed)

enter_may : (setup : SetupParts) (g : MachineState) (step : Step) (c : ℕ) (head : Bool) (t : Facts) → step.act ≡ acts.Enter c head → (o : Option Answer) → refusal setup g step ≡ o → (outcome_by setup g step o).thread ≡ Some t → MayEnter setup t c
enter_may setup g step c head t is (Some answer) e h = absurd (none-some t h)
enter_may setup g step c head t is None e h =
    let a : ℕ = step.actor in
    let none : first_refusal (refusals_by setup g a (hand_at g a) (acts.Enter c head)) ≡ None =
    ap (λ act. first_refusal (refusals_by setup g a (hand_at g a) act)) (sym is) ∙ e in
    let held = no_refusal (hand_empty (hand_at g a)) (not_allowed setup (hand_at g a).thread c ∷ []) none in
    thread_may setup g a c head (effective_moment setup g step) t (hand_at g a).thread
    (no_refusal (not_allowed setup (hand_at g a).thread c) [] held.1).0
    (ap (λ act. (accepted_by setup g a (hand_at g a) (effective_moment setup g step) act).thread) (sym is) ∙ h)

pub takes_rightly : (setup : SetupParts) (g : MachineState) (e : Entry) → reply setup g e.step ≡ e → TakesRightly setup g e
takes_rightly setup g e is = record {
  offered = λ c name t act answer thread.
      offer_may setup g e.step c t act (refusal setup g e.step) (ap (λ (f : Entry). f.thread) is ∙ thread);
  entered = λ c p head t act answer thread.
      enter_may setup g e.step c head t act (refusal setup g e.step) refl (ap (λ (f : Entry). f.thread) is ∙ thread);
}
