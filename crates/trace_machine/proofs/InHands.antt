-- What happens at a hand alone.
use Rattle.std.proofs.Common.{◌≡◌, ℕ, ◌<◌, List, Option, Some, length, get_or, slice_set, sym, ap, ◌∙◌}
use Rattle.sched_base.specs.Facts.{charged}
use Rattle.sched_base.specs.declared.Facts.{Facts}
use Rattle.sched_base.specs.declared.Act.TheVariants as acts
use Rattle.sched_base.specs.declared.Answer.TheVariants as answers
use Rattle.migration.specs.Looks.{looks_among}
use Rattle.flat_policy.specs.Policy.Aim.{Look}
use Rattle.flat_policy.specs.Policy.Clusters.{ClusterView}
use Rattle.flat_policy.specs.Policy.Machine.{Hand, Outcome, Yard, kept_hand, no_looks, ran_outcome, ran_outcome_by}
use Rattle.flat_policy.specs.Policy.Setup.{SetupParts, home_of, rate_of}
use Rattle.trace_machine.specs.Parts.{Does, PartsView, accepted_at, hand_of, state_of}
use Rattle.trace_machine.specs.declared.hand.HeldHand.{HeldHand}
use Rattle.trace_machine.proofs.Readings.{hand_read, hand_written, parts_in}
use Rattle.trace_machine.proofs.Setting.{does_in_hand, rehanded}

-- a hand whose last moment was written
pub hand_kept : {X : Type 0} (view : X → ClusterView) (setup : SetupParts) (xs : List X) (hs : List HeldHand) (p : PartsView) (a : ℕ) (h : HeldHand) (now : ℕ)
    → parts_in view setup xs hs ≡ p → a < length p.hands → h ≡ get_or hs a h
    → parts_in view setup xs (slice_set hs a (record h { last = now })) ≡ rehanded p a (kept_hand (hand_of p a) now)
hand_kept view setup xs hs p a h now is lt read =
    hand_written view setup xs hs p a (record h { last = now }) is
    ∙ ap (λ (g : Hand). rehanded p a (kept_hand g now)) (sym (hand_read view setup xs hs p a h is lt read))

-- a hand that was given or lost its thread, with its looks forgotten
pub hand_reset : {X : Type 0} (view : X → ClusterView) (setup : SetupParts) (xs : List X) (hs : List HeldHand) (p : PartsView) (a : ℕ) (thread given : Option Facts) (looks : List (Option Look)) (now : ℕ)
    → parts_in view setup xs hs ≡ p → thread ≡ given → looks_among setup looks ≡ no_looks setup
    → parts_in view setup xs (slice_set hs a (record { thread = thread; looks = looks; last = now }))
    ≡ rehanded p a (record { thread = given; looks = no_looks p.setup; last = now })
hand_reset view setup xs hs p a thread given looks now is gives among =
    hand_written view setup xs hs p a (record { thread = thread; looks = looks; last = now }) is
    ∙ ap (λ (ls : List (Option Look)). rehanded p a (record { thread = thread; looks = ls; last = now })) among
    ∙ ap (λ (o : Option Facts). rehanded p a (record { thread = o; looks = no_looks setup; last = now })) gives
    ∙ ap (λ (s : SetupParts). rehanded p a (record { thread = given; looks = no_looks s; last = now })) (ap (λ (q : PartsView). q.setup) is)

-- a hand whose thread was charged
pub hand_ran : {X : Type 0} (view : X → ClusterView) (setup : SetupParts) (xs : List X) (hs : List HeldHand) (p : PartsView) (a : ℕ) (h : HeldHand) (t : Facts) (now : ℕ)
    → parts_in view setup xs hs ≡ p → a < length p.hands → h ≡ get_or hs a h
    → parts_in view setup xs (slice_set hs a (record { thread = Some t; looks = h.looks; last = now }))
    ≡ rehanded p a (record (hand_of p a) { thread = Some t; last = now })
hand_ran view setup xs hs p a h t now is lt read =
    hand_written view setup xs hs p a (record { thread = Some t; looks = h.looks; last = now }) is
    ∙ ap (λ (g : Hand). rehanded p a (record g { thread = Some t; last = now })) (sym (hand_read view setup xs hs p a h is lt read))

-- running for a while
pub runs : (p new : PartsView) (a now us rate told : ℕ) (t charged_t : Facts)
    → (hand_of p a).thread ≡ Some t → rate ≡ rate_of p.setup (home_of p.setup a) → charged_t ≡ charged us rate t → told ≡ charged_t.work
    → new ≡ rehanded p a (record (hand_of p a) { thread = Some charged_t; last = now })
    → Does p new a now (acts.Ran us) (answers.Work told)
runs p new a now us rate told t charged_t held rated charges tells changes =
    let comes : (y : Yard) → accepted_at p y a now (acts.Ran us) ≡ ran_outcome_by (state_of p y) a (hand_of p a) now charged_t =
    λ y. ap (ran_outcome p.setup (state_of p y) a (hand_of p a) us now) held
    ∙ ap (λ r. ran_outcome_by (state_of p y) a (hand_of p a) now (charged us r t)) (sym rated)
    ∙ ap (λ (f : Facts). ran_outcome_by (state_of p y) a (hand_of p a) now f) (sym charges) in
    does_in_hand p new a (record (hand_of p a) { thread = Some charged_t; last = now }) now (acts.Ran us) (answers.Work told) changes
    (λ y. ap (λ (o : Outcome). o.answer) (comes y) ∙ ap (λ k. answers.Work k) (sym tells))
    (λ y. ap (λ (o : Outcome). o.state) (comes y))
