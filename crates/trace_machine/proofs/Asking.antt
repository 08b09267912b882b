-- What a hand in code is asked.
use Rattle.std.proofs.Common.{◌≡◌, ℕ, ◌<◌, List, Option, Result, Some, sym, ap, ◌∙◌, subst, arith}
use Rattle.std.proofs.lemmas.Option.{same_Some}
use Rattle.sched_base.specs.declared.Facts.{Facts}
use Rattle.flat_policy.specs.Laws.Sound.{FittingPrefersAmong}
use Rattle.flat_policy.specs.Policy.Aim.{Look}
use Rattle.flat_policy.specs.Policy.Machine.{Hand}
use Rattle.flat_policy.specs.Policy.Setup.{SetupParts, cluster_count}
use Rattle.migration.specs.declared.LookFirst.{LookFirst}
use Rattle.migration.specs.Looks.{IsAim, looks_among}
use Rattle.trace_machine.specs.Parts.{IsReady, PartsView, hand_in, hand_of}
use Rattle.trace_machine.specs.declared.hand.HeldHand.{HeldHand}

-- the thread of a hand prefers one of the clusters
pub prefers_one : (p : PartsView) (a : ℕ) (setup : SetupParts) (h : HeldHand) (t f : Facts)
    → FittingPrefersAmong → IsReady p a → hand_of p a ≡ hand_in setup h → h.thread ≡ Some t → f ≡ t → f.prefer < cluster_count p.setup
prefers_one p a setup h t f fitting ready is held told =
    subst (λ (g : Facts). g.prefer < cluster_count p.setup) (sym told)
    (fitting p.setup t ready.setup (ready.hand.thread t (ap (λ (g : Hand). g.thread) is ∙ held)))

pub prefers_few : (p : PartsView) (a : ℕ) (setup : SetupParts) (h : HeldHand) (t f : Facts)
    → FittingPrefersAmong → IsReady p a → hand_of p a ≡ hand_in setup h → h.thread ≡ Some t → f ≡ t → f.prefer < 8
prefers_few p a setup h t f fitting ready is held told =
    omega (arith, prefers_one p a setup h t f fitting ready is held told, ready.setup.clusters_most)

-- an aim by the looks in code is one by those of the hand
pub aims : (p : PartsView) (a : ℕ) (setup : SetupParts) (h : HeldHand) (t f told : Facts) (answer : Result ℕ LookFirst)
    → setup ≡ p.setup → hand_of p a ≡ hand_in setup h → h.thread ≡ Some f → told ≡ f → (hand_of p a).thread ≡ Some t
    → IsAim p.setup (looks_among p.setup h.looks) told answer → IsAim p.setup (hand_of p a).looks t answer
aims p a setup h t f told answer same is held tells thread aim =
    let looks_is : looks_among p.setup h.looks ≡ (hand_of p a).looks =
    ap (λ (s : SetupParts). looks_among s h.looks) (sym same) ∙ ap (λ (g : Hand). g.looks) (sym is) in
    let facts_is : told ≡ t = tells ∙ same_Some f t (sym held ∙ ap (λ (g : Hand). g.thread) (sym is) ∙ thread) in
    subst (λ (k : Facts). IsAim p.setup (hand_of p a).looks k answer) facts_is
    (subst (λ (ls : List (Option Look)). IsAim p.setup ls told answer) looks_is aim)
