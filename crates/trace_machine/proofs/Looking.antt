-- Looks at a cluster.
use Rattle.std.proofs.Common.{◌≡◌, ℕ, ◌<◌, ◌≤◌, true, false, if◌then◌else◌, ◌^◌, Option, Some, None, List, length, get_or, slice_set, sym, ap, ◌∙◌, subst}
use Rattle.flat_policy.specs.Policy.Aim.{Look, load}
use Rattle.flat_policy.specs.Policy.ClusterSteps.{look_event, touched}
use Rattle.flat_policy.specs.Policy.Clusters.{ClusterView, after_touch}
use Rattle.flat_policy.specs.Policy.Machine.{Hand, Outcome, Yard, look_outcome, look_outcome_by, look_told, looked_hand}
use Rattle.flat_policy.specs.Policy.Queue.{Flat}
use Rattle.flat_policy.specs.Policy.Setup.{SetupParts, cluster_count, cluster_times, cpus_of, times_for}
use Rattle.sched_base.specs.declared.Answer.{Answer}
use Rattle.sched_base.specs.declared.Facts.{Facts}
use Rattle.sched_base.specs.declared.Act.TheVariants as acts
use Rattle.sched_base.specs.declared.Answer.TheVariants as answers
use Rattle.migration.specs.Looks.{looks_among}
use Rattle.trace_machine.specs.declared.hand.HeldHand.{HeldHand}
use Rattle.trace_machine.proofs.Readings.{both_written, hand_read, parts_in}
use Rattle.trace_machine.specs.Parts.{Does, IsReady, PartsView, Serves, accepted_at, cluster_at, hand_of, state_of}
use Rattle.trace_machine.proofs.Touching.{acts_quietly, flat_of_view}
use Rattle.trace_machine.proofs.Setting.{changed}

-- a look at a cluster that is off
pub looks_off : (p new : PartsView) (a now c : ℕ) (v x : ClusterView) (t : Facts)
    → c < cluster_count p.setup → IsReady p a → (cluster_at p c).flat.last ≤ now → cluster_at p c ≡ v → x ≡ after_touch v now
    → (hand_of p a).thread ≡ Some t → v.flat.on ≡ false
    → new ≡ changed p c x a (looked_hand (hand_of p a) c answers.Off now)
    → Does p new a now (acts.Look c) answers.Off
looks_off p new a now c v x t below ready later read is held dark changes =
    let h = looked_hand (hand_of p a) c answers.Off now in
    let comes : (y : Yard) → accepted_at p y a now (acts.Look c) ≡ look_outcome_by (state_of p y) a (hand_of p a) c now (record { answer = answers.Off; thread = None; flat = touched now v.flat }) =
    λ y. ap (look_outcome p.setup (state_of p y) a (hand_of p a) c now) held
    ∙ ap (λ (s : Flat). look_outcome_by (state_of p y) a (hand_of p a) c now (look_event p.setup c t.bucket now s)) (flat_of_view p c v y read)
    ∙ ap (λ b. look_outcome_by (state_of p y) a (hand_of p a) c now (record { answer = if b then answers.Load (load (times_for (cluster_times p.setup c) t.bucket) (cpus_of p.setup c) v.flat t.bucket) else answers.Off; thread = None; flat = touched now v.flat })) dark in
    acts_quietly p new a now c (acts.Look c) answers.Off v x v.flat.on h below ready later read (record { is = is })
    (λ y. ap (λ (o : Outcome). o.answer) (comes y))
    (λ y. ap (λ (o : Outcome). o.state) (comes y))
    changes

-- a look at a cluster that is on
pub looks_on : (p new : PartsView) (a now c seen : ℕ) (v x : ClusterView) (t told : Facts)
    → c < cluster_count p.setup → IsReady p a → (cluster_at p c).flat.last ≤ now → cluster_at p c ≡ v → x ≡ after_touch v now
    → (hand_of p a).thread ≡ Some t → told ≡ t → v.flat.on ≡ true
    → seen ≡ load (times_for (cluster_times v.setup v.number) told.bucket) (cpus_of v.setup v.number) v.flat told.bucket
    → new ≡ changed p c x a (looked_hand (hand_of p a) c (answers.Load seen) now)
    → Does p new a now (acts.Look c) (answers.Load seen)
looks_on p new a now c seen v x t told below ready later read is held tells lit sees changes =
    let h = looked_hand (hand_of p a) c (answers.Load seen) now in
    let serves = subst (Serves p.setup (2 ^ 50) c) read (ready.serve c below) in
    let seen_is : load (times_for (cluster_times p.setup c) t.bucket) (cpus_of p.setup c) v.flat t.bucket ≡ seen =
    ap (λ (s : SetupParts). load (times_for (cluster_times s c) t.bucket) (cpus_of s c) v.flat t.bucket) (sym serves.of_setup)
    ∙ ap (λ k. load (times_for (cluster_times v.setup k) t.bucket) (cpus_of v.setup k) v.flat t.bucket) (sym serves.number)
    ∙ ap (λ (f : Facts). load (times_for (cluster_times v.setup v.number) f.bucket) (cpus_of v.setup v.number) v.flat f.bucket) (sym tells)
    ∙ sym sees in
    let comes : (y : Yard) → accepted_at p y a now (acts.Look c) ≡ look_outcome_by (state_of p y) a (hand_of p a) c now (record { answer = answers.Load seen; thread = None; flat = touched now v.flat }) =
    λ y. ap (look_outcome p.setup (state_of p y) a (hand_of p a) c now) held
    ∙ ap (λ (s : Flat). look_outcome_by (state_of p y) a (hand_of p a) c now (look_event p.setup c t.bucket now s)) (flat_of_view p c v y read)
    ∙ ap (λ b. look_outcome_by (state_of p y) a (hand_of p a) c now (record { answer = if b then answers.Load (load (times_for (cluster_times p.setup c) t.bucket) (cpus_of p.setup c) v.flat t.bucket) else answers.Off; thread = None; flat = touched now v.flat })) lit
    ∙ ap (λ l. look_outcome_by (state_of p y) a (hand_of p a) c now (record { answer = answers.Load l; thread = None; flat = touched now v.flat })) seen_is in
    acts_quietly p new a now c (acts.Look c) (answers.Load seen) v x v.flat.on h below ready later read (record { is = is })
    (λ y. ap (λ (o : Outcome). o.answer) (comes y))
    (λ y. ap (λ (o : Outcome). o.state) (comes y))
    changes

-- a cluster that was written, and a hand that notes a look
pub hand_looked : {X : Type 0} (view : X → ClusterView) (setup : SetupParts) (xs : List X) (hs : List HeldHand) (p : PartsView) (c : ℕ) (x : X) (a : ℕ) (h : HeldHand)
    (looks : List (Option Look)) (answer : Answer) (now : ℕ)
    → parts_in view setup xs hs ≡ p → a < length p.hands → h ≡ get_or hs a h
    → looks_among setup looks ≡ slice_set (looks_among setup h.looks) c (Some (look_told answer))
    → parts_in view setup (slice_set xs c x) (slice_set hs a (record { thread = h.thread; looks = looks; last = now }))
    ≡ changed p c (view x) a (looked_hand (hand_of p a) c answer now)
hand_looked view setup xs hs p c x a h looks answer now is lt read among =
    both_written view setup xs hs p c x a (record { thread = h.thread; looks = looks; last = now }) is
    ∙ ap (λ (ls : List (Option Look)). changed p c (view x) a (record { thread = h.thread; looks = ls; last = now })) among
    ∙ ap (λ (g : Hand). changed p c (view x) a (looked_hand g c answer now)) (sym (hand_read view setup xs hs p a h is lt read))
