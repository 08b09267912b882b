-- A hand's thread enters a queue.
use Rattle.std.proofs.Common.{◌≡◌, ℕ, ◌<◌, ◌≤◌, Bool, Contains, Option, Some, refl, sym, ap, ◌∙◌, subst, arith}
use Rattle.std.specs.Prelude.{slice_set}
use Rattle.flat_policy.specs.Laws.Clusters.{CallsKeepStanding}
use Rattle.flat_policy.specs.Laws.Kept.{RisesBy}
use Rattle.flat_policy.specs.Policy.ClusterSteps.{Event, enter_event}
use Rattle.flat_policy.specs.Policy.Clusters.{ClusterView, IsCluster, NameStands, SameRoom, entered_in, moment_at}
use Rattle.flat_policy.specs.Policy.Machine.{Hand, Outcome, Yard, empty_hand, enter_outcome, enter_outcome_by}
use Rattle.flat_policy.specs.Policy.Moves.{new_entry, settled_thread}
use Rattle.flat_policy.specs.Policy.Queue.{Flat}
use Rattle.flat_policy.specs.Policy.Setup.{SetupParts, cluster_count}
use Rattle.flat_policy.specs.Policy.Threads.{ThreadFits}
use Rattle.sched_base.specs.declared.Facts.{Facts}
use Rattle.sched_base.specs.declared.Act.TheVariants as acts
use Rattle.sched_base.specs.declared.Answer.TheVariants as answers
use Rattle.trace_machine.specs.Changes.{ChangesAt}
use Rattle.trace_machine.specs.Parts.{Does, IsReady, PartsView, accepted_at, cluster_at, hand_of, state_of}
use Rattle.trace_machine.proofs.Moving.{in_place, there_of}
use Rattle.trace_machine.proofs.Setting.{GoesOn, changed, cluster_changed, does_at, flat_here, rehanded, rises_less}

-- the hand's thread fits the setup of a cluster, also once the hand is empty
pub fits_there : (p mid : PartsView) (a c now : ℕ) (t : Facts) → IsReady p a → c < cluster_count p.setup → (hand_of p a).thread ≡ Some t
    → mid ≡ rehanded p a (empty_hand p.setup now) → ThreadFits (cluster_at mid c).setup t
fits_there p mid a c now t ready below held released =
    subst (λ (q : PartsView). ThreadFits (cluster_at q c).setup t) (sym released)
    (subst (λ (s : SetupParts). ThreadFits s t) (sym (ready.serve c below).of_setup) (ready.hand.thread t held))

-- its number is still there
pub number_there : (p mid : PartsView) (a c now : ℕ) → IsReady p a → c < cluster_count p.setup
    → mid ≡ rehanded p a (empty_hand p.setup now) → (cluster_at mid c).number ≡ c
number_there p mid a c now ready below released = ap (λ (q : PartsView). (cluster_at q c).number) released ∙ (ready.serve c below).number

goes_entered : (v x : ClusterView) (t : Facts) (head : Bool) (now slot : ℕ) (p mid : PartsView) (c : ℕ) → v ≡ cluster_at p c → x ≡ entered_in v t head now slot
    → ChangesAt p mid c x 1 1 → GoesOn v x
goes_entered v x t head now slot p mid c at is changes = record {
  setup = ap (λ (w : ClusterView). w.setup) is;
  number = ap (λ (w : ClusterView). w.number) is;
  room = subst (λ (w : ClusterView). SameRoom w x) (sym at) changes.room;
  rises = rises_less 1 1 v.flat x.flat (omega arith) (omega arith) (subst (λ (w : ClusterView). RisesBy 1 1 w.flat x.flat) (sym at) changes.rises);
}

-- the parts after a hand was emptied and a cluster changed
pub entered_parts : (p mid new : PartsView) (c : ℕ) (x : ClusterView) (a : ℕ) (h : Hand) → mid ≡ rehanded p a h
    → new ≡ record mid { clusters = slice_set mid.clusters c x } → new ≡ changed p c x a h
entered_parts p mid new c x a h released entered = entered ∙ ap (λ (q : PartsView). record q { clusters = slice_set q.clusters c x }) released

-- the hand's thread enters a cluster's queue
pub enters : (p mid new : PartsView) (a now c : ℕ) (head : Bool) (t : Facts) (slot pri : ℕ) → CallsKeepStanding → IsReady p a → c < cluster_count p.setup
    → (cluster_at p c).flat.last ≤ now → (hand_of p a).thread ≡ Some t
    → mid ≡ rehanded p a (empty_hand p.setup now)
    → ChangesAt mid new c (entered_in (cluster_at mid c) t head now slot) 1 1
    → pri ≡ (new_entry (cluster_at mid c).flat (settled_thread (moment_at (cluster_at mid c) now) t) head).pri
    → Does p new a now (acts.Enter c head) (answers.Pri pri)
enters p mid new a now c head t slot pri keeps ready below later held released entered priced =
    let v = cluster_at p c in
    let h = empty_hand p.setup now in
    let x = entered_in v t head now slot in
    let at : cluster_at mid c ≡ v = ap (λ (q : PartsView). cluster_at q c) released in
    let changes : ChangesAt mid new c x 1 1 =
    subst (λ (w : ClusterView). ChangesAt mid new c (entered_in w t head now slot) 1 1) at entered in
    let comes : (y : Yard) → accepted_at p y a now (acts.Enter c head) ≡ enter_outcome_by p.setup (state_of p y) a c now (enter_event v.setup v.number t head (moment_at v now) v.flat) =
    λ y. ap (λ (o : Option Facts). enter_outcome p.setup (state_of p y) a c head now o) held
    ∙ ap (λ (s : Flat). enter_outcome_by p.setup (state_of p y) a c now (enter_event p.setup c t head now s)) (flat_here p y c)
    ∙ ap (λ (e : Event). enter_outcome_by p.setup (state_of p y) a c now e)
    (in_place (λ s k m. enter_event s k t head m v.flat) p.setup c now v (ready.serve c below) later) in
    does_at p new c x a h now (acts.Enter c head) (answers.Pri pri) (entered_parts p mid new c x a h released changes.parts) (record {
      there = there_of p a c ready below;
      goes_on = goes_entered v x t head now slot mid new c (sym at) refl changes;
      answers = λ y. ap (λ (o : Outcome). o.answer) (comes y)
          ∙ ap (λ (w : ClusterView). answers.Pri (new_entry w.flat (settled_thread (moment_at w now) t) head).pri) (sym at)
          ∙ ap (λ k. answers.Pri k) (sym priced);
      leads = λ y. ap (λ (o : Outcome). o.state) (comes y);
      stands = λ y other_slot arrival name other stands. (keeps v (subst IsCluster at changes.kept)).entering t head now slot other_slot arrival name stands;
    })

-- and stands there
pub stands_entered : (p mid new : PartsView) (a now c : ℕ) (head : Bool) (t : Facts) (slot arrival : ℕ) → CallsKeepStanding → IsReady p a → c < cluster_count p.setup
    → mid ≡ rehanded p a (empty_hand p.setup now)
    → ChangesAt mid new c (entered_in (cluster_at mid c) t head now slot) 1 1
    → ¬ Contains (cluster_at mid c).slots slot → arrival ≡ (cluster_at mid c).flat.next_arrival
    → NameStands (cluster_at new c) slot arrival t.name
stands_entered p mid new a now c head t slot arrival keeps ready below released changes free arrives =
    let v = cluster_at mid c in
    let x = entered_in v t head now slot in
    let here : cluster_at new c ≡ x =
    ap (λ (q : PartsView). cluster_at q c) (entered_parts p mid new c x a (empty_hand p.setup now) released changes.parts)
    ∙ cluster_changed p c x a (empty_hand p.setup now) (there_of p a c ready below) in
    subst (λ (w : ClusterView). NameStands w slot arrival t.name) (sym here)
    (subst (λ k. NameStands x slot k t.name) (sym arrives) ((keeps v changes.kept).entered t head now slot free))
