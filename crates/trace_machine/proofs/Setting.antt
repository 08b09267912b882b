-- Parts of which one cluster and one hand change.
use Rattle.std.proofs.Common.{◌≡◌, ◌≢◌, ℕ, ◌+◌, ◌<◌, ◌≤◌, List, length, map, max, slice_set, refl, sym, ap, ◌∙◌, subst, inl, inr, arith}
use Rattle.std.proofs.Math.ListN.{get_or-map}
use Rattle.std.proofs.Math.Nat.{max-eq_left}
use Rattle.std.proofs.lemmas.Bool.{cases_eq}
use Rattle.std.proofs.lemmas.List.{get_or-set_other, get_or-set_same, map-set}
use Rattle.sched_base.specs.declared.Act.{Act}
use Rattle.sched_base.specs.declared.Answer.{Answer}
use Rattle.flat_policy.specs.Laws.Kept.{RisesBy}
use Rattle.flat_policy.specs.Policy.Clusters.{ClusterView, NameStands, SameRoom}
use Rattle.flat_policy.specs.Policy.Machine.{Hand, Yard, flat_at, hand_at, no_hand, with_flat, with_hand}
use Rattle.flat_policy.specs.Policy.Queue.{Flat}
use Rattle.flat_policy.specs.Policy.Setup.{SetupParts, cluster_count}
use Rattle.trace_machine.specs.Parts.{AllServe, Does, IsOtherThread, PartsView, Serves, accepted_at, cluster_at, hand_of, no_cluster, state_of}

-- the parts with another cluster and another hand
abbrev pub changed : PartsView → ℕ → ClusterView → ℕ → Hand → PartsView
changed p c v a h = record p { clusters = slice_set p.clusters c v; hands = slice_set p.hands a h }

-- the parts with another hand
abbrev pub rehanded : PartsView → ℕ → Hand → PartsView
rehanded p a h = record p { hands = slice_set p.hands a h }

-- the queues after one cluster changed
pub flats_set : (vs : List ClusterView) (c : ℕ) (v : ClusterView)
    → map (λ (w : ClusterView). w.flat) (slice_set vs c v) ≡ slice_set (map (λ (w : ClusterView). w.flat) vs) c v.flat
flats_set vs c v = map-set (λ (w : ClusterView). w.flat) vs c v

-- the policy's state has the flat of the cluster
pub flat_here : (p : PartsView) (y : Yard) (c : ℕ) → flat_at (state_of p y) c ≡ (cluster_at p c).flat
flat_here p y c = get_or-map (λ (w : ClusterView). w.flat) p.clusters c (no_cluster p.setup)

-- and the hand of the actor
pub hand_here : (p : PartsView) (y : Yard) (a : ℕ) → hand_at (state_of p y) a ≡ hand_of p a
hand_here p y a = refl

-- the changed cluster and hand, and the others
pub cluster_changed : (p : PartsView) (c : ℕ) (v : ClusterView) (a : ℕ) (h : Hand) → c < length p.clusters → cluster_at (changed p c v a h) c ≡ v
cluster_changed p c v a h lt = get_or-set_same p.clusters c v (no_cluster p.setup) lt

pub cluster_other : (p : PartsView) (c : ℕ) (v : ClusterView) (a : ℕ) (h : Hand) (k : ℕ) → k ≢ c → cluster_at (changed p c v a h) k ≡ cluster_at p k
cluster_other p c v a h k ne = get_or-set_other p.clusters c k v (no_cluster p.setup) ne

pub hand_changed : (p : PartsView) (a : ℕ) (h : Hand) → a < length p.hands → hand_of (rehanded p a h) a ≡ h
hand_changed p a h lt = get_or-set_same p.hands a h no_hand lt

pub hand_other : (p : PartsView) (a : ℕ) (h : Hand) (k : ℕ) → k ≢ a → hand_of (rehanded p a h) k ≡ hand_of p k
hand_other p a h k ne = get_or-set_other p.hands a k h no_hand ne

-- the policy's state after one cluster and one hand changed
pub state_changed : (p : PartsView) (c : ℕ) (v : ClusterView) (a : ℕ) (h : Hand) (y : Yard)
    → with_hand a h (with_flat c v.flat (state_of p y)) ≡ state_of (changed p c v a h) y
state_changed p c v a h y =
    ap (λ (fs : List Flat). record { flats = fs; hands = slice_set p.hands a h; yard = y }) (sym (flats_set p.clusters c v))

-- a moment not before the last is the effective one
pub now_is_effective : (now last : ℕ) → last ≤ now → max now last ≡ now
now_is_effective now last le = max-eq_left le

-- what rises by less rises by no more
pub rises_less : (arrivals turns : ℕ) (s next : Flat) → arrivals ≤ 1 → turns ≤ 384 → RisesBy arrivals turns s next → RisesBy 1 384 s next
rises_less arrivals turns s next fewer less by = record { arrival = omega (arith, by.arrival); turn = omega (arith, by.turn) }

-- what did not change did not rise
pub rises_none : (s next : Flat) → next.next_arrival ≡ s.next_arrival → next.next_turn ≡ s.next_turn → RisesBy 1 384 s next
rises_none s next arrival turn = record { arrival = omega (arith, arrival); turn = omega (arith, turn) }

-- a cluster goes on as another: of one setup and number, with as much room, and numbers that rose by few
pub record GoesOn (v w : ClusterView) : Type 0 where
  pub setup : w.setup ≡ v.setup
  pub number : w.number ≡ v.number
  pub room : SameRoom v w
  pub rises : RisesBy 1 384 v.flat w.flat

pub serves_on : (setup : SetupParts) (n c : ℕ) (v w : ClusterView) → GoesOn v w → Serves setup n c v → Serves setup (n + 1) c w
serves_on setup n c v w on is = record {
  of_setup = on.setup ∙ is.of_setup;
  number = on.number ∙ is.number;
  room = omega (arith, on.room, is.room);
  arrival = omega (arith, on.rises.arrival, is.arrival);
  turn = omega (arith, on.rises.turn, is.turn);
}

pub serves_longer : (setup : SetupParts) (n m c : ℕ) (v : ClusterView) → n ≤ m → Serves setup n c v → Serves setup m c v
serves_longer setup n m c v le is = record {
  of_setup = is.of_setup;
  number = is.number;
  room = is.room;
  arrival = omega (arith, is.arrival, le);
  turn = omega (arith, is.turn, le);
}

-- clusters serve on where one of them goes on as another
pub all_serve_on : (p : PartsView) (c : ℕ) (v : ClusterView) (a : ℕ) (h : Hand) (n : ℕ) → c < length p.clusters → GoesOn (cluster_at p c) v
    → AllServe n p → AllServe (n + 1) (changed p c v a h)
all_serve_on p c v a h n lt on all k below =
    elim (cases_eq k c) [
      | inl is ↦
          subst (λ i. Serves p.setup (n + 1) i (cluster_at (changed p c v a h) i)) (sym is)
          (subst (Serves p.setup (n + 1) c) (sym (cluster_changed p c v a h lt))
          (serves_on p.setup n c (cluster_at p c) v on (all c (subst (λ i. i < cluster_count p.setup) is below))))
      | inr differs ↦
          subst (Serves p.setup (n + 1) k) (sym (cluster_other p c v a h k differs))
          (serves_longer p.setup n (n + 1) k (cluster_at p k) (omega arith) (all k below))
    ]

-- names stand on in every cluster where they do in the one that changed
pub stands_on : (p : PartsView) (c : ℕ) (v : ClusterView) (a : ℕ) (h : Hand) (k slot arrival name : ℕ) → c < length p.clusters
    → (NameStands (cluster_at p c) slot arrival name → NameStands v slot arrival name)
    → NameStands (cluster_at p k) slot arrival name → NameStands (cluster_at (changed p c v a h) k) slot arrival name
stands_on p c v a h k slot arrival name lt keeps stands =
    elim (cases_eq k c) [
      | inl is ↦
          subst (λ i. NameStands (cluster_at (changed p c v a h) i) slot arrival name) (sym is)
          (subst (λ (w : ClusterView). NameStands w slot arrival name) (sym (cluster_changed p c v a h lt))
          (keeps (subst (λ i. NameStands (cluster_at p i) slot arrival name) is stands)))
      | inr differs ↦ subst (λ (w : ClusterView). NameStands w slot arrival name) (sym (cluster_other p c v a h k differs)) stands
    ]

-- what an act at one cluster and one hand has to show to come to what the policy says
pub record ActsAt (p : PartsView) (c : ℕ) (v : ClusterView) (a : ℕ) (h : Hand) (now : ℕ) (act : Act) (answer : Answer) : Type 0 where
  pub there : c < length p.clusters
  pub goes_on : GoesOn (cluster_at p c) v
  pub answers : (y : Yard) → (accepted_at p y a now act).answer ≡ answer
  pub leads : (y : Yard) → (accepted_at p y a now act).state ≡ with_hand a h (with_flat c v.flat (state_of p y))
  pub stands : (y : Yard) (slot arrival name : ℕ) → IsOtherThread name (accepted_at p y a now act).thread
      → NameStands (cluster_at p c) slot arrival name → NameStands v slot arrival name

pub does_at : (p new : PartsView) (c : ℕ) (v : ClusterView) (a : ℕ) (h : Hand) (now : ℕ) (act : Act) (answer : Answer)
    → new ≡ changed p c v a h → ActsAt p c v a h now act answer → Does p new a now act answer
does_at p new c v a h now act answer is acts =
    subst (λ (q : PartsView). Does p q a now act answer) (sym is) (record {
      keeps_setup = refl;
      answers = acts.answers;
      leads = λ y. acts.leads y ∙ state_changed p c v a h y;
      serves = λ n all. all_serve_on p c v a h n acts.there acts.goes_on all;
      stands = λ y k slot arrival name other stands. stands_on p c v a h k slot arrival name acts.there (acts.stands y slot arrival name other) stands;
    })

-- an act at one hand alone
pub does_in_hand : (p new : PartsView) (a : ℕ) (h : Hand) (now : ℕ) (act : Act) (answer : Answer)
    → new ≡ rehanded p a h
    → ((y : Yard) → (accepted_at p y a now act).answer ≡ answer)
    → ((y : Yard) → (accepted_at p y a now act).state ≡ with_hand a h (state_of p y))
    → Does p new a now act answer
does_in_hand p new a h now act answer is answers leads =
    subst (λ (q : PartsView). Does p q a now act answer) (sym is) (record {
      keeps_setup = refl;
      answers = answers;
      leads = leads;
      serves = λ n all k below. serves_longer p.setup n (n + 1) k (cluster_at p k) (omega arith) (all k below);
      stands = λ y k slot arrival name other stands. stands;
    })
