-- The cluster as a whole: what its queue keeps, and what it is after its queue changed.
use Rattle.std.proofs.Common.{[], ◌≡◌, ℕ, ◌+◌, ◌-◌, ◌++◌, ◌∷◌, ◌≤◌, ◌<◌, max, Bool, List, Option, Some, None, length, refl, sym, ap, ap₂, ◌∙◌, subst, arith}
use Rattle.sched_base.specs.Limits.{most_threads}
use Rattle.sched_base.specs.declared.Facts.{Facts}
use Rattle.flat_policy.specs.declared.setup.Times.{Times}
use Rattle.flat_policy.specs.Laws.Kept.{EmptyIsWellFormed}
use Rattle.flat_policy.specs.Policy.BuiltSetups.{IsSetup}
use Rattle.flat_policy.specs.Policy.Clusters.{ClusterView, IsCluster, entered_in, slots_without, with_queue, without_some}
use Rattle.flat_policy.specs.Policy.Moves.{entered}
use Rattle.flat_policy.specs.Policy.Queue.{Flat, Queued, empty_flat}
use Rattle.flat_policy.specs.Policy.Setup.{SetupParts, cluster_count, cluster_times, group_count}
use Rattle.flat_policy.specs.Policy.WellFormed.{WellFormed, WellFormedWithin}
use Rattle.cluster_queue.specs.ClusterParts.{IsClusterQueue, view_of}
use Rattle.cluster_queue.specs.Queues.{IsNested, IsQueue, Leaves, SameSetting, StaysWith, flat_of, slots_of}
use Rattle.cluster_queue.specs.declared.cluster.ClusterQueue.TheInside.{Inside}
use Rattle.cluster_queue.specs.declared.queue.Queue.{Queue}

-- a cluster with this queue
abbrev pub whole : SetupParts → ℕ → Queue → Inside
whole setup number q = record { setup = setup; number = number; queue = q }

-- a queue is well-formed within every limit that its entries keep
within : (limit other groups : ℕ) (s : Flat) → WellFormedWithin limit groups s → length s.entries ≤ other → WellFormedWithin other groups s
within limit other groups s w few = record {
  few = few;
  arrivals_rise = w.arrivals_rise;
  arrivals_below = w.arrivals_below;
  order_numbers = w.order_numbers;
  groups_below = w.groups_below;
  bases_within = w.bases_within;
  priorities_within = w.priorities_within;
  turns_below = w.turns_below;
  turns_differ = w.turns_differ;
  turns_where_entries = w.turns_where_entries;
  spans_length = w.spans_length;
  spans_small = w.spans_small;
  turns_length = w.turns_length;
  ten_lanes = w.ten_lanes;
}

-- what every call of its queue asks
pub queue_of : (p : Inside) → IsClusterQueue p → IsQueue p.queue
queue_of p k =
    let s : Flat = flat_of p.queue in
    record {
      formed = subst (λ (m : ℕ). WellFormed m s) (sym k.groups) (within (length s.entries) most_threads (group_count p.setup) s k.cluster.fits.formed k.cluster.few);
      nested = k.nested;
    }

-- two clusters are one where their parts are
same_view : (setup : SetupParts) (number : ℕ) (f g : Flat) (ks ls : List ℕ) (m n : ℕ) → f ≡ g → ks ≡ ls → m ≡ n
    → ◌≡◌ {A = ClusterView} (record { setup = setup; number = number; flat = f; slots = ks; spare = m }) (record { setup = setup; number = number; flat = g; slots = ls; spare = n })
same_view setup number f g ks ls m n e d h =
    ap (λ (x : Flat). record { setup = setup; number = number; flat = x; slots = ks; spare = m }) e
    ∙ (ap (λ (x : List ℕ). record { setup = setup; number = number; flat = g; slots = x; spare = m }) d
    ∙ ap (λ (x : ℕ). record { setup = setup; number = number; flat = g; slots = ls; spare = x }) h)

-- a cluster whose queue is the empty one
pub made_cluster : EmptyIsWellFormed → (setup : SetupParts) (number : ℕ) (q : Queue) → IsSetup setup → number < cluster_count setup → flat_of q ≡ empty_flat (group_count setup) → slots_of q ≡ [] → q.spare ≡ 0 → IsCluster (view_of (whole setup number q))
made_cluster empty setup number q built among flat slots spare =
    let groups = group_count setup in
    let s = empty_flat groups in
    subst IsCluster (sym (same_view setup number (flat_of q) s (slots_of q) [] q.spare 0 flat slots spare)) (record {
      setup = built;
      number = among;
      fits = record { formed = within most_threads 0 groups s (empty groups) (omega arith); threads = tt; last = omega arith };
      few = omega arith;
      slot_each = refl;
      slots_differ = λ i j d before inside. absurd (omega (arith, before, inside));
    })

-- the cluster after its queue changed: it is the next one, and keeps what it should
pub record Becomes (next : ClusterView) (p : Inside) : Type 0 where
  pub view : view_of p ≡ next
  pub keeps : IsClusterQueue p

pub becomes : (setup : SetupParts) (number : ℕ) (q n : Queue) (next : ClusterView) → IsClusterQueue (whole setup number q) → view_of (whole setup number n) ≡ next → IsCluster next → IsNested n → SameSetting q n → Becomes next (whole setup number n)
becomes setup number q n next k view cluster nested same = record {
  view = view;
  keeps = record { cluster = subst IsCluster (sym view) cluster; nested = nested; groups = same.groups ∙ k.groups; times = same.times ∙ k.times };
}

-- after a thread entered
pub entered_view : (setup : SetupParts) (number : ℕ) (q n : Queue) (t : Facts) (head : Bool) (now m slot : ℕ) → IsClusterQueue (whole setup number q) → m ≡ max now q.last
    → flat_of n ≡ entered q.windows.times t head m (flat_of q) → slots_of n ≡ slots_of q ++ slot ∷ [] → n.spare + 1 ≡ q.spare
    → view_of (whole setup number n) ≡ entered_in (view_of (whole setup number q)) t head now slot
entered_view setup number q n t head now m slot k moment flat slots spare =
    same_view setup number (flat_of n) (entered (cluster_times setup number) t head (max now q.last) (flat_of q)) (slots_of n) (slots_of q ++ slot ∷ []) n.spare (q.spare - 1)
    (flat ∙ ap₂ (λ (ts : List Times) (x : ℕ). entered ts t head x (flat_of q)) k.times moment)
    slots
    (omega (arith, spare))

-- after no entry left
pub stays_view : (setup : SetupParts) (number : ℕ) (q n : Queue) (s : Flat) → StaysWith q n s → view_of (whole setup number n) ≡ with_queue s (view_of (whole setup number q))
stays_view setup number q n s l = same_view setup number (flat_of n) s (slots_of n) (slots_of q) n.spare q.spare l.flat l.slots l.spare

-- after an entry left, where one did
pub left_view : (setup : SetupParts) (number : ℕ) (q n : Queue) (o : Option Queued) (s : Flat) → Leaves q n o s → view_of (whole setup number n) ≡ without_some o s (view_of (whole setup number q))
left_view setup number q n None s l = stays_view setup number q n s l
left_view setup number q n (Some e) s l =
    same_view setup number (flat_of n) s (slots_of n) (slots_without e.arrival (flat_of q).entries (slots_of q)) n.spare (q.spare + 1) l.flat l.slots l.spare

pub left_parts : (q n : Queue) (o : Option Queued) (s : Flat) → Leaves q n o s → IsNested n × SameSetting q n
left_parts q n None s l = (l.nested, l.setting)
left_parts q n (Some e) s l = (l.nested, l.setting)
