-- The cluster as a whole, after its queue changed.
use Rattle.std.proofs.Common.{◌≡◌, ℕ, ◌+◌, ◌-◌, ◌++◌, ◌∷◌, [], max, Bool, Contains, List, Option, Some, None, ap, ap₂, ◌∙◌, subst, arith}
use Rattle.sched_base.specs.declared.Facts.{Facts}
use Rattle.flat_policy.specs.declared.setup.Times.{Times}
use Rattle.flat_policy.specs.Policy.Clusters.{ClusterView, IsCluster, slots_without, entered_in, moment_at, offer_of, without_some}
use Rattle.flat_policy.specs.Policy.ClusterSteps.{flat_after_offer}
use Rattle.flat_policy.specs.Policy.Moves.{entered, pick, selected}
use Rattle.flat_policy.specs.Policy.Offer.{mask_between, offered}
use Rattle.flat_policy.specs.Policy.Queue.{Flat, Queued}
use Rattle.flat_policy.specs.Policy.Setup.{SetupParts, cluster_times, migrates}
use Rattle.plain_cluster.specs.Entries.{RowList, entries_of, entry_at, slots_of}
use Rattle.plain_cluster.specs.PlainParts.{IsPlain, view_of}
use Rattle.plain_cluster.specs.Queues.{FlagsFollow, Leaves, flat_of}
use Rattle.plain_cluster.specs.declared.plain.PlainCluster.TheInside.{Inside}
use Rattle.plain_cluster.specs.declared.queue.Queue.{Queue}
use Rattle.plain_cluster.proofs.Leaving.{read_there}

-- a cluster with this queue
abbrev pub whole : SetupParts → ℕ → Queue → Inside
whole setup number q = record { setup = setup; number = number; queue = q }

pub same_view : (setup : SetupParts) (number : ℕ) (f g : Flat) (ks ls : List ℕ) (m n : ℕ) → f ≡ g → ks ≡ ls → m ≡ n
    → ◌≡◌ {A = ClusterView} (record { setup = setup; number = number; flat = f; slots = ks; spare = m }) (record { setup = setup; number = number; flat = g; slots = ls; spare = n })
same_view setup number f g ks ls m n e d h =
    ap (λ (x : Flat). record { setup = setup; number = number; flat = x; slots = ks; spare = m }) e
    ∙ (ap (λ (x : List ℕ). record { setup = setup; number = number; flat = g; slots = x; spare = m }) d
    ∙ ap (λ (x : ℕ). record { setup = setup; number = number; flat = g; slots = ls; spare = x }) h)

pub still_plain : (setup : SetupParts) (number : ℕ) (q n : Queue) → IsPlain (whole setup number q) → IsCluster (view_of (whole setup number n)) → FlagsFollow n → n.groups ≡ q.groups → n.windows.times ≡ q.windows.times → IsPlain (whole setup number n)
still_plain setup number q n k cluster flags groups times = record { cluster = cluster; flags = flags; groups = groups ∙ k.groups; times = times ∙ k.times }

-- after a thread entered
pub entered_view : (setup : SetupParts) (number : ℕ) (q n : Queue) (t : Facts) (head : Bool) (now m slot : ℕ) → IsPlain (whole setup number q) → m ≡ max now q.last
    → flat_of n ≡ entered q.windows.times t head m (flat_of q) → slots_of n.rows.rows ≡ slots_of q.rows.rows ++ slot ∷ [] → n.rows.spare + 1 ≡ q.rows.spare
    → view_of (whole setup number n) ≡ entered_in (view_of (whole setup number q)) t head now slot
entered_view setup number q n t head now m slot k moment flat slots spare =
    same_view setup number (flat_of n) (entered (cluster_times setup number) t head (max now q.last) (flat_of q)) (slots_of n.rows.rows) (slots_of q.rows.rows ++ slot ∷ []) n.rows.spare (q.rows.spare - 1)
    (flat ∙ ap₂ (λ (ts : List Times) (x : ℕ). entered ts t head x (flat_of q)) k.times moment)
    slots
    (omega (arith, spare))

-- after an entry left, where one did
pub left_view : (setup : SetupParts) (number : ℕ) (q n : Queue) (o : Option Queued) (s : Flat) → Leaves q n o s → view_of (whole setup number n) ≡ without_some o s (view_of (whole setup number q))
left_view setup number q n None s l =
    same_view setup number (flat_of n) s (slots_of n.rows.rows) (slots_of q.rows.rows) n.rows.spare q.rows.spare l.flat (ap (λ (r : RowList). slots_of r.rows) l.rows) (ap (λ (r : RowList). r.spare) l.rows)
left_view setup number q n (Some e) s l =
    same_view setup number (flat_of n) s (slots_of n.rows.rows) (slots_without e.arrival (entries_of q.rows.rows) (slots_of q.rows.rows)) n.rows.spare (q.rows.spare + 1) l.flat l.slots l.spare

left_flags : (q n : Queue) (o : Option Queued) (s : Flat) → Leaves q n o s → FlagsFollow n × (n.groups ≡ q.groups) × (n.windows.times ≡ q.windows.times)
left_flags q n None s l = (l.flags, l.groups, l.times)
left_flags q n (Some e) s l = (l.flags, l.groups, l.times)

pub left_plain : (setup : SetupParts) (number : ℕ) (q n : Queue) (o : Option Queued) (s : Flat) → Leaves q n o s → IsPlain (whole setup number q) → IsCluster (view_of (whole setup number n)) → IsPlain (whole setup number n)
left_plain setup number q n o s l k cluster =
    let f = left_flags q n o s l in
    still_plain setup number q n k cluster f.0 f.1 f.2

-- after the pick left
pub selected_leaves : (setup : SetupParts) (number : ℕ) (q n : Queue) (now m : ℕ) → IsPlain (whole setup number q) → m ≡ max now q.last → Leaves q n (pick q.windows.times m (flat_of q)) (selected q.windows.times m (flat_of q))
    → Leaves q n (pick (cluster_times setup number) (max now q.last) (flat_of q)) (selected (cluster_times setup number) (max now q.last) (flat_of q))
selected_leaves setup number q n now m k moment l =
    subst (λ (x : ℕ). Leaves q n (pick (cluster_times setup number) x (flat_of q)) (selected (cluster_times setup number) x (flat_of q))) moment
    (subst (λ (ts : List Times). Leaves q n (pick ts m (flat_of q)) (selected ts m (flat_of q))) k.times l)

-- after an offered entry left
pub offered_leaves : (q n : Queue) (v : ClusterView) (to now m mask : ℕ) (rebalance : Bool) → flat_of q ≡ v.flat → m ≡ max now q.last → rebalance ≡ migrates v.setup v.number to → mask ≡ mask_between v.setup v.number to v.flat.on
    → Leaves q n (offered to rebalance mask (flat_of q)) (flat_after_offer m (flat_of q) (offered to rebalance mask (flat_of q)))
    → Leaves q n (offer_of v to) (flat_after_offer (moment_at v now) v.flat (offer_of v to))
offered_leaves q n v to now m mask rebalance flat moment edge is l =
    let r = migrates v.setup v.number to in
    let k = mask_between v.setup v.number to v.flat.on in
    subst (λ (s : Flat). Leaves q n (offered to r k s) (flat_after_offer (max now s.last) s (offered to r k s))) flat
    (subst (λ (x : ℕ). Leaves q n (offered to r k (flat_of q)) (flat_after_offer x (flat_of q) (offered to r k (flat_of q)))) moment
    (subst (λ (x : ℕ). Leaves q n (offered to r x (flat_of q)) (flat_after_offer m (flat_of q) (offered to r x (flat_of q)))) is
    (subst (λ (x : Bool). Leaves q n (offered to x mask (flat_of q)) (flat_after_offer m (flat_of q) (offered to x mask (flat_of q)))) edge l)))

-- an entry that is read at a place stands in the queue
pub stands_at : (q : Queue) (place : ℕ) (e : Queued) → entry_at q.rows.rows (Some place) ≡ Some e → Contains (flat_of q).entries e
stands_at q place e h = let r = read_there q.rows.rows place e h in (place, r.0, r.1)
