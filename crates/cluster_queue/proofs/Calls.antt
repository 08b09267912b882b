-- The cluster after each call.
use Rattle.std.proofs.Common.{[], ◌≡◌, ℕ, ◌<◌, ◌+◌, ◌++◌, ◌∷◌, max, Bool, Contains, List, Option, Some, ap, ◌∙◌, subst}
use Rattle.sched_base.specs.Limits.{moment_limit}
use Rattle.sched_base.specs.declared.Facts.{Facts}
use Rattle.flat_policy.specs.declared.setup.Times.{Times}
use Rattle.flat_policy.specs.Laws.Clusters.{CallsKeepClusters}
use Rattle.flat_policy.specs.Policy.Clusters.{ClusterView, IsCluster, after_offer, after_pull, after_refresh, after_select, after_touch, after_turn, entered_in, moment_at, offer_of, with_queue, without_some}
use Rattle.flat_policy.specs.Policy.ClusterSteps.{flat_after_offer, touched}
use Rattle.flat_policy.specs.Policy.Moves.{entered, pick, removed, selected}
use Rattle.flat_policy.specs.Policy.Offer.{mask_between, offered}
use Rattle.flat_policy.specs.Policy.Queue.{Flat, Queued}
use Rattle.flat_policy.specs.Policy.Refresh.{refreshed}
use Rattle.flat_policy.specs.Policy.Setup.{cluster_times, group_count, migrates}
use Rattle.cluster_queue.specs.ClusterParts.{IsClusterQueue, view_of}
use Rattle.cluster_queue.specs.Queues.{IsNested, Leaves, SameSetting, StaysWith, TakesOut, flat_of, slots_of}
use Rattle.cluster_queue.specs.declared.cluster.ClusterQueue.TheInside.{Inside}
use Rattle.cluster_queue.specs.declared.queue.Queue.{Queue}
use Rattle.cluster_queue.proofs.Wholes.{Becomes, becomes, entered_view, left_parts, left_view, stays_view, whole}

module _ (keep : CallsKeepClusters) (v : ClusterView) (p : Inside) (is : view_of p ≡ v) (k : IsClusterQueue p) where
  -- it is a cluster
  pub cluster_of : IsCluster v
  cluster_of = subst IsCluster is k.cluster

  -- an entry left, where one did
  leaves : (n : Queue) (o : Option Queued) (s : Flat) → Leaves p.queue n o s → IsCluster (without_some o s v) → Becomes (without_some o s v) (whole p.setup p.number n)
  leaves n o s l cluster =
      let parts = left_parts p.queue n o s l in
      becomes p.setup p.number p.queue n (without_some o s v) k (left_view p.setup p.number p.queue n o s l ∙ ap (without_some o s) is) cluster parts.0 parts.1

  -- none left
  stays : (n : Queue) (s : Flat) → StaysWith p.queue n s → IsCluster (with_queue s v) → Becomes (with_queue s v) (whole p.setup p.number n)
  stays n s l cluster = becomes p.setup p.number p.queue n (with_queue s v) k (stays_view p.setup p.number p.queue n s l ∙ ap (with_queue s) is) cluster l.nested l.setting

  -- a thread entered
  pub entering : (n : Queue) (t : Facts) (head : Bool) (now m slot : ℕ) → m ≡ max now p.queue.last
      → flat_of n ≡ entered p.queue.windows.times t head m (flat_of p.queue) → slots_of n ≡ slots_of p.queue ++ slot ∷ [] → n.spare + 1 ≡ p.queue.spare → IsNested n → SameSetting p.queue n
      → IsCluster (entered_in v t head now slot) → Becomes (entered_in v t head now slot) (whole p.setup p.number n)
  entering n t head now m slot moment flat slots spare nested same cluster =
      becomes p.setup p.number p.queue n (entered_in v t head now slot) k
      (entered_view p.setup p.number p.queue n t head now m slot k moment flat slots spare ∙ ap (λ (w : ClusterView). entered_in w t head now slot) is)
      cluster nested same

  -- the pick was selected
  pub selecting : (n : Queue) (now m : ℕ) → m ≡ max now p.queue.last → now < moment_limit
      → Leaves p.queue n (pick p.queue.windows.times m (flat_of p.queue)) (selected p.queue.windows.times m (flat_of p.queue)) → Becomes (after_select v now) (whole p.setup p.number n)
  selecting n now m moment below l =
      let q = p.queue in
      let ts = cluster_times p.setup p.number in
      let t : ℕ = max now q.last in
      let left = subst (λ (x : ℕ). Leaves q n (pick ts x (flat_of q)) (selected ts x (flat_of q))) moment
      (subst (λ (us : List Times). Leaves q n (pick us m (flat_of q)) (selected us m (flat_of q))) k.times l) in
      let parts = left_parts q n (pick ts t (flat_of q)) (selected ts t (flat_of q)) left in
      becomes p.setup p.number q n (after_select v now) k
      (left_view p.setup p.number q n (pick ts t (flat_of q)) (selected ts t (flat_of q)) left ∙ ap (λ (w : ClusterView). after_select w now) is)
      ((keep v cluster_of).selecting now below) parts.0 parts.1

  -- the offered entry left
  pub offering : (n : Queue) (to now m mask : ℕ) (rebalance : Bool) → m ≡ max now p.queue.last → rebalance ≡ migrates v.setup v.number to → mask ≡ mask_between v.setup v.number to v.flat.on → now < moment_limit
      → Leaves p.queue n (offered to rebalance mask (flat_of p.queue)) (flat_after_offer m (flat_of p.queue) (offered to rebalance mask (flat_of p.queue))) → Becomes (after_offer v to now) (whole p.setup p.number n)
  offering n to now m mask rebalance moment edge bits below l =
      let q = p.queue in
      let r = migrates v.setup v.number to in
      let b = mask_between v.setup v.number to v.flat.on in
      let left : Leaves q n (offer_of v to) (flat_after_offer (moment_at v now) v.flat (offer_of v to)) =
      subst (λ (s : Flat). Leaves q n (offered to r b s) (flat_after_offer (max now s.last) s (offered to r b s))) (ap (λ (w : ClusterView). w.flat) is)
      (subst (λ (x : ℕ). Leaves q n (offered to r b (flat_of q)) (flat_after_offer x (flat_of q) (offered to r b (flat_of q)))) moment
      (subst (λ (x : ℕ). Leaves q n (offered to r x (flat_of q)) (flat_after_offer m (flat_of q) (offered to r x (flat_of q)))) bits
      (subst (λ (x : Bool). Leaves q n (offered to x mask (flat_of q)) (flat_after_offer m (flat_of q) (offered to x mask (flat_of q)))) edge l))) in
      leaves n (offer_of v to) (flat_after_offer (moment_at v now) v.flat (offer_of v to)) left ((keep v cluster_of).offering to now below)

  -- an entry was pulled out
  pub pulling : (n : Queue) (e : Queued) (now m : ℕ) → m ≡ max now p.queue.last → now < moment_limit → Contains v.flat.entries e
      → TakesOut p.queue n e (removed e m (flat_of p.queue)) → Becomes (after_pull v (Some e) now) (whole p.setup p.number n)
  pulling n e now m moment below there t =
      let q = p.queue in
      let left : TakesOut q n e (removed e (moment_at v now) v.flat) =
      subst (λ (s : Flat). TakesOut q n e (removed e (max now s.last) s)) (ap (λ (w : ClusterView). w.flat) is)
      (subst (λ (x : ℕ). TakesOut q n e (removed e x (flat_of q))) moment t) in
      leaves n (Some e) (removed e (moment_at v now) v.flat) left ((keep v cluster_of).pulling e now there below)

  -- every entry was priced anew
  pub refreshing : (n : Queue) (now m : ℕ) → m ≡ max now p.queue.last → now < moment_limit
      → StaysWith p.queue n (refreshed p.queue.groups (flat_of p.queue) m) → Becomes (after_refresh v now) (whole p.setup p.number n)
  refreshing n now m moment below l =
      let q = p.queue in
      let left : StaysWith q n (refreshed (group_count v.setup) v.flat (moment_at v now)) =
      subst (λ (w : ClusterView). StaysWith q n (refreshed (group_count w.setup) w.flat (max now w.flat.last))) is
      (subst (λ (x : ℕ). StaysWith q n (refreshed (group_count p.setup) (flat_of q) x)) moment
      (subst (λ (g : ℕ). StaysWith q n (refreshed g (flat_of q) m)) k.groups l)) in
      stays n (refreshed (group_count v.setup) v.flat (moment_at v now)) left ((keep v cluster_of).refreshing now below)

  -- the last moment changed, or whether it is on, too
  pub touching : (n : Queue) (now m : ℕ) → m ≡ max now p.queue.last → now < moment_limit → StaysWith p.queue n (touched m (flat_of p.queue)) → Becomes (after_touch v now) (whole p.setup p.number n)
  touching n now m moment below l =
      let left : StaysWith p.queue n (touched (moment_at v now) v.flat) =
      subst (λ (s : Flat). StaysWith p.queue n (touched (max now s.last) s)) (ap (λ (w : ClusterView). w.flat) is)
      (subst (λ (x : ℕ). StaysWith p.queue n (touched x (flat_of p.queue))) moment l) in
      stays n (touched (moment_at v now) v.flat) left ((keep v cluster_of).touching now below)

  pub turning : (n : Queue) (on : Bool) (now m : ℕ) → m ≡ max now p.queue.last → now < moment_limit → StaysWith p.queue n (record (flat_of p.queue) { on = on; last = m }) → Becomes (after_turn v on now) (whole p.setup p.number n)
  turning n on now m moment below l =
      let left : StaysWith p.queue n (record v.flat { on = on; last = moment_at v now }) =
      subst (λ (s : Flat). StaysWith p.queue n (record s { on = on; last = max now s.last })) (ap (λ (w : ClusterView). w.flat) is)
      (subst (λ (x : ℕ). StaysWith p.queue n (record (flat_of p.queue) { on = on; last = x })) moment l) in
      stays n (record v.flat { on = on; last = moment_at v now }) left ((keep v cluster_of).turning on now below)
