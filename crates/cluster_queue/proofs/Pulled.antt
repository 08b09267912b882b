-- The cluster after the entry in a slot was taken out, otherwise than by a selection.
use Rattle.std.proofs.Common.{◌≡◌, ℕ, ◌<◌, max, Contains, Some, is_some, ap, sym, subst}
use Rattle.sched_base.specs.Limits.{moment_limit}
use Rattle.flat_policy.specs.Laws.Clusters.{CallsKeepClusters}
use Rattle.flat_policy.specs.Laws.Kept.{RisesBy, StepsRiseByFew}
use Rattle.flat_policy.specs.Policy.Clusters.{ClusterView, SameRoom, after_pull, moment_at}
use Rattle.flat_policy.specs.Policy.Moves.{removed}
use Rattle.flat_policy.specs.Policy.Queue.{Queued}
use Rattle.link_arena.specs.Arena.{IsLive}
use Rattle.cluster_queue.specs.ClusterParts.{IsClusterQueue, view_of}
use Rattle.cluster_queue.specs.Queues.{HoldsEntry, IsNested, TakesOut, flat_of}
use Rattle.cluster_queue.specs.declared.cluster.ClusterQueue.TheInside.{Inside}
use Rattle.cluster_queue.specs.declared.queue.Queue.{Queue}
use Rattle.cluster_queue.proofs.Calls.{cluster_of, pulling}
use Rattle.cluster_queue.proofs.Rows.{listed}
use Rattle.cluster_queue.proofs.Wholes.{whole}

-- the slot of an entry is live, and the entry stands in the queue
pub held_live : (q : Queue) (slot : ℕ) (e : Queued) → HoldsEntry q slot e → IsLive q.arena slot
held_live q slot e h = ap is_some h.stored

pub held_stands : (q : Queue) (slot : ℕ) (e : Queued) → IsNested q → HoldsEntry q slot e → Contains (flat_of q).entries e
held_stands q slot e n h = subst (Contains (flat_of q).entries) h.entry (listed q.arena q.next_arrival slot h.item n.stored.arrivals h.stored)

-- all that is asked of the cluster without the entry
pub record IsPulled (v : ClusterView) (p : Inside) (e : Queued) (now : ℕ) : Type 0 where
  pub view : view_of p ≡ after_pull v (Some e) now
  pub keeps : IsClusterQueue p
  pub rises : RisesBy 0 1 v.flat (view_of p).flat
  pub room : SameRoom v (view_of p)

pub is_pulled : CallsKeepClusters → StepsRiseByFew → (v : ClusterView) (p : Inside) → view_of p ≡ v → IsClusterQueue p → (n : Queue) (e : Queued) (now m : ℕ) → m ≡ max now p.queue.last → now < moment_limit
    → Contains (flat_of p.queue).entries e → TakesOut p.queue n e (removed e m (flat_of p.queue)) → IsPulled v (whole p.setup p.number n) e now
is_pulled keep few v p is k n e now m moment below there t =
    let here : Contains v.flat.entries e = subst (λ (w : ClusterView). Contains w.flat.entries e) is there in
    let b = pulling keep v p is k n e now m moment below here t in
    record {
      view = b.view;
      keeps = b.keeps;
      rises = subst (λ (w : ClusterView). RisesBy 0 1 v.flat w.flat) (sym b.view) ((few v.setup v.flat).pulling e (moment_at v now));
      room = subst (SameRoom v) (sym b.view) ((keep v (cluster_of keep v p is k)).pulling_room e now here);
    }
