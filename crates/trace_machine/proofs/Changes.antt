-- A cluster that was written among those that lie in code.
use Rattle.std.proofs.Common.{◌≡◌, ℕ, ◌<◌, List, get_or, length, map, slice_set, sym, ap, ◌∙◌, subst}
use Rattle.std.proofs.lemmas.List.{map-set}
use Rattle.flat_policy.specs.Laws.Kept.{RisesBy}
use Rattle.flat_policy.specs.Policy.Clusters.{ClusterView, IsCluster, SameRoom}
use Rattle.flat_policy.specs.Policy.Setup.{SetupParts}
use Rattle.trace_machine.specs.declared.hand.HeldHand.{HeldHand}
use Rattle.trace_machine.specs.Changes.{ChangesAt}
use Rattle.trace_machine.specs.Parts.{PartsView, cluster_at, hand_in}
use Rattle.trace_machine.proofs.Readings.{cluster_read, parts_in}

pub cluster_written : {X : Type 0} (view : X → ClusterView) (setup : SetupParts) (xs : List X) (hs : List HeldHand) (p : PartsView) (c : ℕ) (x y : X)
    (h : ClusterView → ClusterView) (arrivals turns : ℕ)
    → parts_in view setup xs hs ≡ p → c < length p.clusters → x ≡ get_or xs c x → view y ≡ h (view x)
    → IsCluster (view x) → RisesBy arrivals turns (view x).flat (view y).flat → SameRoom (view x) (view y)
    → ChangesAt p (parts_in view setup (slice_set xs c y) hs) c (h (cluster_at p c)) arrivals turns
cluster_written view setup xs hs p c x y h arrivals turns is there read next kept rises room =
    let at : view x ≡ cluster_at p c = sym (cluster_read view setup xs hs p c x is there read) in
    let goes : view y ≡ h (cluster_at p c) = next ∙ ap h at in
    record {
      parts = ap (λ (vs : List ClusterView). record { setup = setup; clusters = vs; hands = map (hand_in setup) hs }) (map-set view xs c y)
          ∙ ap (λ (q : PartsView). record q { clusters = slice_set q.clusters c (view y) }) is
          ∙ ap (λ (v : ClusterView). record p { clusters = slice_set p.clusters c v }) goes;
      kept = subst IsCluster at kept;
      rises = subst (λ (v : ClusterView). RisesBy arrivals turns v.flat (h (cluster_at p c)).flat) at (subst (λ (v : ClusterView). RisesBy arrivals turns (view x).flat v.flat) goes rises);
      room = subst (λ (v : ClusterView). SameRoom v (h (cluster_at p c))) at (subst (λ (v : ClusterView). SameRoom (view x) v) goes room);
    }
