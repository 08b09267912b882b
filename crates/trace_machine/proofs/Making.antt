-- Clusters as they are made and as they end.
use Rattle.std.proofs.Common.{◌≡◌, ℕ, ◌+◌, ◌<◌, ◌≤◌, ◌^◌, List, [], ◌∷◌, ◌++◌, All, length, map, replicate, take, get_or, slice_index_or, sym, ap, ◌∙◌, subst, inl, inr, arith}
use Rattle.std.proofs.Math.Seq.{get_or-append_seam}
use Rattle.std.proofs.lemmas.Bool.{cases_eq}
use Rattle.std.proofs.lemmas.List.{get_or_append_left, length_push, map-append, replicate_more, take-map}
use Rattle.std.proofs.lemmas.List.Elements.{All-from_get_or, All-take}
use Rattle.flat_policy.specs.Policy.Clusters.{ClusterView}
use Rattle.flat_policy.specs.Policy.Machine.{Hand, empty_hand, empty_machine, empty_yard}
use Rattle.flat_policy.specs.Policy.Queue.{Flat, empty_flat}
use Rattle.flat_policy.specs.Policy.Setup.{SetupParts, actor_count, cluster_count, group_count, home_of}
use Rattle.trace_machine.specs.Making.{AreFirstHomes, AreNew, CanEnd, IsNew}
use Rattle.trace_machine.specs.Parts.{AllServe, PartsView, Serves, no_cluster, state_of}

-- fewer clusters can end, too
pub fewer_end : {X : Type 0} (view : X → ClusterView) (xs new : List X) (n : ℕ) → new ≡ take n xs → All CanEnd (map view xs) → All CanEnd (map view new)
fewer_end {X = X} view xs new n is all =
    subst (λ (ys : List X). All CanEnd (map view ys)) (sym is)
    (subst (All CanEnd) (take-map view n xs) (All-take CanEnd n (map view xs) all))

-- one new cluster more
pub new_more : (setup : SetupParts) (n : ℕ) (vs : List ClusterView) (v : ClusterView) → AreNew setup n vs → IsNew setup n v → AreNew setup (n + 1) (vs ++ v ∷ [])
new_more setup n vs v are is = record {
  count = omega (arith, length_push vs v, are.count);
  empty =
      map-append (λ (w : ClusterView). w.flat) vs (v ∷ [])
      ∙ ap (λ (fs : List Flat). fs ++ v.flat ∷ []) are.empty
      ∙ ap (λ (s : Flat). replicate n (empty_flat (group_count setup)) ++ s ∷ []) is.empty
      ∙ replicate_more n (empty_flat (group_count setup));
  serve = λ c lt. elim (cases_eq c n) [
    | inl at ↦
        subst (λ k. Serves setup 0 k (slice_index_or (vs ++ v ∷ []) k (no_cluster setup))) (sym at)
        (subst (λ k. Serves setup 0 n (slice_index_or (vs ++ v ∷ []) k (no_cluster setup))) are.count
        (subst (Serves setup 0 n) (sym (get_or-append_seam vs v [] (no_cluster setup))) is.serves))
    | inr differs ↦
        let below : c < n = omega arith in
        subst (Serves setup 0 c) (sym (get_or_append_left vs (v ∷ []) (no_cluster setup) c (omega (arith, are.count, below)))) (are.serve c below)
  ];
}

pub made_more : {X : Type 0} (view : X → ClusterView) (setup : SetupParts) (n : ℕ) (xs : List X) (x : X)
    → AreNew setup n (map view xs) → IsNew setup n (view x) → AreNew setup (n + 1) (map view (xs ++ x ∷ []))
made_more view setup n xs x are is =
    subst (AreNew setup (n + 1)) (sym (map-append view xs (x ∷ []))) (new_more setup n (map view xs) (view x) are is)

-- what serves can end
pub serves_end : (setup : SetupParts) (n c : ℕ) (v : ClusterView) → n ≤ 2 ^ 50 → Serves setup n c v → CanEnd v
serves_end setup n c v le is = record { arrival = omega (arith, is.arrival, le); turn = omega (arith, is.turn, le) }

pub new_end : (setup : SetupParts) (n : ℕ) (vs : List ClusterView) → AreNew setup n vs → All CanEnd vs
new_end setup n vs are =
    All-from_get_or CanEnd vs (no_cluster setup) (λ i lt. serves_end setup 0 i (get_or vs i (no_cluster setup)) (omega arith) (are.serve i (omega (arith, lt, are.count))))

pub served_end : (p : PartsView) → length p.clusters ≡ cluster_count p.setup → AllServe (2 ^ 50) p → All CanEnd p.clusters
served_end p count all =
    All-from_get_or CanEnd p.clusters (no_cluster p.setup)
    (λ i lt. serves_end p.setup (2 ^ 50) i (get_or p.clusters i (no_cluster p.setup)) (omega arith) (all i (omega (arith, lt, count))))

-- new clusters and empty hands are the machine before any step
pub starts_empty : (setup : SetupParts) (vs : List ClusterView) (hs : List Hand)
    → AreNew setup (cluster_count setup) vs → hs ≡ replicate (actor_count setup) (empty_hand setup 0)
    → state_of (record { setup = setup; clusters = vs; hands = hs }) empty_yard ≡ empty_machine setup
starts_empty setup vs hs are empty =
    ap (λ (fs : List Flat). record { flats = fs; hands = hs; yard = empty_yard }) are.empty
    ∙ ap (λ (ys : List Hand). record { flats = replicate (cluster_count setup) (empty_flat (group_count setup)); hands = ys; yard = empty_yard }) empty

-- the home of one actor more
pub homes_more : (setup : SetupParts) (n : ℕ) (homes : List ℕ) (home : ℕ) → AreFirstHomes setup n homes → home ≡ home_of setup n → home < cluster_count setup → AreFirstHomes setup (n + 1) (homes ++ home ∷ [])
homes_more setup n homes home are is small = record {
  count = omega (arith, length_push homes home, are.count);
  each = λ a lt. elim (cases_eq a n) [
    | inl at ↦
        ap (λ k. slice_index_or (homes ++ home ∷ []) k 0) (at ∙ sym are.count)
        ∙ (get_or-append_seam homes home [] 0 ∙ (is ∙ ap (home_of setup) (sym at)))
    | inr differs ↦
        let below : a < n = omega arith in
        get_or_append_left homes (home ∷ []) 0 a (omega (arith, are.count, below)) ∙ are.each a below
  ];
  below = λ a lt. elim (cases_eq a n) [
    | inl at ↦ subst (λ k. k < cluster_count setup) (is ∙ ap (home_of setup) (sym at)) small
    | inr differs ↦ are.below a (omega arith)
  ];
}
