-- The clusters and hands that lie in code, read and changed as those of the parts.
use Rattle.std.proofs.Common.{◌≡◌, ℕ, ◌<◌, List, length, map, get_or, slice_set, sym, ap, ◌∙◌, subst}
use Rattle.std.proofs.lemmas.List.{get_or-map, length-map, map-set}
use Rattle.flat_policy.specs.Policy.Clusters.{ClusterView}
use Rattle.flat_policy.specs.Policy.Machine.{Hand, no_hand}
use Rattle.flat_policy.specs.Policy.Setup.{SetupParts}
use Rattle.trace_machine.specs.Parts.{PartsView, cluster_at, hand_in, hand_of, no_cluster}
use Rattle.trace_machine.specs.declared.hand.HeldHand.{HeldHand}
use Rattle.trace_machine.proofs.Setting.{changed, rehanded}

-- clusters and hands in code as parts
abbrev pub parts_in : {X : Type 0} → (X → ClusterView) → SetupParts → List X → List HeldHand → PartsView
parts_in view setup xs hs = record { setup = setup; clusters = map view xs; hands = map (hand_in setup) hs }

pub clusters_there : {X : Type 0} (view : X → ClusterView) (setup : SetupParts) (xs : List X) (hs : List HeldHand) (p : PartsView)
    → parts_in view setup xs hs ≡ p → length xs ≡ length p.clusters
clusters_there view setup xs hs p is = sym (length-map xs view) ∙ ap (λ (q : PartsView). length q.clusters) is

pub hands_there : {X : Type 0} (view : X → ClusterView) (setup : SetupParts) (xs : List X) (hs : List HeldHand) (p : PartsView)
    → parts_in view setup xs hs ≡ p → length hs ≡ length p.hands
hands_there view setup xs hs p is = sym (length-map hs (hand_in setup)) ∙ ap (λ (q : PartsView). length q.hands) is

-- a cluster that was read is the one of the parts
pub cluster_read : {X : Type 0} (view : X → ClusterView) (setup : SetupParts) (xs : List X) (hs : List HeldHand) (p : PartsView) (c : ℕ) (x : X)
    → parts_in view setup xs hs ≡ p → c < length p.clusters → x ≡ get_or xs c x → cluster_at p c ≡ view x
cluster_read view setup xs hs p c x is lt read =
    let within : c < length xs = subst (λ n. c < n) (sym (clusters_there view setup xs hs p is)) lt in
    ap (λ (q : PartsView). cluster_at q c) (sym is)
    ∙ get_or-map view xs c x (no_cluster setup) within
    ∙ ap view (sym read)

-- a hand that was read is the one of the parts
pub hand_read : {X : Type 0} (view : X → ClusterView) (setup : SetupParts) (xs : List X) (hs : List HeldHand) (p : PartsView) (a : ℕ) (h : HeldHand)
    → parts_in view setup xs hs ≡ p → a < length p.hands → h ≡ get_or hs a h → hand_of p a ≡ hand_in setup h
hand_read view setup xs hs p a h is lt read =
    let within : a < length hs = subst (λ n. a < n) (sym (hands_there view setup xs hs p is)) lt in
    ap (λ (q : PartsView). hand_of q a) (sym is)
    ∙ get_or-map (hand_in setup) hs a h no_hand within
    ∙ ap (hand_in setup) (sym read)

-- a hand that was written is that of the parts
pub hand_written : {X : Type 0} (view : X → ClusterView) (setup : SetupParts) (xs : List X) (hs : List HeldHand) (p : PartsView) (a : ℕ) (h : HeldHand)
    → parts_in view setup xs hs ≡ p → parts_in view setup xs (slice_set hs a h) ≡ rehanded p a (hand_in setup h)
hand_written view setup xs hs p a h is =
    ap (λ (ys : List Hand). record { setup = setup; clusters = map view xs; hands = ys }) (map-set (hand_in setup) hs a h)
    ∙ ap (λ (q : PartsView). rehanded q a (hand_in setup h)) is

-- a cluster and a hand that were written are those of the parts
pub both_written : {X : Type 0} (view : X → ClusterView) (setup : SetupParts) (xs : List X) (hs : List HeldHand) (p : PartsView) (c : ℕ) (x : X) (a : ℕ) (h : HeldHand)
    → parts_in view setup xs hs ≡ p → parts_in view setup (slice_set xs c x) (slice_set hs a h) ≡ changed p c (view x) a (hand_in setup h)
both_written view setup xs hs p c x a h is =
    ap (λ (vs : List ClusterView). record { setup = setup; clusters = vs; hands = map (hand_in setup) (slice_set hs a h) }) (map-set view xs c x)
    ∙ ap (λ (ys : List Hand). record { setup = setup; clusters = slice_set (map view xs) c (view x); hands = ys }) (map-set (hand_in setup) hs a h)
    ∙ ap (λ (q : PartsView). changed q c (view x) a (hand_in setup h)) is

-- a cluster is written, and then a call sets the hand to one that follows from it
pub hand_after_cluster : {X : Type 0} (view : X → ClusterView) (setup : SetupParts) (xs : List X) (hs : List HeldHand) (p new : PartsView) (c : ℕ) (x : X) (a : ℕ) (f : Hand → Hand)
    → parts_in view setup xs hs ≡ p
    → new ≡ rehanded (parts_in view setup (slice_set xs c x) hs) a (f (hand_of (parts_in view setup (slice_set xs c x) hs) a))
    → new ≡ changed p c (view x) a (f (hand_of p a))
hand_after_cluster view setup xs hs p new c x a f is then =
    then
    ∙ ap (λ (vs : List ClusterView). record { setup = setup; clusters = vs; hands = slice_set (map (hand_in setup) hs) a (f (hand_of (parts_in view setup xs hs) a)) }) (map-set view xs c x)
    ∙ ap (λ (q : PartsView). changed q c (view x) a (f (hand_of q a))) is
