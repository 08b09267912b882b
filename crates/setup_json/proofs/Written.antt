-- What is written of a setup's lists, item by item.
use Rattle.std.proofs.Common.{◌≡◌, ℕ, zero, suc, ◌<◌, ◌≤◌, List, [], ◌∷◌, length, get_or, map, Some, slice_get, refl, sym, ◌∙◌, ap, arith}
use Rattle.std.proofs.lemmas.List.{length-map}
use Rattle.std.specs.Option.{option_map_or}
use Rattle.flat_policy.specs.Policy.BuiltSetups.{IsGroup, IsSetup}
use Rattle.flat_policy.specs.Policy.Setup.{ClusterParts, SetupParts, cluster_count, cpus_of, group_count, rate_of}
use Rattle.flat_policy.specs.Texts.SetupLines.{cluster_text, edge_text, numbers_text}
use Rattle.flat_policy.specs.declared.setup.EdgeSpec.{EdgeSpec}
use Rattle.setup_json.proofs.Joins.{mapped_at, six_items}

-- an item of a mapped list is in its place
pub below_mapped : {A : Type 0} → (f : A → List ℕ) (xs : List A) (k n : ℕ) → n ≡ length xs → k < n → k < length (map f xs)
below_mapped f xs k n is h = omega (arith, length-map xs f)

pub past_mapped : {A : Type 0} → (f : A → List ℕ) (xs : List A) (k n : ℕ) → n ≡ length xs → n ≤ k → length (map f xs) ≤ k
past_mapped f xs k n is h = omega (arith, length-map xs f)

pub mapped_within : {A : Type 0} → (f : A → List ℕ) (xs : List A) (k : ℕ) (d : A) (n : ℕ) → n ≡ length xs → k < n → f (get_or xs k d) ≡ get_or (map f xs) k []
mapped_within f xs k d n is h = mapped_at f xs k d (omega arith)

-- a cluster
pub cluster_written : (ks : List ClusterParts) (c : ℕ) → c < length ks
    → numbers_text (option_map_or (λ (k : ClusterParts). k.cpus) (slice_get ks c) 0 ∷ option_map_or (λ (k : ClusterParts). k.rate) (slice_get ks c) 0 ∷ []) ≡ get_or (map cluster_text ks) c []
cluster_written [] c h = absurd (omega arith)
cluster_written (k ∷ ks) zero h = refl
cluster_written (k ∷ ks) (suc c) h = cluster_written ks c (omega arith)

pub cluster_numbers : (s : SetupParts) (c cpus rate n : ℕ) → n ≡ length s.clusters → c < n → cpus ≡ cpus_of s c → rate ≡ rate_of s c
    → numbers_text (cpus ∷ rate ∷ []) ≡ get_or (map cluster_text s.clusters) c []
cluster_numbers s c cpus rate n is h p q =
    ap (λ n. numbers_text (n ∷ rate ∷ [])) p ∙ ap (λ n. numbers_text (cpus_of s c ∷ n ∷ [])) q ∙ cluster_written s.clusters c (omega arith)

-- an edge
pub edge_written : (es : List EdgeSpec) (k : ℕ) (e : EdgeSpec) → slice_get es k ≡ Some e → edge_text e ≡ get_or (map edge_text es) k []
edge_written [] k e h = cc
edge_written (x ∷ es) zero e h = let same : x ≡ e = cc in ap edge_text (sym same)
edge_written (x ∷ es) (suc k) e h = edge_written es k e h

-- a group has six numbers
pub group_six : (s : SetupParts) (g : ℕ) → IsSetup s → g < group_count s → length (get_or s.groups g []) ≡ 6
group_six s g is h = let row : IsGroup (cluster_count s) (get_or s.groups g []) = is.groups g [] h in row.six

pub six_same : {A : Type 0} → (xs : List A) (x a b c e f g : A) → length xs ≡ 6 → a ≡ get_or xs 0 x → b ≡ get_or xs 1 x → c ≡ get_or xs 2 x → e ≡ get_or xs 3 x → f ≡ get_or xs 4 x → g ≡ get_or xs 5 x
    → a ∷ b ∷ c ∷ e ∷ f ∷ g ∷ [] ≡ xs
six_same xs x a b c e f g six p q r s t u = rw (p, q, r, s, t, u) (six_items xs x six)
