-- The looks at the clusters of a setup, after each change of all.
use Rattle.std.proofs.Common.{◌≡◌, ◌≤◌, ◌<◌, ℕ, zero, suc, List, ◌∷◌, Option, Some, None, Result, replicate, take, slice_set, ap, arith, refl, sym, ◌∙◌}
use Rattle.std.proofs.Math.Seq.{take-set-lt}
use Rattle.sched_base.specs.declared.Facts.{Facts}
use Rattle.flat_policy.specs.Policy.Aim.{Look}
use Rattle.flat_policy.specs.Policy.BuiltSetups.{IsSetup}
use Rattle.flat_policy.specs.Policy.Machine.{no_looks}
use Rattle.flat_policy.specs.Policy.Setup.{SetupParts, cluster_count}
use Rattle.migration.specs.declared.LookFirst.{LookFirst}
use Rattle.migration.specs.Looks.{IsAim, looks_among}
use Rattle.migration.proofs.Clusters.{aim_goes_by_clusters}

take-none : (n m : ℕ) → n ≤ m → take n (replicate {A = Option Look} m None) ≡ replicate n None
take-none zero m le = refl
take-none (suc n) zero le = absurd (omega arith)
take-none (suc n) (suc m) le = ap (λ (xs : List (Option Look)). None ∷ xs) (take-none n m (omega arith))

pub none_among : (looks : List (Option Look)) → looks ≡ replicate 8 None → (setup : SetupParts) → IsSetup setup → looks_among setup looks ≡ no_looks setup
none_among looks is setup built =
    ap (take (cluster_count setup)) is ∙ take-none (cluster_count setup) 8 built.clusters_most

pub noted_among : (looks new : List (Option Look)) (c : ℕ) (look : Look) → new ≡ slice_set looks c (Some look)
    → (setup : SetupParts) → c < cluster_count setup → looks_among setup new ≡ slice_set (looks_among setup looks) c (Some look)
noted_among looks new c look is setup lt =
    ap (take (cluster_count setup)) is ∙ take-set-lt (cluster_count setup) looks c (Some look) lt

-- an aim by all looks is that by the looks at the clusters alone
pub aim_among_clusters : (setup : SetupParts) (looks : List (Option Look)) (t : Facts) (answer : Result ℕ LookFirst) → t.prefer < cluster_count setup
    → IsAim setup looks t answer → IsAim setup (looks_among setup looks) t answer
aim_among_clusters setup looks t answer lt is =
    let same = aim_goes_by_clusters setup looks t lt in
    record { aim = is.aim ∙ sym same.aim; look_first = is.look_first ∙ sym same.look_first }
