-- The six times of a cluster, read one by one.
use Rattle.std.proofs.Common.{◌≡◌, ℕ, ◌<◌, List, [], ◌∷◌, length, get_or, refl, arith}
use Rattle.sched_base.specs.declared.Bucket.TheVariants.{Bg, Df, Fg, Ini, Ui, Ut}
use Rattle.flat_policy.specs.Policy.BuiltSetups.{IsClusterTimes, IsSetup}
use Rattle.flat_policy.specs.Policy.Setup.{SetupParts, cluster_count, cluster_times, no_times, times_for}
use Rattle.flat_policy.specs.declared.setup.Times.{Times}

pub cluster_times_fit : (s : SetupParts) (c : ℕ) → IsSetup s → c < cluster_count s → IsClusterTimes (cluster_times s c)
cluster_times_fit s c is h = is.times c [] (omega (arith, is.times_each))

six_items : {X : Type 0} (xs : List X) (d : X) → length xs ≡ 6
    → get_or xs 0 d ∷ get_or xs 1 d ∷ get_or xs 2 d ∷ get_or xs 3 d ∷ get_or xs 4 d ∷ get_or xs 5 d ∷ [] ≡ xs
six_items [] d h = absurd (omega arith)
six_items (a ∷ []) d h = absurd (omega arith)
six_items (a ∷ b ∷ []) d h = absurd (omega arith)
six_items (a ∷ b ∷ c ∷ []) d h = absurd (omega arith)
six_items (a ∷ b ∷ c ∷ e ∷ []) d h = absurd (omega arith)
six_items (a ∷ b ∷ c ∷ e ∷ f ∷ []) d h = absurd (omega arith)
six_items (a ∷ b ∷ c ∷ e ∷ f ∷ g ∷ []) d h = refl
six_items (a ∷ b ∷ c ∷ e ∷ f ∷ g ∷ i ∷ xs) d h = absurd (omega arith)

-- the times of each bucket, one after another, are the times of the cluster
pub six_times : (ts : List Times) (ui fg ini df ut bg : Times) → IsClusterTimes ts
    → ui ≡ times_for ts Ui → fg ≡ times_for ts Fg → ini ≡ times_for ts Ini → df ≡ times_for ts Df → ut ≡ times_for ts Ut → bg ≡ times_for ts Bg
    → ui ∷ fg ∷ ini ∷ df ∷ ut ∷ bg ∷ [] ≡ ts
six_times ts ui fg ini df ut bg is p q r s t u = rw (p, q, r, s, t, u) (six_items ts no_times is.six)
