-- The law of a refresh, lane by lane.
use Rattle.std.specs.Prelude.{[], fold, ℕ, ◌∷◌, ◌≡◌}
use Rattle.sched_base.specs.declared.Bucket.{Bucket}
use Rattle.sched_base.specs.declared.Bucket.TheVariants.{Bg, Df, Fg, Ini, Ut}
use Rattle.flat_policy.specs.Policy.Queue.{Flat}
use Rattle.flat_policy.specs.Policy.Refresh.{clutches_of, refreshed, turn_on_refresh, with_new_prices}

-- the turns that the clutch buckets of one bucket take in a refresh, in order of groups
abbrev pub with_turns_of : ℕ → Flat → Flat → Bucket → Flat
with_turns_of groups before s b = fold (turn_on_refresh before) s (clutches_of groups b)

-- a refresh gives new prices, and then the clutch buckets of each bucket take their turns, bucket by bucket; those of UI take none
abbrev pub RefreshesByBucket : Type 0
RefreshesByBucket =
    (groups : ℕ) (s : Flat) (now : ℕ)
    → refreshed groups s now ≡ fold (with_turns_of groups s) (with_new_prices s now) (Fg ∷ Ini ∷ Df ∷ Ut ∷ Bg ∷ [])
