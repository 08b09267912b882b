-- The times of version 1, for each bucket, in microseconds.
use Rattle.std.specs.Prelude.{List, [], ℕ, ◌∷◌}
use Rattle.sched_base.specs.declared.buckets.Bucket.{Bucket}
use Rattle.sched_base.specs.declared.buckets.Bucket.TheVariants.{Ui, Fg, Ini, Df, Ut, Bg}

-- how long after it fills a lane of the bucket is to be served; 0 where it is unused
abbrev pub wcel_of : Bucket → ℕ
wcel_of Ui = 0
wcel_of Fg = 0
wcel_of Ini = 37500
wcel_of Df = 75000
wcel_of Ut = 150000
wcel_of Bg = 250000

-- how long the bucket may pass an earlier deadline; 0 where it is unused
abbrev pub warp_of : Bucket → ℕ
warp_of Ui = 0
warp_of Fg = 8000
warp_of Ini = 4000
warp_of Df = 2000
warp_of Ut = 1000
warp_of Bg = 0

-- how long a thread of the bucket may run at a time, and how long a starvation window is
abbrev pub quantum_of : Bucket → ℕ
quantum_of Ui = 10000
quantum_of Fg = 10000
quantum_of Ini = 8000
quantum_of Df = 6000
quantum_of Ut = 4000
quantum_of Bg = 2000

-- a time for each bucket, by bucket index
abbrev pub by_bucket : (Bucket → ℕ) → List ℕ
by_bucket time = time Ui ∷ time Fg ∷ time Ini ∷ time Df ∷ time Ut ∷ time Bg ∷ []
