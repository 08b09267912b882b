-- Buckets as numbers.
use Rattle.std.specs.Prelude.{ℕ}
use Rattle.sched_base.specs.declared.buckets.Bucket.{Bucket}
use Rattle.sched_base.specs.declared.buckets.Bucket.TheVariants.{Ui, Fg, Ini, Df, Ut, Bg}

-- the index of a bucket, the most urgent first
abbrev pub index : Bucket → ℕ
index Ui = 0
index Fg = 1
index Ini = 2
index Df = 3
index Ut = 4
index Bg = 5
