-- The index of a lane among the ten.
use Rattle.std.specs.Prelude.{Bool, false, true, ℕ, ◌+◌}
use Rattle.sched_base.specs.declared.buckets.Bucket.{Bucket}
use Rattle.sched_base.specs.declared.buckets.Bucket.TheVariants.{Bg, Df, Fg, Ini, Ui, Ut}
use Rattle.bucket_tables.specs.declared.Lane.{Lane}

-- the index of the bound lane of a bucket among the ten; UI has none
abbrev pub bound_index : Bucket → ℕ
bound_index Ui = 0
bound_index Fg = 0
bound_index Ini = 2
bound_index Df = 4
bound_index Ut = 6
bound_index Bg = 8

-- the unbound lane comes after the bound one
abbrev pub index_from : ℕ → Bool → ℕ
index_from first true = first
index_from first false = first + 1

-- the index of a lane among the ten
abbrev pub index_of_lane : Lane → ℕ
index_of_lane l = index_from (bound_index l.bucket) l.bound
