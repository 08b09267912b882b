-- The buckets and the timeshare lanes in their order.
use Rattle.std.specs.Prelude.{Bool, List, [], false, true, ◌∷◌}
use Rattle.sched_base.specs.declared.buckets.Bucket.{Bucket}
use Rattle.sched_base.specs.declared.buckets.Bucket.TheVariants.{Ui, Fg, Ini, Df, Ut, Bg}
use Rattle.bucket_tables.specs.declared.Lane.{Lane}

-- the six buckets, the highest first
abbrev pub buckets_in_order : List Bucket
buckets_in_order = Ui ∷ Fg ∷ Ini ∷ Df ∷ Ut ∷ Bg ∷ []

-- the lane of a bucket, bound or unbound
abbrev pub bucket_lane : Bucket → Bool → Lane
bucket_lane b bound = record { bucket = b; bound = bound }

-- the ten lanes of the five buckets below UI, the highest first, and the bound lane of a bucket before its unbound one
abbrev pub lanes_in_order : List Lane
lanes_in_order =
    bucket_lane Fg true ∷ bucket_lane Fg false ∷ bucket_lane Ini true ∷ bucket_lane Ini false ∷ bucket_lane Df true
    ∷ bucket_lane Df false ∷ bucket_lane Ut true ∷ bucket_lane Ut false ∷ bucket_lane Bg true ∷ bucket_lane Bg false ∷ []
