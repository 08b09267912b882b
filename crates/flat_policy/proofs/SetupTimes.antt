-- The times of a cluster, as a row of the table keeps them.
use Rattle.std.proofs.Common.{List, [], ap, arith, get_or, length, length-take, map, refl, subst, sym, take, ℕ, ◌<◌, ◌∙◌, ◌≡◌, ◌≤◌}
use Rattle.std.proofs.lemmas.List.{get_or-map, get_or-take, length-map}
use Rattle.sched_base.specs.Bucket.{index}
use Rattle.sched_base.specs.declared.Bucket.{Bucket}
use Rattle.sched_base.specs.declared.Bucket.TheVariants.{Bg, Df, Fg, Ini, Ui, Ut}
use Rattle.flat_policy.specs.Policy.BuiltSetups.{IsClusterTimes, IsSetup, IsTimes}
use Rattle.flat_policy.specs.Policy.Setup.{SetupParts, cluster_count, cluster_times, no_times, times_for}
use Rattle.flat_policy.specs.Representation.SetupInside.{IsInside, inside_parts, parts_of_size, row_times, times_in_row}
use Rattle.flat_policy.specs.declared.setup.Setup.TheInside.{Inside}

-- the index of a bucket is below six
pub index_below : (b : Bucket) → index b < 6
index_below Ui = omega arith
index_below Fg = omega arith
index_below Ini = omega arith
index_below Df = omega arith
index_below Ut = omega arith
index_below Bg = omega arith

-- the times of a bucket are those in its columns of the row
pub times_for-row : (row : List ℕ) (b : Bucket) → times_for (row_times row) b ≡ times_in_row row (index b)
times_for-row row Ui = refl
times_for-row row Fg = refl
times_for-row row Ini = refl
times_for-row row Df = refl
times_for-row row Ut = refl
times_for-row row Bg = refl

-- the row of a cluster, out of those of all of them
pub row_at : (table : List (List ℕ)) (n c : ℕ) (d : List ℕ) →
    c < n → n ≤ length table → get_or (map row_times (take n table)) c [] ≡ row_times (get_or table c d)
row_at table n c d below within =
    get_or-map row_times (take n table) c d [] (omega (arith, length-take n table)) ∙ ap row_times (get_or-take n table c d below)

-- the times of every cluster and bucket are in their ranges
pub times_in_ranges : (s : SetupParts) (c : ℕ) (b : Bucket) →
    IsSetup s → c < cluster_count s → IsTimes (times_for (cluster_times s c) b)
times_in_ranges s c b is below =
    let at : IsClusterTimes (cluster_times s c) = is.times c [] (omega (arith, is.times_each)) in
    at.each (index b) no_times (omega (arith, at.six, index_below b))

-- the three numbers in a bucket's columns of a cluster's row are its times
pub times_read : (s : Inside) (v : SetupParts) (c column : ℕ) (b : Bucket) →
    IsInside s → inside_parts s ≡ v → c < cluster_count v → column ≡ index b →
    times_in_row (get_or s.times c []) column ≡ times_for (cluster_times v c) b
times_read s v c column b is view below at =
    let counted : cluster_count (inside_parts s) ≡ cluster_count v = ap cluster_count view in
    let inside : c < length s.clusters.items = omega (arith, counted, length-map s.clusters.items parts_of_size) in
    let rows : length s.clusters.items ≤ length s.times =
    omega (arith, is.rows, is.setup.clusters_most, length-map s.clusters.items parts_of_size) in
    rw (← view, at, row_at s.times (length s.clusters.items) c [] inside rows) (sym (times_for-row (get_or s.times c []) b))

-- they are in their ranges
pub times_small : (s : Inside) (v : SetupParts) (c column : ℕ) (b : Bucket) →
    IsInside s → inside_parts s ≡ v → c < cluster_count v → column ≡ index b → IsTimes (times_in_row (get_or s.times c []) column)
times_small s v c column b is view below at =
    rw (times_read s v c column b is view below at) (times_in_ranges v c b (subst IsSetup view is.setup) below)
