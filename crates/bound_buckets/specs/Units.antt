-- The greatest unit priorities of a lane's units, for a cluster that keeps these, and for one that keeps a list of entries.
use Rattle.std.specs.Prelude.{None, Option, Some, false, fold, if◌then◌else◌, true, ℕ, ◌+◌, ◌≡◌}
use Rattle.sched_base.specs.declared.buckets.Bucket.{Bucket}
use Rattle.bucket_tables.specs.declared.Lane.{Lane}
use Rattle.flat_policy.specs.Laws.Units.{IsFirstClutch, unit_score}
use Rattle.flat_policy.specs.Policy.Precedence.{bound_priority, clutch_priority}
use Rattle.flat_policy.specs.Policy.Queue.{Clutch, Flat, Queued, has_entries, in_lane, lane}
use Rattle.flat_policy.specs.Policy.WellFormed.{WellFormed}
use Rattle.bound_buckets.specs.Tops.{greater_of, top_of}

-- of a bound lane it is the priority of its bound unit, of an unbound lane that of its first clutch bucket; an empty lane has none
pub record TopsOfUnits (s : Flat) : Type 0 where
  pub bound : (b : Bucket) → has_entries s (lane b true) ≡ true → top_of s (lane b true) ≡ Some (bound_priority s b)
  pub unbound : (b : Bucket) (k : Clutch) → IsFirstClutch s (lane b false) k → top_of s (lane b false) ≡ Some (clutch_priority s k)
  pub empty : (l : Lane) → has_entries s l ≡ false → top_of s l ≡ None

-- in every well-formed queue they are those
abbrev pub TopsAreOfUnits : Type 0
TopsAreOfUnits = (groups : ℕ) (s : Flat) → WellFormed groups s → TopsOfUnits s

-- the greatest so far of a lane, after one more entry of the queue: its priority with the score of its unit counts where it stands in the lane
abbrev pub top_with : Flat → Lane → Option ℕ → Queued → Option ℕ
top_with s l top e = if in_lane l e then greater_of top (Some (e.pri + unit_score s e.facts)) else top

-- one pass over all entries finds the greatest
abbrev pub TopsInOnePass : Type 0
TopsInOnePass = (s : Flat) (l : Lane) → fold (top_with s l) None s.entries ≡ top_of s l
