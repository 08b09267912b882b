-- What is known of the ten timeshare lanes.
use Rattle.std.specs.Prelude.{Bool, List, None, Option, Some, [], length, map, nat_lt, ℕ, ◌&&◌, ◌≡◌, ◌∷◌, false, true}
use Rattle.sched_base.specs.Bucket.{index}
use Rattle.sched_base.specs.declared.buckets.Bucket.{Bucket}
use Rattle.bucket_tables.specs.declared.Lane.{Lane}
use Rattle.flat_policy.specs.Policy.Queue.{LaneState, timeshare_lanes}

-- the ten lanes, each at its index: whether it is filled, and its deadline
pub record LaneTable : Type 0 where
  pub filled : List Bool
  pub deadlines : List ℕ

-- flags and deadlines speak of ten lanes
pub record AreTen (filled : List Bool) (deadlines : List ℕ) : Type 0 where
  pub flags : length filled ≡ 10
  pub numbers : length deadlines ≡ 10

-- those of a list whose flag is set
abbrev pub filled_among : {X : Type 0} → List Bool → List X → List X
filled_among [] xs = []
filled_among (f ∷ fs) [] = []
filled_among (true ∷ fs) (x ∷ xs) = x ∷ filled_among fs xs
filled_among (false ∷ fs) (x ∷ xs) = filled_among fs xs

-- the first of a list
abbrev pub first_of : {X : Type 0} → List X → Option X
first_of [] = None
first_of (x ∷ xs) = Some x

-- the flags without the first that is set
abbrev pub behind_first : List Bool → List Bool
behind_first [] = []
behind_first (true ∷ fs) = false ∷ fs
behind_first (false ∷ fs) = false ∷ behind_first fs

-- the flags of those lanes whose bucket is higher than this one
abbrev pub higher_than : Bucket → List Lane → List Bool → List Bool
higher_than b [] fs = []
higher_than b (l ∷ ls) [] = []
higher_than b (l ∷ ls) (f ∷ fs) = (f && nat_lt (index l.bucket) (index b)) ∷ higher_than b ls fs

-- the states of the ten lanes, with the deadlines of the table
pub record AreStatesOf (t : LaneTable) (states : List LaneState) : Type 0 where
  pub lanes : map (λ (l : LaneState). l.lane) states ≡ timeshare_lanes
  pub deadlines : map (λ (l : LaneState). l.deadline) states ≡ t.deadlines
