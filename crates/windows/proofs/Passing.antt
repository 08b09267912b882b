-- One pass over some lanes finds the first of them that may pass.
use Rattle.std.proofs.Common.{◌≡◌, nat_lt, Bool, true, false, cond, List, [], ◌∷◌, filter, find, length, Option, None, Some, option_map, refl, ap}
use Rattle.sched_base.specs.Bucket.{index}
use Rattle.sched_base.specs.declared.buckets.Bucket.{Bucket}
use Rattle.bucket_tables.specs.declared.Lane.{Lane}
use Rattle.flat_policy.specs.declared.setup.Times.{Times}
use Rattle.flat_policy.specs.Policy.Queue.{LaneState, timeshare_lanes}
use Rattle.flat_policy.specs.Policy.Windows.{may_pass}
use Rattle.root_deadlines.specs.Lanes.{filled_among, first_of, higher_than}
use Rattle.root_deadlines.proofs.Tens.{by_ten}
use Rattle.windows.specs.Passing.{passing_with}
use Rattle.windows.proofs.Ordered.{lanes_of}

-- the pass over flags and windows, beside each other
abbrev pub passing_over : List Times → List Bool → List LaneState → Option Lane → Option Lane
passing_over ts [] ws a = a
passing_over ts (f ∷ fs) [] a = a
passing_over ts (f ∷ fs) (w ∷ ws) a = passing_over ts fs ws (passing_with f ts a w)

found_stays : (ts : List Times) (fs : List Bool) (ws : List LaneState) (at : Lane) → passing_over ts fs ws (Some at) ≡ Some at
found_stays ts [] ws at = refl
found_stays ts (f ∷ fs) [] at = refl
found_stays ts (f ∷ fs) (w ∷ ws) at = found_stays ts fs ws at

pub first_passing : (ts : List Times) (fs : List Bool) (ws : List LaneState)
    → passing_over ts fs ws None ≡ option_map (λ (l : LaneState). l.lane) (find (may_pass ts) (filled_among fs ws))
first_passing ts [] ws = refl
first_passing ts (f ∷ fs) [] = refl
first_passing ts (true ∷ fs) (w ∷ ws) =
    elim (may_pass ts w) as (λ b. passing_over ts fs ws (cond b (Some w.lane) None)
    ≡ option_map (λ (l : LaneState). l.lane) (cond b (Some w) (find (may_pass ts) (filled_among fs ws)))) [
      | true ↦ found_stays ts fs ws w.lane
      | false ↦ first_passing ts fs ws
    ]
first_passing ts (false ∷ fs) (w ∷ ws) = first_passing ts fs ws

-- the first of those that pass a test
pub first_is_found : (p : LaneState → Bool) (ws : List LaneState) → first_of (filter p ws) ≡ find p ws
first_is_found p [] = refl
first_is_found p (w ∷ ws) =
    elim (p w) as (λ b. first_of (cond b (w ∷ filter p ws) (filter p ws)) ≡ cond b (Some w) (find p ws)) [ true ↦ refl | false ↦ first_is_found p ws ]

-- of the filled lanes, those of a higher bucket
pub higher_among : (b : Bucket) (fs : List Bool) (ws : List LaneState)
    → filter (λ (l : LaneState). nat_lt (index l.lane.bucket) (index b)) (filled_among fs ws) ≡ filled_among (higher_than b (lanes_of ws) fs) ws
higher_among b [] [] = refl
higher_among b [] (w ∷ ws) = refl
higher_among b (f ∷ fs) [] = refl
higher_among b (true ∷ fs) (w ∷ ws) =
    let higher = λ (l : LaneState). nat_lt (index l.lane.bucket) (index b) in
    elim (nat_lt (index w.lane.bucket) (index b)) as (λ t. cond t (w ∷ filter higher (filled_among fs ws)) (filter higher (filled_among fs ws))
    ≡ filled_among (t ∷ higher_than b (lanes_of ws) fs) (w ∷ ws)) [
      | true ↦ ap (λ vs. w ∷ vs) (higher_among b fs ws)
      | false ↦ higher_among b fs ws
    ]
higher_among b (false ∷ fs) (w ∷ ws) = higher_among b fs ws

pub higher_ten : (b : Bucket) (fs : List Bool) → length fs ≡ 10 → length (higher_than b timeshare_lanes fs) ≡ 10
higher_ten b fs ten = by_ten (λ gs. length (higher_than b timeshare_lanes gs) ≡ 10) (λ u0 u1 u2 u3 u4 u5 u6 u7 u8 u9. refl) fs ten
