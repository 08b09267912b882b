-- The choice by deadlines, from the lane that is due first and the higher lanes.
use Rattle.std.proofs.Common.{◌≡◌, Bool, true, false, List, [], ◌∷◌, filter, find, nat_lt, Option, None, Some, option_map, refl, sym, ap, ◌∙◌}
use Rattle.sched_base.specs.Bucket.{index}
use Rattle.bucket_tables.specs.declared.Lane.{Lane}
use Rattle.flat_policy.specs.declared.lanes.Kind.TheVariants.{Natural, Pass, Starve}
use Rattle.flat_policy.specs.declared.setup.Times.{Times}
use Rattle.flat_policy.specs.Policy.Queue.{LaneState, timeshare_lanes}
use Rattle.flat_policy.specs.Policy.Windows.{Choice, choice_against, chosen_behind, chosen_of, earliest_of, higher_of, may_pass, passing_of, some_higher}
use Rattle.root_deadlines.specs.Lanes.{AreStatesOf, LaneTable, filled_among, higher_than}
use Rattle.root_deadlines.proofs.InOrder.{in_order}
use Rattle.windows.specs.declared.choice.Marks.{Marks}
use Rattle.windows.specs.Views.{TenMarked, windows_over}
use Rattle.windows.specs.WindowStates.{WindowState, filled_of}
use Rattle.windows.proofs.Ordered.{filled_in_order, filtered_in_order, highest_is_first, lanes_of, none_filled, none_of_lanes}
use Rattle.windows.proofs.Passing.{first_is_found, higher_among}
use Rattle.windows.proofs.AtIndex.{deadlines_over, lanes_over}

-- the choice by the lane that is due first, the lane that may pass it, and whether a higher lane is filled
abbrev pub choice_by : Lane → Option Lane → Bool → Choice
choice_by e (Some at) b = record { lane = at; kind = Some Pass }
choice_by e None true = record { lane = e; kind = Some Starve }
choice_by e None false = record { lane = e; kind = Some Natural }

abbrev pub lane_of_state : Option LaneState → Option Lane
lane_of_state o = option_map (λ (w : LaneState). w.lane) o

-- the choice by the higher lanes that are filled
abbrev pub choice_over : List Times → Lane → List LaneState → Choice
choice_over ts e higher = choice_by e (lane_of_state (find (may_pass ts) higher)) (some_higher higher)

by_outcome : (filled : List LaneState) (w : LaneState) (p : Option LaneState)
    → choice_against p filled w ≡ choice_by w.lane (lane_of_state p) (some_higher (higher_of filled w))
by_outcome filled w (Some l) = refl
by_outcome filled w None = behind (some_higher (higher_of filled w))
  where
    behind : (b : Bool) → chosen_behind b w ≡ choice_by w.lane None b
    behind true = refl
    behind false = refl

against_is : (ts : List Times) (fs : List Bool) (ws : List LaneState) → in_order (lanes_of ws) ≡ true → (w : LaneState)
    → choice_against (passing_of ts (filled_among fs ws) w) (filled_among fs ws) w
    ≡ choice_over ts w.lane (filled_among (higher_than w.lane.bucket (lanes_of ws) fs) ws)
against_is ts fs ws order w =
    let filled = filled_among fs ws in
    let first = highest_is_first (filter (may_pass ts) (higher_of filled w))
    (filtered_in_order (may_pass ts) (higher_of filled w)
    (filtered_in_order (λ (l : LaneState). nat_lt (index l.lane.bucket) (index w.lane.bucket)) filled (filled_in_order fs ws order))) in
    ap (λ p. choice_against p filled w) (first ∙ first_is_found (may_pass ts) (higher_of filled w))
    ∙ by_outcome filled w (find (may_pass ts) (higher_of filled w))
    ∙ ap (choice_over ts w.lane) (higher_among w.lane.bucket fs ws)

some_lane : (x y : Lane) → Some x ≡ Some y → x ≡ y
some_lane x y h = cc

chosen_is : (ts : List Times) (fs : List Bool) (ws : List LaneState) → in_order (lanes_of ws) ≡ true → (e : Lane)
    → Some e ≡ lane_of_state (earliest_of (filled_among fs ws))
    → chosen_of ts (filled_among fs ws) ≡ Some (choice_over ts e (filled_among (higher_than e.bucket (lanes_of ws) fs) ws))
chosen_is ts fs ws order e h = from (earliest_of (filled_among fs ws)) h
  where
    from : (o : Option LaneState) → Some e ≡ lane_of_state o
        → option_map (λ (w : LaneState). choice_against (passing_of ts (filled_among fs ws) w) (filled_among fs ws) w) o
        ≡ Some (choice_over ts e (filled_among (higher_than e.bucket (lanes_of ws) fs) ws))
    from None k = absurd cc
    from (Some w) k =
        ap (λ c. Some c) (against_is ts fs ws order w)
        ∙ ap (λ l. Some (choice_over ts l (filled_among (higher_than l.bucket (lanes_of ws) fs) ws))) (sym (some_lane e w.lane k))

-- the same, from what the calls on the fields ensure
pub chosen_from : (ts : List Times) (t : LaneTable) (ms : List Marks) (rs : List Bool) → TenMarked t ms rs → (w : WindowState)
    → record { times = ts; lanes = windows_over t.deadlines ms; filled = t.filled } ≡ w
    → (o : Option Lane) (e : Lane) → o ≡ Some e
    → ((windows : List LaneState) → AreStatesOf t windows → o ≡ option_map (λ (l : LaneState). l.lane) (earliest_of (filled_among t.filled windows)))
    → (higher : List Bool) → higher ≡ higher_than e.bucket timeshare_lanes t.filled
    → chosen_of w.times (filled_of w) ≡ Some (choice_over w.times e (filled_among higher w.lanes))
chosen_from ts t ms rs ten w view o e some first higher is =
    let ws = windows_over t.deadlines ms in
    let lanes = lanes_over t.deadlines ms ten.deadlines ten.marks in
    let deadlines = deadlines_over t.deadlines ms ten.deadlines ten.marks in
    let due : Some e ≡ lane_of_state (earliest_of (filled_among t.filled ws)) =
    sym some ∙ first ws (record { lanes = lanes; deadlines = deadlines }) in
    ap (λ (v : WindowState). chosen_of v.times (filled_of v)) (sym view)
    ∙ chosen_is ts t.filled ws (ap in_order lanes) e due
    ∙ ap (λ ls. Some (choice_over ts e (filled_among (higher_than e.bucket ls t.filled) ws))) lanes
    ∙ ap (λ hs. Some (choice_over ts e (filled_among hs ws))) (sym is)
    ∙ ap (λ (v : WindowState). Some (choice_over v.times e (filled_among higher v.lanes))) view

-- the lanes of what the fields mean
pub lanes_are : (ts : List Times) (t : LaneTable) (ms : List Marks) (rs : List Bool) → TenMarked t ms rs → (w : WindowState)
    → record { times = ts; lanes = windows_over t.deadlines ms; filled = t.filled } ≡ w → lanes_of w.lanes ≡ timeshare_lanes
lanes_are ts t ms rs ten w view = ap (λ (v : WindowState). lanes_of v.lanes) (sym view) ∙ lanes_over t.deadlines ms ten.deadlines ten.marks

-- where no lane is in a set, none of it waits, and else one does
pub none_waits : (fs : List Bool) (ws : List LaneState) → lanes_of ws ≡ timeshare_lanes → filled_among fs timeshare_lanes ≡ [] → filled_among fs ws ≡ []
none_waits fs ws lanes none = none_filled fs ws (ap (filled_among fs) lanes ∙ none)

pub one_waits : (fs : List Bool) (ws : List LaneState) → lanes_of ws ≡ timeshare_lanes → (filled_among fs timeshare_lanes ≡ [] → ⊥) → some_higher (filled_among fs ws) ≡ true
one_waits fs ws lanes some = is_some_of (filled_among fs ws) (λ none. some (ap (filled_among fs) (sym lanes) ∙ none_of_lanes fs ws none))
  where
    is_some_of : (xs : List LaneState) → (xs ≡ [] → ⊥) → some_higher xs ≡ true
    is_some_of [] h = absurd (h refl)
    is_some_of (x ∷ xs) h = refl
