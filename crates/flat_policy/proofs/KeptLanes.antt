-- What changes lanes leaves each in its place.
use Rattle.std.proofs.Common.{◌≡◌, ℕ, cond, List, [], ◌∷◌, map, refl, ◌∙◌}
use Rattle.std.proofs.lemmas.Bool.{cond_both}
use Rattle.bucket_tables.specs.declared.Lane.{Lane}
use Rattle.flat_policy.specs.declared.lanes.Kind.{Kind}
use Rattle.flat_policy.specs.declared.lanes.Kind.TheVariants.{Natural, Pass, Starve}
use Rattle.flat_policy.specs.declared.setup.Times.{Times}
use Rattle.flat_policy.specs.Policy.Queue.{Flat, LaneState, same_lane}
use Rattle.flat_policy.specs.Policy.Setup.{times_for}
use Rattle.flat_policy.specs.Policy.WellFormed.{WellFormed}
use Rattle.flat_policy.specs.Policy.Windows.{at_lane, expired, expired_warp, expired_window, renewed_deadline, window_after, window_over}

abbrev pub lane_names : List LaneState → List Lane
lane_names ls = map (λ (l : LaneState). l.lane) ls

pub map_keeps_lanes : (f : LaneState → LaneState) → ((l : LaneState) → (f l).lane ≡ l.lane) → (ls : List LaneState) → lane_names (map f ls) ≡ lane_names ls
map_keeps_lanes f h [] = refl
map_keeps_lanes f h (l ∷ ls) = rw (h l, map_keeps_lanes f h ls) refl

pub expired_keeps : (ts : List Times) (now : ℕ) (l : LaneState) → (expired_window ts now l).lane ≡ l.lane
expired_keeps ts now l =
    let warped : LaneState = record l { warp = expired_warp now l.warp } in
    cond_both (window_over (times_for ts l.lane.bucket).quantum now l.starved) (renewed_deadline ts now warped) warped
    (λ (m : LaneState). m.lane ≡ l.lane) (λ e. refl) (λ e. refl)

pub at_lane_keeps : (at : Lane) (f : LaneState → LaneState) → ((l : LaneState) → (f l).lane ≡ l.lane) → (ls : List LaneState) → lane_names (at_lane at f ls) ≡ lane_names ls
at_lane_keeps at f h ls =
    map_keeps_lanes (λ (l : LaneState). cond (same_lane l.lane at) (f l) l)
    (λ l. cond_both (same_lane l.lane at) (f l) l (λ (m : LaneState). m.lane ≡ l.lane) (λ e. h l) (λ e. refl)) ls

pub window_keeps : (ts : List Times) (now : ℕ) (kind : Kind) (l : LaneState) → (window_after ts now kind l).lane ≡ l.lane
window_keeps ts now Pass l = refl
window_keeps ts now Starve l = refl
window_keeps ts now Natural l = refl

-- a queue with other lanes is as well-formed, where each lane stands in its place
pub with_lanes_fits : (groups : ℕ) (s : Flat) (ls : List LaneState) → lane_names ls ≡ lane_names s.lanes → WellFormed groups s → WellFormed groups (record s { lanes = ls })
with_lanes_fits groups s ls same w = record {
  few = w.few;
  arrivals_rise = w.arrivals_rise;
  arrivals_below = w.arrivals_below;
  order_numbers = w.order_numbers;
  groups_below = w.groups_below;
  bases_within = w.bases_within;
  priorities_within = w.priorities_within;
  turns_below = w.turns_below;
  turns_differ = w.turns_differ;
  turns_where_entries = w.turns_where_entries;
  spans_length = w.spans_length;
  spans_small = w.spans_small;
  turns_length = w.turns_length;
  ten_lanes = same ∙ w.ten_lanes;
}

pub expired_fits : (groups : ℕ) (ts : List Times) (s : Flat) (now : ℕ) → WellFormed groups s → WellFormed groups (expired ts s now)
expired_fits groups ts s now w = with_lanes_fits groups s (map (expired_window ts now) s.lanes) (map_keeps_lanes (expired_window ts now) (expired_keeps ts now) s.lanes) w
