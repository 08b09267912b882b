use Rattle.std.proofs.Common.{◌≡◌, ◌<◌, Bool, List, Some, ap, length, refl, subst, sym, ◌∙◌}
use Rattle.flat_policy.specs.Policy.Queue.{LaneState, timeshare_lanes}
use Rattle.flat_policy.specs.Policy.Windows.{at_lane, expired_window}
use Rattle.flat_policy.proofs.KeptLanes.{at_lane_keeps, expired_keeps}
use Rattle.root_deadlines.specs.Lanes.{filled_among, first_of}
use Rattle.root_deadlines.proofs.Earliest.{fewer, first_none}
use Rattle.windows.specs.Views.{windows_over}
use Rattle.windows.specs.WindowStates.{WindowState, expired_at}
use Rattle.windows.proofs.Chosen.{lanes_are, none_waits}
use Rattle.windows.proofs.EachLane.{apart, changed_where, none_changed, one_changed}
use Rattle.windows.proofs.Ordered.{lanes_of}
use Rattle.windows.proofs.Still.{running_alone}
use Rattle.windows.proofs.choice.Windows.expire.Goals as goal

pub loop-index-init : goal.loop-index-init
loop-index-init c =
    let i = c.self.inside in
    let now = c.args.now in
    let state : List LaneState → WindowState = λ ls. record { times = i.times; lanes = ls; filled = i.lanes.filled } in
    let ws = windows_over i.lanes.deadlines i.marks in
    record {
      lanes = lanes_are i.times i.lanes i.marks i.running c.self.invariant c.args.self.now c.self.view_is;
      same = subst (λ (v : WindowState). record v { lanes = changed_where c.copy-rest.result (expired_window v.times now) v.lanes } ≡ expired_at now v) c.self.view_is
          (ap state (ap (λ (rs : List Bool). changed_where rs (expired_window i.times now) ws) (c.copy-rest.ensures ∙ c.self.invariant.running)
          ∙ running_alone i.times now timeshare_lanes i.lanes.deadlines i.marks));
    }

pub loop-index-smaller : goal.loop-index-smaller
loop-index-smaller c =
    subst (λ (rs : List Bool). length (filled_among rs timeshare_lanes) < length (filled_among c.loop-index.rest timeshare_lanes)) (sym c.in-Some.ensures.rest)
    (fewer c.loop-index.rest timeshare_lanes (Some c.lane_at_index.result) (sym c.lane_at_index.ensures.at ∙ c.in-Some.ensures.highest) refl)

pub loop-index-preserved : goal.loop-index-preserved
loop-index-preserved c =
    let was = c.loop-index.self in
    let rest = c.loop-index.rest in
    let kept = c.loop-index.invariant in
    let at = c.lane_at_index.result in
    let f = expired_window was.times c.args.now in
    let first = sym c.lane_at_index.ensures.at ∙ c.in-Some.ensures.highest ∙ ap (λ ls. first_of (filled_among rest ls)) (sym kept.lanes) in
    record {
      lanes = ap (λ (v : WindowState). lanes_of v.lanes) c.expire_lane.ensures ∙ at_lane_keeps at f (expired_keeps was.times c.args.now) was.lanes ∙ kept.lanes;
      same = ap (λ (v : WindowState). record v { lanes = changed_where c.take_highest.new.self (expired_window v.times c.args.now) v.lanes }) c.expire_lane.ensures
          ∙ ap (λ (rs : List Bool). record was { lanes = changed_where rs f (at_lane at f was.lanes) }) c.in-Some.ensures.rest
          ∙ ap (λ (ls : List LaneState). record was { lanes = ls }) (one_changed rest f was.lanes at first (ap apart kept.lanes))
          ∙ kept.same;
    }

pub returns : goal.returns
returns c =
    let was = c.loop-index.self in
    let rest = c.loop-index.rest in
    let kept = c.loop-index.invariant in
    let none = none_waits rest was.lanes kept.lanes (first_none (filled_among rest timeshare_lanes) c.in_default.ensures.highest) in
    ap (λ (ls : List LaneState). record was { lanes = ls }) (sym (none_changed rest (expired_window was.times c.args.now) was.lanes none)) ∙ kept.same
