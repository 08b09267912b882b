use Rattle.std.proofs.Common.{◌≡◌, List, true, cond, map, refl, ap, sym, ◌∙◌}
use Rattle.std.proofs.lemmas.Bool.{cond-false, cond-true}
use Rattle.flat_policy.specs.Policy.Queue.{LaneState, has_entries, same_lane}
use Rattle.flat_policy.specs.Policy.Windows.{at_lane, renewed_deadline}
use Rattle.windows.specs.WindowStates.{WindowState, with_flag}
use Rattle.cluster_queue.specs.Queues.{flat_of}
use Rattle.cluster_queue.proofs.FilledLanes.{flags_already, flags_apart, flags_filled, lanes_stay, ui_apart}
use Rattle.cluster_queue.proofs.queue.Queue.fill_lane.Goals as goal

pub returns-then-has_lane-clause-lanes : goal.returns-then-has_lane-clause-lanes
returns-then-has_lane-clause-lanes c =
    let q = c.args.self.now in
    let w = q.windows in
    let has = sym (c.has_lane.ensures q.arena q.groups (flat_of q) c.requires.nested.stored.heaps) ∙ c.if-has_lane.true in
    sym (cond-true (has_entries (flat_of q) c.args.lane) w.lanes (at_lane c.args.lane (renewed_deadline w.times c.args.now) w.lanes) has)

pub returns-then-has_lane-clause-filled : goal.returns-then-has_lane-clause-filled
returns-then-has_lane-clause-filled c =
    let q = c.args.self.now in
    let has = sym (c.has_lane.ensures q.arena q.groups (flat_of q) c.requires.nested.stored.heaps) ∙ c.if-has_lane.true in
    c.requires.nested.windows.filled ∙ flags_already (has_entries (flat_of q)) c.args.lane q.windows.lanes has

pub returns-in-Ui-clause-lanes : goal.returns-in-Ui-clause-lanes
returns-in-Ui-clause-lanes c =
    let q = c.args.self.now in
    let w = q.windows in
    let f = renewed_deadline w.times c.args.now in
    let has = sym (c.has_lane.ensures q.arena q.groups (flat_of q) c.requires.nested.stored.heaps) ∙ c.if-has_lane.false in
    sym (cond-false (has_entries (flat_of q) c.args.lane) w.lanes (at_lane c.args.lane f w.lanes) has ∙ lanes_stay c.args.lane f w.lanes (ui_apart w.lanes c.args.lane c.in-Ui.is c.requires.ten))

pub returns-in-Ui-clause-filled : goal.returns-in-Ui-clause-filled
returns-in-Ui-clause-filled c =
    let q = c.args.self.now in
    c.requires.nested.windows.filled
    ∙ flags_apart (has_entries (flat_of q)) c.args.lane q.windows.lanes (ui_apart q.windows.lanes c.args.lane c.in-Ui.is c.requires.ten)

pub returns-in-Fg : goal.returns-in-Fg
returns-in-Fg c =
    let q = c.args.self.now in
    let w = q.windows in
    let f = renewed_deadline w.times c.args.now in
    let is = c.fill.ensures in
    let has = sym (c.has_lane.ensures q.arena q.groups (flat_of q) c.requires.nested.stored.heaps) ∙ c.if-has_lane.false in
    let lanes : c.fill.new.self.lanes ≡ at_lane c.args.lane f w.lanes = ap (λ (v : WindowState). v.lanes) is in
    record {
      same = refl;
      lanes = lanes ∙ sym (cond-false (has_entries (flat_of q) c.args.lane) w.lanes (at_lane c.args.lane f w.lanes) has);
      times = ap (λ (v : WindowState). v.times) is;
      filled = ap (λ (v : WindowState). v.filled) is
          ∙ (ap (with_flag c.args.lane true w.lanes) c.requires.nested.windows.filled
          ∙ (flags_filled (has_entries (flat_of q)) c.args.lane c.filling_follows.ensures w.times c.args.now w.lanes
          ∙ ap (λ (ls : List LaneState). map (λ (l : LaneState). cond (same_lane l.lane c.args.lane) true (has_entries (flat_of q) l.lane)) ls) (sym lanes)));
    }
