use Rattle.std.proofs.Common.{◌≡◌, List, true, cond, map, refl, ap, sym, ◌∙◌}
use Rattle.std.proofs.lemmas.Bool.{cond-false}
use Rattle.flat_policy.specs.Policy.Queue.{LaneState, has_entries, same_lane}
use Rattle.flat_policy.specs.Policy.Windows.{at_lane, renewed_deadline}
use Rattle.windows.specs.WindowStates.{WindowState}
use Rattle.plain_cluster.specs.Queues.{flat_of}
use Rattle.plain_cluster.proofs.Flags.{flags_apart, flags_filled, lanes_stay, not_ui_at}
use Rattle.plain_cluster.proofs.queue.Queue.fill_lane.Goals as goal

pub returns-in-Ui-clause-lanes : goal.returns-in-Ui-clause-lanes
returns-in-Ui-clause-lanes c =
    let q = c.args.self.now in
    let w = q.windows in
    let f = renewed_deadline w.times c.args.now in
    sym (cond-false (has_entries (flat_of q) c.args.lane) w.lanes (at_lane c.args.lane f w.lanes) (sym c.has_lane.ensures ∙ c.if-has_lane.false)
    ∙ lanes_stay c.args.lane f w.lanes (not_ui_at w.lanes c.args.lane c.in-Ui.is c.requires.ten))

pub returns-in-Ui-clause-filled : goal.returns-in-Ui-clause-filled
returns-in-Ui-clause-filled c =
    let q = c.args.self.now in
    let w = q.windows in
    flags_apart c.filling_follows.ensures (has_entries (flat_of q)) c.args.lane w.lanes w.filled c.requires.flags (not_ui_at w.lanes c.args.lane c.in-Ui.is c.requires.ten)

pub returns-in-Fg : goal.returns-in-Fg
returns-in-Fg c =
    let q = c.args.self.now in
    let w = q.windows in
    let f = renewed_deadline w.times c.args.now in
    let is = c.fill.ensures in
    let lanes : c.fill.new.self.lanes ≡ at_lane c.args.lane f w.lanes = ap (λ (v : WindowState). v.lanes) is in
    record {
      same = refl;
      lanes = lanes ∙ sym (cond-false (has_entries (flat_of q) c.args.lane) w.lanes (at_lane c.args.lane f w.lanes) (sym c.has_lane.ensures ∙ c.if-has_lane.false));
      times = ap (λ (v : WindowState). v.times) is;
      filled = ap (λ (v : WindowState). v.filled) is
          ∙ (flags_filled c.filling_follows.ensures (has_entries (flat_of q)) w.times c.args.now c.args.lane w.lanes w.filled c.requires.flags
          ∙ ap (λ (ls : List LaneState). map (λ (l : LaneState). cond (same_lane l.lane c.args.lane) true (has_entries (flat_of q) l.lane)) ls) (sym lanes));
    }
