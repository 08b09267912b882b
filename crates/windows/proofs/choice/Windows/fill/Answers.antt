use Rattle.std.proofs.Common.{◌≡◌, ap, sym, ◌∙◌}
use Rattle.flat_policy.specs.Policy.Windows.{at_lane, renewed_deadline}
use Rattle.windows.specs.OneLane.{lane_window}
use Rattle.windows.specs.WindowStates.{WindowState, state_of_lane}
use Rattle.windows.proofs.choice.Windows.fill.Goals as goal

pub returns : goal.returns
returns c =
    let w = c.args.self.now in
    let renewed = renewed_deadline w.times c.args.now in
    let read : renewed (state_of_lane c.flag.new.self c.args.lane) ≡ lane_window c.args.lane c.renewed-renewed.result =
    ap (λ (v : WindowState). renewed (state_of_lane v c.args.lane)) c.flag.ensures
    ∙ ap renewed c.window.ensures.state
    ∙ sym (c.renewed-renewed.ensures c.args.lane w.times c.times.ensures) in
    c.put.ensures renewed read
    ∙ ap (λ (v : WindowState). record v { lanes = at_lane c.args.lane renewed v.lanes }) c.flag.ensures
