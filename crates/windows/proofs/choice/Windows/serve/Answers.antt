use Rattle.std.proofs.Common.{ap, sym, ◌∙◌}
use Rattle.flat_policy.specs.Policy.Windows.{window_after}
use Rattle.windows.proofs.choice.Windows.serve.Goals as goal

pub returns-in-Some : goal.returns-in-Some
returns-in-Some c =
    let w = c.args.self.now in
    c.put.ensures (window_after w.times c.args.now c.args.kind) (ap (window_after w.times c.args.now c.args.kind) c.window.ensures.state ∙ c.in-Some.ensures c.args.lane w.times c.times.ensures)

pub returns-in_default : goal.returns-in_default
returns-in_default c =
    let w = c.args.self.now in
    let read = c.window.ensures.state in
    c.window.ensures.stays (window_after w.times c.args.now c.args.kind) (ap (window_after w.times c.args.now c.args.kind) read ∙ c.in_default.ensures c.args.lane w.times c.times.ensures ∙ sym read)
