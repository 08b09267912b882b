use Rattle.std.proofs.Common.{Bool, List, ap, true}
use Rattle.windows.specs.Views.{windows_over}
use Rattle.windows.specs.WindowStates.{WindowState}
use Rattle.windows.proofs.FlagIndices.{flag_at}
use Rattle.windows.proofs.choice.Windows.flag.Goals as goal

pub returns : goal.returns
returns c =
    let inside = c.self.inside in
    let ten = c.self.invariant in
    let state : List Bool → WindowState = λ fs. record { times = inside.times; lanes = windows_over inside.lanes.deadlines inside.marks; filled = fs } in
    rw (c.mark_filled.ensures, ← c.self.view_is)
    (ap state (flag_at c.args.lane.bucket c.args.lane.bound true inside.lanes.filled inside.lanes.deadlines inside.marks
    c.requires ten.filled ten.deadlines ten.marks))
