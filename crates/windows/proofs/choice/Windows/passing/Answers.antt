use Rattle.std.proofs.Common.{◌≡◌, ◌∙◌}
use Rattle.windows.specs.Views.{windows_over}
use Rattle.windows.proofs.FlagIndices.{by_index, passing_by_index}
use Rattle.windows.proofs.Passing.{first_passing}
use Rattle.windows.proofs.choice.Windows.passing.Goals as goal

pub returns-clause-passing : goal.returns-clause-passing
returns-clause-passing c =
    let w = c.args.self.now in
    let pass : c.with-found-10.result ≡ passing_by_index w.times c.args.set.now w.lanes = cc in
    let inside = c.self.inside in
    let ten = c.self.invariant in
    rw (pass, ← c.self.view_is)
    (by_index inside.times c.args.set.now inside.lanes.deadlines inside.marks c.requires ten.deadlines ten.marks
    ∙ first_passing inside.times c.args.set.now (windows_over inside.lanes.deadlines inside.marks))
