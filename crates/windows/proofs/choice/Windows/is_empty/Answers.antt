use Rattle.std.proofs.Common.{ap, sym, ◌∙◌}
use Rattle.root_deadlines.specs.Lanes.{filled_among}
use Rattle.windows.specs.Views.{windows_over}
use Rattle.windows.specs.WindowStates.{filled_of}
use Rattle.windows.proofs.Ordered.{none_filled, none_of_lanes}
use Rattle.windows.proofs.AtIndex.{lanes_over}
use Rattle.windows.proofs.choice.Windows.is_empty.Goals as goal

pub returns : goal.returns
returns c =
    let t = c.self.inside.lanes in
    let ws = windows_over t.deadlines c.self.inside.marks in
    let lanes = ap (filled_among t.filled) (lanes_over t.deadlines c.self.inside.marks c.self.invariant.deadlines c.self.invariant.marks) in (
      λ empty. ap filled_of (sym c.self.view_is) ∙ none_filled t.filled ws (lanes ∙ c.is_empty.ensures.0 empty),
      λ none. c.is_empty.ensures.1 (sym lanes ∙ none_of_lanes t.filled ws (ap filled_of c.self.view_is ∙ none)),
    )
