use Rattle.std.proofs.Common.{ap}
use Rattle.std.specs.Prelude.{slice_index_or}
use Rattle.flat_policy.specs.declared.lanes.Starved.TheVariants.{No}
use Rattle.flat_policy.specs.declared.lanes.Warp.TheVariants.{Unused}
use Rattle.windows.specs.declared.choice.Marks.{Marks}
use Rattle.windows.proofs.AtIndex.{read_at}
use Rattle.windows.proofs.Running.{stays_of}
use Rattle.windows.proofs.choice.Windows.window.Goals as goal

pub returns-clause-state : goal.returns-clause-state
returns-clause-state c =
    let none : Marks = record { warp = Unused; starved = No } in
    let marks = c.self.inside.marks in
    rw (← c.self.view_is, c.deadline.ensures)
    (read_at c.args.lane.bucket c.args.lane.bound (slice_index_or marks c.lane_index.result none) none c.self.inside.lanes.deadlines marks
    c.requires c.self.invariant.deadlines c.self.invariant.marks (ap (λ k. slice_index_or marks k none) c.lane_index.ensures.index))

pub returns-clause-stays : goal.returns-clause-stays
returns-clause-stays c change same =
    let i = c.self.inside in
    stays_of i.times i.lanes i.marks i.running c.self.invariant c.args.self.now c.self.view_is c.args.lane.bucket c.args.lane.bound c.requires (λ ts. change) same
