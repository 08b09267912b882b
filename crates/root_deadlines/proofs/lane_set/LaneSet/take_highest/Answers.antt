use Rattle.std.proofs.Common.{◌≡◌, ap, arith, sym, ◌∙◌}
use Rattle.std.specs.Option.{option_and_then}
use Rattle.std.specs.Prelude.{slice_get}
use Rattle.std.proofs.lemmas.Option.{slice_get_past}
use Rattle.flat_policy.specs.Policy.Queue.{timeshare_lanes}
use Rattle.root_deadlines.proofs.Lowest.{behind_is, lowest_is}
use Rattle.root_deadlines.proofs.lane_set.LaneSet.take_highest.Goals as goal
use Rattle.root_deadlines.proofs.lane_set.LaneSet.take_highest.Goals.{then-lowest_bit-lt10, else-lowest_bit-lt10}

pub returns-clause-highest : goal.returns-clause-highest
returns-clause-highest c =
    elim c.if-lowest_bit-lt10.branch [
      | then-lowest_bit-lt10 w ↦ ap (option_and_then (slice_get timeshare_lanes)) w.result-is ∙ rw (← c.self.view_is) (lowest_is c.self.inside.bits)
      | else-lowest_bit-lt10 w ↦ ap (option_and_then (slice_get timeshare_lanes)) w.result-is
          ∙ rw (← c.self.view_is) (sym (slice_get_past timeshare_lanes _ (omega (arith, w.if-lowest_bit-lt10.false))) ∙ lowest_is c.self.inside.bits)
    ]

pub returns-clause-rest : goal.returns-clause-rest
returns-clause-rest c = rw (← c.self.view_is) (behind_is c.self.inside.bits (omega arith))
