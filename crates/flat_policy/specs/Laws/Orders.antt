-- Laws of the choices among lanes and among targets: each goes by a strict order, so that it has one answer.
use Rattle.std.specs.Prelude.{List, ℕ}
use Rattle.flat_policy.specs.Policy.Aim.{Target, lighter}
use Rattle.flat_policy.specs.Laws.Choice.{OrdersMembers}
use Rattle.flat_policy.specs.Policy.Queue.{Flat, LaneState}
use Rattle.flat_policy.specs.Policy.WellFormed.{WellFormed}
use Rattle.flat_policy.specs.Policy.Windows.{due_before, stands_higher}

-- the lanes of a queue stand in a strict order by when they are due, and in one by how high they stand
pub record LanesInOrder (s : Flat) : Type 0 where
  pub due : OrdersMembers due_before s.lanes
  pub higher : OrdersMembers (λ (x y : LaneState). stands_higher x.lane y.lane) s.lanes

-- the lanes of every well-formed queue stand so
abbrev pub LanesAreOrdered : Type 0
LanesAreOrdered = (groups : ℕ) (s : Flat) → WellFormed groups s → LanesInOrder s

-- targets stand in a strict order by their load with the edge's weight, and by cluster
abbrev pub TargetsAreOrdered : Type 0
TargetsAreOrdered = (xs : List Target) → OrdersMembers lighter xs
