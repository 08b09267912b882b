-- Laws of the pick: the orders are strict, the chosen lane has entries, and there is one pick where the queue isn't empty.
use Rattle.std.specs.Prelude.{List, Some, is_some, true, ℕ, ◌≡◌, ◌↔◌}
use Rattle.bucket_tables.specs.declared.Lane.{Lane}
use Rattle.flat_policy.specs.declared.setup.Times.{Times}
use Rattle.flat_policy.specs.Laws.Choice.{OrdersMembers, has_member}
use Rattle.flat_policy.specs.Policy.Moves.{goes_before, pick}
use Rattle.flat_policy.specs.Policy.Precedence.{precedes}
use Rattle.flat_policy.specs.Policy.Queue.{Flat, Queued, has_entries, in_lane, lane_entries}
use Rattle.flat_policy.specs.Policy.Unpreceded.{IsUnpreceded}
use Rattle.flat_policy.specs.Policy.WellFormed.{WellFormed}
use Rattle.flat_policy.specs.Policy.Windows.{Choice, chosen, expired}

-- which entry of a unit goes first is a strict order of all entries of a queue
abbrev pub PrecedesOrders : Type 0
PrecedesOrders = (groups : ℕ) (s : Flat) → WellFormed groups s → OrdersMembers precedes s.entries

-- which entry goes first in the cluster is a strict order of the entries of the chosen lane
abbrev pub GoesBeforeOrders : Type 0
GoesBeforeOrders = (groups : ℕ) (s : Flat) (at : Lane) → WellFormed groups s → OrdersMembers (goes_before s at) (lane_entries s at)

-- a lane is chosen exactly where there are entries, and it has some
pub record ChoosesFilled (ts : List Times) (s : Flat) : Type 0 where
  pub there : is_some (chosen ts s) ≡ has_member s.entries
  pub filled : (c : Choice) → chosen ts s ≡ Some c → has_entries s c.lane ≡ true

-- every well-formed queue chooses so
abbrev pub ChoosesAFilledLane : Type 0
ChoosesAFilledLane = (groups : ℕ) (ts : List Times) (s : Flat) → WellFormed groups s → ChoosesFilled ts s

-- an entry is the pick: after all windows expire it stands in the chosen lane, and no entry goes before it
pub record IsPick (ts : List Times) (now : ℕ) (s : Flat) (e : Queued) : Type 0 where
  pub choice : Choice
  pub is_chosen : chosen ts (expired ts s now) ≡ Some choice
  pub in_chosen : in_lane choice.lane e ≡ true
  pub first : IsUnpreceded (goes_before (expired ts s now) choice.lane) s.entries e

-- there is a pick exactly where there are entries, and it is the only one
pub record PicksOne (ts : List Times) (now : ℕ) (s : Flat) : Type 0 where
  pub there : is_some (pick ts now s) ≡ has_member s.entries
  pub picked : (e : Queued) → (pick ts now s ≡ Some e) ↔ IsPick ts now s e
  pub only : (e f : Queued) → IsPick ts now s e → IsPick ts now s f → e ≡ f

-- every well-formed queue has one pick where it has entries
abbrev pub PickIsOne : Type 0
PickIsOne = (groups : ℕ) (ts : List Times) (now : ℕ) (s : Flat) → WellFormed groups s → PicksOne ts now s
