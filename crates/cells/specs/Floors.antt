-- What is known of a value that was found behind its lock.
use Rattle.std.specs.Prelude.{List, ℕ}
use Rattle.rights.specs.Values.{DeskId}
use Rattle.flat_policy.specs.Policy.Setup.{SetupParts}
use Rattle.flat_policy.specs.Runs.Worker.{Program}
use Rattle.cells.specs.Held.{HeldParts, Keeps}
use Rattle.cells.specs.Yards.{KeepsYard, YardParts}

-- this is told of some held cluster of a run that kept all that its type keeps
pub record SomeHeld (setup : SetupParts) (programs : List Program) (desks : List DeskId) (c : ℕ) (Told : HeldParts → Type 0) : Type 0 where
  pub held : HeldParts
  pub kept : Keeps setup programs desks c held
  pub told : Told held

-- this is told of some held yard of a run that kept all that its type keeps
pub record SomeYard (setup : SetupParts) (programs : List Program) (desks : List DeskId) (Told : YardParts → Type 0) : Type 0 where
  pub held : YardParts
  pub kept : KeepsYard setup programs desks held
  pub told : Told held
