-- What the load answers and writes.
use Rattle.std.specs.Prelude.{List, Option, ℕ, ◌≡◌}
use Rattle.std.specs.Io.KnownBytes.{Appends}
use Rattle.flat_policy.specs.Runs.LoadTrace.{Load}
use Rattle.ports.specs.Devices.{AppendsPart}
use Rattle.trace_replay.specs.declared.status.ReplayStatus.{ReplayStatus}
use Rattle.trace_replay.specs.declared.status.ReplayStatus.TheVariants.{Done, OutOfMemory, WriteFault}

-- the load of a seed and so many steps is done and its summary written, or a front of that, or memory ran out and nothing is written
abbrev pub MakesLoad : ℕ → ℕ → Option (List ℕ) → Option (List ℕ) → ReplayStatus → Type 0
MakesLoad seed steps old new Done = Appends old new (Load seed steps)
MakesLoad seed steps old new WriteFault = AppendsPart old new (Load seed steps)
MakesLoad seed steps old new OutOfMemory = new ≡ old
MakesLoad seed steps old new _ = ⊥
