-- What a worked row says.
use Rattle.std.specs.Prelude.{List, ℕ, ◌≡◌}
use Rattle.trace_replay.specs.declared.status.ReplayStatus.{ReplayStatus}
use Rattle.trace_replay.specs.declared.status.ReplayStatus.TheVariants.{Done}

-- a replay ended without a fault, and wrote this output
abbrev pub IsAnswered : ReplayStatus → List ℕ → List ℕ → Type 0
IsAnswered Done written output = written ≡ output
IsAnswered _ written output = ⊥
