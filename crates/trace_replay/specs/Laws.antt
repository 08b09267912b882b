-- What holds of replays, whatever the input.
use Rattle.std.specs.Prelude.{List, ℕ, ◌≡◌}
use Rattle.flat_policy.specs.Texts.Streams.{Replay, done}

-- replaying what was written for an input without a fault writes the same again
abbrev pub ReplayIsIdempotent : Type 0
ReplayIsIdempotent = (bytes text : List ℕ) → Replay bytes ≡ record { out = text; status = done } → Replay text ≡ record { out = text; status = done }
