-- What bytes in hand decide by themselves.
use Rattle.std.specs.Prelude.{ℕ, ◌+◌, List, min, Option, None, Some}
use Rattle.ports.specs.Lines.{EndsAt, IsLong, IsOver, IsOpen}
use Rattle.ports.specs.declared.line_feed.Fed.{Fed}
use Rattle.ports.specs.declared.line_feed.Fed.TheVariants.{Line, Long, Unfinished, End, Fault, Over}
use Rattle.ports.specs.declared.judging.Found.{Found}

-- each answer, where the bytes decide it: a line of n bytes, or one that is too long or past the bytes that count
abbrev pub IsDecided : ℕ → ℕ → List ℕ → ℕ → Fed → Type 0
IsDecided limit counted bytes n Line = EndsAt (min (limit + 1) counted) n bytes
IsDecided limit counted bytes n Long = IsLong limit counted bytes
IsDecided limit counted bytes n Over = IsOver limit counted bytes
IsDecided limit counted bytes n Unfinished = ⊥
IsDecided limit counted bytes n End = ⊥
IsDecided limit counted bytes n Fault = ⊥

-- what is found is decided by the bytes, and nothing is found where that depends on the bytes to come
abbrev pub IsJudged : ℕ → ℕ → List ℕ → Option Found → Type 0
IsJudged limit counted bytes None = IsOpen limit counted bytes
IsJudged limit counted bytes (Some found) = IsDecided limit counted bytes found.length found.answer
