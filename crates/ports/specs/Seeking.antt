-- What is right to say of the front of the bytes in hand and to come.
use Rattle.std.specs.Prelude.{◌≡◌, ℕ, ◌+◌, ◌<◌, List, [], length, min, Option}
use Rattle.std.specs.Io.KnownBytes.{IsAtEnd}
use Rattle.ports.specs.Devices.{Rose}
use Rattle.ports.specs.Lines.{EndsAt, IsLong, IsOver, IsOpen}
use Rattle.ports.specs.declared.line_feed.Fed.{Fed}
use Rattle.ports.specs.declared.line_feed.Fed.TheVariants.{Line, Long, Unfinished, End, Fault, Over}

-- each answer, where it is right: `left` is what the source has still to give, and its faults were `before` and are `now`
abbrev pub IsFound : ℕ → ℕ → Option (List ℕ) → ℕ → ℕ → List ℕ → ℕ → Fed → Type 0
IsFound limit counted left before now bytes n Line = EndsAt (min (limit + 1) counted) n bytes
IsFound limit counted left before now bytes n Long = IsLong limit counted bytes
IsFound limit counted left before now bytes n Over = IsOver limit counted bytes
IsFound limit counted left before now bytes n Unfinished = IsOpen limit counted bytes × (0 < length bytes) × IsAtEnd left
IsFound limit counted left before now bytes n End = IsOpen limit counted bytes × (bytes ≡ []) × IsAtEnd left
IsFound limit counted left before now bytes n Fault = IsOpen limit counted bytes × Rose before now

-- how many bytes it took to decide that
abbrev pub decided_behind : ℕ → ℕ → List ℕ → ℕ → Fed → ℕ
decided_behind limit counted bytes n Line = n + 1
decided_behind limit counted bytes n Long = limit + 1
decided_behind limit counted bytes n Over = counted + 1
decided_behind limit counted bytes n Unfinished = length bytes
decided_behind limit counted bytes n End = length bytes
decided_behind limit counted bytes n Fault = length bytes
