-- What a replay answers and writes, by the bytes that it took.
use Rattle.std.specs.Io.{StartsWith}
use Rattle.std.specs.Io.KnownBytes.{Appends, IsAtEnd}
use Rattle.std.specs.Prelude.{List, Option, if◌then◌else◌, length, nat_le, take, ℕ, ⊤, ◌++◌, ◌+◌, ◌-◌, ◌<◌, ◌≡◌, ◌≢◌, ◌≤◌, ◌⊎◌}
use Rattle.sched_base.specs.Limits.{input_bytes, piece_bytes}
use Rattle.flat_policy.specs.Texts.Streams.{Out, Status, StatusOf, Stop, bad_line, bad_setup, differs, done, end_met, fault_met, over_met, read_fault, too_long}
use Rattle.trace_replay.specs.declared.status.ReplayStatus.{ReplayStatus}
use Rattle.trace_replay.specs.declared.status.ReplayStatus.TheVariants as statuses

-- the status in code of a status
abbrev pub status_in : Status → ReplayStatus
status_in done = statuses.Done
status_in (bad_setup what) = statuses.BadSetup what
status_in (bad_line line what) = statuses.BadLine line what
status_in (differs line) = statuses.Differs line
status_in too_long = statuses.TooLong
status_in read_fault = statuses.ReadFault

-- the bytes that count: the first 67,108,864
abbrev pub counting : List ℕ → List ℕ
counting bytes = take input_bytes bytes

-- some bytes come to this output and this status, where the reading of them stops so
pub record ComesTo (bytes : List ℕ) (stop : Stop) (text : List ℕ) (status : Status) : Type 0 where
  pub writes : Out (counting bytes) stop ≡ text
  pub answers : StatusOf (counting bytes) stop ≡ status

-- some bytes decide the output and the status, whatever follows them and however the reading stops
abbrev pub IsDecided : List ℕ → List ℕ → Status → Type 0
IsDecided bytes text status = (more : List ℕ) (stop : Stop) → ComesTo (bytes ++ more) stop text status

-- the bytes are a whole input, which comes to this output and this status
pub record IsWhole (bytes text : List ℕ) (left : Option (List ℕ)) (status : Status) : Type 0 where
  pub ended : IsAtEnd left
  pub within : length bytes ≤ input_bytes
  pub comes : ComesTo bytes end_met text status

-- fewer bytes than a piece were taken beyond the one that decided: without the last piece of them nothing is decided
abbrev pub IsDecidedLate : List ℕ → Type 0
IsDecidedLate bytes = StatusOf (take (length bytes - piece_bytes) bytes) fault_met ≡ read_fault

-- a line is faulty: the bytes decide that, or it is where the input ends
pub record IsFaulty (bytes text : List ℕ) (left : Option (List ℕ)) (status : Status) : Type 0 where
  pub decided : IsDecided bytes text status ⊎ IsWhole bytes text left status
  pub late : IsDecidedLate bytes

-- a text is a front of the output
abbrev pub IsFront : List ℕ → List ℕ → Type 0
IsFront bytes text = StartsWith (Out (counting bytes) end_met) text

-- a line of the bytes is faulty
abbrev pub HasFault : List ℕ → Type 0
HasFault bytes = StatusOf (counting bytes) fault_met ≢ read_fault

-- the first n bytes are whole lines without a fault, and fewer bytes than a piece were taken beyond them
pub record IsReadTo (bytes : List ℕ) (n : ℕ) : Type 0 where
  pub lines : StatusOf (take n bytes) end_met ≡ done
  pub ahead : length bytes < n + piece_bytes

-- fewer bytes than a piece were taken beyond the last line that was judged
abbrev pub IsReadLittle : List ℕ → Type 0
IsReadLittle bytes = (HasFault bytes × IsDecidedLate bytes) ⊎ ((n : ℕ) × IsReadTo bytes n)

-- a replay took these bytes, wrote this text, and answered this: `left` is what the source has still to give
abbrev pub Replays : List ℕ → List ℕ → Option (List ℕ) → ReplayStatus → Type 0
Replays bytes text left statuses.Done = IsWhole bytes text left done
Replays bytes text left statuses.Usage = ⊥
Replays bytes text left (statuses.BadSetup what) = IsFaulty bytes text left (bad_setup what)
Replays bytes text left (statuses.BadLine line what) = IsFaulty bytes text left (bad_line line what)
Replays bytes text left (statuses.Differs line) = IsFaulty bytes text left (differs line)
Replays bytes text left statuses.TooLong = (length bytes ≡ input_bytes + 1) × ComesTo bytes over_met text too_long
Replays bytes text left statuses.ReadFault = (length bytes ≤ input_bytes) × ComesTo bytes fault_met text read_fault
Replays bytes text left statuses.WriteFault = IsFront bytes text × IsReadLittle bytes
Replays bytes text left statuses.OutOfMemory = IsFront bytes text

-- how the reading of a whole input stops
abbrev pub stop_of : List ℕ → Stop
stop_of bytes = if nat_le (length bytes) input_bytes then end_met else over_met

-- no device failed and memory did not run out
abbrev pub IsUncut : ReplayStatus → Type 0
IsUncut statuses.ReadFault = ⊥
IsUncut statuses.WriteFault = ⊥
IsUncut statuses.OutOfMemory = ⊥
IsUncut _ = ⊤

-- the status is that of a whole input, and its output was written, unless a device failed or memory ran out
abbrev pub IsOfWhole : List ℕ → Option (List ℕ) → Option (List ℕ) → ReplayStatus → Type 0
IsOfWhole bytes old new status =
    IsUncut status → (status ≡ status_in (StatusOf (counting bytes) (stop_of bytes))) × Appends old new (Out (counting bytes) (stop_of bytes))
