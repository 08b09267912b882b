-- The setup line, and the beginning of a replay behind it.
use Rattle.std.specs.Io.KnownBytes.{Consumes}
use Rattle.std.specs.Prelude.{Err, List, Ok, Option, Result, [], false, length, ℕ, ⊤, ◌++◌, ◌+◌, ◌<◌, ◌≡◌, ◌≤◌}
use Rattle.sched_base.specs.Limits.{piece_bytes}
use Rattle.flat_policy.specs.Policy.Setup.{SetupParts}
use Rattle.flat_policy.specs.Texts.Lines.{newline}
use Rattle.flat_policy.specs.Texts.SetupLines.{read_setup_text, setup_text}
use Rattle.flat_policy.specs.Texts.Streams.{read_setup_line, setup_limit}
use Rattle.ports.specs.Devices.{AppendsPart}
use Rattle.ports.specs.Feeds.{Feed}
use Rattle.ports.specs.LineFeed.{bytes_ahead}
use Rattle.ports.specs.Lines.{HasNoNewline}
use Rattle.trace_replay.specs.Replaying.{Replays}
use Rattle.trace_replay.specs.declared.status.ReplayStatus.{ReplayStatus}
use Rattle.trace_replay.specs.declared.status.ReplayStatus.TheVariants.{BadSetup, OutOfMemory, WriteFault}

-- a line states a setup, or has a fault, unless memory ran out
abbrev pub ReadsSetup : List ℕ → Result SetupParts ReplayStatus → Type 0
ReadsSetup line (Ok setup) = read_setup_text line ≡ Ok setup
ReadsSetup line (Err (BadSetup what)) = read_setup_text line ≡ Err what
ReadsSetup line (Err OutOfMemory) = ⊤
ReadsSetup line (Err _) = ⊥

-- the first line of a source states a setup, and was given
pub record IsFirstLine (setup : SetupParts) (start : Option (List ℕ)) (feed : Feed) (left : Option (List ℕ)) : Type 0 where
  pub reads : read_setup_line feed.line ≡ Ok setup
  pub plain : HasNoNewline feed.line
  pub short : length feed.line ≤ setup_limit
  pub passed : feed.passed ≡ length feed.line + 1
  pub few : length feed.held < piece_bytes
  pub open_still : feed.done ≡ false
  pub consumed : Consumes start (bytes_ahead feed left) (feed.line ++ newline)

-- the replay ends before any line of a step: nothing is written
pub record StopsFirst (start left : Option (List ℕ)) (status : ReplayStatus) : Type 0 where
  pub bytes : List ℕ
  pub consumed : Consumes start left bytes
  pub replays : Replays bytes [] left status

-- the replay does not begin: a part of the setup line is written, or memory ran out and nothing is
abbrev pub StopsBegin : SetupParts → Option (List ℕ) → Option (List ℕ) → ReplayStatus → Type 0
StopsBegin setup old new WriteFault = AppendsPart old new (setup_text setup ++ newline)
StopsBegin setup old new OutOfMemory = new ≡ old
StopsBegin setup old new _ = ⊥
