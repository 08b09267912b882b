-- A replay with its devices: `start` is what the source had to give and `begun` what the sink had taken when it began.
use Rattle.std.specs.Io.KnownBytes.{Appends, Consumes}
use Rattle.std.specs.Prelude.{List, Option, false, length, ℕ, ◌++◌, ◌+◌, ◌<◌, ◌≡◌, ◌≢◌, ◌≤◌}
use Rattle.sched_base.specs.Limits.{piece_bytes}
use Rattle.flat_policy.specs.Policy.Machine.{MachineState}
use Rattle.ports.specs.Feeds.{Feed}
use Rattle.ports.specs.LineFeed.{bytes_ahead}
use Rattle.trace_machine.specs.Machines.{Means}
use Rattle.trace_replay.specs.Replaying.{IsFront, IsReadLittle, Replays}
use Rattle.trace_replay.specs.SoFar.{SoFar}
use Rattle.trace_replay.specs.Traces.{TraceView, setup_of}
use Rattle.trace_replay.specs.declared.status.ReplayStatus.{ReplayStatus}
use Rattle.trace_replay.specs.declared.status.ReplayStatus.TheVariants.{OutOfMemory}

-- every line that was given is answered; a part of the answers is put, and the rest stands on the page
pub record IsUnderWay (start begun : Option (List ℕ)) (t : TraceView) (feed : Feed) (left taken : Option (List ℕ)) : Type 0 where
  pub bytes : List ℕ
  pub put : List ℕ
  pub state : MachineState
  pub means : Means t.machine state
  pub lines : SoFar (setup_of t) bytes (put ++ t.page) t.line state
  pub steps : t.machine.steps + 2 ≤ t.line
  pub number : t.line ≤ length bytes + 2
  pub passed : feed.passed ≡ length bytes
  pub few : length feed.held < piece_bytes
  pub open_still : feed.done ≡ false
  pub consumed : Consumes start (bytes_ahead feed left) bytes
  pub written : Appends begun taken put

-- it stops with a status: what is put, and then the page, is right by the bytes that were taken
pub record IsStopped (start begun : Option (List ℕ)) (page : List ℕ) (left taken : Option (List ℕ)) (status : ReplayStatus) : Type 0 where
  pub bytes : List ℕ
  pub put : List ℕ
  pub consumed : Consumes start left bytes
  pub written : Appends begun taken put
  pub replays : Replays bytes (put ++ page) left status
  pub front : IsFront bytes (put ++ page)
  pub little : status ≢ OutOfMemory → IsReadLittle bytes

-- it has ended with a status, which is right by the bytes that were taken
pub record HasEnded (start begun left taken : Option (List ℕ)) (status : ReplayStatus) : Type 0 where
  pub bytes : List ℕ
  pub text : List ℕ
  pub consumed : Consumes start left bytes
  pub written : Appends begun taken text
  pub replays : Replays bytes text left status
