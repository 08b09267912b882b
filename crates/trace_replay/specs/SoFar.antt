-- A replay under way: the lines that were answered, and what is left to answer and to write.
use Rattle.std.specs.Prelude.{List, length, take, ℕ, ◌++◌, ◌≡◌, ◌≤◌}
use Rattle.sched_base.specs.Limits.{input_bytes}
use Rattle.flat_policy.specs.Policy.Machine.{MachineState}
use Rattle.flat_policy.specs.Policy.Setup.{SetupParts}
use Rattle.flat_policy.specs.Texts.Streams.{StatusOf, Stop, after_text, fault_met, judge_lines, judged, read_fault, text_lines}

-- these bytes are lines that were answered by this text, whatever follows them: they decide nothing yet, and the machine is in this state
-- before the line of this number
pub record SoFar (setup : SetupParts) (bytes text : List ℕ) (number : ℕ) (g : MachineState) : Type 0 where
  pub within : length bytes ≤ input_bytes
  pub goes : (tail : List ℕ) (stop : Stop) → judged (bytes ++ tail) stop ≡ after_text text (judge_lines setup stop (text_lines tail).rest number (text_lines tail).whole g)
  pub undecided : (m : ℕ) → StatusOf (take m bytes) fault_met ≡ read_fault
