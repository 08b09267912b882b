use Rattle.trace_machine.proofs.LiveNames.{blocked_within}
use Rattle.trace_machine.proofs.laws.blocked_are_live.Goals as goal

pub returns : goal.returns
returns c setup history end run = blocked_within end (c.runs_keep_counts.ensures setup history end run)
