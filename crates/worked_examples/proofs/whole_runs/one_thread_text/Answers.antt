-- The numbers' digits compute.
use Rattle.std.proofs.Common.{rules}
use Rattle.std.specs.Fmt.{digits}
use Rattle.worked_examples.proofs.whole_runs.one_thread_text.Goals as goal

pub returns : goal.returns
unfolding digits
returns c = search rules
