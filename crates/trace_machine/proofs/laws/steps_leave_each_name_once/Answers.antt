use Rattle.flat_policy.specs.Policy.Machine.{empty_machine, replies, states_after}
use Rattle.trace_machine.proofs.laws.steps_leave_each_name_once.Goals as goal

pub returns : goal.returns
returns c setup steps fits =
    c.runs_keep_counts.ensures setup (replies setup (empty_machine setup) steps) (states_after setup (empty_machine setup) steps)
    (c.replies_are_histories.ensures setup steps fits)
