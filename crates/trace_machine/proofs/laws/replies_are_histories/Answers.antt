use Rattle.flat_policy.specs.Policy.Machine.{empty_machine}
use Rattle.trace_machine.proofs.Histories.{replies_run}
use Rattle.trace_machine.proofs.laws.replies_are_histories.Goals as goal

pub returns : goal.returns
returns c setup steps fits = replies_run setup (empty_machine setup) steps c.steps_keep_sound.ensures (c.empty_is_sound.ensures setup) fits
