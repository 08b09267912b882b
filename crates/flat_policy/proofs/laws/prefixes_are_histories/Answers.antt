use Rattle.flat_policy.specs.Policy.Machine.{empty_machine}
use Rattle.flat_policy.proofs.Prefixes.{runs_in_parts}
use Rattle.flat_policy.proofs.laws.prefixes_are_histories.Goals as goal

pub returns : goal.returns
returns c = λ setup front back end run. runs_in_parts setup (empty_machine setup) front back end run
