use Rattle.std.proofs.Common.{ap}
use Rattle.flat_policy.specs.Policy.Machine.{outcome_by}
use Rattle.flat_policy.proofs.laws.refusals_change_nothing.Goals as goal

pub returns : goal.returns
returns c = λ setup g step a h. record {
  answer = ap (λ r. (outcome_by setup g step r).answer) h;
  thread = ap (λ r. (outcome_by setup g step r).thread) h;
  state = ap (λ r. (outcome_by setup g step r).state) h;
}
