use Rattle.flat_policy.proofs.Takers.{takes_rightly}
use Rattle.flat_policy.proofs.laws.takers_may_take.Goals as goal

pub returns : goal.returns
returns c = λ setup front back e g end before after. takes_rightly setup g e after.1
