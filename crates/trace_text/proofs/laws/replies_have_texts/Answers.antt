use Rattle.trace_text.proofs.FittingReplies.{replies_fit}
use Rattle.trace_text.proofs.laws.replies_have_texts.Goals as goal

pub returns : goal.returns
returns c = replies_fit c.aim_may_be_entered.ensures c.fitting_prefers_among.ensures
