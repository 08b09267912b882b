use Rattle.trace_text.proofs.Fitting.{fitting_steps}
use Rattle.trace_text.proofs.laws.fitting_steps_have_texts.Goals as goal

pub returns : goal.returns
returns c = fitting_steps
