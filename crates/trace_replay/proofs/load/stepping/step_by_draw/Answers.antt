use Rattle.trace_replay.proofs.LoadSteps.{step_fits}
use Rattle.trace_replay.proofs.load.stepping.step_by_draw.Goals as goal

pub returns-clause-fits : goal.returns-clause-fits
returns-clause-fits g c = step_fits c.args.i c.args.r c.act.result c.requires.few c.act.ensures.fits
