use Rattle.trace_replay.proofs.LoadSteps.{prefers_few}
use Rattle.trace_replay.proofs.load.stepping.act.Goals as goal

pub busy_act-requires : goal.busy_act-requires
busy_act-requires g c =
    prefers_few c.args.machine.now c.args.actor c.hand.result c.in-Some.thread c.runs_stay_sound.ensures c.fitting_prefers_among.ensures
    c.requires.machine c.requires.setup c.requires.actor c.hand.ensures c.in-Some.is
