use Rattle.trace_machine.proofs.Keeping.{keeps_on}
use Rattle.trace_machine.proofs.machine.Machine.stays.Goals as goal

pub returns : goal.returns
returns g c y means = keeps_on c.args.self.now y means c.runs_stay_sound.ensures c.runs_keep_counts.ensures c.runs_stay_within.ensures c.place_is_where_it_stands.ensures
