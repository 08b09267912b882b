use Rattle.flat_policy.proofs.SetupRows.{lengths_for_all}
use Rattle.flat_policy.proofs.setup.lists.time_row.Goals as goal

pub returns-clause-sixes : goal.returns-clause-sixes
returns-clause-sixes c = lengths_for_all c.args.rows.now 6 c.told-rows
