use Rattle.setup_json.proofs.Again.{setups_again}
use Rattle.setup_json.proofs.laws.setups_read_again.Goals as goal

pub returns : goal.returns
returns c = setups_again
