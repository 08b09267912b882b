use Rattle.setup_json.proofs.Built.{read_setups_built}
use Rattle.setup_json.proofs.laws.read_setups_are_built.Goals as goal

pub returns : goal.returns
returns c = read_setups_built
