use Rattle.setup_json.proofs.SetupsInLines.{setups_in_lines}
use Rattle.setup_json.proofs.laws.setups_stand_in_lines.Goals as goal

pub returns : goal.returns
returns c = setups_in_lines
