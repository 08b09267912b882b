use Rattle.setup_json.proofs.SetupsInLines.{lines_again}
use Rattle.setup_json.proofs.laws.setup_lines_read_again.Goals as goal

pub returns : goal.returns
returns c = lines_again
