use Rattle.stealing.proofs.Changed.{lacks_none}
use Rattle.stealing.proofs.laws.lacks_where_none.Goals as goal

pub returns : goal.returns
returns c = lacks_none c.held_are_live.ensures
