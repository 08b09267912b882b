use Rattle.std.proofs.Common.{refl}
use Rattle.migration.proofs.Among.{none_among}
use Rattle.migration.proofs.looks.Looks.new.Goals as goal

pub returns-clause-among : goal.returns-clause-among
returns-clause-among c = none_among _ refl
