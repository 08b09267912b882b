use Rattle.std.proofs.Common.{refl, sym}
use Rattle.cells.specs.Held.{HeldParts}
use Rattle.cells.specs.Making.{with_free}
use Rattle.cells.proofs.Giving.{but_same}
use Rattle.cells.proofs.clusters.giving.reserve_lines_in.Goals as goal

pub returns-else-fine-clause-but : goal.returns-else-fine-clause-but
returns-else-fine-clause-but g c = but_same with_free (λ (h : HeldParts). h.journal.free) (λ h. refl) _ _ (sym c.in-Some.is)
