use Rattle.std.proofs.Common.{ap, sym, ◌∙◌, arith}
use Rattle.rights.specs.Values.{Insight}
use Rattle.rights.proofs.Steps.{confirms}
use Rattle.rights.proofs.desk.Desk.confirm.Goals as goal

pub load-requires : goal.load-requires
load-requires c = (
  ap (λ (k : Insight). k.desk) c.token.view_is ∙ c.requires.own ∙ sym c.self.view_is,
  omega (arith, c.self.invariant),
  confirms _ _ _ _,
)
