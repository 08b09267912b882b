use Rattle.std.proofs.Common.{ap, sym, ◌∙◌, arith}
use Rattle.rights.specs.Rule.{books_of}
use Rattle.rights.specs.Values.{Insight}
use Rattle.rights.proofs.Steps.{joins}
use Rattle.rights.proofs.desk.Desk.join.Goals as goal

pub join_seat-requires : goal.join_seat-requires
join_seat-requires c = (
  ap (λ (k : Insight). k.desk) c.token.view_is ∙ c.requires.own.0 ∙ sym c.self.view_is,
  ap (λ (k : Insight). k.desk) c.other.view_is ∙ c.requires.own.1 ∙ sym c.self.view_is,
  c.other.invariant,
  omega (arith, c.self.invariant),
  joins _ _ _ _ (ap (λ (k : Insight). books_of k.view) c.other.view_is ∙ c.requires.share),
)
