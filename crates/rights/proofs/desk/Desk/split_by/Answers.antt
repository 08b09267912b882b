use Rattle.std.proofs.Common.{ℕ, ◌≤◌, ap, sym, ◌∙◌, subst, arith}
use Rattle.rights.specs.declared.view.View.{View}
use Rattle.rights.specs.Rule.{amount_of}
use Rattle.rights.specs.Values.{Insight}
use Rattle.rights.proofs.Steps.{parts}
use Rattle.rights.proofs.desk.Desk.split_by.Goals as goal

pub split_seat-requires : goal.split_seat-requires
split_seat-requires g c = (
  ap (λ (k : Insight). k.desk) c.token.view_is ∙ c.requires.own ∙ sym c.self.view_is,
  omega (arith, c.self.invariant),
  parts _ _ _ (subst (λ (p : ℕ × View). p.0 ≤ amount_of p.1) (λ i. (c.requires.count i, sym (ap (λ (k : Insight). k.view) c.token.view_is) i)) c.requires.enough),
)
