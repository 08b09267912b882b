use Rattle.std.proofs.Common.{ℕ, ap, sym, ◌∙◌, subst, arith}
use Rattle.rights.specs.declared.view.View.{View}
use Rattle.rights.specs.Rule.{MayMint}
use Rattle.rights.specs.Values.{Insight}
use Rattle.rights.proofs.Steps.{mints}
use Rattle.rights.proofs.desk.Desk.mint_by.Goals as goal

pub load-requires : goal.load-requires
load-requires g c = (
  ap (λ (k : Insight). k.desk) c.book.view_is ∙ c.requires.own ∙ sym c.self.view_is,
  omega (arith, c.self.invariant),
  mints _ _ _ _ _ (subst (λ (p : ℕ × View). MayMint p.0 p.1) (λ i. (c.requires.count i, sym (ap (λ (k : Insight). k.view) c.book.view_is) i)) c.requires.room),
)
