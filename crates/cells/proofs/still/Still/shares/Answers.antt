use Rattle.std.proofs.Common.{ℕ, ◌*◌, refl, sym, ap, ◌∙◌, subst}
use Rattle.flat_policy.specs.Policy.Setup.{cluster_count}
use Rattle.cells.specs.Making.{IsButFree, at_each}
use Rattle.cells.specs.Stills.{StillParts}
use Rattle.cells.proofs.Giving.{has_minted, lines_below}
use Rattle.cells.proofs.MostMinted.{most_minted}
use Rattle.cells.proofs.still.Still.shares.Goals as goal

pub returns-clause-shares : goal.returns-clause-shares
returns-clause-shares g c =
    c.mint_lines.ensures.lines
    ∙ lines_below (cluster_count g.N.RunName.setup) (4 * c.from-n.result) c.self.inside.clusters c.self.invariant.1
    ∙ ap (λ (turns : ℕ). at_each (cluster_count g.N.RunName.setup) (4 * turns)) c.from-n.ensures

pub returns-clause-minted : goal.returns-clause-minted
returns-clause-minted g c =
    has_minted (4 * c.from-n.result) _ _ _ _ (ap (λ (turns : ℕ). 4 * turns) c.from-n.ensures)
    (subst (λ (s : StillParts). IsButFree c.args.self.now s) (sym c.self.view_is) c.reserve_lines.ensures.but)
    c.mint_lines.ensures.but c.mint_lines-yard.ensures.held refl refl

pub returns-clause-few : goal.returns-clause-few
returns-clause-few g c = most_minted _ c.args.self.now _ (returns-clause-minted g c)
