use Rattle.std.proofs.Common.{◌≡◌, ℕ, List, Option, Some, subst}
use Rattle.cells.specs.Held.{HeldParts, Keeps}
use Rattle.cells.specs.Stills.{held_at}
use Rattle.cells.proofs.Placing.{each_of_eight}
use Rattle.cells.proofs.clusters.Clusters.keeps.Goals as goal

pub returns : goal.returns
returns g c =
    subst (λ (hs : List (Option HeldParts)). (k : ℕ) (h : HeldParts) → held_at hs k ≡ Some h → Keeps g.N.RunName.setup g.N.RunName.programs g.N.RunName.desks k h) c.self.view_is
    (each_of_eight (Keeps g.N.RunName.setup g.N.RunName.programs g.N.RunName.desks) _ _ _ _ _ _ _ _
    c.keeps_in.ensures c.keeps_in-2.ensures c.keeps_in-3.ensures c.keeps_in-4.ensures c.keeps_in-5.ensures c.keeps_in-6.ensures c.keeps_in-7.ensures c.keeps_in-8.ensures)
