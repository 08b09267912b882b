use Rattle.std.proofs.Common.{List, None, Option, Some, ap, sym, ◌∙◌}
use Rattle.flat_policy.specs.Policy.Aim.{Look, Target, aim_among, cluster_or, lighter, targets}
use Rattle.flat_policy.specs.Policy.Unpreceded.{unpreceded}
use Rattle.migration.specs.Looks.{seen}
use Rattle.migration.specs.declared.looks.Note.{Note}
use Rattle.migration.proofs.Best.{best_is_unpreceded, filter-all}
use Rattle.migration.proofs.looks.Looks.aim_from.Goals as goal

pub returns-in-Some-Load : goal.returns-in-Some-Load
returns-in-Some-Load c = λ setup is edges.
    c.cluster_or.ensures
    ∙ ap (cluster_or c.args.prefer) (c.best.ensures setup edges ∙ best_is_unpreceded setup is c.args.self.now c.args.prefer (Some c.in-Some-Load.load))
    ∙ ap (λ (o : Option Look). aim_among c.args.prefer o (targets setup c.args.self.now c.args.prefer))
    (sym (ap (λ (n : Note). Some (seen n)) c.in-Some-Load.field-0-is) ∙ c.in-Some-Load.ensures)

pub returns-in-Some-Off : goal.returns-in-Some-Off
returns-in-Some-Off c = λ setup is edges.
    c.cluster_or-in-Some-Off.ensures
    ∙ ap (cluster_or c.args.prefer)
    (c.best-in-Some-Off.ensures setup edges
    ∙ best_is_unpreceded setup is c.args.self.now c.args.prefer None
    ∙ ap (λ (xs : List Target). unpreceded lighter xs) (filter-all (targets setup c.args.self.now c.args.prefer)))
    ∙ ap (λ (o : Option Look). aim_among c.args.prefer o (targets setup c.args.self.now c.args.prefer))
    (sym (ap (λ (n : Note). Some (seen n)) c.in-Some-Off.field-0-is) ∙ c.in-Some-Off.ensures)
