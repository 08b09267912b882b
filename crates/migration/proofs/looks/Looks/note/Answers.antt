use Rattle.std.proofs.Common.{List, Option, Some, ap, slice_set, ◌∙◌}
use Rattle.std.proofs.lemmas.List.{map-set}
use Rattle.flat_policy.specs.Policy.Aim.{Look, loaded}
use Rattle.migration.specs.Looks.{noted}
use Rattle.migration.specs.declared.looks.Note.TheVariants.{Load}
use Rattle.migration.proofs.Among.{noted_among}
use Rattle.migration.proofs.looks.Looks.note.Goals as goal

pub returns-clause-noted : goal.returns-clause-noted
returns-clause-noted c =
    map-set noted c.self.inside.notes c.args.c (Some (Load c.args.load))
    ∙ ap (λ (looks : List (Option Look)). slice_set looks c.args.c (Some (loaded c.args.load))) c.self.view_is

pub returns-clause-among : goal.returns-clause-among
returns-clause-among c = noted_among c.args.self.now _ c.args.c (loaded c.args.load) (returns-clause-noted c)
