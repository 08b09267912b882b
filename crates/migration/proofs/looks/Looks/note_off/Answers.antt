use Rattle.std.proofs.Common.{List, Option, Some, ap, slice_set, ◌∙◌}
use Rattle.std.proofs.lemmas.List.{map-set}
use Rattle.flat_policy.specs.Policy.Aim.{Look, off}
use Rattle.migration.specs.Looks.{noted}
use Rattle.migration.specs.declared.looks.Note.TheVariants.{Off}
use Rattle.migration.proofs.Among.{noted_among}
use Rattle.migration.proofs.looks.Looks.note_off.Goals as goal

pub returns-clause-noted : goal.returns-clause-noted
returns-clause-noted c =
    map-set noted c.self.inside.notes c.args.c (Some Off)
    ∙ ap (λ (looks : List (Option Look)). slice_set looks c.args.c (Some off)) c.self.view_is

pub returns-clause-among : goal.returns-clause-among
returns-clause-among c = noted_among c.args.self.now _ c.args.c off (returns-clause-noted c)
