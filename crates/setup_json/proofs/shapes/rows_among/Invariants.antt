use Rattle.flat_policy.specs.Texts.SetupLines.{array_of_length, whole_number}
use Rattle.setup_json.proofs.Items.{IsFront}
use Rattle.setup_json.proofs.shapes.rows_among.Given as goal

abbrev pub invariant-loop-item : goal.invariant-loop-item
invariant-loop-item g l = IsFront (array_of_length g.row.N whole_number) l.items l.item-index l.rows.items
