use Rattle.flat_policy.specs.Texts.SetupLines.{array_of_length, whole_number}
use Rattle.setup_json.proofs.Items.{IsFront}
use Rattle.setup_json.proofs.shapes.times_among.Given as goal

abbrev pub invariant-loop-item : goal.invariant-loop-item
invariant-loop-item l = IsFront (array_of_length 3 (array_of_length 6 whole_number)) l.items l.item-index l.times.items
