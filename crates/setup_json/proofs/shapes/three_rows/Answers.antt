use Rattle.std.proofs.Common.{◌≢◌, arith, length, sym}
use Rattle.flat_policy.specs.Texts.SetupLines.{array_of_length, whole_number}
use Rattle.setup_json.proofs.Items.{wrong_count}
use Rattle.setup_json.proofs.shapes.three_rows.Goals as goal

pub returns-in_default : goal.returns-in_default
returns-in_default c =
    let ne : length c.args.items.now ≢ 3 = omega (arith, c.in_default.len_below) in
    sym (wrong_count (array_of_length 6 whole_number) c.args.items.now 3 ne)

pub returns-in_default-2 : goal.returns-in_default-2
returns-in_default-2 c =
    let ne : length c.args.items.now ≢ 3 = omega (arith, c.in_default.len_at_least) in
    sym (wrong_count (array_of_length 6 whole_number) c.args.items.now 3 ne)
