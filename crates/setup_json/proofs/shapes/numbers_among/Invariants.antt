use Rattle.std.proofs.Common.{length, take, ◌≡◌}
use Rattle.flat_policy.specs.Texts.SetupLines.{whole_number}
use Rattle.setup_json.proofs.Items.{IsFront}
use Rattle.setup_json.proofs.shapes.numbers_among.Given as goal

abbrev pub invariant-loop-k : goal.invariant-loop-k
invariant-loop-k g l = record { count : length l.row ≡ g.row.N; front : IsFront whole_number l.items l.k (take l.k l.row) }
