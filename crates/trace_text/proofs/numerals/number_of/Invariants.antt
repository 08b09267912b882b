use Rattle.std.proofs.Common.{ℕ, ◌≡◌, drop}
use Rattle.flat_policy.specs.Texts.Pieces.{digit_value}
use Rattle.trace_text.specs.Reading.{digits_read, within_64}
use Rattle.trace_text.proofs.numerals.number_of.Given as goal

abbrev pub invariant-loop-b : goal.invariant-loop-b
invariant-loop-b l =
    (n : ℕ) × (l.number ≡ within_64 n) × (digits_read n (drop l.b-index l.others) ≡ digits_read (digit_value l.first) l.others)
