use Rattle.std.proofs.Common.{take, true, ◌<◌, ◌^◌, ◌≡◌}
use Rattle.std.specs.List.{list_all}
use Rattle.flat_policy.specs.Texts.Pieces.{is_digit, numeral_value}
use Rattle.trace_text.proofs.numerals.digits_from.Given as goal

abbrev pub invariant-loop-count : goal.invariant-loop-count
invariant-loop-count l =
    record {
      digits : list_all is_digit (take l.count l.text) ≡ true;
      value : l.number ≡ numeral_value (take l.count l.text);
      below : l.number < 10 ^ 19;
    }
