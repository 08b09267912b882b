use Rattle.std.proofs.Common.{List, ap, subst, sym, ℕ, ◌≡◌, ◌∙◌}
use Rattle.std.specs.Option.{is_some}
use Rattle.std.specs.Result.{is_ok}
use Rattle.std.proofs.lemmas.List.{take_rest}
use Rattle.flat_policy.specs.Texts.Pieces.{next_piece, number_within, pieces}
use Rattle.trace_text.proofs.NotNext.{no_digit_next}
use Rattle.trace_text.specs.Reading.{BeginsPlain, left, left_of}
use Rattle.trace_text.proofs.pieces.next_digit.Goals as goal

pub returns-in_err-rest-clause-some : goal.returns-in_err-rest-clause-some
returns-in_err-rest-clause-some c =
    let text = c.in_ok-text.text.now in
    let whole : left c.args.pieces ≡ pieces text = ap left_of c.in_ok-text.was in
    let plain = subst BeginsPlain (take_rest text 1) c.in_err-rest.ensures.none in
    let none = no_digit_next text plain in
    ap is_some c.from_residual-in_err-rest.ensures ∙ sym (ap (λ (ps : List (List ℕ)). is_ok (next_piece (number_within 9) ps)) whole ∙ none)
