use Rattle.std.proofs.Common.{List, ap, rules, subst, sym, ℕ, ◌≡◌, ◌∙◌, arith, take, false, true}
use Rattle.std.specs.Option.{is_some}
use Rattle.std.specs.Result.{is_ok}
use Rattle.std.proofs.lemmas.List.{take_rest}
use Rattle.flat_policy.specs.Texts.Pieces.{is_numeral, next_piece, number_within, pieces}
use Rattle.trace_text.proofs.NotNext.{no_number_next}
use Rattle.trace_text.proofs.Scanning.{number_next}
use Rattle.trace_text.specs.Reading.{BeginsPlain, Follows, IsNumberNext, left, left_of, most_of_19_digits}
use Rattle.trace_text.proofs.pieces.next_number.Goals as goal

pub returns-clause-number : goal.returns-clause-number
returns-clause-number c =
    let text = c.in_ok-text.text.now in
    let read = c.leading_number-number.result in
    let front = c.leading_number-number.ensures in
    let others = left c.in_ok-rest.rest in
    let whole : left c.args.pieces ≡ pieces text = ap left_of c.in_ok-text.was in
    let behind = subst (λ (xs : List ℕ). Follows xs others) (take_rest text read.1) c.in_ok-rest.ensures.some in
    let next = number_next text read.0 read.1 others front.digits (search rules) front.value behind in
    subst (λ (ps : List (List ℕ)). IsNumberNext ps read.0 others) (sym whole) next

pub returns-clause-some : goal.returns-clause-some
returns-clause-some c =
    let next = returns-clause-number c in
    sym (ap is_ok (next most_of_19_digits (omega (arith, c.leading_number-number.ensures.below))))

pub returns-then-not-begins_with_numeral-clause-some : goal.returns-then-not-begins_with_numeral-clause-some
returns-then-not-begins_with_numeral-clause-some c =
    let text = c.in_ok-text.text.now in
    let read = c.leading_number-number.result in
    let front = c.leading_number-number.ensures in
    let whole : left c.args.pieces ≡ pieces text = ap left_of c.in_ok-text.was in
    let other : false ≡ is_numeral (take read.1 text) = sym c.if-not-begins_with_numeral.true ∙ c.begins_with_numeral.ensures in
    let none =
    no_number_next text read.0 read.1 front.within front.digits front.value front.all
    (λ e. let unlike : false ≡ true = other ∙ e in absurd cc)
    in
    sym (ap (λ (ps : List (List ℕ)). is_ok (next_piece (number_within most_of_19_digits) ps)) whole ∙ none)

pub returns-in_err-rest-clause-some : goal.returns-in_err-rest-clause-some
returns-in_err-rest-clause-some c =
    let text = c.in_ok-text.text.now in
    let read = c.leading_number-number.result in
    let front = c.leading_number-number.ensures in
    let whole : left c.args.pieces ≡ pieces text = ap left_of c.in_ok-text.was in
    let plain = subst BeginsPlain (take_rest text read.1) c.in_err-rest.ensures.none in
    let none = no_number_next text read.0 read.1 front.within front.digits front.value front.all (λ _. plain) in
    ap is_some c.from_residual-in_err-rest.ensures ∙ sym (ap (λ (ps : List (List ℕ)). is_ok (next_piece (number_within most_of_19_digits) ps)) whole ∙ none)
