use Rattle.std.proofs.Common.{List, length, rules, subst, ℕ}
use Rattle.std.proofs.lemmas.List.{take_rest}
use Rattle.trace_text.proofs.Scanning.{word_starts}
use Rattle.trace_text.specs.Reading.{Follows, left}
use Rattle.trace_text.proofs.pieces.behind_word.Goals as goal

pub returns-clause-found : goal.returns-clause-found
returns-clause-found c =
    let text = c.args.text.now in
    let word = c.args.word.now in
    let others = left c.in_ok-rest.rest in
    word_starts text word others c.requires (search rules) (subst (λ (xs : List ℕ). Follows xs others) (take_rest text (length word)) c.in_ok-rest.ensures.some)
