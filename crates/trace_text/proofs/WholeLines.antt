-- Lines that were written are read again.
use Rattle.std.proofs.Common.{[], ap, append_assoc, arith, codes, decimal, length, length-append, List, refl, subst, sym, ℕ, ◌++◌, ◌+◌, ◌<◌, ◌^◌, ◌≡◌, ◌≤◌, ◌∙◌, ◌∷◌, None, Ok, Result, Some}
use Rattle.std.proofs.lemmas.Bool.{le-ltb}
use Rattle.std.proofs.lemmas.Fmt.{length-decimal-le}
use Rattle.std.proofs.lemmas.List.{append-nil}
use Rattle.sched_base.specs.declared.Answer.{Answer}
use Rattle.sched_base.specs.declared.Place.{Place}
use Rattle.sched_base.specs.declared.Step.{Step}
use Rattle.flat_policy.specs.declared.texts.Given.{Given}
use Rattle.flat_policy.specs.declared.texts.LineFault.{LineFault}
use Rattle.flat_policy.specs.Texts.Answers.{answer_pieces, answer_text, place_pieces}
use Rattle.flat_policy.specs.Texts.Lines.{given_at, read_given, read_step_line}
use Rattle.flat_policy.specs.Texts.Pieces.{Reading, and_then, pieces, spaced}
use Rattle.flat_policy.specs.Texts.Steps.{act_pieces, step_at, step_pieces, step_text}
use Rattle.trace_text.proofs.Again.{act_plain, answer_again, answer_plain, step_again}
use Rattle.trace_text.proofs.PiecesAgain.{decimal_plain}
use Rattle.trace_text.proofs.Rejoined.{AllPlain, AllPlain-append, pieces_spaced, spaced-append}
use Rattle.trace_text.proofs.Texts.{small, step_short}
use Rattle.trace_text.specs.Laws.{AnswersReadAgain, StepsReadAgain, answered_line}
use Rattle.trace_text.specs.Writing.{AnswerFits, PlaceFits, StepFits}
use Rattle.sched_base.specs.declared.Answer.TheVariants as answers
use Rattle.sched_base.specs.declared.Place.TheVariants as places

read_line : (line : List ℕ) (ps : List (List ℕ)) (r : Result Given LineFault) → length line ≤ 256 → pieces line ≡ ps → read_given ps ≡ r → read_step_line line ≡ r
read_line line ps r short e f = rw (le-ltb 256 (length line) short) (ap read_given e ∙ f)

-- ---- a step alone

later_plain : (s : Step) → StepFits s → AllPlain (decimal s.actor ∷ act_pieces s.act)
later_plain s fits = (decimal_plain s.actor (omega (arith, fits.actor)), act_plain s.act fits.act)

step_pieces_again : (s : Step) → StepFits s → pieces (step_text s) ≡ step_pieces s
step_pieces_again s fits =
    pieces_spaced (decimal s.moment) (decimal s.actor ∷ act_pieces s.act) (decimal_plain s.moment (omega (arith, fits.moment))) (later_plain s fits)

given_of : Reading Step → Result Given LineFault
given_of r = and_then r (λ x. given_at x.0 x.1)

step_given : (s : Step) → StepFits s → read_given (step_pieces s) ≡ Ok (record { step = s; answer = None })
unfolding given_of
step_given s fits =
    ap given_of (subst (λ (ps : List (List ℕ)). step_at ps ≡ Ok (s, [])) (append-nil (step_pieces s)) (step_again s [] fits))

pub steps_again : StepsReadAgain
steps_again = λ s fits. read_line (step_text s) (step_pieces s) (Ok (record { step = s; answer = None })) (omega (arith, step_short s fits)) (step_pieces_again s fits) (step_given s fits)

-- ---- a step with its answer

behind_equals : (a : Answer) → spaced (codes "=" ∷ answer_pieces a) ≡ codes "=" ++ 32 ∷ answer_text a
behind_equals answers.Yes = refl
behind_equals (answers.Pri p) = refl
behind_equals (answers.Got name) = refl
behind_equals answers.Empty = refl
behind_equals answers.Off = refl
behind_equals (answers.Load l) = refl
behind_equals (answers.To c) = refl
behind_equals (answers.New n) = refl
behind_equals (answers.Left n) = refl
behind_equals (answers.Work w) = refl
behind_equals answers.HandFull = refl
behind_equals answers.HandEmpty = refl
behind_equals answers.NameUsed = refl
behind_equals answers.NoRoom = refl
behind_equals (answers.NotBlocked place) = refl
behind_equals (answers.NotQueued place) = refl
behind_equals answers.OwnCluster = refl
behind_equals answers.NotAllowed = refl
behind_equals (answers.LookFirst c) = refl

abbrev pub answered_pieces : Step → Answer → List (List ℕ)
answered_pieces s a = step_pieces s ++ codes "=" ∷ answer_pieces a

pub answered_spaced : (s : Step) (a : Answer) → answered_line s a ≡ spaced (answered_pieces s a)
answered_spaced s a =
    append_assoc (step_text s) (codes " = ") (answer_text a)
    ∙ ap (λ (rest : List ℕ). step_text s ++ 32 ∷ rest) (sym (behind_equals a))
    ∙ sym (spaced-append (decimal s.moment) (decimal s.actor ∷ act_pieces s.act) (codes "=") (answer_pieces a))

answered_again : (s : Step) (a : Answer) → StepFits s → AnswerFits a → pieces (answered_line s a) ≡ answered_pieces s a
answered_again s a fits ok =
    ap pieces (answered_spaced s a)
    ∙ pieces_spaced (decimal s.moment) ((decimal s.actor ∷ act_pieces s.act) ++ codes "=" ∷ answer_pieces a) (decimal_plain s.moment (omega (arith, fits.moment))) (AllPlain-append (decimal s.actor ∷ act_pieces s.act) (codes "=" ∷ answer_pieces a) (later_plain s fits) (refl, answer_plain a ok))

answered_given : (s : Step) (a : Answer) → StepFits s → AnswerFits a → read_given (answered_pieces s a) ≡ Ok (record { step = s; answer = Some a })
unfolding given_of
answered_given s a fits ok =
    ap given_of (step_again s (codes "=" ∷ answer_pieces a) fits) ∙ rw (answer_again a ok) refl

widest : (n : ℕ) → n < 2 ^ 64 → length (decimal n) ≤ 20
widest n lt = length-decimal-le 20 n (omega arith) (omega arith) lt

placed_short : (front : List ℕ) (p : Place) → PlaceFits p → length (spaced (codes "no" ∷ front ∷ place_pieces p)) ≤ 14 + length front
placed_short front (places.Queue c) fits = simp length-append (omega (arith, small c (omega arith)))
placed_short front (places.Hand a) fits = simp length-append (omega (arith, small a (omega arith)))
placed_short front places.Blocked fits = simp length-append (omega arith)
placed_short front places.Ended fits = simp length-append (omega arith)
placed_short front places.Nowhere fits = simp length-append (omega arith)

answer_short : (a : Answer) → AnswerFits a → length (answer_text a) ≤ 30
answer_short answers.Yes fits = omega arith
answer_short (answers.Pri p) fits = omega (arith, small p fits)
answer_short (answers.Got name) fits = omega (arith, widest name (omega arith))
answer_short answers.Empty fits = omega arith
answer_short answers.Off fits = omega arith
answer_short (answers.Load l) fits = omega (arith, widest l (omega arith))
answer_short (answers.To c) fits = omega (arith, small c (omega arith))
answer_short (answers.New n) fits = omega (arith, widest n (omega arith))
answer_short (answers.Left n) fits = omega (arith, widest n (omega arith))
answer_short (answers.Work w) fits = omega (arith, widest w fits)
answer_short answers.HandFull fits = omega arith
answer_short answers.HandEmpty fits = omega arith
answer_short answers.NameUsed fits = omega arith
answer_short answers.NoRoom fits = omega arith
answer_short (answers.NotBlocked place) fits = omega (arith, placed_short (codes "NotBlocked") place fits)
answer_short (answers.NotQueued place) fits = omega (arith, placed_short (codes "NotQueued") place fits)
answer_short answers.OwnCluster fits = omega arith
answer_short answers.NotAllowed fits = omega arith
answer_short (answers.LookFirst c) fits = omega (arith, small c (omega arith))

answered_short : (s : Step) (a : Answer) → StepFits s → AnswerFits a → length (answered_line s a) ≤ 256
answered_short s a fits ok =
    omega (arith, length-append (step_text s ++ codes " = ") (answer_text a), length-append (step_text s) (codes " = "), step_short s fits, answer_short a ok)

pub answers_again : AnswersReadAgain
answers_again = λ s a fits ok. (refl, read_line (answered_line s a) (answered_pieces s a) (Ok (record { step = s; answer = Some a })) (answered_short s a fits ok) (answered_again s a fits ok) (answered_given s a fits ok))
