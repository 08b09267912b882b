-- Texts without a newline, and the lines that they stand in.
use Rattle.std.proofs.Common.{[], ap, append_assoc, arith, codes, decimal, List, refl, ℕ, ◌++◌, ◌<◌, ◌==◌, ◌^◌, ◌≡◌, ◌≤◌, ◌∙◌, ◌∷◌, Bool, IfSome, None, Option, Some, false, ne_eqb, not, true}
use Rattle.std.proofs.lemmas.Bool.{and_from, and_parts, not-true}
use Rattle.std.proofs.lemmas.Fmt.{decimal_is_IsNumeral}
use Rattle.std.proofs.lemmas.List.Folds.{list_all-append}
use Rattle.std.specs.Char.{digit_value}
use Rattle.std.specs.List.{list_all}
use Rattle.std.specs.Str.Parse.{AllDigits}
use Rattle.sched_base.specs.declared.Act.{Act}
use Rattle.sched_base.specs.declared.Answer.{Answer}
use Rattle.sched_base.specs.declared.Bucket.{Bucket}
use Rattle.sched_base.specs.declared.Bucket.TheVariants.{Bg, Df, Fg, Ini, Ui, Ut}
use Rattle.sched_base.specs.declared.Place.{Place}
use Rattle.sched_base.specs.declared.Step.{Step}
use Rattle.flat_policy.specs.Texts.Answers.{answer_pieces, place_pieces}
use Rattle.flat_policy.specs.Texts.Lines.{answered_text, newline}
use Rattle.flat_policy.specs.Texts.Pieces.{bound_piece, bucket_piece, end_piece, spaced}
use Rattle.flat_policy.specs.Texts.Steps.{act_pieces, step_pieces}
use Rattle.flat_policy.specs.Texts.Streams.{text_lines}
use Rattle.trace_text.proofs.WholeLines.{answered_pieces, answered_spaced}
use Rattle.trace_text.specs.InLines.{AnswersStandInLines, line_before}
use Rattle.trace_text.specs.Laws.{answered_line}
use Rattle.trace_text.specs.Writing.{ActFits, AnswerFits, PlaceFits, StepFits}
use Rattle.sched_base.specs.declared.Act.TheVariants as acts
use Rattle.sched_base.specs.declared.Answer.TheVariants as answers
use Rattle.sched_base.specs.declared.Place.TheVariants as places

abbrev pub no_newline : List ℕ → Bool
no_newline t = list_all (λ b. not (b == 10)) t

-- a text without a newline and then one are a line
is_first_line : (t more : List ℕ) → no_newline t ≡ true → text_lines (t ++ 10 ∷ more) ≡ line_before t (text_lines more)
is_first_line [] more plain = refl
is_first_line (b ∷ t) more plain =
    let parts = and_parts (not (b == 10)) (no_newline t) plain in
    rw (not-true (b == 10) parts.0, is_first_line t more parts.1) refl

-- ---- pieces without a newline

-- each piece is without a newline
abbrev AllInLine : List (List ℕ) → Type 0
AllInLine [] = Unit {0}
AllInLine (p ∷ ps) = (no_newline p ≡ true) × AllInLine ps

AllInLine-append : (ps qs : List (List ℕ)) → AllInLine ps → AllInLine qs → AllInLine (ps ++ qs)
AllInLine-append [] qs f g = g
AllInLine-append (p ∷ ps) qs f g = (f.0, AllInLine-append ps qs f.1 g)

spaced_in_line : (ps : List (List ℕ)) → AllInLine ps → no_newline (spaced ps) ≡ true
spaced_in_line [] all = refl
spaced_in_line (p ∷ []) all = all.0
spaced_in_line (p ∷ q ∷ qs) all =
    list_all-append (λ b. not (b == 10)) p (32 ∷ spaced (q ∷ qs))
    ∙ and_from (no_newline p) (no_newline (32 ∷ spaced (q ∷ qs))) all.0 (spaced_in_line (q ∷ qs) all.1)

digits_in_line : (ds : List ℕ) → AllDigits 10 ds → no_newline ds ≡ true
digits_in_line [] all = refl
digits_in_line (d ∷ ds) all =
    let digit : digit_value d < 10 = all.0 in
    and_from (not (d == 10)) (no_newline ds) (ap not (ne_eqb d 10 (λ e. grind arith))) (digits_in_line ds all.1)

decimal_in_line : (n : ℕ) → n < 2 ^ 64 → no_newline (decimal n) ≡ true
decimal_in_line n few = digits_in_line (decimal n) (decimal_is_IsNumeral n few).0.1

bucket_in_line : (b : Bucket) → no_newline (bucket_piece b) ≡ true
bucket_in_line Ui = refl
bucket_in_line Fg = refl
bucket_in_line Ini = refl
bucket_in_line Df = refl
bucket_in_line Ut = refl
bucket_in_line Bg = refl

end_in_line : (head : Bool) → no_newline (end_piece head) ≡ true
end_in_line true = refl
end_in_line false = refl

bound_in_line : (o : Option ℕ) → IfSome o (λ c. c ≤ 15) → no_newline (bound_piece o) ≡ true
bound_in_line None fits = refl
bound_in_line (Some c) fits = decimal_in_line c (omega arith)

-- ---- acts, steps and answers

act_in_line : (a : Act) → ActFits a → AllInLine (act_pieces a)
act_in_line (acts.Make name group bucket base bound) fits =
    (refl, (decimal_in_line name (omega (arith, fits.0)), (decimal_in_line group (omega (arith, fits.1)), (bucket_in_line bucket, (decimal_in_line base (omega (arith, fits.2)), (bound_in_line bound fits.3, tt))))))
act_in_line (acts.Enter c head) fits = (refl, (decimal_in_line c (omega arith), (end_in_line head, tt)))
act_in_line acts.Select fits = (refl, tt)
act_in_line (acts.Offer c) fits = (refl, (decimal_in_line c (omega arith), tt))
act_in_line (acts.Pull name) fits = (refl, (decimal_in_line name (omega arith), tt))
act_in_line (acts.Look c) fits = (refl, (decimal_in_line c (omega arith), tt))
act_in_line acts.Aim fits = (refl, tt)
act_in_line (acts.Ran us) fits = (refl, (decimal_in_line us (omega arith), tt))
act_in_line acts.Sleep fits = (refl, tt)
act_in_line (acts.Wake name) fits = (refl, (decimal_in_line name (omega arith), tt))
act_in_line acts.End fits = (refl, tt)
act_in_line acts.Blocked fits = (refl, tt)
act_in_line acts.Refresh fits = (refl, tt)
act_in_line (acts.Off c) fits = (refl, (decimal_in_line c (omega arith), tt))
act_in_line (acts.On c) fits = (refl, (decimal_in_line c (omega arith), tt))

step_in_line : (s : Step) → StepFits s → AllInLine (step_pieces s)
step_in_line s fits =
    (decimal_in_line s.moment (omega (arith, fits.moment)), (decimal_in_line s.actor (omega (arith, fits.actor)), act_in_line s.act fits.act))

place_in_line : (p : Place) → PlaceFits p → AllInLine (place_pieces p)
place_in_line (places.Queue c) fits = (refl, (decimal_in_line c (omega arith), tt))
place_in_line (places.Hand a) fits = (refl, (decimal_in_line a (omega arith), tt))
place_in_line places.Blocked fits = (refl, tt)
place_in_line places.Ended fits = (refl, tt)
place_in_line places.Nowhere fits = (refl, tt)

answer_in_line : (a : Answer) → AnswerFits a → AllInLine (answer_pieces a)
answer_in_line answers.Yes fits = (refl, tt)
answer_in_line (answers.Pri p) fits = (refl, (decimal_in_line p (omega arith), tt))
answer_in_line (answers.Got name) fits = (refl, (decimal_in_line name (omega arith), tt))
answer_in_line answers.Empty fits = (refl, tt)
answer_in_line answers.Off fits = (refl, tt)
answer_in_line (answers.Load l) fits = (refl, (decimal_in_line l (omega arith), tt))
answer_in_line (answers.To c) fits = (refl, (decimal_in_line c (omega arith), tt))
answer_in_line (answers.New n) fits = (refl, (decimal_in_line n (omega arith), tt))
answer_in_line (answers.Left n) fits = (refl, (decimal_in_line n (omega arith), tt))
answer_in_line (answers.Work w) fits = (refl, (decimal_in_line w fits, tt))
answer_in_line answers.HandFull fits = (refl, (refl, tt))
answer_in_line answers.HandEmpty fits = (refl, (refl, tt))
answer_in_line answers.NameUsed fits = (refl, (refl, tt))
answer_in_line answers.NoRoom fits = (refl, (refl, tt))
answer_in_line (answers.NotBlocked place) fits = (refl, (refl, place_in_line place fits))
answer_in_line (answers.NotQueued place) fits = (refl, (refl, place_in_line place fits))
answer_in_line answers.OwnCluster fits = (refl, (refl, tt))
answer_in_line answers.NotAllowed fits = (refl, (refl, tt))
answer_in_line (answers.LookFirst c) fits = (refl, (refl, (decimal_in_line c (omega arith), tt)))

-- ---- a step with its answer

answered_in_line : (s : Step) (a : Answer) → StepFits s → AnswerFits a → no_newline (answered_line s a) ≡ true
answered_in_line s a fits ok =
    ap no_newline (answered_spaced s a)
    ∙ spaced_in_line (answered_pieces s a) (AllInLine-append (step_pieces s) (codes "=" ∷ answer_pieces a) (step_in_line s fits) (refl, answer_in_line a ok))

answered_before : (s : Step) (a : Answer) (more : List ℕ) → answered_text s a ++ more ≡ answered_line s a ++ 10 ∷ more
answered_before s a more = append_assoc (answered_line s a) newline more

pub answers_in_lines : AnswersStandInLines
answers_in_lines = λ s a more fits ok.
    ap text_lines (answered_before s a more) ∙ is_first_line (answered_line s a) more (answered_in_line s a fits ok)
