-- Lines that were read are the texts of what was read.
use Rattle.std.proofs.Common.{[], ap, codes, cond, length, List, refl, subst, sym, ℕ, ◌++◌, ◌≡◌, ◌∙◌, ◌∷◌, Bool, Err, IfOk, IfSome, None, Ok, Option, Result, Some, false, inl, inr, true}
use Rattle.std.proofs.Math.Dec.{eqb, ltb}
use Rattle.std.proofs.lemmas.Bool.{cases_Bool, eqb-true}
use Rattle.std.proofs.lemmas.List.{append-nil}
use Rattle.sched_base.specs.declared.Answer.{Answer}
use Rattle.sched_base.specs.declared.Step.{Step}
use Rattle.flat_policy.specs.declared.texts.Given.{Given}
use Rattle.flat_policy.specs.declared.texts.LineFault.{LineFault}
use Rattle.flat_policy.specs.Texts.Answers.{answer_at, answer_pieces}
use Rattle.flat_policy.specs.Texts.Lines.{equals_word, given_at, read_given, read_step_line}
use Rattle.flat_policy.specs.Texts.Pieces.{at_end, before_piece, pieces, spaced, word_among}
use Rattle.flat_policy.specs.Texts.Steps.{step_at, step_pieces}
use Rattle.trace_text.proofs.AnswersBack.{answer_back}
use Rattle.trace_text.proofs.ReadBack.{word_back}
use Rattle.trace_text.proofs.Readings.{and_then_ok, ok_is}
use Rattle.trace_text.proofs.Splitting.{first_piece}
use Rattle.trace_text.proofs.StepsBack.{step_back}
use Rattle.trace_text.proofs.WholeLines.{answered_pieces, answered_spaced, answers_again, steps_again}
use Rattle.trace_text.specs.Laws.{LinesAreExact, given_line}
use Rattle.trace_text.specs.Writing.{AnswerFits, GivenFits, StepFits}
use Rattle.flat_policy.specs.declared.texts.LineFault.TheVariants as line_faults

-- ---- the pieces of a line, joined by single spaces, are the line

spaced_byte : (b : ℕ) (p : List ℕ) (ps : List (List ℕ)) → spaced (before_piece b (p ∷ ps)) ≡ b ∷ spaced (p ∷ ps)
spaced_byte b p [] = refl
spaced_byte b p (q ∷ qs) = refl

pub spaced_pieces : (xs : List ℕ) → spaced (pieces xs) ≡ xs
spaced_pieces [] = refl
spaced_pieces (b ∷ bs) =
    let r = first_piece bs in
    let rest : spaced (r.0 ∷ r.1) ≡ bs = ap spaced (sym r.2) ∙ spaced_pieces bs in
    elim (cases_Bool (eqb b 32)) [
      | inl e ↦
          let space : b ≡ 32 = eqb-true b 32 e in
          rw (e, r.2) (ap (λ (t : List ℕ). 32 ∷ t) rest ∙ ap (λ (c : ℕ). c ∷ bs) (sym space))
      | inr e ↦ rw (e, r.2) (spaced_byte b r.0 r.1 ∙ ap (λ (t : List ℕ). b ∷ t) rest)
    ]

-- ---- what stands behind a step

pub at_end_back : {A : Type 0} (x y : A) (qs : List (List ℕ)) → at_end x qs ≡ Ok y → (qs ≡ []) × (x ≡ y)
at_end_back x y [] e = (refl, ok_is x y e)
at_end_back x y (q ∷ qs) e = absurd cc

abbrev given_pieces : Step → Option Answer → List (List ℕ)
given_pieces s None = step_pieces s
given_pieces s (Some a) = answered_pieces s a

record IsGiven (s : Step) (qs : List (List ℕ)) (g : Given) : Type 0 where
  step : s ≡ g.step
  pieces : step_pieces s ++ qs ≡ given_pieces s g.answer
  fits : IfSome g.answer AnswerFits

given_back : (s : Step) (qs : List (List ℕ)) (g : Given) → given_at s qs ≡ Ok g → IsGiven s qs g
given_back s [] g e =
    let alone : Given = record { step = s; answer = None } in
    subst (λ (g : Given). IsGiven s [] g) (ok_is alone g e) (record { step = refl; pieces = append-nil (step_pieces s); fits = tt })
given_back s (p ∷ ps) g e =
    let w = and_then_ok (word_among equals_word p) _ g e in
    let a = and_then_ok (answer_at ps) _ g w.2 in
    let given : Given = record { step = s; answer = Some a.0.0 } in
    let end = at_end_back given g a.0.1 a.2 in
    let word = word_back (λ t _. t ≡ codes "=") equals_word (refl, tt) p w.0 w.1 in
    let back = answer_back ps a.0.1 a.0.0 a.1 in
    let rest : ps ≡ answer_pieces a.0.0 = back.0 ∙ ap (λ (q : List (List ℕ)). answer_pieces a.0.0 ++ q) end.0 ∙ append-nil (answer_pieces a.0.0) in
    subst (λ (g : Given). IsGiven s (p ∷ ps) g) end.1 (record {
      step = refl;
      pieces = ap (λ (q : List (List ℕ)). step_pieces s ++ q) (ap (λ (t : List ℕ). t ∷ ps) word ∙ ap (λ (q : List (List ℕ)). codes "=" ∷ q) rest);
      fits = back.1;
    })

-- ---- a line

pub limited : {A : Type 0} (long : Bool) (r : Result A LineFault) (x : A) → cond long (Err line_faults.Long) r ≡ Ok x → r ≡ Ok x
limited true r x e = absurd cc
limited false r x e = e

record IsRead (line : List ℕ) (g : Given) : Type 0 where
  pieces : pieces line ≡ given_pieces g.step g.answer
  fits : GivenFits g

pieces_back : (line : List ℕ) (g : Given) → read_given (pieces line) ≡ Ok g → IsRead line g
pieces_back line g e =
    let s = and_then_ok (step_at (pieces line)) _ g e in
    let step = step_back (pieces line) s.0.1 s.0.0 s.1 in
    let given = given_back s.0.0 s.0.1 g s.2 in
    record {
      pieces = step.0 ∙ given.pieces ∙ ap (λ (s : Step). given_pieces s g.answer) given.step;
      fits = record { step = subst StepFits given.step step.1; answer = given.fits };
    }

pub given_fits : (line : List ℕ) (r : Result Given LineFault) → r ≡ read_given (pieces line) → IfOk r GivenFits
given_fits line (Ok g) e = (pieces_back line g (sym e)).fits
given_fits line (Err d) e = tt

line_back : (line : List ℕ) (g : Given) → read_step_line line ≡ Ok g → IsRead line g
line_back line g e =
    pieces_back line g (limited (ltb 256 (length line)) (read_given (pieces line)) g e)

given_spaced : (s : Step) (o : Option Answer) → spaced (given_pieces s o) ≡ given_line s o
given_spaced s None = refl
given_spaced s (Some a) = sym (answered_spaced s a)

line_is_text : (line : List ℕ) (g : Given) → read_step_line line ≡ Ok g → line ≡ given_line g.step g.answer
line_is_text line g e = sym (spaced_pieces line) ∙ ap spaced (line_back line g e).pieces ∙ given_spaced g.step g.answer

text_again : (s : Step) (o : Option Answer) → StepFits s → IfSome o AnswerFits → read_step_line (given_line s o) ≡ Ok (record { step = s; answer = o })
text_again s None fits ok = steps_again s fits
text_again s (Some a) fits ok = (answers_again s a fits ok).1

pub lines_exact : LinesAreExact
lines_exact = λ line g. (λ e. ((line_back line g e).fits, line_is_text line g e), λ h. ap read_step_line h.1 ∙ text_again g.step g.answer h.0.step h.0.answer)
