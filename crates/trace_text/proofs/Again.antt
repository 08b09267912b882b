-- Steps and answers that were written are read again.
use Rattle.std.proofs.Common.{[], arith, List, refl, ℕ, ◌++◌, ◌-◌, ◌^◌, ◌≡◌, Ok}
use Rattle.sched_base.specs.declared.Act.{Act}
use Rattle.sched_base.specs.declared.Answer.{Answer}
use Rattle.sched_base.specs.declared.Place.{Place}
use Rattle.sched_base.specs.declared.Step.{Step}
use Rattle.flat_policy.specs.Texts.Answers.{answer_at, answer_pieces, place_at, place_pieces}
use Rattle.flat_policy.specs.Texts.Steps.{act_at, act_pieces, step_at, step_pieces}
use Rattle.trace_text.proofs.PiecesAgain.{bound_again, bound_plain, bucket_again, bucket_plain, byte_again, decimal_plain, end_again, end_plain, number_again, word_again}
use Rattle.trace_text.proofs.Rejoined.{AllPlain}
use Rattle.trace_text.specs.Writing.{ActFits, AnswerFits, PlaceFits, StepFits}
use Rattle.sched_base.specs.declared.Act.TheVariants as acts
use Rattle.sched_base.specs.declared.Answer.TheVariants as answers
use Rattle.sched_base.specs.declared.Place.TheVariants as places

-- ---- acts and steps, whatever stands behind them

act_again : (a : Act) (rest : List (List ℕ)) → ActFits a → act_at (act_pieces a ++ rest) ≡ Ok (a, rest)
act_again (acts.Make name group bucket base bound) rest fits =
    rw (word_again name fits.0, byte_again 63 group fits.1 (omega (arith, fits.1)), bucket_again bucket, byte_again 127 base fits.2 fits.2, bound_again bound fits.3) refl
act_again (acts.Enter c head) rest fits = rw (byte_again 15 c fits (omega arith), end_again head) refl
act_again acts.Select rest fits = refl
act_again (acts.Offer c) rest fits = rw (byte_again 15 c fits (omega arith)) refl
act_again (acts.Pull name) rest fits = rw (word_again name fits) refl
act_again (acts.Look c) rest fits = rw (byte_again 15 c fits (omega arith)) refl
act_again acts.Aim rest fits = refl
act_again (acts.Ran us) rest fits = rw (word_again us fits) refl
act_again acts.Sleep rest fits = refl
act_again (acts.Wake name) rest fits = rw (word_again name fits) refl
act_again acts.End rest fits = refl
act_again acts.Blocked rest fits = refl
act_again acts.Refresh rest fits = refl
act_again (acts.Off c) rest fits = rw (byte_again 15 c fits (omega arith)) refl
act_again (acts.On c) rest fits = rw (byte_again 15 c fits (omega arith)) refl

pub step_again : (s : Step) (rest : List (List ℕ)) → StepFits s → step_at (step_pieces s ++ rest) ≡ Ok (s, rest)
step_again s rest fits =
    rw (number_again (2 ^ 40 - 1) s.moment (omega (arith, fits.moment)) (omega (arith, fits.moment)), byte_again 15 s.actor fits.actor (omega (arith, fits.actor)), act_again s.act rest fits.act) refl

pub act_plain : (a : Act) → ActFits a → AllPlain (act_pieces a)
act_plain (acts.Make name group bucket base bound) fits =
    (refl, (decimal_plain name (omega (arith, fits.0)), (decimal_plain group (omega (arith, fits.1)), (bucket_plain bucket, (decimal_plain base (omega (arith, fits.2)), (bound_plain bound fits.3, tt))))))
act_plain (acts.Enter c head) fits = (refl, (decimal_plain c (omega arith), (end_plain head, tt)))
act_plain acts.Select fits = (refl, tt)
act_plain (acts.Offer c) fits = (refl, (decimal_plain c (omega arith), tt))
act_plain (acts.Pull name) fits = (refl, (decimal_plain name (omega arith), tt))
act_plain (acts.Look c) fits = (refl, (decimal_plain c (omega arith), tt))
act_plain acts.Aim fits = (refl, tt)
act_plain (acts.Ran us) fits = (refl, (decimal_plain us (omega arith), tt))
act_plain acts.Sleep fits = (refl, tt)
act_plain (acts.Wake name) fits = (refl, (decimal_plain name (omega arith), tt))
act_plain acts.End fits = (refl, tt)
act_plain acts.Blocked fits = (refl, tt)
act_plain acts.Refresh fits = (refl, tt)
act_plain (acts.Off c) fits = (refl, (decimal_plain c (omega arith), tt))
act_plain (acts.On c) fits = (refl, (decimal_plain c (omega arith), tt))

-- ---- places and answers

place_again : (p : Place) → PlaceFits p → place_at (place_pieces p) ≡ Ok (p, [])
place_again (places.Queue c) fits = rw (byte_again 15 c fits (omega arith)) refl
place_again (places.Hand a) fits = rw (byte_again 15 a fits (omega arith)) refl
place_again places.Blocked fits = refl
place_again places.Ended fits = refl
place_again places.Nowhere fits = refl

pub answer_again : (a : Answer) → AnswerFits a → answer_at (answer_pieces a) ≡ Ok (a, [])
answer_again answers.Yes fits = refl
answer_again (answers.Pri p) fits = rw (byte_again 127 p fits fits) refl
answer_again (answers.Got name) fits = rw (word_again name fits) refl
answer_again answers.Empty fits = refl
answer_again answers.Off fits = refl
answer_again (answers.Load l) fits = rw (word_again l fits) refl
answer_again (answers.To c) fits = rw (byte_again 15 c fits (omega arith)) refl
answer_again (answers.New n) fits = rw (word_again n fits) refl
answer_again (answers.Left n) fits = rw (word_again n fits) refl
answer_again (answers.Work w) fits = rw (number_again (2 ^ 64 - 1) w (omega arith) fits) refl
answer_again answers.HandFull fits = refl
answer_again answers.HandEmpty fits = refl
answer_again answers.NameUsed fits = refl
answer_again answers.NoRoom fits = refl
answer_again (answers.NotBlocked place) fits = rw (place_again place fits) refl
answer_again (answers.NotQueued place) fits = rw (place_again place fits) refl
answer_again answers.OwnCluster fits = refl
answer_again answers.NotAllowed fits = refl
answer_again (answers.LookFirst c) fits = rw (byte_again 15 c fits (omega arith)) refl

place_plain : (p : Place) → PlaceFits p → AllPlain (place_pieces p)
place_plain (places.Queue c) fits = (refl, (decimal_plain c (omega arith), tt))
place_plain (places.Hand a) fits = (refl, (decimal_plain a (omega arith), tt))
place_plain places.Blocked fits = (refl, tt)
place_plain places.Ended fits = (refl, tt)
place_plain places.Nowhere fits = (refl, tt)

pub answer_plain : (a : Answer) → AnswerFits a → AllPlain (answer_pieces a)
answer_plain answers.Yes fits = (refl, tt)
answer_plain (answers.Pri p) fits = (refl, (decimal_plain p (omega arith), tt))
answer_plain (answers.Got name) fits = (refl, (decimal_plain name (omega arith), tt))
answer_plain answers.Empty fits = (refl, tt)
answer_plain answers.Off fits = (refl, tt)
answer_plain (answers.Load l) fits = (refl, (decimal_plain l (omega arith), tt))
answer_plain (answers.To c) fits = (refl, (decimal_plain c (omega arith), tt))
answer_plain (answers.New n) fits = (refl, (decimal_plain n (omega arith), tt))
answer_plain (answers.Left n) fits = (refl, (decimal_plain n (omega arith), tt))
answer_plain (answers.Work w) fits = (refl, (decimal_plain w fits, tt))
answer_plain answers.HandFull fits = (refl, (refl, tt))
answer_plain answers.HandEmpty fits = (refl, (refl, tt))
answer_plain answers.NameUsed fits = (refl, (refl, tt))
answer_plain answers.NoRoom fits = (refl, (refl, tt))
answer_plain (answers.NotBlocked place) fits = (refl, (refl, place_plain place fits))
answer_plain (answers.NotQueued place) fits = (refl, (refl, place_plain place fits))
answer_plain answers.OwnCluster fits = (refl, (refl, tt))
answer_plain answers.NotAllowed fits = (refl, (refl, tt))
answer_plain (answers.LookFirst c) fits = (refl, (refl, (decimal_plain c (omega arith), tt)))
