-- The texts of steps and answers, part by part, and how long they are.
use Rattle.std.proofs.Common.{ap, arith, codes, decimal, length, List, refl, length-append, take, ℕ, ◌++◌, ◌<◌, ◌^◌, ◌≡◌, ◌≤◌, ◌∷◌, IfSome, None, Option, Some, true, false, Bool}
use Rattle.std.proofs.lemmas.Fmt.{length-decimal-le}
use Rattle.std.proofs.lemmas.List.{length-take-le}
use Rattle.sched_base.specs.declared.Act.{Act}
use Rattle.sched_base.specs.declared.Bucket.{Bucket}
use Rattle.sched_base.specs.declared.Bucket.TheVariants.{Bg, Df, Fg, Ini, Ui, Ut}
use Rattle.sched_base.specs.declared.Place.{Place}
use Rattle.sched_base.specs.declared.Step.{Step}
use Rattle.flat_policy.specs.Texts.Answers.{answer_text, place_pieces}
use Rattle.flat_policy.specs.Texts.Pieces.{bound_piece, bucket_piece, end_piece, spaced}
use Rattle.flat_policy.specs.Texts.Steps.{act_pieces, step_text}
use Rattle.trace_text.specs.Writing.{ActFits, IsStepText, StepFits}
use Rattle.sched_base.specs.declared.Act.TheVariants as acts
use Rattle.sched_base.specs.declared.Answer.TheVariants as answers
use Rattle.sched_base.specs.declared.Place.TheVariants as places

behind_act : (front : List ℕ) (a : Act) → spaced (front ∷ act_pieces a) ≡ front ++ 32 ∷ spaced (act_pieces a)
behind_act front (acts.Make name group bucket base bound) = refl
behind_act front (acts.Enter c head) = refl
behind_act front acts.Select = refl
behind_act front (acts.Offer c) = refl
behind_act front (acts.Pull name) = refl
behind_act front (acts.Look c) = refl
behind_act front acts.Aim = refl
behind_act front (acts.Ran us) = refl
behind_act front acts.Sleep = refl
behind_act front (acts.Wake name) = refl
behind_act front acts.End = refl
behind_act front acts.Blocked = refl
behind_act front acts.Refresh = refl
behind_act front (acts.Off c) = refl
behind_act front (acts.On c) = refl

pub step_text_is : (s : Step) → step_text s ≡ decimal s.moment ++ 32 ∷ (decimal s.actor ++ 32 ∷ spaced (act_pieces s.act))
step_text_is s = rw (behind_act (decimal s.actor) s.act) refl

pub not_blocked_text : (p : Place) → answer_text (answers.NotBlocked p) ≡ codes "no NotBlocked " ++ spaced (place_pieces p)
not_blocked_text (places.Queue c) = refl
not_blocked_text (places.Hand a) = refl
not_blocked_text places.Blocked = refl
not_blocked_text places.Ended = refl
not_blocked_text places.Nowhere = refl

pub not_queued_text : (p : Place) → answer_text (answers.NotQueued p) ≡ codes "no NotQueued " ++ spaced (place_pieces p)
not_queued_text (places.Queue c) = refl
not_queued_text (places.Hand a) = refl
not_queued_text places.Blocked = refl
not_queued_text places.Ended = refl
not_queued_text places.Nowhere = refl

-- ---- lengths

pub small : (n : ℕ) → n ≤ 127 → length (decimal n) ≤ 3
small n le = length-decimal-le 3 n (omega arith) (omega arith) (omega arith)

pub wide : (n : ℕ) → n < 2 ^ 32 → length (decimal n) ≤ 10
wide n lt = length-decimal-le 10 n (omega arith) (omega arith) (omega arith)

pub bucket_short : (b : Bucket) → length (bucket_piece b) ≤ 2
bucket_short Ui = omega arith
bucket_short Fg = omega arith
bucket_short Ini = omega arith
bucket_short Df = omega arith
bucket_short Ut = omega arith
bucket_short Bg = omega arith

pub bound_short : (o : Option ℕ) → IfSome o (λ c. c ≤ 15) → length (bound_piece o) ≤ 3
bound_short None fits = omega arith
bound_short (Some c) fits = small c (omega arith)

end_short : (head : Bool) → length (end_piece head) ≤ 4
end_short true = omega arith
end_short false = omega arith

act_short : (a : Act) → ActFits a → length (spaced (act_pieces a)) ≤ 40
act_short (acts.Make name group bucket base bound) fits =
    simp length-append (omega (arith, wide name fits.0, small group (omega (arith, fits.1)), bucket_short bucket, small base fits.2, bound_short bound fits.3))
act_short (acts.Enter c head) fits = simp length-append (omega (arith, small c (omega arith), end_short head))
act_short acts.Select fits = omega arith
act_short (acts.Offer c) fits = omega (arith, small c (omega arith))
act_short (acts.Pull name) fits = omega (arith, wide name fits)
act_short (acts.Look c) fits = omega (arith, small c (omega arith))
act_short acts.Aim fits = omega arith
act_short (acts.Ran us) fits = omega (arith, wide us fits)
act_short acts.Sleep fits = omega arith
act_short (acts.Wake name) fits = omega (arith, wide name fits)
act_short acts.End fits = omega arith
act_short acts.Blocked fits = omega arith
act_short acts.Refresh fits = omega arith
act_short (acts.Off c) fits = omega (arith, small c (omega arith))
act_short (acts.On c) fits = omega (arith, small c (omega arith))

pub step_short : (s : Step) → StepFits s → length (step_text s) ≤ 60
step_short s fits =
    rw (step_text_is s) (simp length-append (omega (arith, length-decimal-le 13 s.moment (omega arith) (omega (arith, fits.moment)) (omega (arith, fits.moment)), small s.actor (omega (arith, fits.actor)), act_short s.act fits.act)))

pub written_short : (text : List ℕ) → IsStepText text → length text ≤ 60
written_short text is = rw is.same (step_short is.step is.fits)

-- how far a buffer is filled that holds one
pub filled_short : (text buffer : List ℕ) (len : ℕ) → IsStepText text → take len buffer ≡ text → len ≤ length buffer → len ≤ 60
filled_short text buffer len is same within =
    omega (arith, written_short text is, length-take-le len buffer within, ap length same)
