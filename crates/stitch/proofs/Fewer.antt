-- How many lines of the logs are left: one less with each line taken.
use Rattle.std.proofs.Common.{◌≡◌, ℕ, zero, suc, ◌+◌, ◌-◌, ◌<◌, ◌≤◌, ◌==◌, Bool, true, false, cond, List, [], ◌∷◌, ◌++◌, length, filter, Some, refl, ap, ◌∙◌, subst, inl, inr, arith, eq-eqb, length-append}
use Rattle.std.specs.List.{slice_get}
use Rattle.std.specs.Prelude.{slice_index_or}
use Rattle.std.proofs.lemmas.Bool.{cases_Bool}
use Rattle.std.proofs.lemmas.Option.{none-some, slice_get_within}
use Rattle.flat_policy.specs.declared.journal.Line.{Line}
use Rattle.flat_policy.specs.Runs.Histories.{actor_of}
use Rattle.flat_policy.specs.Runs.Interleaving.{lines_of_actor}
use Rattle.stitch.proofs.Parts.{more_fails, more_passes}

-- the lines left of some logs, with the actors numbered from a on
abbrev pub lines_left : List (List Line) → ℕ → List Line → ℕ
lines_left [] a history = 0
lines_left (log ∷ logs) a history = (length log - length (lines_of_actor a history)) + lines_left logs (a + 1) history

one_more_of : (a : ℕ) (history : List Line) (l : Line) → actor_of l ≡ a → length (lines_of_actor a (history ++ l ∷ [])) ≡ length (lines_of_actor a history) + 1
one_more_of a history l e =
    ap length (more_passes (λ (m : Line). actor_of m == a) history l (eq-eqb (actor_of l) a e)) ∙ length-append (lines_of_actor a history) (l ∷ [])

not_fewer_of : (a : ℕ) (history : List Line) (l : Line) → length (lines_of_actor a history) ≤ length (lines_of_actor a (history ++ l ∷ []))
not_fewer_of a history l =
    elim (cases_Bool (actor_of l == a)) [
      | inl e ↦ (let more : length (lines_of_actor a (history ++ l ∷ [])) ≡ length (lines_of_actor a history ++ l ∷ []) = ap length (more_passes (λ (m : Line). actor_of m == a) history l e) in
          omega (arith, length-append (lines_of_actor a history) (l ∷ [])))
      | inr e ↦ (let same : length (lines_of_actor a (history ++ l ∷ [])) ≡ length (lines_of_actor a history) = ap length (more_fails (λ (m : Line). actor_of m == a) history l e) in omega arith)
    ]

not_more_left : (logs : List (List Line)) (a : ℕ) (history : List Line) (l : Line) → lines_left logs a (history ++ l ∷ []) ≤ lines_left logs a history
not_more_left [] a history l = omega arith
not_more_left (log ∷ logs) a history l =
    let here : length (lines_of_actor a history) ≤ length (lines_of_actor a (history ++ l ∷ [])) = not_fewer_of a history l in
    let later : lines_left logs (a + 1) (history ++ l ∷ []) ≤ lines_left logs (a + 1) history = not_more_left logs (a + 1) history l in
    omega arith

fewer_left : (logs : List (List Line)) (a i : ℕ) (history : List Line) (l : Line) → actor_of l ≡ a + i → slice_get (slice_index_or logs i []) (length (lines_of_actor (a + i) history)) ≡ Some l → lines_left logs a (history ++ l ∷ []) < lines_left logs a history
fewer_left [] a i history l e h = absurd (none-some l h)
fewer_left (log ∷ logs) a zero history l e h =
    let own : a + 0 ≡ a = omega arith in
    let within : length (lines_of_actor a history) < length log = slice_get_within log (length (lines_of_actor a history)) l (subst (λ (n : ℕ). slice_get log (length (lines_of_actor n history)) ≡ Some l) own h) in
    let more : length (lines_of_actor a (history ++ l ∷ [])) ≡ length (lines_of_actor a history) + 1 = one_more_of a history l (e ∙ own) in
    let later : lines_left logs (a + 1) (history ++ l ∷ []) ≤ lines_left logs (a + 1) history = not_more_left logs (a + 1) history l in
    omega arith
fewer_left (log ∷ logs) a (suc i) history l e h =
    let own : a + suc i ≡ a + 1 + i = omega arith in
    let here : length (lines_of_actor a history) ≤ length (lines_of_actor a (history ++ l ∷ [])) = not_fewer_of a history l in
    let later : lines_left logs (a + 1) (history ++ l ∷ []) < lines_left logs (a + 1) history = fewer_left logs (a + 1) i history l (e ∙ own) (subst (λ (n : ℕ). slice_get (slice_index_or logs i []) (length (lines_of_actor n history)) ≡ Some l) own h) in
    omega arith

-- a line that is the next of its actor leaves fewer
pub taken_leaves_fewer : (logs : List (List Line)) (history : List Line) (l : Line) → slice_get (slice_index_or logs (actor_of l) []) (length (lines_of_actor (actor_of l) history)) ≡ Some l → lines_left logs 0 (history ++ l ∷ []) < lines_left logs 0 history
taken_leaves_fewer logs history l h =
    let own : actor_of l ≡ 0 + actor_of l = omega arith in
    fewer_left logs 0 (actor_of l) history l own (subst (λ (n : ℕ). slice_get (slice_index_or logs (actor_of l) []) (length (lines_of_actor n history)) ≡ Some l) own h)
