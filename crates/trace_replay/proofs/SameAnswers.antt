-- Two answers are the same where their keys are.
use Rattle.std.proofs.Common.{◌≡◌, ◌∙◌, ◌↔◌, ℕ, List, [], ◌∷◌, Bool, Option, Some, None, true, false, ap, ap₂, inl, inr, refl, sym, subst, option_map, unwrap_or, ◌==◌}
use Rattle.std.proofs.lemmas.Bool.{and_from, and_parts, cases_Bool, eq-eqb, eqb-true, false≢true}
use Rattle.std.specs.Prelude.{IsTrue, if◌then◌else◌}
use Rattle.sched_base.specs.declared.Answer.{Answer}
use Rattle.sched_base.specs.declared.Place.{Place}
use Rattle.flat_policy.specs.Texts.Answers.{answer_key, place_key, same_answer}
use Rattle.flat_policy.specs.Texts.Pieces.{same_text}
use Rattle.sched_base.specs.declared.Answer.TheVariants as answers
use Rattle.sched_base.specs.declared.Place.TheVariants as places

-- texts that are found the same are equal
same_equal : (a b : List ℕ) → same_text a b ≡ true → a ≡ b
same_equal [] [] same = refl
same_equal [] (c ∷ cs) same = absurd (false≢true same)
same_equal (b ∷ bs) [] same = absurd (false≢true same)
same_equal (b ∷ bs) (c ∷ cs) same =
    let parts = and_parts (b == c) (same_text bs cs) same in
    ap₂ (λ (x : ℕ) (xs : List ℕ). x ∷ xs) (eqb-true b c parts.0) (same_equal bs cs parts.1)

-- what the number of a key stands for
abbrev numbered : {A : Type 0} → (ℕ → A) → List ℕ → Option A
numbered of [] = None
numbered of (n ∷ ns) = Some (of n)

-- the place of a key
abbrev place_back : List ℕ → Option Place
place_back [] = None
place_back (k ∷ rest) =
    if k == 0 then numbered (λ c. places.Queue c) rest
    else if k == 1 then numbered (λ a. places.Hand a) rest
    else if k == 2 then Some places.Blocked
    else if k == 3 then Some places.Ended
    else Some places.Nowhere

place_again : (p : Place) → place_back (place_key p) ≡ Some p
place_again (places.Queue c) = refl
place_again (places.Hand a) = refl
place_again places.Blocked = refl
place_again places.Ended = refl
place_again places.Nowhere = refl

-- the answer of a key
abbrev answer_back : List ℕ → Option Answer
answer_back [] = None
answer_back (k ∷ rest) =
    if k == 0 then Some answers.Yes
    else if k == 1 then numbered (λ p. answers.Pri p) rest
    else if k == 2 then numbered (λ n. answers.Got n) rest
    else if k == 3 then Some answers.Empty
    else if k == 4 then Some answers.Off
    else if k == 5 then numbered (λ l. answers.Load l) rest
    else if k == 6 then numbered (λ c. answers.To c) rest
    else if k == 7 then numbered (λ n. answers.New n) rest
    else if k == 8 then numbered (λ n. answers.Left n) rest
    else if k == 9 then numbered (λ w. answers.Work w) rest
    else if k == 10 then Some answers.HandFull
    else if k == 11 then Some answers.HandEmpty
    else if k == 12 then Some answers.NameUsed
    else if k == 13 then Some answers.NoRoom
    else if k == 14 then option_map (λ p. answers.NotBlocked p) (place_back rest)
    else if k == 15 then option_map (λ p. answers.NotQueued p) (place_back rest)
    else if k == 16 then Some answers.OwnCluster
    else if k == 17 then Some answers.NotAllowed
    else numbered (λ c. answers.LookFirst c) rest

answer_again : (a : Answer) → answer_back (answer_key a) ≡ Some a
answer_again answers.Yes = refl
answer_again (answers.Pri p) = refl
answer_again (answers.Got name) = refl
answer_again answers.Empty = refl
answer_again answers.Off = refl
answer_again (answers.Load l) = refl
answer_again (answers.To c) = refl
answer_again (answers.New n) = refl
answer_again (answers.Left n) = refl
answer_again (answers.Work w) = refl
answer_again answers.HandFull = refl
answer_again answers.HandEmpty = refl
answer_again answers.NameUsed = refl
answer_again answers.NoRoom = refl
answer_again (answers.NotBlocked place) = ap (λ (o : Option Place). option_map (λ p. answers.NotBlocked p) o) (place_again place)
answer_again (answers.NotQueued place) = ap (λ (o : Option Place). option_map (λ p. answers.NotQueued p) o) (place_again place)
answer_again answers.OwnCluster = refl
answer_again answers.NotAllowed = refl
answer_again (answers.LookFirst c) = refl

some_same : {A : Type 0} (a b : A) → Some a ≡ Some b → a ≡ b
some_same a b same = ap (λ o. unwrap_or o a) same

-- answers that are found the same are equal
pub same_answers : (a b : Answer) → same_answer a b ≡ true → a ≡ b
same_answers a b same =
    some_same a b (sym (answer_again a) ∙ ap answer_back (same_equal (answer_key a) (answer_key b) same) ∙ answer_again b)

same_itself : (t : List ℕ) → same_text t t ≡ true
same_itself [] = refl
same_itself (b ∷ bs) = and_from (b == b) (same_text bs bs) (eq-eqb b b refl) (same_itself bs)

-- a test of whether two answers are equal finds whether they are the same
pub same_by_test : (told : Bool) (a b : Answer) → (IsTrue told ↔ (a ≡ b)) → told ≡ same_answer a b
same_by_test true a b test = sym (subst (λ c. same_answer a c ≡ true) (test.0 refl) (same_itself (answer_key a)))
same_by_test false a b test =
    elim (cases_Bool (same_answer a b)) [
      | inl same ↦ absurd (false≢true (test.1 (same_answers a b same)))
      | inr other ↦ sym other
    ]
