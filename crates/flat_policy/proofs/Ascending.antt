-- Lists whose numbers ascend.
use Rattle.std.proofs.Common.{◌≡◌, ℕ, zero, suc, ◌<◌, ◌≤◌, Bool, true, Contains, List, [], ◌∷◌, filter, find, map, Some, sym, ap, ◌∙◌, subst, inl, inr, arith}
use Rattle.std.proofs.lemmas.Bool.{cases_Bool, cond-false, cond-true, cond_both, false≢true}
use Rattle.std.proofs.lemmas.Option.{same_Some}
use Rattle.flat_policy.specs.Policy.Setup.{numbers_from}
use Rattle.flat_policy.proofs.Members.{contains_cases, contains_here, contains_later, contains_none, member_of_filter}

-- numbers that ascend, and the first that passes among them
abbrev pub Ascends : List ℕ → Type 0
Ascends [] = Unit {0}
Ascends (x ∷ xs) = ((y : ℕ) → Contains xs y → x < y) × Ascends xs

number_from : (first count n : ℕ) → Contains (numbers_from first count) n → first ≤ n
number_from first zero n c = absurd (contains_none n c)
number_from first (suc count) n c =
    elim (contains_cases first (numbers_from (suc first) count) n c) [
      | inl is ↦ omega (arith, is)
      | inr d ↦ omega (arith, number_from (suc first) count n d)
    ]

pub numbers_ascend : (first count : ℕ) → Ascends (numbers_from first count)
numbers_ascend first zero = tt
numbers_ascend first (suc count) = (λ y c. number_from (suc first) count y c, numbers_ascend (suc first) count)

pub filter_ascends : (p : ℕ → Bool) (xs : List ℕ) → Ascends xs → Ascends (filter p xs)
filter_ascends p [] up = tt
filter_ascends p (x ∷ xs) up =
    cond_both (p x) (x ∷ filter p xs) (filter p xs) Ascends
    (λ h. (λ y c. up.0 y (member_of_filter p xs y c).0, filter_ascends p xs up.1))
    (λ h. filter_ascends p xs up.1)

pub first_is_least : (p : ℕ → Bool) (xs : List ℕ) → Ascends xs → (c : ℕ) → find p xs ≡ Some c → (d : ℕ) → Contains xs d → p d ≡ true → c ≤ d
first_is_least p [] up c h d m t = absurd (contains_none d m)
first_is_least p (x ∷ xs) up c h d m t =
    elim (cases_Bool (p x)) [
      | inl e ↦ (let is : x ≡ c = same_Some x c (sym (cond-true (p x) (Some x) (find p xs) e) ∙ h) in
          elim (contains_cases x xs d m) [
            | inl here ↦ omega (arith, is, here)
            | inr later ↦ omega (arith, is, up.0 d later)
          ])
      | inr e ↦ elim (contains_cases x xs d m) [
        | inl here ↦ absurd (false≢true (sym e ∙ (ap p here ∙ t)))
        | inr later ↦ first_is_least p xs up.1 c (sym (cond-false (p x) (Some x) (find p xs) e) ∙ h) d later t
      ]
    ]

-- a number of each member, where these ascend, tells the members apart
number_of_member : {X : Type 0} (f : X → ℕ) (xs : List X) (x : X) → Contains xs x → Contains (map f xs) (f x)
number_of_member f [] x c = absurd (contains_none x c)
number_of_member f (y ∷ ys) x c =
    elim (contains_cases y ys x c) [
      | inl is ↦ subst (λ n. Contains (f y ∷ map f ys) n) (ap f is) (contains_here (f y) (map f ys))
      | inr d ↦ contains_later (f y) (map f ys) (f x) (number_of_member f ys x d)
    ]

pub same_from_number : {X : Type 0} (f : X → ℕ) (xs : List X) → Ascends (map f xs) → (x y : X) → Contains xs x → Contains xs y → f x ≡ f y → x ≡ y
same_from_number f [] up x y c d same = absurd (contains_none x c)
same_from_number f (z ∷ zs) up x y c d same =
    elim (contains_cases z zs x c) [
      | inl zx ↦ elim (contains_cases z zs y d) [
        | inl zy ↦ sym zx ∙ zy
        | inr dy ↦ absurd (omega (arith, ap f zx, same, up.0 (f y) (number_of_member f zs y dy)))
      ]
      | inr dx ↦ elim (contains_cases z zs y d) [
        | inl zy ↦ absurd (omega (arith, ap f zy, same, up.0 (f x) (number_of_member f zs x dx)))
        | inr dy ↦ same_from_number f zs up.1 x y dx dy same
      ]
    ]
