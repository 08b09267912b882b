-- Scans over the first eight numbers.
use Rattle.std.proofs.Common.{◌≡◌, ◌≤◌, ◌<◌, ◌+◌, ◌-◌, ◌&&◌, ◌||◌, ℕ, suc, Bool, true, false, cond, List, [], ◌∷◌, Option, Some, None, find, filter, fold, refl, sym, ap, arith, ◌∙◌, inl, inr}
use Rattle.std.specs.List.{list_any}
use Rattle.std.proofs.lemmas.Bool.{cases_Bool}
use Rattle.flat_policy.specs.Policy.Setup.{numbers_from}

-- the numbers that are left of a scan
pub numbers_next : (k n : ℕ) → k < n → numbers_from k (n - k) ≡ k ∷ numbers_from (k + 1) (n - (k + 1))
numbers_next k n lt =
    let e : n - k ≡ suc (n - (k + 1)) = omega arith in
    let s : suc k ≡ k + 1 = omega arith in
    ap (numbers_from k) e ∙ ap (λ (f : ℕ). k ∷ numbers_from f (n - (k + 1))) s

pub numbers_end : (k n : ℕ) → n ≤ k → numbers_from k (n - k) ≡ []
numbers_end k n le = let e : n - k ≡ 0 = omega arith in ap (numbers_from k) e

-- a find in what a filter keeps
pub find-filter : (p q : ℕ → Bool) (xs : List ℕ) → find q (filter p xs) ≡ find (λ c. p c && q c) xs
find-filter p q [] = refl
find-filter p q (x ∷ xs) =
    elim (cases_Bool (p x)) [
      | inl is ↦ ap (λ (b : Bool). find q (cond b (x ∷ filter p xs) (filter p xs))) is
          ∙ ap (λ (o : Option ℕ). cond (q x) (Some x) o) (find-filter p q xs)
          ∙ sym (ap (λ (b : Bool). cond (b && q x) (Some x) (find (λ c. p c && q c) xs)) is)
      | inr is ↦ ap (λ (b : Bool). find q (cond b (x ∷ filter p xs) (filter p xs))) is
          ∙ find-filter p q xs
          ∙ sym (ap (λ (b : Bool). cond (b && q x) (Some x) (find (λ c. p c && q c) xs)) is)
    ]

-- a scan for any, at a number that passes, at one that fails, and at its end
pub any_here : (p : ℕ → Bool) (k n : ℕ) → k < n → p k ≡ true → list_any p (numbers_from k (n - k)) ≡ true
any_here p k n lt is = ap (list_any p) (numbers_next k n lt) ∙ ap (λ (b : Bool). b || list_any p (numbers_from (k + 1) (n - (k + 1)))) is

pub any_later : (p : ℕ → Bool) (k n : ℕ) → k < n → p k ≡ false → list_any p (numbers_from (k + 1) (n - (k + 1))) ≡ list_any p (numbers_from k (n - k))
any_later p k n lt is =
    sym (ap (λ (b : Bool). b || list_any p (numbers_from (k + 1) (n - (k + 1)))) is) ∙ sym (ap (list_any p) (numbers_next k n lt))

pub any_end : (p : ℕ → Bool) (k n : ℕ) → n ≤ k → list_any p (numbers_from k (n - k)) ≡ false
any_end p k n le = ap (list_any p) (numbers_end k n le)

-- a scan for the first
pub find_here : (p : ℕ → Bool) (k n : ℕ) → k < n → p k ≡ true → find p (numbers_from k (n - k)) ≡ Some k
find_here p k n lt is = ap (find p) (numbers_next k n lt) ∙ ap (λ (b : Bool). cond b (Some k) (find p (numbers_from (k + 1) (n - (k + 1))))) is

pub find_later : (p : ℕ → Bool) (k n : ℕ) → k < n → p k ≡ false → find p (numbers_from (k + 1) (n - (k + 1))) ≡ find p (numbers_from k (n - k))
find_later p k n lt is =
    sym (ap (λ (b : Bool). cond b (Some k) (find p (numbers_from (k + 1) (n - (k + 1))))) is) ∙ sym (ap (find p) (numbers_next k n lt))

pub find_end : (p : ℕ → Bool) (k n : ℕ) → n ≤ k → find p (numbers_from k (n - k)) ≡ None
find_end p k n le = ap (find p) (numbers_end k n le)

-- a scan that gathers
pub fold_next : {A : Type 0} (f : A → ℕ → A) (a : A) (k n : ℕ) → k < n → fold f a (numbers_from k (n - k)) ≡ fold f (f a k) (numbers_from (k + 1) (n - (k + 1)))
fold_next f a k n lt = ap (fold f a) (numbers_next k n lt)

pub fold_end : {A : Type 0} (f : A → ℕ → A) (a : A) (k n : ℕ) → n ≤ k → fold f a (numbers_from k (n - k)) ≡ a
fold_end f a k n le = ap (fold f a) (numbers_end k n le)
