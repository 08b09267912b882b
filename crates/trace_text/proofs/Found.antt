-- What is found in a list or read at a place of it has what each element has.
use Rattle.std.proofs.Common.{◌≡◌, ◌<◌, ℕ, suc, All, Bool, IfSome, true, List, [], ◌∷◌, None, Option, Some, arith, find, get_or, inl, inr, length, refl, subst, sym}
use Rattle.std.specs.Prelude.{option_and_then}
use Rattle.std.proofs.lemmas.Bool.{cases_lt, cond_both}
use Rattle.std.proofs.lemmas.List.{get_or_past}
use Rattle.std.proofs.lemmas.List.Elements.{All-cons}
use Rattle.flat_policy.specs.Policy.Queue.{Queued}
use Rattle.flat_policy.specs.Policy.WellFormed.{EachQueued}

-- what is found has what each element has
pub found_has : {X : Type 0} (P : X → Type 0) (p : X → Bool) (xs : List X) → All P xs → IfSome (find p xs) P
found_has P p [] all = tt
found_has P p (x ∷ xs) all =
    cond_both (p x) (Some x) (find p xs) (λ o. IfSome o P)
    (λ e. all 0 x (omega arith))
    (λ e. found_has P p xs (λ k d lt. all (suc k) d (omega (arith, lt))))

-- what is found passes
pub found_passes : {X : Type 0} (p : X → Bool) (xs : List X) → IfSome (find p xs) (λ x. p x ≡ true)
found_passes p [] = tt
found_passes p (x ∷ xs) = cond_both (p x) (Some x) (find p xs) (λ o. IfSome o (λ y. p y ≡ true)) (λ e. e) (λ e. found_passes p xs)

-- what comes of a value, where there is one
pub found_then : {X Y : Type 0} (P : Y → Type 0) (f : X → Option Y) (o : Option X) → ((x : X) → IfSome (f x) P) → IfSome (option_and_then f o) P
found_then P f None each = tt
found_then P f (Some x) each = each x

-- what is true of the value that an option is, where it is one
pub if_some : {X : Type 0} (P : X → Type 0) (o : Option X) → ((x : X) → o ≡ Some x → P x) → IfSome o P
if_some P None each = tt
if_some P (Some x) each = each x refl

-- what each element and the default have is had at each index
pub read_has : {X : Type 0} (P : X → Type 0) (xs : List X) (i : ℕ) (d : X) → ((k : ℕ) → k < length xs → P (get_or xs k d)) → P d → P (get_or xs i d)
read_has P xs i d each default =
    elim (cases_lt i (length xs)) [
      | inl within ↦ each i within
      | inr past ↦ subst P (sym (get_or_past xs i d past)) default
    ]

-- a fact of each entry of a queue, by place
pub all_queued : (P : Queued → Type 0) (es : List Queued) → EachQueued P es → All P es
all_queued P [] each = λ k d lt. absurd (omega (arith, lt))
all_queued P (e ∷ es) each = All-cons P e es each.0 (all_queued P es each.1)
