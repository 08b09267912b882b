-- What passes a test: none where a filter is empty, and how many of a list.
use Rattle.std.proofs.Common.{◌≡◌, ℕ, suc, ◌+◌, ◌≤◌, ◌==◌, ◌&&◌, ◌||◌, Bool, true, false, not, cond, List, [], ◌∷◌, Contains, filter, length, refl, sym, ap, ◌∙◌, inl, inr, arith}
use Rattle.std.specs.List.{list_any}
use Rattle.std.specs.Prelude.{count_by}
use Rattle.std.proofs.lemmas.Bool.{cases_Bool, cond-false, cond-true, false≢true, or_left, or_parts}
use Rattle.std.proofs.lemmas.List.Sums.{count_by-le-length, length-filter, sum_by-cons}
use Rattle.flat_policy.specs.Laws.Choice.{OrdersMembers}
use Rattle.cluster_queue.proofs.Members.{head_or_tail}

-- a test that no member passes keeps none
pub none_pass : {X : Type 0} (p : X → Bool) (xs : List X) → list_any p xs ≡ false → filter p xs ≡ []
none_pass p [] h = refl
none_pass p (x ∷ xs) h =
    let parts = or_parts (p x) (list_any p xs) h in
    ap (λ b. cond b (x ∷ filter p xs) (filter p xs)) parts.0 ∙ none_pass p xs parts.1

-- some member passes exactly where the filter has a member
pub any_passes : {X : Type 0} (p : X → Bool) (xs : List X) → not (length (filter p xs) == 0) ≡ list_any p xs
any_passes p [] = refl
any_passes p (x ∷ xs) =
    elim (cases_Bool (p x)) [
      | inl h ↦ (let long : not (suc (length (filter p xs)) == 0) ≡ true = grind arith in
          ap (λ (ys : List _). not (length ys == 0)) (cond-true (p x) (x ∷ filter p xs) (filter p xs) h) ∙ (long ∙ sym (or_left (p x) (list_any p xs) h)))
      | inr h ↦ ap (λ (ys : List _). not (length ys == 0)) (cond-false (p x) (x ∷ filter p xs) (filter p xs) h) ∙ (any_passes p xs ∙ sym (ap (λ (b : Bool). b || list_any p xs) h))
    ]

-- an order of a list's members orders those of a part of it
pub orders_part : {X : Type 0} (before : X → X → Bool) (xs ys : List X) → ((x : X) → Contains ys x → Contains xs x) → OrdersMembers before xs → OrdersMembers before ys
orders_part before xs ys part o = record {
  irreflexive = λ x a. o.irreflexive x (part x a);
  transitive = λ x y z a b d h k. o.transitive x y z (part x a) (part y b) (part z d) h k;
  total = λ x y a b h k. o.total x y (part x a) (part y b) h k;
}

-- what the filter has shows that some member passes
pub some_pass : {X : Type 0} (p : X → Bool) (xs : List X) (x : X) → Contains (filter p xs) x → list_any p xs ≡ true
some_pass p xs x c =
    let some : not (length (filter p xs) == 0) ≡ true = grind (arith, c.1) in
    sym (any_passes p xs) ∙ some

-- a filter is no longer than the list
pub filter_most : {X : Type 0} (p : X → Bool) (xs : List X) → length (filter p xs) ≤ length xs
filter_most p xs = omega (arith, length-filter p xs, count_by-le-length p xs)

-- one for a test that passes
abbrev pub mark : Bool → ℕ
mark b = cond b 1 0

pub count_cons : {X : Type 0} (p : X → Bool) (x : X) (xs : List X) → count_by p (x ∷ xs) ≡ mark (p x) + count_by p xs
count_cons p x xs = sum_by-cons (λ y. cond (p y) 1 0) x xs

-- where each passes one test as often as two others, together
pub count_both : {X : Type 0} (p q r : X → Bool) → ((x : X) → mark (r x) ≡ mark (p x) + mark (q x)) → (xs : List X) → count_by r xs ≡ count_by p xs + count_by q xs
count_both p q r both [] = refl
count_both p q r both (x ∷ xs) = omega (arith, count_both p q r both xs, both x, count_cons p x xs, count_cons q x xs, count_cons r x xs)

pub count_none : {X : Type 0} (p : X → Bool) → ((x : X) → p x ≡ false) → (xs : List X) → count_by p xs ≡ 0
count_none p none [] = refl
count_none p none (x ∷ xs) = omega (arith, count_none p none xs, count_cons p x xs, ap mark (none x))

-- fewer pass both tests
mark_both : (a b : Bool) → mark (a && b) ≤ mark a
mark_both true true = omega arith
mark_both true false = omega arith
mark_both false b = omega arith

count_less : {X : Type 0} (p q : X → Bool) (xs : List X) → count_by (λ x. p x && q x) xs ≤ count_by p xs
count_less p q [] = omega arith
count_less p q (x ∷ xs) = omega (arith, count_less p q xs, mark_both (p x) (q x), count_cons p x xs, count_cons (λ y. p y && q y) x xs)

marked_both : (a b : Bool) → a ≡ true → mark a ≤ mark (a && b) → b ≡ true
marked_both true true h le = refl
marked_both true false h le = absurd (omega (arith, le))
marked_both false b h le = absurd (false≢true h)

-- where as many pass both tests as the one, each that passes the one passes the other
pub all_pass : {X : Type 0} (p q : X → Bool) (xs : List X) → count_by p xs ≡ count_by (λ x. p x && q x) xs → (x : X) → Contains xs x → p x ≡ true → q x ≡ true
all_pass p q [] same x c h = absurd (omega (arith, c.1))
all_pass p q (y ∷ ys) same x c h =
    let few = count_less p q ys in
    let one = mark_both (p y) (q y) in
    let here = count_cons p y ys in
    let both = count_cons (λ z. p z && q z) y ys in
    elim (head_or_tail y ys x c) [
      | inl is ↦ ap q (sym is) ∙ marked_both (p y) (q y) (ap p is ∙ h) (omega (arith, same, few, here, both))
      | inr d ↦ all_pass p q ys (omega (arith, same, few, one, here, both)) x d h
    ]
