-- The items of an array, read one after another.
use Rattle.std.proofs.Common.{◌≡◌, ◌≢◌, ℕ, ◌+◌, ◌<◌, ◌≤◌, List, [], ◌∷◌, ◌++◌, length, drop, get_or, Option, Some, None, option_map, option_and_then, IfSome, refl, sym, ◌∙◌, ap, append_assoc, add-one, arith, drop-cons, suc}
use Rattle.std.proofs.lemmas.List.{append-nil, drop_all}
use Rattle.flat_policy.specs.Texts.SetupLines.{cons_if, each_item, with_length}
use Rattle.serde_json.specs.Data.{Data}
use Rattle.serde_json.specs.View.{items_view, view}
use Rattle.serde_json.specs.declared.value.Value.{Value}

abbrev pub with_front : {A : Type 0} → List A → Option (List A) → Option (List A)
with_front front rest = option_map (λ xs. front ++ xs) rest

-- the items before place k are read as front
pub record IsFront {A : Type 0} (of : Data → Option A) (vs : List Value) (k : ℕ) (front : List A) : Type 0 where
  pub is : each_item of (items_view vs) ≡ with_front front (each_item of (items_view (drop k vs)))

no_front : {A : Type 0} → (o : Option (List A)) → o ≡ with_front [] o
no_front None = refl
no_front (Some xs) = refl

one_more : {A : Type 0} → (front : List A) (x : A) (o : Option (List A)) → with_front front (cons_if (Some x) o) ≡ with_front (front ++ x ∷ []) o
one_more front x None = refl
one_more front x (Some xs) = ap (λ ys. Some ys) (sym (append_assoc front (x ∷ []) xs))

pub front_begins : {A : Type 0} → (of : Data → Option A) (vs : List Value) → IsFront of vs 0 []
front_begins of vs = record { is = no_front (each_item of (items_view vs)) }

-- the items from place k on, one of which is v
from_place : {A : Type 0} → (of : Data → Option A) (vs : List Value) (k : ℕ) (v : Value) → k < length vs → v ≡ get_or vs k v
    → each_item of (items_view (drop k vs)) ≡ cons_if (of (view v)) (each_item of (items_view (drop (k + 1) vs)))
from_place of vs k v within is =
    ap (λ ys. each_item of (items_view ys)) (drop-cons vs k v within)
    ∙ rw (← is, add-one) refl

pub front_more : {A : Type 0} → (of : Data → Option A) (vs : List Value) (k : ℕ) (front : List A) (v : Value) (x : A)
    → IsFront of vs k front → k < length vs → v ≡ get_or vs k v → of (view v) ≡ Some x → IsFront of vs (k + 1) (front ++ x ∷ [])
front_more of vs k front v x so_far within is found = record {
  is = so_far.is
      ∙ ap (with_front front) (from_place of vs k v within is ∙ ap (λ o. cons_if o (each_item of (items_view (drop (k + 1) vs)))) found)
      ∙ one_more front x (each_item of (items_view (drop (k + 1) vs)));
}

pub front_fails : {A : Type 0} → (of : Data → Option A) (vs : List Value) (k : ℕ) (front : List A) (v : Value)
    → IsFront of vs k front → k < length vs → v ≡ get_or vs k v → of (view v) ≡ None → each_item of (items_view vs) ≡ None
front_fails of vs k front v so_far within is missing =
    so_far.is
    ∙ ap (with_front front) (from_place of vs k v within is ∙ ap (λ o. cons_if o (each_item of (items_view (drop (k + 1) vs)))) missing)

pub front_ends : {A : Type 0} → (of : Data → Option A) (vs : List Value) (k : ℕ) (front : List A)
    → IsFront of vs k front → length vs ≤ k → each_item of (items_view vs) ≡ Some front
front_ends of vs k front so_far past =
    so_far.is
    ∙ ap (λ ys. with_front front (each_item of (items_view ys))) (drop_all k vs past)
    ∙ ap (λ ys. Some ys) (append-nil front)

-- as many values as items
cons_counts : {A : Type 0} → (o : Option A) (rest : Option (List A)) (n : ℕ) → IfSome rest (λ xs. length xs ≡ n) → IfSome (cons_if o rest) (λ xs. length xs ≡ suc n)
cons_counts None rest n h = tt
cons_counts (Some x) None n h = tt
cons_counts (Some x) (Some xs) n h = ap suc h

each_counts : {A : Type 0} → (of : Data → Option A) (vs : List Value) → IfSome (each_item of (items_view vs)) (λ xs. length xs ≡ length vs)
each_counts of [] = refl
each_counts of (v ∷ vs) = cons_counts (of (view v)) (each_item of (items_view vs)) (length vs) (each_counts of vs)

other_count : {A : Type 0} → (n m : ℕ) (o : Option (List A)) → IfSome o (λ xs. length xs ≡ m) → m ≢ n → option_and_then (with_length n) o ≡ None
other_count n m None h ne = refl
other_count n m (Some xs) h ne = grind arith

-- so many items are none of another length
pub wrong_count : {A : Type 0} → (of : Data → Option A) (vs : List Value) (n : ℕ) → length vs ≢ n → option_and_then (with_length n) (each_item of (items_view vs)) ≡ None
wrong_count of vs n ne = other_count n (length vs) (each_item of (items_view vs)) (each_counts of vs) ne

right_length : {A : Type 0} → (n : ℕ) (xs : List A) → length xs ≡ n → with_length n xs ≡ Some xs
right_length n xs h = grind arith

pub right_count : {A : Type 0} → (n : ℕ) (o : Option (List A)) (xs : List A) → o ≡ Some xs → length xs ≡ n → option_and_then (with_length n) o ≡ Some xs
right_count n o xs is h = ap (option_and_then (with_length n)) is ∙ right_length n xs h

pub no_count : {A : Type 0} → (n : ℕ) (o : Option (List A)) → o ≡ None → option_and_then (with_length n) o ≡ None
no_count n o is = ap (option_and_then (with_length n)) is
