-- Passes over rows, one row after the other.
use Rattle.std.proofs.Common.{◌≡◌, ℕ, ◌+◌, ◌<◌, ◌≤◌, max, Bool, true, false, cond, List, [], ◌∷◌, ◌++◌, filter, fold, get_or, length, map, take, sym, ap, ◌∙◌, inl, inr, arith}
use Rattle.std.proofs.lemmas.Bool.{cases_Bool, cond-false, cond-true}
use Rattle.std.proofs.lemmas.List.{append-nil, length_push, map-append, map_more, take_all}
use Rattle.std.proofs.lemmas.List.Elements.{filter-append}
use Rattle.std.proofs.lemmas.List.Sums.{fold-append}
use Rattle.flat_policy.specs.Policy.Precedence.{greatest_pri}
use Rattle.flat_policy.specs.Policy.Queue.{Queued}
use Rattle.plain_cluster.specs.Entries.{Slotted, entries_of}

-- one row more
entries_more : (rows : List Slotted) (i : ℕ) (x : Slotted) → i < length rows → x ≡ get_or rows i x → entries_of (take (i + 1) rows) ≡ entries_of (take i rows) ++ x.entry ∷ []
entries_more rows i x within is =
    map_more (λ (r : Slotted). r.entry) rows i x within ∙ ap (λ (r : Slotted). entries_of (take i rows) ++ r.entry ∷ []) (sym is)

passed_more : (p : Queued → Bool) (rows : List Slotted) (i : ℕ) (x : Slotted) → i < length rows → x ≡ get_or rows i x
    → filter p (entries_of (take (i + 1) rows)) ≡ filter p (entries_of (take i rows)) ++ cond (p x.entry) (x.entry ∷ []) []
passed_more p rows i x within is =
    ap (filter p) (entries_more rows i x within is) ∙ filter-append p (entries_of (take i rows)) (x.entry ∷ [])

-- one row more that passes, and one that doesn't
pub passed_yes : (p : Queued → Bool) (rows : List Slotted) (i : ℕ) (x : Slotted) → i < length rows → x ≡ get_or rows i x → p x.entry ≡ true
    → filter p (entries_of (take (i + 1) rows)) ≡ filter p (entries_of (take i rows)) ++ x.entry ∷ []
passed_yes p rows i x within is passes =
    passed_more p rows i x within is ∙ ap (λ es. filter p (entries_of (take i rows)) ++ es) (cond-true (p x.entry) (x.entry ∷ []) [] passes)

pub passed_no : (p : Queued → Bool) (rows : List Slotted) (i : ℕ) (x : Slotted) → i < length rows → x ≡ get_or rows i x → p x.entry ≡ false
    → filter p (entries_of (take (i + 1) rows)) ≡ filter p (entries_of (take i rows))
passed_no p rows i x within is fails =
    passed_more p rows i x within is ∙ ap (λ es. filter p (entries_of (take i rows)) ++ es) (cond-false (p x.entry) (x.entry ∷ []) [] fails)
    ∙ append-nil (filter p (entries_of (take i rows)))

-- a pass that folds what passes
pub folded_yes : {B : Type 0} (f : B → Queued → B) (b : B) (p : Queued → Bool) (rows : List Slotted) (i : ℕ) (x : Slotted) → i < length rows → x ≡ get_or rows i x → p x.entry ≡ true
    → fold f b (filter p (entries_of (take (i + 1) rows))) ≡ f (fold f b (filter p (entries_of (take i rows)))) x.entry
folded_yes f b p rows i x within is passes =
    ap (fold f b) (passed_yes p rows i x within is passes) ∙ fold-append f b (filter p (entries_of (take i rows))) (x.entry ∷ [])

pub folded_no : {B : Type 0} (f : B → Queued → B) (b : B) (p : Queued → Bool) (rows : List Slotted) (i : ℕ) (x : Slotted) → i < length rows → x ≡ get_or rows i x → p x.entry ≡ false
    → fold f b (filter p (entries_of (take (i + 1) rows))) ≡ fold f b (filter p (entries_of (take i rows)))
folded_no f b p rows i x within is fails = ap (fold f b) (passed_no p rows i x within is fails)

pub counted_yes : (p : Queued → Bool) (rows : List Slotted) (i : ℕ) (x : Slotted) → i < length rows → x ≡ get_or rows i x → p x.entry ≡ true
    → length (filter p (entries_of (take (i + 1) rows))) ≡ length (filter p (entries_of (take i rows))) + 1
counted_yes p rows i x within is passes = ap length (passed_yes p rows i x within is passes) ∙ length_push (filter p (entries_of (take i rows))) x.entry

pub counted_no : (p : Queued → Bool) (rows : List Slotted) (i : ℕ) (x : Slotted) → i < length rows → x ≡ get_or rows i x → p x.entry ≡ false
    → length (filter p (entries_of (take (i + 1) rows))) ≡ length (filter p (entries_of (take i rows)))
counted_no p rows i x within is fails = ap length (passed_no p rows i x within is fails)

-- one row more, counted where it passes
pub counted_more : (p : Queued → Bool) (rows : List Slotted) (i : ℕ) (x : Slotted) → i < length rows → x ≡ get_or rows i x
    → length (filter p (entries_of (take (i + 1) rows))) ≡ length (filter p (entries_of (take i rows))) + cond (p x.entry) 1 0
counted_more p rows i x within is =
    let n = length (filter p (entries_of (take i rows))) in
    elim (cases_Bool (p x.entry)) [
      | inl h ↦ counted_yes p rows i x within is h ∙ ap (λ (b : Bool). n + cond b 1 0) (sym h)
      | inr h ↦ counted_no p rows i x within is h ∙ (let same : n ≡ n + 0 = omega arith in same ∙ ap (λ (b : Bool). n + cond b 1 0) (sym h))
    ]

-- the greatest of some numbers and one more
pub greatest_yes : (p : Queued → Bool) (rows : List Slotted) (i : ℕ) (x : Slotted) → i < length rows → x ≡ get_or rows i x → p x.entry ≡ true
    → greatest_pri (filter p (entries_of (take (i + 1) rows))) ≡ max (greatest_pri (filter p (entries_of (take i rows)))) x.entry.pri
greatest_yes p rows i x within is passes =
    ap greatest_pri (passed_yes p rows i x within is passes)
    ∙ ap (fold max 0) (map-append (λ (e : Queued). e.pri) (filter p (entries_of (take i rows))) (x.entry ∷ []))
    ∙ fold-append max 0 (map (λ (e : Queued). e.pri) (filter p (entries_of (take i rows)))) (x.entry.pri ∷ [])

pub greatest_no : (p : Queued → Bool) (rows : List Slotted) (i : ℕ) (x : Slotted) → i < length rows → x ≡ get_or rows i x → p x.entry ≡ false
    → greatest_pri (filter p (entries_of (take (i + 1) rows))) ≡ greatest_pri (filter p (entries_of (take i rows)))
greatest_no p rows i x within is fails = ap greatest_pri (passed_no p rows i x within is fails)

pub greatest_more : (p : Queued → Bool) (rows : List Slotted) (i : ℕ) (x : Slotted) → i < length rows → x ≡ get_or rows i x
    → greatest_pri (filter p (entries_of (take (i + 1) rows))) ≡ cond (p x.entry) (max (greatest_pri (filter p (entries_of (take i rows)))) x.entry.pri) (greatest_pri (filter p (entries_of (take i rows))))
greatest_more p rows i x within is =
    let n = greatest_pri (filter p (entries_of (take i rows))) in
    elim (cases_Bool (p x.entry)) [
      | inl h ↦ greatest_yes p rows i x within is h ∙ sym (cond-true (p x.entry) (max n x.entry.pri) n h)
      | inr h ↦ greatest_no p rows i x within is h ∙ sym (cond-false (p x.entry) (max n x.entry.pri) n h)
    ]

-- all rows
pub taken_all : (rows : List Slotted) (n : ℕ) → length rows ≤ n → take n rows ≡ rows
taken_all rows n all = take_all n rows all
