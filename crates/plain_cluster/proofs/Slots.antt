-- Slots that are taken or free, each once.
use Rattle.std.proofs.Common.{◌≡◌, ℕ, zero, suc, ◌+◌, ◌<◌, ◌≤◌, ◌==◌, nat_lt, cond, Contains, List, [], ◌∷◌, ◌++◌, get_or, length, drop, take, Option, Some, None, refl, sym, ap, ◌∙◌, subst, inl, inr, arith, eq-eqb}
use Rattle.std.specs.List.{remove}
use Rattle.std.proofs.lemmas.Bool.{cases_eq, cases_lt, cond-false, cond-true, cond_both, le-ltb, lt-ltb, ne_eqb}
use Rattle.std.specs.List.{drop-map, take-map}
use Rattle.std.proofs.lemmas.List.{length_push, map-append}
use Rattle.std.proofs.lemmas.List.Edits.{length-remove}
use Rattle.std.proofs.lemmas.List.Sums.{sum_by-cons, sum_by_push}
use Rattle.std.specs.List.{slice_get}
use Rattle.std.specs.Option.{option_map}
use Rattle.std.proofs.lemmas.Option.{get_or_from_slice_get, none-some, same_Some, slice_get-get_or}
use Rattle.flat_policy.specs.Policy.Queue.{Queued}
use Rattle.plain_cluster.specs.Entries.{EachSlotOnce, Slotted, entry_at, slots_of, times_there}

abbrev is_slot : ℕ → ℕ → ℕ
is_slot slot k = cond (k == slot) 1 0

times_pushed : (slot : ℕ) (xs : List ℕ) (x : ℕ) → times_there slot (xs ++ x ∷ []) ≡ times_there slot xs + cond (x == slot) 1 0
times_pushed slot xs x = sum_by_push (λ k. cond (k == slot) 1 0) xs x

times_removed : (slot : ℕ) (xs : List ℕ) (i x : ℕ) → i < length xs → get_or xs i x ≡ x → times_there slot (remove xs i) + cond (x == slot) 1 0 ≡ times_there slot xs
times_removed slot [] i x within is = absurd (omega (arith, within))
times_removed slot (y ∷ ys) zero x within is =
    let left : times_there slot (remove (y ∷ ys) 0) ≡ times_there slot ys = refl in
    omega (arith, left, sum_by-cons (is_slot slot) y ys, ap (is_slot slot) is)
times_removed slot (y ∷ ys) (suc i) x within is =
    let left : times_there slot (remove (y ∷ ys) (suc i)) ≡ is_slot slot y + times_there slot (remove ys i) = sum_by-cons (is_slot slot) y (remove ys i) in
    omega (arith, left, sum_by-cons (is_slot slot) y ys, times_removed slot ys i x (omega (arith, within)) is)

with_total : (slot m n a : ℕ) → m ≡ n → a ≤ cond (nat_lt slot m) 1 0 → a ≤ cond (nat_lt slot n) 1 0
with_total slot m n a e h = subst (λ t. a ≤ cond (nat_lt slot t) 1 0) e h

-- the last free slot is taken
pub slot_taken : (taken free : List ℕ) (x : ℕ) → EachSlotOnce taken (free ++ x ∷ []) → EachSlotOnce (taken ++ x ∷ []) free
slot_taken taken free x once slot =
    with_total slot (length taken + length (free ++ x ∷ [])) (length (taken ++ x ∷ []) + length free) (times_there slot (taken ++ x ∷ []) + times_there slot free)
    (omega (arith, length_push taken x, length_push free x))
    (let h = once slot in let p = times_pushed slot free x in let q = times_pushed slot taken x in
    subst (λ n. n ≤ cond (nat_lt slot (length taken + length (free ++ x ∷ []))) 1 0) (omega (arith, p, q)) h)

-- a taken slot is free again
pub slot_freed : (taken free : List ℕ) (i x : ℕ) → i < length taken → get_or taken i x ≡ x → EachSlotOnce taken free → EachSlotOnce (remove taken i) (free ++ x ∷ [])
slot_freed taken free i x within is once slot =
    with_total slot (length taken + length free) (length (remove taken i) + length (free ++ x ∷ [])) (times_there slot (remove taken i) + times_there slot (free ++ x ∷ []))
    (omega (arith, length-remove taken i within, length_push free x))
    (subst (λ n. n ≤ cond (nat_lt slot (length taken + length free)) 1 0) (omega (arith, times_pushed slot free x, times_removed slot taken i x within is)) (once slot))

-- the slot of their number is one more
pub slot_more : (taken free : List ℕ) (x : ℕ) → x ≡ length taken + length free → EachSlotOnce taken free → EachSlotOnce taken (free ++ x ∷ [])
slot_more taken free x e once slot =
    let h = once slot in
    let p = times_pushed slot free x in
    let long = length_push free x in
    let total = length taken + length free in
    let after = length taken + length (free ++ x ∷ []) in
    elim (cases_lt slot total) [
      | inl low ↦ (
          let one = cond-true {A = ℕ} (nat_lt slot total) 1 0 (lt-ltb slot total low) in
          let next = cond-true {A = ℕ} (nat_lt slot after) 1 0 (lt-ltb slot after (omega (arith, low, long))) in
          let other = cond-false {A = ℕ} (x == slot) 1 0 (ne_eqb x slot (omega (arith, e, low))) in
          omega (arith, h, p, one, next, other))
      | inr high ↦ (
          let none = cond-false {A = ℕ} (nat_lt slot total) 1 0 (le-ltb slot total high) in
          elim (cases_eq x slot) [
            | inl same ↦ (
                let next = cond-true {A = ℕ} (nat_lt slot after) 1 0 (lt-ltb slot after (omega (arith, same, e, long))) in
                let one = cond-true {A = ℕ} (x == slot) 1 0 (eq-eqb x slot same) in
                omega (arith, h, p, none, next, one))
            | inr differ ↦ (
                let other = cond-false {A = ℕ} (x == slot) 1 0 (ne_eqb x slot differ) in
                omega (arith, h, p, none, other))
          ])
    ]

contains_counts : (x : ℕ) (xs : List ℕ) → Contains xs x → 1 ≤ times_there x xs
contains_counts x [] c = absurd (omega (arith, c.1))
contains_counts x (y ∷ ys) (zero, within, is) = omega (arith, sum_by-cons (is_slot x) y ys, cond-true {A = ℕ} (y == x) 1 0 (eq-eqb y x is))
contains_counts x (y ∷ ys) (suc k, within, is) = omega (arith, sum_by-cons (is_slot x) y ys, contains_counts x ys (k, omega (arith, within), is))

-- a free slot is not taken
pub slot_fresh : (taken free : List ℕ) (x : ℕ) → EachSlotOnce taken (free ++ x ∷ []) → Contains taken x → ⊥
slot_fresh taken free x once c =
    let h = once x in
    let one = cond-true {A = ℕ} (x == x) 1 0 (eq-eqb x x refl) in
    let most : cond (nat_lt x (length taken + length (free ++ x ∷ []))) 1 0 ≤ 1 =
    cond_both (nat_lt x (length taken + length (free ++ x ∷ []))) 1 0 (λ n. n ≤ 1) (λ e. omega arith) (λ e. omega arith) in
    omega (arith, h, one, most, times_pushed x free x, contains_counts x taken c)

-- the slots of rows, when one is taken out
pub slots_removed : (rows : List Slotted) (i : ℕ) → slots_of (remove rows i) ≡ remove (slots_of rows) i
slots_removed rows i =
    map-append (λ (r : Slotted). r.slot) (take i rows) (drop (suc i) rows)
    ∙ (ap (λ xs. xs ++ slots_of (drop (suc i) rows)) (sym (take-map (λ (r : Slotted). r.slot) i rows))
    ∙ ap (λ xs. take i (slots_of rows) ++ xs) (sym (drop-map (λ (r : Slotted). r.slot) (suc i) rows)))

-- the slot of the row at a place
pub taken_at : (rows : List Slotted) (i : ℕ) (x : Slotted) → i < length rows → x ≡ get_or rows i x → get_or (slots_of rows) i x.slot ≡ x.slot
taken_at [] i x within is = absurd (omega (arith, within))
taken_at (y ∷ ys) zero x within is = ap (λ (r : Slotted). r.slot) (sym is)
taken_at (y ∷ ys) (suc i) x within is = taken_at ys i x (omega (arith, within)) is

-- what is mapped comes from something
pub mapped_some : {X Y : Type 0} (f : X → Y) (o : Option X) (y : Y) → option_map f o ≡ Some y → (x : X) × (o ≡ Some x) × (f x ≡ y)
mapped_some f None y h = absurd (none-some y h)
mapped_some f (Some x) y h = (x, refl, same_Some (f x) y h)

-- the entry at a place is that of the row that is read there
pub entry_is : (rows : List Slotted) (i : ℕ) (x : Slotted) (e : Queued) → x ≡ get_or rows i x → entry_at rows (Some i) ≡ Some e → x.entry ≡ e
entry_is rows i x e is h =
    let found = mapped_some (λ (r : Slotted). r.entry) (slice_get rows i) e h in
    ap (λ (r : Slotted). r.entry) (is ∙ get_or_from_slice_get rows i found.0 x found.1) ∙ found.2

-- and the row that is read there is at that place
pub entry_there : (rows : List Slotted) (i : ℕ) (x : Slotted) → i < length rows → x ≡ get_or rows i x → entry_at rows (Some i) ≡ Some x.entry
entry_there rows i x within is = ap (option_map (λ (r : Slotted). r.entry)) (slice_get-get_or rows i x within ∙ ap Some (sym is))
