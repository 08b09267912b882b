-- Numbers for each unit, entry by entry.
use Rattle.std.proofs.Common.{◌≡◌, ℕ, ◌+◌, ◌<◌, ◌==◌, ◌&&◌, Bool, true, false, not, cond, List, [], filter, get_or, length, replicate, set, is_some, refl, sym, ap, ap₂, ◌∙◌, inl, inr, arith, eq-eqb}
use Rattle.std.proofs.lemmas.Bool.{and_from, and_left, and_right, cases_Bool, cases_eq, cases_lt, cond-false, cond-true, ne_eqb}
use Rattle.std.proofs.lemmas.List.{get_or-replicate, get_or-set_other, get_or-set_same, get_or_past, length-replicate}
use Rattle.sched_base.specs.Bucket.{index}
use Rattle.sched_base.specs.declared.Facts.{Facts}
use Rattle.flat_policy.specs.Policy.Queue.{Clutch, Flat, Queued, clutch_of, in_clutch, in_lane, lane, same_flag, unit_entries}
use Rattle.plain_cluster.specs.Repricing.{cell, count_of, in_unit}
use Rattle.plain_cluster.specs.declared.counts.Counts.{Counts}

-- lists and tables of zeros
pub zeros : (n i : ℕ) → ◌≡◌ {A = ℕ} (get_or (replicate n 0) i 0) 0
zeros n i =
    let none : ℕ = 0 in
    elim (cases_lt i n) [
      | inl within ↦ get_or-replicate n i none none within
      | inr past ↦ get_or_past (replicate n none) i none (omega (arith, past, length-replicate n none))
    ]

pub cell_of_zeros : (rows columns : ℕ) (k : Clutch) → cell (replicate rows (replicate columns 0)) k ≡ 0
cell_of_zeros rows columns k =
    let row : List ℕ = replicate columns 0 in
    let at : List ℕ → ℕ = λ r. get_or r (index k.bucket) 0 in
    elim (cases_lt k.group rows) [
      | inl within ↦ ap at (get_or-replicate rows k.group row [] within) ∙ zeros columns (index k.bucket)
      | inr past ↦ ap at (get_or_past (replicate rows row) k.group [] (omega (arith, past, length-replicate rows row)))
    ]

-- one number of a table changes, and no other
pub cell_changed : (table : List (List ℕ)) (g b : ℕ) (h : ℕ → ℕ) (k : Clutch) → g < length table → b < length (get_or table g [])
    → cell (set table g (set (get_or table g []) b (h (get_or (get_or table g []) b 0)))) k ≡ cond ((g == k.group) && (b == index k.bucket)) (h (cell table k)) (cell table k)
cell_changed table g b h k there here =
    let row = get_or table g [] in
    let v = h (get_or row b 0) in
    let new = set table g (set row b v) in
    let j = index k.bucket in
    let same_group = g == k.group in
    let same = b == j in
    elim (cases_eq k.group g) [
      | inl e ↦ elim (cases_eq j b) [
        | inl d ↦ ap₂ (λ (m n : ℕ). get_or (get_or new m []) n 0) e d
            ∙ (ap (λ (r : List ℕ). get_or r b 0) (get_or-set_same table g (set row b v) [] there)
            ∙ (get_or-set_same row b v 0 here
            ∙ (ap₂ (λ (m n : ℕ). h (get_or (get_or table m []) n 0)) (sym e) (sym d)
            ∙ sym (cond-true (same_group && same) (h (cell table k)) (cell table k) (and_from same_group same (eq-eqb g k.group (sym e)) (eq-eqb b j (sym d)))))))
        | inr n ↦ ap (λ (m : ℕ). get_or (get_or new m []) j 0) e
            ∙ (ap (λ (r : List ℕ). get_or r j 0) (get_or-set_same table g (set row b v) [] there)
            ∙ (get_or-set_other row b j v 0 n
            ∙ (ap (λ (m : ℕ). get_or (get_or table m []) j 0) (sym e)
            ∙ sym (cond-false (same_group && same) (h (cell table k)) (cell table k) (and_right same_group same (ne_eqb b j (λ s. n (sym s))))))))
      ]
      | inr n ↦ ap (λ (r : List ℕ). get_or r j 0) (get_or-set_other table g k.group (set row b v) [] n)
          ∙ sym (cond-false (same_group && same) (h (cell table k)) (cell table k) (and_left same_group same (ne_eqb g k.group (λ s. n (sym s)))))
    ]

number_changed : (xs : List ℕ) (b j : ℕ) → b < length xs → get_or (set xs b (get_or xs b 0 + 1)) j 0 ≡ get_or xs j 0 + cond (b == j) 1 0
number_changed xs b j here =
    let v = get_or xs b 0 + 1 in
    elim (cases_eq j b) [
      | inl e ↦ ap (λ (n : ℕ). get_or (set xs b v) n 0) e
          ∙ (get_or-set_same xs b v 0 here
          ∙ ap₂ (λ (n : ℕ) (t : Bool). get_or xs n 0 + cond t 1 0) (sym e) (sym (eq-eqb b j (sym e))))
      | inr n ↦ get_or-set_other xs b j v 0 n
          ∙ (let same : get_or xs j 0 ≡ get_or xs j 0 + 0 = omega arith in
          same ∙ ap (λ (t : Bool). get_or xs j 0 + cond t 1 0) (sym (ne_eqb b j (λ s. n (sym s)))))
    ]

one_more : (t : Bool) (n : ℕ) → cond t (n + 1) n ≡ n + cond t 1 0
one_more true n = refl
one_more false n = omega arith

and_true : (b : Bool) → (b && true) ≡ b
and_true true = refl
and_true false = refl

-- which entries stand in the unit of a bound thread, and of an unbound one
in_bound : (t : Facts) (e : Queued) → is_some t.bound ≡ true → in_unit t e ≡ in_lane (lane t.bucket true) e
in_bound t e h = ap (λ (p : Queued → Bool). p e) (cond-true (is_some t.bound) (in_lane (lane t.bucket true)) (in_clutch (clutch_of t)) h)

in_free : (t : Facts) (e : Queued) → is_some t.bound ≡ false → in_unit t e ≡ in_clutch (clutch_of t) e
in_free t e h = ap (λ (p : Queued → Bool). p e) (cond-false (is_some t.bound) (in_lane (lane t.bucket true)) (in_clutch (clutch_of t)) h)

-- one more bound entry
pub bound_more : (counts : Counts) (e : Queued) (t : Facts) → is_some e.facts.bound ≡ true → index e.facts.bucket < length counts.bound
    → count_of (record counts { bound = set counts.bound (index e.facts.bucket) (get_or counts.bound (index e.facts.bucket) 0 + 1) }) t ≡ count_of counts t + cond (in_unit t e) 1 0
bound_more counts e t is here =
    let b = index e.facts.bucket in
    let j = index t.bucket in
    let was = get_or counts.bound j 0 in
    let now = get_or (set counts.bound b (get_or counts.bound b 0 + 1)) j 0 in
    let other = cell counts.unbound (clutch_of t) in
    elim (cases_Bool (is_some t.bound)) [
      | inl h ↦ (
          let inside : in_unit t e ≡ (b == j) = in_bound t e h ∙ (ap (λ (f : Bool). (b == j) && same_flag f true) is ∙ and_true (b == j)) in
          cond-true (is_some t.bound) now other h
          ∙ (number_changed counts.bound b j here
          ∙ ap₂ (λ (n : ℕ) (s : Bool). n + cond s 1 0) (sym (cond-true (is_some t.bound) was other h)) (sym inside)))
      | inr h ↦ (
          let outside : in_unit t e ≡ false = in_free t e h ∙ ap (λ (f : Bool). not f && ((e.facts.group == t.group) && (b == j))) is in
          let same : other ≡ other + 0 = omega arith in
          cond-false (is_some t.bound) now other h
          ∙ (same
          ∙ ap₂ (λ (n : ℕ) (s : Bool). n + cond s 1 0) (sym (cond-false (is_some t.bound) was other h)) (sym outside)))
    ]

-- one more unbound entry
pub free_more : (counts : Counts) (e : Queued) (t : Facts) → is_some e.facts.bound ≡ false → e.facts.group < length counts.unbound → index e.facts.bucket < length (get_or counts.unbound e.facts.group [])
    → count_of (record counts { unbound = set counts.unbound e.facts.group (set (get_or counts.unbound e.facts.group []) (index e.facts.bucket) (cell counts.unbound (clutch_of e.facts) + 1)) }) t ≡ count_of counts t + cond (in_unit t e) 1 0
free_more counts e t is there here =
    let g = e.facts.group in
    let b = index e.facts.bucket in
    let was = cell counts.unbound (clutch_of t) in
    let new = set counts.unbound g (set (get_or counts.unbound g []) b (cell counts.unbound (clutch_of e.facts) + 1)) in
    let now = cell new (clutch_of t) in
    let other = get_or counts.bound (index t.bucket) 0 in
    elim (cases_Bool (is_some t.bound)) [
      | inl h ↦ (
          let outside : in_unit t e ≡ false =
          in_bound t e h ∙ (ap (λ (f : Bool). (b == index t.bucket) && same_flag f true) is ∙ and_right (b == index t.bucket) false refl) in
          let same : other ≡ other + 0 = omega arith in
          cond-true (is_some t.bound) other now h
          ∙ (same
          ∙ ap₂ (λ (n : ℕ) (s : Bool). n + cond s 1 0) (sym (cond-true (is_some t.bound) other was h)) (sym outside)))
      | inr h ↦ (
          let test = (g == t.group) && (b == index t.bucket) in
          let inside : in_unit t e ≡ test = in_free t e h ∙ ap (λ (f : Bool). not f && test) is in
          cond-false (is_some t.bound) other now h
          ∙ (cell_changed counts.unbound g b (λ n. n + 1) (clutch_of t) there here
          ∙ (one_more test was
          ∙ ap₂ (λ (n : ℕ) (s : Bool). n + cond s 1 0) (sym (cond-false (is_some t.bound) other was h)) (sym inside))))
    ]

-- the entries that stand in the unit of a thread
pub unit_is : (s : Flat) (t : Facts) → length (filter (in_unit t) s.entries) ≡ length (unit_entries s t)
unit_is s t =
    let p = in_lane (lane t.bucket true) in
    let q = in_clutch (clutch_of t) in
    elim (cases_Bool (is_some t.bound)) [
      | inl h ↦ ap (λ (f : Queued → Bool). length (filter f s.entries)) (cond-true (is_some t.bound) p q h)
          ∙ sym (ap length (cond-true (is_some t.bound) (filter p s.entries) (filter q s.entries) h))
      | inr h ↦ ap (λ (f : Queued → Bool). length (filter f s.entries)) (cond-false (is_some t.bound) p q h)
          ∙ sym (ap length (cond-false (is_some t.bound) (filter p s.entries) (filter q s.entries) h))
    ]
