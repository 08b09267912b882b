-- Where no numeral of so few digits is the next piece.
use Rattle.std.proofs.Common.{[], ap, arith, drop, get_or, length, List, refl, subst, suc, sym, take, zero, ℕ, ◌+◌, ◌*◌, ◌++◌, ◌<◌, ◌^◌, ◌≡◌, ◌≤◌, ◌∙◌, ◌∷◌, ◌&&◌, inl, inr, not, true, false}
use Rattle.std.specs.List.{list_all}
use Rattle.std.specs.Result.{is_ok}
use Rattle.std.proofs.Math.Dec.{eqb, leb}
use Rattle.std.proofs.Math.Seq.{drop-append_seam, take-append_seam}
use Rattle.std.proofs.lemmas.Bool.{and_parts, cases_Bool, eqb-false, eqb-true, leb-true, lt-leb, not-true}
use Rattle.flat_policy.specs.Texts.Pieces.{digit_value, is_digit, is_numeral, next_piece, number_after, number_within, numeral_value, pieces}
use Rattle.trace_text.specs.Reading.{BeginsPlain, Follows, most_of_19_digits}

-- a text is its first piece and what stands behind that
first_then : (text : List ℕ) → (p r : List ℕ) × (qs : List (List ℕ)) × (text ≡ p ++ r) × (pieces text ≡ p ∷ qs) × Follows r qs
first_then [] = ([], [], [], refl, refl, refl)
first_then (b ∷ bs) =
    elim (cases_Bool (eqb b 32)) [
      | inl e ↦ ([], b ∷ bs, pieces bs, refl, rw e refl, (eqb-true b 32 e, refl))
      | inr e ↦
          let t = first_then bs in
          (b ∷ t.0, t.1, t.2, ap (λ (xs : List ℕ). b ∷ xs) t.3, rw (e, t.4) refl, t.5)
    ]

numeral_digits : (p : List ℕ) → is_numeral p ≡ true → list_all is_digit p ≡ true
numeral_digits [] e = refl
numeral_digits (b ∷ []) e = rw e refl
numeral_digits (b ∷ c ∷ bs) e =
    let parts = and_parts (is_digit b && not (eqb b 48)) (list_all is_digit (c ∷ bs)) e in
    let first = and_parts (is_digit b) (not (eqb b 48)) parts.0 in
    rw (first.0, parts.1) refl

-- more digits make no number less
number_grows : (n : ℕ) (ds : List ℕ) → n ≤ number_after n ds
number_grows n [] = omega arith
number_grows n (d ∷ ds) = omega (arith, number_grows (n * 10 + digit_value d) ds)

-- digits that were read as far as they go are all of a piece of digits whose number has room
all_read : (n : ℕ) (p r : List ℕ) (count : ℕ) (qs : List (List ℕ)) → list_all is_digit p ≡ true → number_after n p < 10 ^ 19 → Follows r qs
    → count ≤ length (p ++ r) → list_all is_digit (take count (p ++ r)) ≡ true
    → (count < length (p ++ r) → is_digit (get_or (p ++ r) count 0) ≡ true → 10 ^ 18 ≤ number_after n (take count (p ++ r)))
    → count ≡ length p
all_read n [] r zero qs digits small f within front all = refl
all_read n [] [] (suc k) qs digits small f within front all = absurd (omega (arith, within))
all_read n [] (b ∷ bs) (suc k) qs digits small f within front all =
    let digit = and_parts (is_digit b) (list_all is_digit (take k bs)) front in
    let parts = and_parts (leb 48 b) (leb b 57) digit.0 in
    absurd (omega (arith, f.0, leb-true 48 b parts.0))
all_read n (b ∷ bs) r zero qs digits small f within front all =
    let parts = and_parts (is_digit b) (list_all is_digit bs) digits in
    absurd (omega (arith, small, number_grows (n * 10 + digit_value b) bs, all (omega arith) parts.0))
all_read n (b ∷ bs) r (suc k) qs digits small f within front all =
    let parts = and_parts (is_digit b) (list_all is_digit bs) digits in
    let others = and_parts (is_digit b) (list_all is_digit (take k (bs ++ r))) front in
    ap suc (all_read (n * 10 + digit_value b) bs r k qs parts.1 small f (omega (arith, within)) others.1
    (λ lt digit. all (omega (arith, lt)) digit))

plain_not_followed : (rest : List ℕ) (qs : List (List ℕ)) → BeginsPlain rest → Follows rest qs → ⊥
plain_not_followed [] qs plain f = plain
plain_not_followed (b ∷ bs) qs plain f = plain f.0

-- where the digits at the front are no numeral, or go on, the next piece is no numeral of so few digits
pub no_number_next : (text : List ℕ) (n count : ℕ) → count ≤ length text → list_all is_digit (take count text) ≡ true → n ≡ numeral_value (take count text)
    → (count < length text → is_digit (get_or text count 0) ≡ true → 10 ^ 18 ≤ n)
    → (is_numeral (take count text) ≡ true → BeginsPlain (drop count text))
    → is_ok (next_piece (number_within most_of_19_digits) (pieces text)) ≡ false
no_number_next text n count within front is all neither =
    let t = first_then text in
    elim (cases_Bool (is_numeral t.0)) [
      | inr e ↦ rw (t.4, e) refl
      | inl e ↦
          elim (cases_Bool (leb (numeral_value t.0) most_of_19_digits)) [
            | inr long ↦ rw (t.4, e, long) refl
            | inl short ↦
                let least = leb-true (numeral_value t.0) most_of_19_digits short in
                let whole : count ≡ length t.0 =
                subst (λ (xs : List ℕ). count ≤ length xs → list_all is_digit (take count xs) ≡ true
                → (count < length xs → is_digit (get_or xs count 0) ≡ true → 10 ^ 18 ≤ numeral_value (take count xs)) → count ≡ length t.0)
                (sym t.3)
                (all_read 0 t.0 t.1 count t.2 (numeral_digits t.0 e) (omega (arith, least)) t.5) within front (λ lt digit. omega (arith, is, all lt digit))
                in
                let taken : take count text ≡ t.0 =
                ap (λ (k : ℕ). take k text) whole ∙ ap (take (length t.0)) t.3 ∙ take-append_seam t.0 t.1
                in
                let left : drop count text ≡ t.1 =
                ap (λ (k : ℕ). drop k text) whole ∙ ap (drop (length t.0)) t.3 ∙ drop-append_seam t.0 t.1
                in
                absurd (plain_not_followed t.1 t.2 (subst BeginsPlain left (neither (ap is_numeral taken ∙ e))) t.5)
          ]
    ]

more_than_a_digit : (p r : List ℕ) (qs : List (List ℕ)) → Follows r qs → BeginsPlain (drop 1 (p ++ r)) → is_ok (next_piece (number_within 9) (p ∷ qs)) ≡ false
more_than_a_digit [] r qs f plain = refl
more_than_a_digit (b ∷ []) r qs f plain = absurd (plain_not_followed r qs plain f)
more_than_a_digit (b ∷ c ∷ bs) r qs f plain =
    elim (cases_Bool (is_numeral (b ∷ c ∷ bs))) [
      | inr e ↦ rw e refl
      | inl e ↦
          let parts = and_parts (is_digit b && not (eqb b 48)) (list_all is_digit (c ∷ bs)) e in
          let first = and_parts (is_digit b) (not (eqb b 48)) parts.0 in
          let low = leb-true 48 b (and_parts (leb 48 b) (leb b 57) first.0).0 in
          let unlike = eqb-false b 48 (not-true (eqb b 48) first.1) in
          let great : 9 < numeral_value (b ∷ c ∷ bs) =
          omega (arith, low, unlike, number_grows ((0 * 10 + digit_value b) * 10 + digit_value c) bs)
          in
          rw (e, lt-leb (numeral_value (b ∷ c ∷ bs)) 9 great) refl
    ]

-- where something else than a space stands behind the first byte, the next piece is not one digit
pub no_digit_next : (text : List ℕ) → BeginsPlain (drop 1 text) → is_ok (next_piece (number_within 9) (pieces text)) ≡ false
no_digit_next text plain =
    let t = first_then text in
    rw t.4 (more_than_a_digit t.0 t.1 t.2 t.5 (subst (λ (xs : List ℕ). BeginsPlain (drop 1 xs)) t.3 plain))
