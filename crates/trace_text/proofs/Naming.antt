-- What stands behind a word is read by the word's name.
use Rattle.std.proofs.Common.{[], ap, arith, codes, cond, get_or, length, List, refl, subst, sym, ℕ, ◌<◌, ◌≡◌, ◌≤◌, ◌∙◌, ◌∷◌, ◌&&◌, ◌||◌, Bool, true, false, Ok, Err, Option, None, Some, inl, inr}
use Rattle.std.proofs.Math.Dec.{eqb, leb, ltb}
use Rattle.std.proofs.lemmas.Bool.{and_parts, and_left, and_right, cases_Bool, eqb-false, eqb-true, leb-true, ltb-true, ne_eqb, or_cases}
use Rattle.flat_policy.specs.Texts.Answers.{answer_at, place_at, refusal_at}
use Rattle.flat_policy.specs.Texts.Lines.{program_at, read_run_pieces}
use Rattle.trace_text.specs.Runs.{read_thread_pieces}
use Rattle.flat_policy.specs.Texts.Pieces.{Reading, Worded, and_then, followed_by, next_piece, or_word_fault, same_text, value_of_word, word_among}
use Rattle.trace_text.proofs.Readings.{ok_is}
use Rattle.trace_text.specs.Reading.{as_it_is}
use Rattle.trace_text.specs.Naming.{answer_behind, answer_names, place_behind, place_names, refusal_behind, refusal_names, run_behind, run_names, words_for}
use Rattle.flat_policy.specs.declared.texts.LineFault.TheVariants as line_faults

-- texts of unlike lengths
unlike_lengths : (xs ys : List ℕ) → (length xs ≡ length ys → ⊥) → same_text xs ys ≡ false
unlike_lengths [] [] unlike = absurd (unlike refl)
unlike_lengths [] (y ∷ ys) unlike = refl
unlike_lengths (x ∷ xs) [] unlike = refl
unlike_lengths (x ∷ xs) (y ∷ ys) unlike =
    and_right (eqb x y) (same_text xs ys) (unlike_lengths xs ys (λ e. unlike (omega arith)))

-- the length of each word is below one number, or not below another
abbrev pub lengths_apart : {W : Type 0} → ℕ → ℕ → List (Worded W) → Bool
lengths_apart low high [] = true
lengths_apart low high (w ∷ ws) = (ltb (length w.word) low || leb high (length w.word)) && lengths_apart low high ws

pub no_word : {W : Type 0} (low high : ℕ) (ws : List (Worded W)) (p : List ℕ) → lengths_apart low high ws ≡ true → low ≤ length p → length p < high → value_of_word ws p ≡ None
no_word low high [] p apart above below = refl
no_word low high (w ∷ ws) p apart above below =
    let parts = and_parts (ltb (length w.word) low || leb high (length w.word)) (lengths_apart low high ws) apart in
    let unlike : length w.word ≡ length p → ⊥ = elim (or_cases (ltb (length w.word) low) (leb high (length w.word)) parts.0) [
      | inl e ↦ let lt = ltb-true (length w.word) low e in λ same. omega arith
      | inr e ↦ let le = leb-true high (length w.word) e in λ same. omega arith
    ] in
    rw (unlike_lengths w.word p unlike) (no_word low high ws p parts.1 above below)

-- the first bytes of the words of a length
abbrev pub first_bytes : {W : Type 0} → ℕ → List (Worded W) → List ℕ
first_bytes n [] = []
first_bytes n (w ∷ ws) = cond (eqb (length w.word) n) (get_or w.word 0 0 ∷ first_bytes n ws) (first_bytes n ws)

abbrev pub IsNone : ℕ → List ℕ → Type 0
IsNone b [] = Unit {0}
IsNone b (c ∷ cs) = (b ≡ c → ⊥) × IsNone b cs

-- texts that begin otherwise
unlike_firsts : (xs ys : List ℕ) → 0 < length xs → (get_or ys 0 0 ≡ get_or xs 0 0 → ⊥) → same_text xs ys ≡ false
unlike_firsts [] ys some unlike = absurd (omega arith)
unlike_firsts (x ∷ xs) [] some unlike = refl
unlike_firsts (x ∷ xs) (y ∷ ys) some unlike = and_left (eqb x y) (same_text xs ys) (ne_eqb x y (λ e. unlike (sym e)))

pub no_first : {W : Type 0} (n : ℕ) (ws : List (Worded W)) (p : List ℕ) → 0 < n → length p ≡ n → IsNone (get_or p 0 0) (first_bytes n ws) → value_of_word ws p ≡ None
no_first n [] p some long none = refl
no_first n (w ∷ ws) p some long none =
    elim (cases_Bool (eqb (length w.word) n)) [
      | inl e ↦
          let is = eqb-true (length w.word) n e in
          let g : IsNone (get_or p 0 0) (get_or w.word 0 0 ∷ first_bytes n ws) = subst (λ (b : Bool). IsNone (get_or p 0 0) (cond b (get_or w.word 0 0 ∷ first_bytes n ws) (first_bytes n ws))) e none in
          rw (unlike_firsts w.word p (omega arith) g.0) (no_first n ws p some long g.1)
      | inr e ↦
          let is = eqb-false (length w.word) n e in
          let g : IsNone (get_or p 0 0) (first_bytes n ws) = subst (λ (b : Bool). IsNone (get_or p 0 0) (cond b (get_or w.word 0 0 ∷ first_bytes n ws) (first_bytes n ws))) e none in
          rw (unlike_lengths w.word p (λ same. is (omega arith))) (no_first n ws p some long g)
    ]

-- the next piece, where it is a word, and where it is none
word_read : {W : Type 0} (names : List (Worded W)) (ps : List (List ℕ)) (p : List ℕ) (qs : List (List ℕ)) → next_piece as_it_is ps ≡ Ok (p, qs) → next_piece (word_among names) ps ≡ and_then (or_word_fault (value_of_word names p)) (λ x. Ok (x, qs))
word_read names [] p qs e = absurd cc
word_read names (r ∷ rs) p qs e =
    ap (λ (x : List ℕ × List (List ℕ)). and_then (or_word_fault (value_of_word names x.0)) (λ y. Ok (y, x.1))) (ok_is (r, rs) (p, qs) e)

pub word_found : {W : Type 0} (names : List (Worded W)) (ps : List (List ℕ)) (p : List ℕ) (qs : List (List ℕ)) (w : W) → next_piece as_it_is ps ≡ Ok (p, qs) → Some w ≡ value_of_word names p → next_piece (word_among names) ps ≡ Ok (w, qs)
word_found {W} names ps p qs w e f =
    word_read names ps p qs e ∙ ap (λ (o : Option W). and_then (or_word_fault o) (λ x. Ok (x, qs))) (sym f)

pub word_missed : {W : Type 0} (names : List (Worded W)) (ps : List (List ℕ)) (p : List ℕ) (qs : List (List ℕ)) → next_piece as_it_is ps ≡ Ok (p, qs) → None ≡ value_of_word names p → next_piece (word_among names) ps ≡ Err line_faults.Word
word_missed {W} names ps p qs e f =
    word_read names ps p qs e ∙ ap (λ (o : Option W). and_then (or_word_fault o) (λ x. Ok (x, qs))) (sym f)

-- the first piece, read by its name
by_word : {W A : Type 0} (of : W → List (List ℕ) → Reading A) (names : List (Worded W)) (p : List ℕ) (ps : List (List ℕ)) → followed_by (next_piece (word_among (words_for of names)) (p ∷ ps)) (λ arguments rest. arguments rest) ≡ followed_by (next_piece (word_among names) (p ∷ ps)) of
by_word of [] p ps = refl
by_word of (w ∷ names) p ps =
    elim (cases_Bool (same_text w.word p)) [
      | inl e ↦ rw e refl
      | inr e ↦ rw e (by_word of names p ps)
    ]

by_name : {W A : Type 0} (of : W → List (List ℕ) → Reading A) (names : List (Worded W)) (ps : List (List ℕ)) → followed_by (next_piece (word_among (words_for of names)) ps) (λ arguments rest. arguments rest) ≡ followed_by (next_piece (word_among names) ps) of
by_name of names [] = refl
by_name of names (p ∷ ps) = by_word of names p ps

pub place_by_name : (ps : List (List ℕ)) → place_at ps ≡ followed_by (next_piece (word_among place_names) ps) place_behind
place_by_name ps = by_name place_behind place_names ps

pub refusal_by_name : (ps : List (List ℕ)) → refusal_at ps ≡ followed_by (next_piece (word_among refusal_names) ps) refusal_behind
refusal_by_name ps = by_name refusal_behind refusal_names ps

pub answer_by_name : (ps : List (List ℕ)) → answer_at ps ≡ followed_by (next_piece (word_among answer_names) ps) answer_behind
answer_by_name ps = by_name answer_behind answer_names ps

pub run_by_name : (ps : List (List ℕ)) → read_run_pieces ps ≡ and_then (next_piece (word_among run_names) ps) (λ w. run_behind w.0 w.1)
run_by_name [] = refl
run_by_name (p ∷ ps) =
    elim (cases_Bool (same_text (codes "thread") p)) [
      | inl e ↦ rw e refl
      | inr e ↦ elim (cases_Bool (same_text (codes "off") p)) [
        | inl f ↦ rw (e, f) refl
        | inr f ↦ elim (cases_Bool (same_text (codes "on") p)) [
          | inl g ↦ rw (e, f, g) refl
          | inr g ↦ rw (e, f, g) refl
        ]
      ]
    ]

pub thread_found : (ps : List (List ℕ)) (p : List ℕ) (qs : List (List ℕ)) → next_piece as_it_is ps ≡ Ok (p, qs) → p ≡ codes "thread" → read_thread_pieces ps ≡ program_at qs
thread_found [] p qs e is = absurd cc
thread_found (r ∷ rs) p qs e is =
    let same : (r, rs) ≡ (p, qs) = ok_is (r, rs) (p, qs) e in
    let word : r ≡ codes "thread" = ap (λ (x : List ℕ × List (List ℕ)). x.0) same ∙ is in
    let rest : rs ≡ qs = ap (λ (x : List ℕ × List (List ℕ)). x.1) same in
    ap (λ (w : List ℕ). read_thread_pieces (w ∷ rs)) word ∙ ap program_at rest
