-- What stands at the front of a text is its next piece.
use Rattle.std.proofs.Common.{[], ap, arith, drop, get_or, length, List, refl, subst, sym, take, ℕ, ◌+◌, ◌*◌, ◌++◌, ◌<◌, ◌≡◌, ◌≢◌, ◌≤◌, ◌∙◌, ◌∷◌, inl, inr, not, true, false}
use Rattle.std.specs.List.{list_all}
use Rattle.std.proofs.Math.Dec.{eqb}
use Rattle.std.proofs.Math.Seq.{take-append_seam}
use Rattle.std.proofs.lemmas.Bool.{and_parts, and_right, cases_Bool, le-leb, ne_eqb, not-true}
use Rattle.std.proofs.lemmas.List.{append-nil, get_or-take, length-take-le, take-append-drop, take_all, take_more, take_more_same}
use Rattle.std.proofs.lemmas.List.Folds.{list_all_more}
use Rattle.flat_policy.specs.Texts.Pieces.{digit_value, is_digit, is_numeral, number_after, numeral_value, pieces, same_text, spaced}
use Rattle.trace_text.proofs.LinesBack.{spaced_pieces}
use Rattle.trace_text.proofs.PiecesAgain.{digits_plain, numeral_from}
use Rattle.trace_text.proofs.ReadBack.{same_text_is}
use Rattle.trace_text.proofs.Rejoined.{pieces_behind, pieces_plain}
use Rattle.trace_text.proofs.Splitting.{first_piece}
use Rattle.trace_text.specs.Reading.{BeginsPlain, Follows, IsNumberNext, is_next}
use Rattle.trace_text.specs.Spaces.{is_plain}

-- ---- a word

pub word_next : (word rest : List ℕ) (qs : List (List ℕ)) → is_plain word ≡ true → Follows rest qs → pieces (word ++ rest) ≡ word ∷ qs
word_next word [] qs plain f = rw (append-nil word, f) (pieces_plain word plain)
word_next word (b ∷ bs) qs plain f = rw (f.0, f.1) (pieces_behind word bs plain)

begun_by : (p : List ℕ) (ps : List (List ℕ)) → (rest : List ℕ) × (spaced (p ∷ ps) ≡ p ++ rest)
begun_by p [] = ([], sym (append-nil p))
begun_by p (q ∷ qs) = (32 ∷ spaced (q ∷ qs), refl)

-- a text that does not begin with a word has another next piece
pub other_next : (text word : List ℕ) → ((rest : List ℕ) → text ≢ word ++ rest) → is_next word (pieces text) ≡ false
other_next text word unlike =
    let r = first_piece text in
    let b = begun_by r.0 r.1 in
    let whole : text ≡ r.0 ++ b.0 = sym (spaced_pieces text) ∙ ap spaced r.2 ∙ b.1 in
    elim (cases_Bool (same_text word r.0)) [
      | inl e ↦ absurd (unlike b.0 (whole ∙ ap (λ (p : List ℕ). p ++ b.0) (sym (same_text_is word r.0 e))))
      | inr e ↦ rw r.2 e
    ]

-- nor has one in which the word goes on
pub longer_next : (word rest : List ℕ) → is_plain word ≡ true → BeginsPlain rest → is_next word (pieces (word ++ rest)) ≡ false
longer_next word [] plain more = absurd more
longer_next [] (b ∷ bs) plain more = let r = first_piece bs in rw (ne_eqb b 32 more, r.2) refl
longer_next (w ∷ ws) (b ∷ bs) plain more =
    let parts = and_parts (not (eqb w 32)) (is_plain ws) plain in
    let r = first_piece (ws ++ b ∷ bs) in
    let others : same_text ws r.0 ≡ false = ap (is_next ws) (sym r.2) ∙ longer_next ws (b ∷ bs) parts.1 more in
    rw (not-true (eqb w 32) parts.0, r.2) (and_right (eqb w w) (same_text ws r.0) others)

-- the same, by the bytes at the front
pub word_starts : (text word : List ℕ) (qs : List (List ℕ)) → is_plain word ≡ true → take (length word) text ≡ word → Follows (drop (length word) text) qs → pieces text ≡ word ∷ qs
word_starts text word qs plain front f =
    let split : word ++ drop (length word) text ≡ text =
    ap (λ (xs : List ℕ). xs ++ drop (length word) text) (sym front) ∙ take-append-drop (length word) text
    in
    ap pieces (sym split) ∙ word_next word (drop (length word) text) qs plain f

pub word_goes_on : (text word : List ℕ) → is_plain word ≡ true → take (length word) text ≡ word → BeginsPlain (drop (length word) text) → is_next word (pieces text) ≡ false
word_goes_on text word plain front more =
    let split : word ++ drop (length word) text ≡ text =
    ap (λ (xs : List ℕ). xs ++ drop (length word) text) (sym front) ∙ take-append-drop (length word) text
    in
    ap (λ (xs : List ℕ). is_next word (pieces xs)) (sym split) ∙ longer_next word (drop (length word) text) plain more

pub other_starts : (text word : List ℕ) → take (length word) text ≢ word → is_next word (pieces text) ≡ false
other_starts text word unlike =
    other_next text word (λ rest same. unlike (ap (take (length word)) same ∙ take-append_seam word rest))

pub short_other : (text word : List ℕ) → length text < length word → is_next word (pieces text) ≡ false
short_other text word short =
    other_starts text word (λ same.
    let long : length text ≡ length word = ap length (sym (take_all (length word) text (omega arith)) ∙ same) in
    omega arith)

pub byte_other : (text word : List ℕ) (i : ℕ) → i < length word → get_or text i 0 ≢ get_or word i 0 → is_next word (pieces text) ≡ false
byte_other text word i within unlike =
    other_starts text word (λ same. unlike (sym (get_or-take (length word) text i 0 within) ∙ ap (λ (xs : List ℕ). get_or xs i 0) same))

pub front_more : (text word : List ℕ) (i : ℕ) → i < length text → i < length word → take i text ≡ take i word → get_or text i 0 ≡ get_or word i 0 → take (i + 1) text ≡ take (i + 1) word
front_more text word i lt below same byte = take_more_same text word i 0 lt below same byte

-- ---- a numeral

pub digits_more : (text : List ℕ) (i : ℕ) → i < length text → is_digit (get_or text i 0) ≡ true → list_all is_digit (take i text) ≡ true → list_all is_digit (take (i + 1) text) ≡ true
digits_more text i within digit so = list_all_more is_digit text i 0 within ∙ rw (so, digit) refl

value_append : (n : ℕ) (xs : List ℕ) (b : ℕ) → number_after n (xs ++ b ∷ []) ≡ number_after n xs * 10 + digit_value b
value_append n [] b = refl
value_append n (x ∷ xs) b = value_append (n * 10 + digit_value x) xs b

pub value_more : (text : List ℕ) (i : ℕ) → i < length text → numeral_value (take (i + 1) text) ≡ numeral_value (take i text) * 10 + digit_value (get_or text i 0)
value_more text i within =
    ap (number_after 0) (take_more text i 0 within) ∙ value_append 0 (take i text) (get_or text i 0)

pub one_numeral : (text : List ℕ) → 1 ≤ length text → list_all is_digit (take 1 text) ≡ true → is_numeral (take 1 text) ≡ true
one_numeral text some digits =
    let long : length (take 1 text) ≡ 1 = length-take-le 1 text some in
    numeral_from (take 1 text) digits (omega arith) (inr long)

pub more_numeral : (text : List ℕ) (count : ℕ) → 1 < count → count ≤ length text → list_all is_digit (take count text) ≡ true → get_or text 0 0 ≢ 48 → is_numeral (take count text) ≡ true
more_numeral text count many within digits unlike =
    let long : length (take count text) ≡ count = length-take-le count text within in
    numeral_from (take count text) digits (omega arith) (inl (λ same. unlike (sym (get_or-take count text 0 0 (omega arith)) ∙ same)))

pub number_next : (text : List ℕ) (n count : ℕ) (qs : List (List ℕ)) → list_all is_digit (take count text) ≡ true → is_numeral (take count text) ≡ true → n ≡ numeral_value (take count text) → Follows (drop count text) qs → IsNumberNext (pieces text) n qs
number_next text n count qs digits numeral is f = λ most le.
    let piece = take count text in
    let split : pieces text ≡ piece ∷ qs =
    ap pieces (sym (take-append-drop count text)) ∙ word_next piece (drop count text) qs (digits_plain piece digits) f
    in
    let least : numeral_value piece ≤ most = subst (λ (m : ℕ). m ≤ most) is le in
    rw (split, numeral, le-leb (numeral_value piece) most least, is) refl
