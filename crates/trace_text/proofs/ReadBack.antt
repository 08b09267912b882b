-- What was read, told by the pieces that it was read from.
use Rattle.std.proofs.Common.{[], ap, append_assoc, arith, cond, decimal, get_or, length, List, refl, subst, sym, ℕ, ◌++◌, ◌<◌, ◌^◌, ◌≡◌, ◌≤◌, ◌∙◌, ◌∷◌, ◌⊎◌, ◌&&◌, Bool, Err, Ok, Option, Result, Some, false, inl, inr, not, true}
use Rattle.std.specs.List.{list_all}
use Rattle.std.proofs.Math.Dec.{eqb, leb}
use Rattle.std.proofs.lemmas.Bool.{and_parts, eq-eqb, eqb-true, leb-true}
use Rattle.std.proofs.lemmas.Fmt.{decimal-digits_value}
use Rattle.flat_policy.specs.declared.texts.LineFault.{LineFault}
use Rattle.flat_policy.specs.Texts.Pieces.{Reading, Worded, followed_by, is_digit, is_numeral, made_of, next_piece, number_within, numeral_value, or_word_fault, same_text, value_of_word, word_among}
use Rattle.trace_text.proofs.PiecesAgain.{own}
use Rattle.trace_text.proofs.Readings.{and_then_ok, next_ok, ok_is}
use Rattle.flat_policy.specs.declared.texts.LineFault.TheVariants as line_faults

-- ---- one piece

-- a piece that is read is the text of its value, which fits
abbrev pub PieceBack : {A : Type 0} → (A → List ℕ) → (A → Type 0) → (List ℕ → Result A LineFault) → Type 0
PieceBack {A} text Fits of = (p : List ℕ) (x : A) → of p ≡ Ok x → (p ≡ text x) × Fits x

numeral_parts : (ds : List ℕ) → is_numeral ds ≡ true → (list_all is_digit ds ≡ true) × (0 < length ds) × (get_or ds 0 0 ≡ 48 → length ds ≡ 1)
numeral_parts [] e = absurd cc
numeral_parts (b ∷ []) e = (rw e refl, omega arith, λ first. refl)
numeral_parts (b ∷ c ∷ bs) e =
    let parts = and_parts (is_digit b && not (eqb b 48)) (list_all is_digit (c ∷ bs)) e in
    let first = and_parts (is_digit b) (not (eqb b 48)) parts.0 in
    (rw (first.0, parts.1) refl, omega arith, λ zero. let same : eqb b 48 ≡ true = eq-eqb b 48 zero in let no : false ≡ true = rw same at first.1 in absurd cc)

-- a numeral without leading zeros is the text of its value
numeral_is : (p : List ℕ) → is_numeral p ≡ true → numeral_value p < 2 ^ 64 → p ≡ decimal (numeral_value p)
numeral_is p e lt =
    let parts = numeral_parts p e in
    sym (decimal-digits_value own p parts.0 parts.1 parts.2 lt)

within : (a b : Bool) (v n : ℕ) → ◌≡◌ {A = Result ℕ LineFault} (cond (not a) (Err line_faults.Number) (cond b (Ok v) (Err line_faults.Range))) (Ok n) → (a ≡ true) × (b ≡ true) × (v ≡ n)
within true true v n e = (refl, refl, ok_is v n e)
within true false v n e = absurd cc
within false b v n e = absurd cc

pub number_back : (most : ℕ) → most < 2 ^ 64 → PieceBack decimal (λ n. n ≤ most) (number_within most)
number_back most lt p n e =
    let parts = within (is_numeral p) (leb (numeral_value p) most) (numeral_value p) n e in
    let le = leb-true (numeral_value p) most parts.1 in
    (numeral_is p parts.0 (omega (arith, le)) ∙ ap decimal parts.2, omega (arith, le, parts.2))

pub same_text_is : (xs ys : List ℕ) → same_text xs ys ≡ true → xs ≡ ys
same_text_is [] [] e = refl
same_text_is [] (y ∷ ys) e = absurd cc
same_text_is (x ∷ xs) [] e = absurd cc
same_text_is (x ∷ xs) (y ∷ ys) e =
    let parts = and_parts (eqb x y) (same_text xs ys) e in
    let first : x ≡ y = eqb-true x y parts.0 in
    let rest : xs ≡ ys = same_text_is xs ys parts.1 in
    cc

-- the value of a word: that of the first of the table, or one of the others
found : {A : Type 0} (b : Bool) (v x : A) (o : Option A) → or_word_fault (cond b (Some v) o) ≡ Ok x → ((b ≡ true) × (v ≡ x)) ⊎ (or_word_fault o ≡ Ok x)
found true v x o e = inl (refl, ok_is v x e)
found false v x o e = inr e

-- what is true of each word of a table with its value is true of a piece and the value that it is read as
abbrev pub AllWords : {A : Type 0} → (List ℕ → A → Type 0) → List (Worded A) → Type 0
AllWords P [] = Unit {0}
AllWords P (w ∷ ws) = P w.word w.value × AllWords P ws

pub word_back : {A : Type 0} (P : List ℕ → A → Type 0) (ws : List (Worded A)) → AllWords P ws → (p : List ℕ) (x : A) → word_among ws p ≡ Ok x → P p x
word_back P [] all p x e = absurd cc
word_back {A} P (w ∷ ws) all p x e =
    elim (found (same_text w.word p) w.value x (value_of_word ws p) e) [
      | inl h ↦
          let word = same_text_is w.word p h.0 in
          subst (λ (t : List ℕ). P t x) word (subst (λ (v : A). P w.word v) h.1 all.0)
      | inr h ↦ word_back P ws all.1 p x h
    ]

-- ---- some pieces

-- the pieces that a value was read from, behind others in front: its pieces, and those that are left
abbrev pub Back : {A : Type 0} → (A → List (List ℕ)) → (A → Type 0) → List (List ℕ) → (List (List ℕ) → Reading A) → Type 0
Back {A} of Fits front r =
    (ps qs : List (List ℕ)) (x : A) → r ps ≡ Ok (x, qs) → (front ++ ps ≡ of x ++ qs) × Fits x

pub next_back : {A : Type 0} (text : A → List ℕ) (Fits : A → Type 0) (of : List ℕ → Result A LineFault) → PieceBack text Fits of → (ps qs : List (List ℕ)) (x : A) → next_piece of ps ≡ Ok (x, qs) → (ps ≡ text x ∷ qs) × Fits x
next_back text Fits of back [] qs x e = absurd cc
next_back text Fits of back (p ∷ ps) qs x e =
    let a = next_ok of p ps x qs e in
    let b = back p x a.0 in
    let piece : p ≡ text x = b.0 in
    let rest : ps ≡ qs = a.1 in
    (cc, b.1)

-- a piece, and what stands behind it
pub behind : {x : List ℕ} {ps qs rest : List (List ℕ)} → ps ≡ x ∷ qs → qs ≡ rest → ps ≡ x ∷ rest
behind {x} e f = e ∙ ap (λ (q : List (List ℕ)). x ∷ q) f

pub made_back : {A B : Type 0} (f : A → B) (r : Reading A) (y : B) (qs : List (List ℕ)) → made_of f r ≡ Ok (y, qs) → (x : A) × (r ≡ Ok (x, qs)) × (f x ≡ y)
made_back {A} {B} f r y qs e =
    let b = and_then_ok r (λ x. Ok (f x.0, x.1)) (y, qs) e in
    let same : (f b.0.0, b.0.1) ≡ (y, qs) = ok_is (f b.0.0, b.0.1) (y, qs) b.2 in
    let rest : b.0.1 ≡ qs = ap (λ (z : B × List (List ℕ)). z.1) same in
    (b.0.0, subst (λ (q : List (List ℕ)). r ≡ Ok (b.0.0, q)) rest b.1, ap (λ (z : B × List (List ℕ)). z.0) same)

-- a word alone
pub lone_back : {A : Type 0} (of : A → List (List ℕ)) (Fits : A → Type 0) (front : List (List ℕ)) (a : A) → front ≡ of a → Fits a → Back of Fits front (λ ps. Ok (a, ps))
lone_back {A} of Fits front a is fits ps qs x e =
    let same : (a, ps) ≡ (x, qs) = ok_is (a, ps) (x, qs) e in
    let value : a ≡ x = ap (λ (z : A × List (List ℕ)). z.0) same in
    let rest : ps ≡ qs = ap (λ (z : A × List (List ℕ)). z.1) same in
    (ap (λ (f : List (List ℕ)). f ++ ps) (is ∙ ap of value) ∙ ap (λ (q : List (List ℕ)). of x ++ q) rest, subst Fits value fits)

-- a value that is another
pub retold : {A : Type 0} (of : A → List (List ℕ)) (Fits : A → Type 0) (front ps qs : List (List ℕ)) (x y : A) → x ≡ y → front ++ ps ≡ of x ++ qs → Fits x → (front ++ ps ≡ of y ++ qs) × Fits y
retold {A} of Fits front ps qs x y same is fits =
    (is ∙ ap (λ (z : A). of z ++ qs) same, subst Fits same fits)

-- a value made of another
pub made_behind : {A B : Type 0} (of : A → List (List ℕ)) (Fits : A → Type 0) (r : List (List ℕ) → Reading A) (of' : B → List (List ℕ)) (Fits' : B → Type 0) (front : List (List ℕ)) (f : A → B) → Back of Fits [] r → ((x : A) → front ++ of x ≡ of' (f x)) → ((x : A) → Fits x → Fits' (f x)) → Back of' Fits' front (λ ps. made_of f (r ps))
made_behind of Fits r of' Fits' front f back tells fits ps qs y e =
    let m = made_back f (r ps) y qs e in
    let b = back ps qs m.0 m.1 in (
      ap (λ (q : List (List ℕ)). front ++ q) b.0
          ∙ sym (append_assoc front (of m.0) qs)
          ∙ ap (λ (f : List (List ℕ)). f ++ qs) (tells m.0 ∙ ap of' m.2),
      subst Fits' m.2 (fits m.0 b.1),
    )

-- a word and a number
pub number_behind : {B : Type 0} (of' : B → List (List ℕ)) (Fits' : B → Type 0) (front : List (List ℕ)) (most : ℕ) (f : ℕ → B) → most < 2 ^ 64 → ((n : ℕ) → front ++ decimal n ∷ [] ≡ of' (f n)) → ((n : ℕ) → n ≤ most → Fits' (f n)) → Back of' Fits' front (λ ps. made_of f (next_piece (number_within most) ps))
number_behind of' Fits' front most f lt tells fits =
    made_behind (λ (n : ℕ). decimal n ∷ []) (λ n. n ≤ most) (λ ps. next_piece (number_within most) ps) of' Fits' front f (λ ps qs x e. next_back decimal (λ n. n ≤ most) (number_within most) (number_back most lt) ps qs x e) tells fits

-- ---- tables of words

-- a row of a table, and the rows after it
infixr 3 ◌also◌
pub ◌also◌ : {X Y : Type 0} → X → Y → X × Y
x also y = (x, y)

-- what stands behind each word of a table
abbrev pub AllBack : {A : Type 0} → (A → List (List ℕ)) → (A → Type 0) → List (List ℕ) → List (Worded (List (List ℕ) → Reading A)) → Type 0
AllBack of Fits front ws = AllWords (λ word r. Back of Fits (front ++ word ∷ []) r) ws

pub words_back : {A : Type 0} (of : A → List (List ℕ)) (Fits : A → Type 0) (front : List (List ℕ)) (ws : List (Worded (List (List ℕ) → Reading A))) → AllBack of Fits front ws → Back of Fits front (λ ps. followed_by (next_piece (word_among ws) ps) (λ arguments rest. arguments rest))
words_back of Fits front ws all [] qs x e = absurd cc
words_back {A} of Fits front ws all (p ∷ ps) qs x e =
    let f = and_then_ok (next_piece (word_among ws) (p ∷ ps)) (λ r. r.0 r.1) (x, qs) e in
    let word = next_ok (word_among ws) p ps f.0.0 f.0.1 f.1 in
    let rest : f.0.0 ps ≡ Ok (x, qs) = subst (λ (q : List (List ℕ)). f.0.0 q ≡ Ok (x, qs)) (sym word.1) f.2 in
    let b = word_back (λ t r. Back of Fits (front ++ t ∷ []) r) ws all p f.0.0 word.0 ps qs x rest in
    (sym (append_assoc front (p ∷ []) ps) ∙ b.0, b.1)
