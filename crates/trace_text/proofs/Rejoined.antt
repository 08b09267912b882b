-- Pieces that are written with single spaces are the pieces of that line.
use Rattle.std.proofs.Common.{[], ap, append_assoc, List, refl, sym, ℕ, ◌++◌, ◌≡◌, ◌∙◌, ◌∷◌, not, true}
use Rattle.std.proofs.Math.Dec.{eqb}
use Rattle.std.proofs.lemmas.Bool.{and_parts, not-true}
use Rattle.flat_policy.specs.Texts.Pieces.{pieces, spaced}
use Rattle.trace_text.specs.Spaces.{is_plain}

-- each piece is without a space
abbrev pub AllPlain : List (List ℕ) → Type 0
AllPlain [] = Unit {0}
AllPlain (p ∷ ps) = (is_plain p ≡ true) × AllPlain ps

pub pieces_plain : (p : List ℕ) → is_plain p ≡ true → pieces p ≡ p ∷ []
pieces_plain [] e = refl
pieces_plain (b ∷ bs) e =
    let parts = and_parts (not (eqb b 32)) (is_plain bs) e in
    rw (not-true (eqb b 32) parts.0, pieces_plain bs parts.1) refl

pub pieces_behind : (p rest : List ℕ) → is_plain p ≡ true → pieces (p ++ 32 ∷ rest) ≡ p ∷ pieces rest
pieces_behind [] rest e = refl
pieces_behind (b ∷ bs) rest e =
    let parts = and_parts (not (eqb b 32)) (is_plain bs) e in
    rw (not-true (eqb b 32) parts.0, pieces_behind bs rest parts.1) refl

pub pieces_spaced : (p : List ℕ) (ps : List (List ℕ)) → is_plain p ≡ true → AllPlain ps → pieces (spaced (p ∷ ps)) ≡ p ∷ ps
pieces_spaced p [] e plain = pieces_plain p e
pieces_spaced p (q ∷ qs) e plain =
    pieces_behind p (spaced (q ∷ qs)) e ∙ ap (λ (rest : List (List ℕ)). p ∷ rest) (pieces_spaced q qs plain.0 plain.1)

-- a line of some pieces, and of others behind them
pub spaced-append : (p : List ℕ) (ps : List (List ℕ)) (q : List ℕ) (qs : List (List ℕ)) → spaced ((p ∷ ps) ++ q ∷ qs) ≡ spaced (p ∷ ps) ++ 32 ∷ spaced (q ∷ qs)
spaced-append p [] q qs = refl
spaced-append p (r ∷ rs) q qs =
    ap (λ (rest : List ℕ). p ++ 32 ∷ rest) (spaced-append r rs q qs) ∙ sym (append_assoc p (32 ∷ spaced (r ∷ rs)) (32 ∷ spaced (q ∷ qs)))

pub AllPlain-append : (ps qs : List (List ℕ)) → AllPlain ps → AllPlain qs → AllPlain (ps ++ qs)
AllPlain-append [] qs f g = g
AllPlain-append (p ∷ ps) qs f g = (f.0, AllPlain-append ps qs f.1 g)
