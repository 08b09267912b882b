-- A reading that did not fail, or did.
use Rattle.std.proofs.Common.{ap, List, refl, subst, ℕ, ◌≡◌, ◌∷◌, Result, Ok, Err}
use Rattle.flat_policy.specs.declared.texts.LineFault.{LineFault}
use Rattle.flat_policy.specs.Texts.Pieces.{and_then, next_piece}

pub and_then_ok : {A B : Type 0} (r : Result A LineFault) (f : A → Result B LineFault) (y : B) → and_then r f ≡ Ok y → (x : A) × (r ≡ Ok x) × (f x ≡ Ok y)
and_then_ok (Ok x) f y e = (x, refl, e)
and_then_ok (Err d) f y e = absurd cc

-- a fault of a reading that always goes on to a value
pub and_then_err : {A B : Type 0} (r : Result A LineFault) (f : A → B) (d : LineFault) → and_then r (λ x. Ok (f x)) ≡ Err d → r ≡ Err d
and_then_err (Ok x) f d e = absurd cc
and_then_err (Err d) f d' e = let same : d ≡ d' = cc in rw same refl

pub ok_is : {A : Type 0} (x y : A) → ◌≡◌ {A = Result A LineFault} (Ok x) (Ok y) → x ≡ y
ok_is x y e = cc

pub next_ok : {A : Type 0} (of : List ℕ → Result A LineFault) (p : List ℕ) (ps : List (List ℕ)) (x : A) (qs : List (List ℕ)) → next_piece of (p ∷ ps) ≡ Ok (x, qs) → (of p ≡ Ok x) × (ps ≡ qs)
next_ok {A} of p ps x qs e =
    let g : A → A × List (List ℕ) = λ y. (y, ps) in
    let b = and_then_ok (of p) (λ y. Ok (g y)) (x, qs) e in
    let same : (b.0, ps) ≡ (x, qs) = ok_is (b.0, ps) (x, qs) b.2 in
    let first : b.0 ≡ x = ap (λ (r : A × List (List ℕ)). r.0) same in
    (subst (λ (y : A). of p ≡ Ok y) first b.1, ap (λ (r : A × List (List ℕ)). r.1) same)

pub next_err : {A : Type 0} (of : List ℕ → Result A LineFault) (p : List ℕ) (ps : List (List ℕ)) (d : LineFault) → next_piece of (p ∷ ps) ≡ Err d → of p ≡ Err d
next_err of p ps d e = and_then_err (of p) (λ x. (x, ps)) d e
