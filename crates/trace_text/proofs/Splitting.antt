-- A line splits at its first space.
use Rattle.std.proofs.Common.{[], arith, drop, get_or, length, List, refl, suc, take, zero, ℕ, ◌<◌, ◌↔◌, ◌≡◌, ◌≢◌, ◌∷◌, Bool, Bor, Err, IsTrue, None, Option, Some, false, inl, inr, not, true}
use Rattle.std.specs.Option.{is_some}
use Rattle.trace_text.specs.Reading.{left_of}
use Rattle.std.proofs.Math.Dec.{eqb}
use Rattle.std.proofs.lemmas.Bool.{cases_Bool, eq-eqb, ne_eqb}
use Rattle.flat_policy.specs.declared.texts.LineFault.TheVariants as line_faults
use Rattle.flat_policy.specs.Texts.Pieces.{at_end, pieces}

-- a line has at least one piece
pub first_piece : (xs : List ℕ) → (p : List ℕ) × (ps : List (List ℕ)) × (pieces xs ≡ p ∷ ps)
first_piece [] = ([], [], refl)
first_piece (b ∷ bs) =
    elim (cases_Bool (eqb b 32)) [
      | inl e ↦ ([], pieces bs, rw e refl)
      | inr e ↦ let r = first_piece bs in (b ∷ r.0, r.1, rw (e, r.2) refl)
    ]

pub not_at_end : {A : Type 0} (x : A) (xs : List ℕ) → at_end x (pieces xs) ≡ Err line_faults.Word
not_at_end x xs = let r = first_piece xs in rw r.2 refl

pub done_is : (rest : Option (Bor (List ℕ))) (done : Bool) → is_some rest ≡ not done → (IsTrue done) ↔ (left_of rest ≡ [])
done_is None true e = (λ _. refl, λ _. refl)
done_is None false e = absurd cc
done_is (Some text) true e = absurd cc
done_is (Some text) false e = (λ h. absurd cc, λ h. let r = first_piece text.now in let g : r.0 ∷ r.1 ≡ [] = rw (← r.2) h in absurd cc)

pub pieces_split : (xs : List ℕ) (i : ℕ) → i < length xs → get_or xs i 0 ≡ 32 → ((k : ℕ) → k < i → get_or xs k 0 ≢ 32) → pieces xs ≡ take i xs ∷ pieces (drop (suc i) xs)
pieces_split [] i lt here before = absurd (omega arith)
pieces_split (b ∷ bs) zero lt here before = rw (eq-eqb b 32 here) refl
pieces_split (b ∷ bs) (suc i) lt here before =
    rw (ne_eqb b 32 (before 0 (omega arith)), pieces_split bs i (omega arith) here (λ k h. before (suc k) (omega arith))) refl

pub pieces_whole : (xs : List ℕ) → ((k : ℕ) → k < length xs → get_or xs k 0 ≢ 32) → pieces xs ≡ xs ∷ []
pieces_whole [] none = refl
pieces_whole (b ∷ bs) none =
    rw (ne_eqb b 32 (none 0 (omega arith)), pieces_whole bs (λ k h. none (suc k) (omega arith))) refl
