-- Amounts of slot rights, place by place.
use Rattle.std.proofs.Common.{◌≡◌, ℕ, ◌+◌, ◌==◌, inl, inr, arith}
use Rattle.std.proofs.lemmas.Bool.{cases_Bool, cond-false, cond-true}
use Rattle.cells.specs.Packs.{amounts_but, beside, joined}

-- at each place the rights of one thread more
pub beside_more : (c k n : ℕ) → beside c k 0 n + beside c k 0 1 ≡ beside c k 0 (n + 1)
beside_more c k n = elim (cases_Bool (k == c)) [
  | inl e ↦ omega (arith, cond-true {A = ℕ} (k == c) 0 n e, cond-true {A = ℕ} (k == c) 0 1 e, cond-true {A = ℕ} (k == c) 0 (n + 1) e)
  | inr e ↦ omega (arith, cond-false {A = ℕ} (k == c) 0 n e, cond-false {A = ℕ} (k == c) 0 1 e, cond-false {A = ℕ} (k == c) 0 (n + 1) e)
]

pub joined_more : (c n : ℕ) → joined (amounts_but c 0 n) (amounts_but c 0 1) ≡ amounts_but c 0 (n + 1)
joined_more c n =
    λ i. record {
      at0 = beside_more c 0 n i;
      at1 = beside_more c 1 n i;
      at2 = beside_more c 2 n i;
      at3 = beside_more c 3 n i;
      at4 = beside_more c 4 n i;
      at5 = beside_more c 5 n i;
      at6 = beside_more c 6 n i;
      at7 = beside_more c 7 n i;
      yard = n + 1;
    }
