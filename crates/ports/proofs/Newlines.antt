-- What a search for a newline in a part of the bytes says of their front.
use Rattle.std.proofs.Common.{◌≡◌, ◌≢◌, ℕ, ◌+◌, ◌-◌, ◌<◌, ◌≤◌, List, length, map, take, drop, get_or, Bool, true, false, cond, eqb, inl, inr, Option, None, Some, arith, refl, sym, ◌∙◌, ap, subst}
use Rattle.std.specs.Int.{bit_at}
use Rattle.std.specs.Simd.Lanes.{chunk, mask_l}
use Rattle.std.specs.Prelude.{IfSome}
use Rattle.std.proofs.Math.Seq.{take-add, take-length}
use Rattle.std.proofs.Math.ListN.{get_or-map}
use Rattle.std.proofs.lemmas.Bool.{eqb-true, eqb-false, eq-eqb, cases_lt}
use Rattle.std.proofs.lemmas.Simd.{bit_mask_l, length-chunk, get_or-chunk}
use Rattle.std.proofs.lemmas.List.{get_or-take, get_or-drop, get_or_past, length-take-le, length-drop, take-take}
use Rattle.std.proofs.lemmas.List.Elements.{All-append, All-from_get_or, All-take}
use Rattle.memchr.specs.Find.{IsFirstByte, is_byte}
use Rattle.ports.specs.Lines.{HasNoNewline, EndsAt, IsFirstNewline}

-- no newline in the first s bytes, nor in the n behind them
pub HasNoNewline-further : (bytes : List ℕ) (s n : ℕ) → s + n ≤ length bytes → HasNoNewline (take s bytes) →
    ((k : ℕ) → k < n → get_or bytes (s + k) 0 ≢ 10) → HasNoNewline (take (s + n) bytes)
HasNoNewline-further bytes s n within plain none =
    let P : ℕ → Type 0 = λ b. b ≢ 10 in
    rw (take-add s n bytes)
    (All-append P (take s bytes) (take n (drop s bytes)) plain
    (All-from_get_or P (take n (drop s bytes)) 0 (λ i below.
    let inner : n ≤ length (drop s bytes) = simp length-drop (omega arith) in
    let near : i < n = rw (length-take-le n (drop s bytes)) at below in
    rw (get_or-take n (drop s bytes) i 0 near, get_or-drop s bytes i 0) (none i near))))

-- the byte at k of the part from s on
get_or-part : (bytes : List ℕ) (s k : ℕ) → get_or (drop s bytes) k 0 ≡ get_or bytes (s + k) 0
get_or-part bytes s k = get_or-drop s bytes k 0

-- a search of that part, and of the whole
pub found_among : (bytes : List ℕ) (s at : ℕ) → s ≤ length bytes → HasNoNewline (take s bytes) →
    IsFirstByte (is_byte 10) (drop s bytes) (Some at) → EndsAt (length bytes) (s + at) bytes
found_among bytes s at within plain found =
    let near : at < length bytes - s = rw (length-drop s bytes) at found.0.high in
    record {
      early = omega arith;
      within = omega arith;
      plain = HasNoNewline-further bytes s at (omega arith) plain (λ k below is.
          found.0.before k (omega arith) below (eq-eqb _ _ (get_or-part bytes s k ∙ is)));
      newline = sym (get_or-part bytes s at) ∙ eqb-true _ _ found.1;
    }

pub none_among : (bytes : List ℕ) (s : ℕ) → s ≤ length bytes → HasNoNewline (take s bytes) →
    IsFirstByte (is_byte 10) (drop s bytes) None → HasNoNewline bytes
none_among bytes s within plain none =
    let long : s + (length bytes - s) ≡ length bytes = omega arith in
    let all : HasNoNewline (take (s + (length bytes - s)) bytes) =
    HasNoNewline-further bytes s (length bytes - s) (omega arith) plain (λ k below is.
    none k (omega arith) (rw (length-drop s bytes) below) (eq-eqb _ _ (get_or-part bytes s k ∙ is))) in
    subst HasNoNewline (ap (λ (n : ℕ). take n bytes) long ∙ take-length bytes) all

-- a bit for each byte of a list says whether it is a newline, and past its end no bit is set
bit_of : (bytes : List ℕ) (k : ℕ) → bit_at (mask_l (map (λ b. eqb b 10) bytes)) k ≡ cond (eqb (get_or bytes k 0) 10) 1 0
bit_of bytes k = bit_mask_l (map (λ b. eqb b 10) bytes) k ∙ ap (λ (b : Bool). cond b 1 0) (get_or-map (λ b. eqb b 10) bytes k 0)

set_is : (x : ℕ) (b : Bool) → eqb x 10 ≡ b → cond {A = ℕ} b 1 0 ≡ 1 → x ≡ 10
set_is x true is set = eqb-true x 10 is
set_is x false is set = absurd (omega arith)

clear_is : (x : ℕ) (b : Bool) → eqb x 10 ≡ b → cond {A = ℕ} b 1 0 ≡ 0 → x ≢ 10
clear_is x true is clear = absurd (omega arith)
clear_is x false is clear = eqb-false x 10 is

-- the lowest bit of a block of the bytes is its first newline
pub found_nearby : (bytes : List ℕ) (s n k bits : ℕ) → s + n ≤ length bytes → HasNoNewline (take s bytes) →
    bits ≡ mask_l (map (λ b. eqb b 10) (chunk s n bytes)) → bit_at bits k ≡ 1 → ((i : ℕ) → i < k → bit_at bits i ≡ 0) → EndsAt (length bytes) (s + k) bytes
found_nearby bytes s n k bits room plain is set clear =
    let block : List ℕ = chunk s n bytes in
    let bit : (i : ℕ) → bit_at bits i ≡ cond (eqb (get_or block i 0) 10) 1 0 = λ i. ap (λ (m : ℕ). bit_at m i) is ∙ bit_of block i in
    let here : get_or block k 0 ≡ 10 = set_is _ _ refl (sym (bit k) ∙ set) in
    let near : k < n =
    elim (cases_lt k n) [
      | inl below ↦ below
      | inr past ↦ absurd (omega (arith, here, get_or_past block k 0 (omega (arith, length-chunk s n bytes room))))
    ] in
    record {
      early = omega arith;
      within = omega arith;
      plain = HasNoNewline-further bytes s k (omega arith) plain (λ i below same.
          clear_is _ _ refl (sym (bit i) ∙ clear i below) (get_or-chunk s n bytes i 0 (omega arith) ∙ same));
      newline = sym (get_or-chunk s n bytes k 0 near) ∙ here;
    }

-- a front that no place of a newline is in
pub HasNoNewline-front : (bytes : List ℕ) (newline : Option ℕ) (m k : ℕ) → IsFirstNewline bytes newline → IfSome newline (λ n. k ≤ n) →
    m ≤ k → HasNoNewline (take m bytes)
HasNoNewline-front bytes None m k plain behind within = All-take (λ b. b ≢ 10) m bytes plain
HasNoNewline-front bytes (Some n) m k ends behind within =
    subst HasNoNewline (take-take m n bytes (omega (arith, behind))) (All-take (λ b. b ≢ 10) m (take n bytes) ends.plain)
