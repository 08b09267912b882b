-- Tests that go by a number first and by another test where the numbers are the same; and the order of whole numbers.
use Rattle.std.proofs.Common.{◌≡◌, ◌⊎◌, ℕ, ◌<◌, Bool, true, false, ◌||◌, ◌&&◌, ◌==◌, nat_lt, ℤ, pos, negsuc, int_lt, refl, sym, ap, ◌∙◌, inl, inr, arith}
use Rattle.std.proofs.lemmas.Bool.{and_from, and_parts, and_right, false_from_ne_true, false≢true, or_cases, or_from, or_left, or_parts, or_right}
use Rattle.std.proofs.Common.{eq-eqb, eqb-true, le-ltb, lt-ltb, ltb-false, ltb-true}

-- such a test, less first, and what it says
rises : (a b : ℕ) (p : Bool) → (nat_lt a b || ((a == b) && p)) ≡ true → (a < b) ⊎ ((a ≡ b) × (p ≡ true))
rises a b p h =
    elim (or_cases (nat_lt a b) ((a == b) && p) h) [
      | inl l ↦ inl (ltb-true a b l)
      | inr e ↦ (let both = and_parts (a == b) p e in inr (eqb-true a b both.0, both.1))
    ]

rises_by_less : (a b : ℕ) (p : Bool) → a < b → (nat_lt a b || ((a == b) && p)) ≡ true
rises_by_less a b p l = or_left (nat_lt a b) ((a == b) && p) (lt-ltb a b l)

rises_by_same : (a b : ℕ) (p : Bool) → a ≡ b → p ≡ true → (nat_lt a b || ((a == b) && p)) ≡ true
rises_by_same a b p e t = or_right (nat_lt a b) ((a == b) && p) (and_from (a == b) p (eq-eqb a b e) t)

-- the same, greater first
falls : (a b : ℕ) (p : Bool) → (nat_lt b a || ((a == b) && p)) ≡ true → (b < a) ⊎ ((a ≡ b) × (p ≡ true))
falls a b p h =
    elim (or_cases (nat_lt b a) ((a == b) && p) h) [
      | inl l ↦ inl (ltb-true b a l)
      | inr e ↦ (let both = and_parts (a == b) p e in inr (eqb-true a b both.0, both.1))
    ]

falls_by_less : (a b : ℕ) (p : Bool) → b < a → (nat_lt b a || ((a == b) && p)) ≡ true
falls_by_less a b p l = or_left (nat_lt b a) ((a == b) && p) (lt-ltb b a l)

falls_by_same : (a b : ℕ) (p : Bool) → a ≡ b → p ≡ true → (nat_lt b a || ((a == b) && p)) ≡ true
falls_by_same a b p e t = or_right (nat_lt b a) ((a == b) && p) (and_from (a == b) p (eq-eqb a b e) t)

pub by_number_irreflexive : (a : ℕ) (p : Bool) → p ≡ false → (nat_lt a a || ((a == a) && p)) ≡ false
by_number_irreflexive a p h = or_from (nat_lt a a) ((a == a) && p) (le-ltb a a (omega arith)) (and_right (a == a) p h)

pub rises_transitive : (a b c : ℕ) (p q r : Bool) → (a ≡ b → b ≡ c → p ≡ true → q ≡ true → r ≡ true)
    → (nat_lt a b || ((a == b) && p)) ≡ true → (nat_lt b c || ((b == c) && q)) ≡ true → (nat_lt a c || ((a == c) && r)) ≡ true
rises_transitive a b c p q r on h k =
    elim (rises a b p h) [
      | inl l ↦ elim (rises b c q k) [
        | inl m ↦ rises_by_less a c r (omega arith)
        | inr m ↦ rises_by_less a c r (omega (arith, m.0))
      ]
      | inr l ↦ elim (rises b c q k) [
        | inl m ↦ rises_by_less a c r (omega (arith, l.0))
        | inr m ↦ rises_by_same a c r (l.0 ∙ m.0) (on l.0 m.0 l.1 m.1)
      ]
    ]

pub falls_transitive : (a b c : ℕ) (p q r : Bool) → (a ≡ b → b ≡ c → p ≡ true → q ≡ true → r ≡ true)
    → (nat_lt b a || ((a == b) && p)) ≡ true → (nat_lt c b || ((b == c) && q)) ≡ true → (nat_lt c a || ((a == c) && r)) ≡ true
falls_transitive a b c p q r on h k =
    elim (falls a b p h) [
      | inl l ↦ elim (falls b c q k) [
        | inl m ↦ falls_by_less a c r (omega arith)
        | inr m ↦ falls_by_less a c r (omega (arith, m.0))
      ]
      | inr l ↦ elim (falls b c q k) [
        | inl m ↦ falls_by_less a c r (omega (arith, l.0))
        | inr m ↦ falls_by_same a c r (l.0 ∙ m.0) (on l.0 m.0 l.1 m.1)
      ]
    ]

-- where neither goes before the other, the numbers are the same, and the other test says neither
pub rises_total : (a b : ℕ) (p q : Bool) → (nat_lt a b || ((a == b) && p)) ≡ false → (nat_lt b a || ((b == a) && q)) ≡ false
    → (a ≡ b) × (p ≡ false) × (q ≡ false)
rises_total a b p q h k =
    let hs = or_parts (nat_lt a b) ((a == b) && p) h in
    let ks = or_parts (nat_lt b a) ((b == a) && q) k in
    let same : a ≡ b = omega (arith, ltb-false a b hs.0, ltb-false b a ks.0) in (
      same,
      false_from_ne_true p (λ t. false≢true (sym hs.1 ∙ and_from (a == b) p (eq-eqb a b same) t)),
      false_from_ne_true q (λ t. false≢true (sym ks.1 ∙ and_from (b == a) q (eq-eqb b a (sym same)) t)),
    )

pub falls_total : (a b : ℕ) (p q : Bool) → (nat_lt b a || ((a == b) && p)) ≡ false → (nat_lt a b || ((b == a) && q)) ≡ false
    → (a ≡ b) × (p ≡ false) × (q ≡ false)
falls_total a b p q h k =
    let hs = or_parts (nat_lt b a) ((a == b) && p) h in
    let ks = or_parts (nat_lt a b) ((b == a) && q) k in
    let same : a ≡ b = omega (arith, ltb-false b a hs.0, ltb-false a b ks.0) in (
      same,
      false_from_ne_true p (λ t. false≢true (sym hs.1 ∙ and_from (a == b) p (eq-eqb a b same) t)),
      false_from_ne_true q (λ t. false≢true (sym ks.1 ∙ and_from (b == a) q (eq-eqb b a (sym same)) t)),
    )

-- the order of whole numbers
pub int_irreflexive : (x : ℤ) → int_lt x x ≡ false
int_irreflexive (pos a) = le-ltb a a (omega arith)
int_irreflexive (negsuc a) = le-ltb a a (omega arith)

pub less_transitive : (a b c : ℕ) → nat_lt a b ≡ true → nat_lt b c ≡ true → nat_lt a c ≡ true
less_transitive a b c h k = lt-ltb a c (omega (arith, ltb-true a b h, ltb-true b c k))

pub int_transitive : (x y z : ℤ) → int_lt x y ≡ true → int_lt y z ≡ true → int_lt x z ≡ true
int_transitive (pos a) (pos b) (pos c) h k = less_transitive a b c h k
int_transitive (pos a) (pos b) (negsuc c) h k = absurd (false≢true k)
int_transitive (pos a) (negsuc b) z h k = absurd (false≢true h)
int_transitive (negsuc a) y (pos c) h k = refl
int_transitive (negsuc a) (pos b) (negsuc c) h k = absurd (false≢true k)
int_transitive (negsuc a) (negsuc b) (negsuc c) h k = less_transitive c b a k h

pub neither_less : (a b : ℕ) → nat_lt a b ≡ false → nat_lt b a ≡ false → a ≡ b
neither_less a b h k = omega (arith, ltb-false a b h, ltb-false b a k)

pub int_total : (x y : ℤ) → int_lt x y ≡ false → int_lt y x ≡ false → x ≡ y
int_total (pos a) (pos b) h k = ap pos (neither_less a b h k)
int_total (pos a) (negsuc b) h k = absurd (false≢true (sym k))
int_total (negsuc a) (pos b) h k = absurd (false≢true (sym h))
int_total (negsuc a) (negsuc b) h k = ap negsuc (neither_less a b k h)
