-- Why the keys of units are strictly ordered. No public clause cites this module.
use Rattle.std.specs.Prelude.{false, nat_lt, true, ℕ, ◌&&◌, ◌<◌, ◌==◌, ◌≡◌}
use Rattle.std.proofs.Common.{ap, arith, eq-eqb, eqb-true, inl, inr, le-ltb, lt-ltb, ltb-false, ltb-true, sym, ◌∙◌, ◌⊎◌}
use Rattle.std.proofs.lemmas.Bool.{and_from, and_parts, and_right, false_from_ne_true, false≢true, or_cases, or_from, or_left, or_parts, or_right}
use Rattle.pairing_heap.specs.Order.{IsStrictOrder}
use Rattle.clutch_bucket.specs.Ranks.{unit_key_precedes}
use Rattle.clutch_bucket.specs.declared.ranks.UnitKey.{UnitKey}

-- what it says that one key precedes another
goes : (a b : UnitKey) → unit_key_precedes a b ≡ true → (b.pri < a.pri) ⊎ ((a.pri ≡ b.pri) × (a.turn < b.turn))
goes a b h =
    elim (or_cases (nat_lt b.pri a.pri) ((a.pri == b.pri) && nat_lt a.turn b.turn) h) [
      | inl l ↦ inl (ltb-true b.pri a.pri l)
      | inr e ↦ (let both = and_parts (a.pri == b.pri) (nat_lt a.turn b.turn) e in inr (eqb-true a.pri b.pri both.0, ltb-true a.turn b.turn both.1))
    ]

goes_by_pri : (a b : UnitKey) → b.pri < a.pri → unit_key_precedes a b ≡ true
goes_by_pri a b l = or_left (nat_lt b.pri a.pri) ((a.pri == b.pri) && nat_lt a.turn b.turn) (lt-ltb b.pri a.pri l)

goes_by_turn : (a b : UnitKey) → a.pri ≡ b.pri → a.turn < b.turn → unit_key_precedes a b ≡ true
goes_by_turn a b e l =
    or_right (nat_lt b.pri a.pri) ((a.pri == b.pri) && nat_lt a.turn b.turn)
    (and_from (a.pri == b.pri) (nat_lt a.turn b.turn) (eq-eqb a.pri b.pri e) (lt-ltb a.turn b.turn l))

unit_irreflexive : (a : UnitKey) → unit_key_precedes a a ≡ false
unit_irreflexive a =
    or_from (nat_lt a.pri a.pri) ((a.pri == a.pri) && nat_lt a.turn a.turn) (le-ltb a.pri a.pri (omega arith))
    (and_right (a.pri == a.pri) (nat_lt a.turn a.turn) (le-ltb a.turn a.turn (omega arith)))

unit_transitive : (a b c : UnitKey) → unit_key_precedes a b ≡ true → unit_key_precedes b c ≡ true → unit_key_precedes a c ≡ true
unit_transitive a b c h k =
    elim (goes a b h) [
      | inl l ↦ elim (goes b c k) [
        | inl m ↦ goes_by_pri a c (omega arith)
        | inr m ↦ goes_by_pri a c (omega (arith, m.0))
      ]
      | inr l ↦ elim (goes b c k) [
        | inl m ↦ goes_by_pri a c (omega (arith, l.0))
        | inr m ↦ goes_by_turn a c (l.0 ∙ m.0) (omega (arith, l.1, m.1))
      ]
    ]

-- where neither precedes, the numbers are the same
pris_same : (a b : UnitKey) → unit_key_precedes a b ≡ false → unit_key_precedes b a ≡ false → a.pri ≡ b.pri
pris_same a b h k =
    let hs = or_parts (nat_lt b.pri a.pri) ((a.pri == b.pri) && nat_lt a.turn b.turn) h in
    let ks = or_parts (nat_lt a.pri b.pri) ((b.pri == a.pri) && nat_lt b.turn a.turn) k in
    omega (arith, ltb-false b.pri a.pri hs.0, ltb-false a.pri b.pri ks.0)

not_before : (a b : UnitKey) → a.pri ≡ b.pri → unit_key_precedes a b ≡ false → nat_lt a.turn b.turn ≡ false
not_before a b e h = false_from_ne_true (nat_lt a.turn b.turn) (λ t. false≢true (sym h ∙ goes_by_turn a b e (ltb-true a.turn b.turn t)))

unit_total : (a b : UnitKey) → unit_key_precedes a b ≡ false → unit_key_precedes b a ≡ false → a ≡ b
unit_total a b h k =
    let pris = pris_same a b h k in
    let ab = ltb-false a.turn b.turn (not_before a b pris h) in
    let ba = ltb-false b.turn a.turn (not_before b a (sym pris) k) in
    let turns : a.turn ≡ b.turn = omega (arith, ab, ba) in
    ap (λ (n : ℕ). record { pri = n; turn = a.turn }) pris ∙ ap (λ (n : ℕ). record { pri = b.pri; turn = n }) turns

-- the keys of units are strictly ordered
pub unit_order : IsStrictOrder unit_key_precedes
unit_order = record { irreflexive = unit_irreflexive; transitive = unit_transitive; total = unit_total }
