-- What the rules of turns come to by a unit's key.
use Rattle.std.proofs.Common.{◌≡◌, ◌≢◌, ℕ, ◌+◌, ◌<◌, ◌==◌, Bool, true, false, cond, not, Option, Some, None, List, is_some, length, set, refl, sym, ap, ap₂, ◌∙◌, inl, inr, arith, eqb-true, eq-eqb}
use Rattle.std.specs.Prelude.{◌||◌}
use Rattle.std.proofs.lemmas.Bool.{cases_Bool, cond-true, cond-false, false≢true, or_parts, not-false}
use Rattle.std.proofs.lemmas.List.{get_or-set_other, get_or-set_same, length-set, set-get_or}
use Rattle.flat_policy.specs.Policy.Moves.{clutch_has_entries, turn_on_entering, turn_on_leaving, turn_on_selection, with_next_turn, without_turn}
use Rattle.flat_policy.specs.Policy.Precedence.{clutch_priority}
use Rattle.flat_policy.specs.Policy.Queue.{Clutch, Flat, clutch_place, turn_of}
use Rattle.flat_policy.specs.Policy.Refresh.{turn_on_refresh}
use Rattle.clutch_bucket.specs.Lane.{rank_pri, rank_turn}
use Rattle.clutch_bucket.specs.Renewing.{is_pri, renewed_rank, renewed_turn, takes_turn, top_of, turned}
use Rattle.clutch_bucket.specs.declared.ranks.UnitKey.{UnitKey}

top_some : (s : Flat) (k : Clutch) → clutch_has_entries s k ≡ true → top_of s k ≡ Some (clutch_priority s k)
top_some s k h = cond-true (clutch_has_entries s k) (Some (clutch_priority s k)) None h

top_none : (s : Flat) (k : Clutch) → clutch_has_entries s k ≡ false → top_of s k ≡ None
top_none s k h = cond-false (clutch_has_entries s k) (Some (clutch_priority s k)) None h

-- the key tells whether the clutch bucket had entries, and whether it had a priority
pub record KeyTells (rank : Option UnitKey) (s : Flat) (k : Clutch) : Type 0 where
  pub there : is_some rank ≡ clutch_has_entries s k
  pub pri : (p : ℕ) → clutch_has_entries s k ≡ true → is_pri rank p ≡ (clutch_priority s k == p)

some_pri : (a b : ℕ) → ◌≡◌ {A = Option ℕ} (Some a) (Some b) → a ≡ b
some_pri a b h = grind (arith, h)

some_none : (a : ℕ) → ◌≡◌ {A = Option ℕ} (Some a) None → ⊥
some_none a h = grind (arith, h)

false_true : (b : Bool) → b ≡ false → b ≡ true → ⊥
false_true b e h = false≢true (sym e ∙ h)

pub key_tells : (rank : Option UnitKey) (s : Flat) (k : Clutch) → rank_pri rank ≡ top_of s k → KeyTells rank s k
key_tells None s k h =
    elim (cases_Bool (clutch_has_entries s k)) [
      | inl e ↦ absurd (some_none (clutch_priority s k) (sym (h ∙ top_some s k e)))
      | inr e ↦ record { there = sym e; pri = λ p t. absurd (false_true (clutch_has_entries s k) e t) }
    ]
key_tells (Some key) s k h =
    elim (cases_Bool (clutch_has_entries s k)) [
      | inl e ↦ record { there = sym e; pri = λ p t. ap (λ (q : ℕ). q == p) (some_pri key.pri (clutch_priority s k) (h ∙ top_some s k e)) }
      | inr e ↦ absurd (some_none key.pri (h ∙ top_none s k e))
    ]

turned_some : (picked : Bool) (rank : Option UnitKey) (k : Clutch) (x : Flat) → clutch_has_entries x k ≡ true → turned picked rank (top_of x k) k x ≡ cond (picked || not (is_pri rank (clutch_priority x k))) (with_next_turn k x) x
turned_some picked rank k x h = ap (λ (t : Option ℕ). turned picked rank t k x) (top_some x k h)

turned_none : (picked : Bool) (rank : Option UnitKey) (k : Clutch) (x : Flat) → clutch_has_entries x k ≡ false → turned picked rank (top_of x k) k x ≡ without_turn k x
turned_none picked rank k x h = ap (λ (t : Option ℕ). turned picked rank t k x) (top_none x k h)

no_key : (rank : Option UnitKey) (p : ℕ) → is_some rank ≡ false → is_pri rank p ≡ false
no_key None p h = refl
no_key (Some key) p h = absurd (false_true (is_some (Some key)) h refl)

no_turn : (rank : Option UnitKey) → is_some rank ≡ false → rank_turn rank ≡ None
no_turn None h = refl
no_turn (Some key) h = absurd (false_true (is_some (Some key)) h refl)

-- entering, by the key
pub entering : (rank : Option UnitKey) (s x : Flat) (k : Clutch) → rank_pri rank ≡ top_of s k → clutch_has_entries x k ≡ true → turn_on_entering s k x ≡ turned false rank (top_of x k) k x
entering rank s x k h has =
    let tells = key_tells rank s k h in
    let p = clutch_priority x k in
    elim (cases_Bool (clutch_has_entries s k)) [
      | inl e ↦ ap₂ (λ (a b : Bool). cond (not a || not b) (with_next_turn k x) x) e (sym (tells.pri p e)) ∙ sym (turned_some false rank k x has)
      | inr e ↦ ap (λ (a : Bool). cond (not a || not (clutch_priority s k == p)) (with_next_turn k x) x) e
          ∙ (ap (λ (b : Bool). cond (not b) (with_next_turn k x) x) (sym (no_key rank p (tells.there ∙ e))) ∙ sym (turned_some false rank k x has))
    ]

cond_not : (b : Bool) (x y : Flat) → cond b x y ≡ cond (not b) y x
cond_not true x y = refl
cond_not false x y = refl

-- leaving
pub leaving : (rank : Option UnitKey) (s x : Flat) (k : Clutch) → rank_pri rank ≡ top_of s k → clutch_has_entries s k ≡ true → turn_on_leaving s k x ≡ turned false rank (top_of x k) k x
leaving rank s x k h had =
    let tells = key_tells rank s k h in
    let p = clutch_priority x k in
    let same = clutch_priority s k == p in
    elim (cases_Bool (clutch_has_entries x k)) [
      | inl e ↦ ap (λ (a : Bool). cond (not a) (without_turn k x) (cond same x (with_next_turn k x))) e
          ∙ (cond_not same x (with_next_turn k x) ∙ (ap (λ (b : Bool). cond (not b) (with_next_turn k x) x) (sym (tells.pri p had)) ∙ sym (turned_some false rank k x e)))
      | inr e ↦ ap (λ (a : Bool). cond (not a) (without_turn k x) (cond same x (with_next_turn k x))) e ∙ sym (turned_none false rank k x e)
    ]

-- a selection
pub selecting : (rank : Option UnitKey) (x : Flat) (k : Clutch) → turn_on_selection k x ≡ turned true rank (top_of x k) k x
selecting rank x k =
    elim (cases_Bool (clutch_has_entries x k)) [
      | inl e ↦ ap (λ (a : Bool). cond a (with_next_turn k x) (without_turn k x)) e ∙ sym (turned_some true rank k x e)
      | inr e ↦ ap (λ (a : Bool). cond a (with_next_turn k x) (without_turn k x)) e ∙ sym (turned_none true rank k x e)
    ]

-- a turn that is none already is lost with no change
without_none : (k : Clutch) (x : Flat) → turn_of x k ≡ None → without_turn k x ≡ x
without_none k x h =
    ap (λ (ts : List (Option ℕ)). record x { turns = ts }) (ap (set x.turns (clutch_place k)) (sym h) ∙ set-get_or x.turns (clutch_place k) None)

-- a refresh, in which the clutch bucket keeps its entries' number, and one that is empty has a priority of its score alone
pub refreshing : (rank : Option UnitKey) (s x : Flat) (k : Clutch) → rank_pri rank ≡ top_of s k → clutch_has_entries x k ≡ clutch_has_entries s k
    → (clutch_has_entries s k ≡ false → clutch_priority s k ≡ clutch_priority x k) → turn_of x k ≡ rank_turn rank → turn_on_refresh s x k ≡ turned false rank (top_of x k) k x
refreshing rank s x k h kept empty turn =
    let tells = key_tells rank s k h in
    let p = clutch_priority x k in
    let same = clutch_priority s k == p in
    elim (cases_Bool (clutch_has_entries s k)) [
      | inl e ↦ cond_not same x (with_next_turn k x) ∙ (ap (λ (b : Bool). cond (not b) (with_next_turn k x) x) (sym (tells.pri p e)) ∙ sym (turned_some false rank k x (kept ∙ e)))
      | inr e ↦ cond-true same x (with_next_turn k x) (eq-eqb (clutch_priority s k) p (empty e))
          ∙ (sym (without_none k x (turn ∙ no_turn rank (tells.there ∙ e))) ∙ sym (turned_none false rank k x (kept ∙ e)))
    ]

pri_is : (rank : Option UnitKey) (p : ℕ) → is_pri rank p ≡ true → rank_pri rank ≡ Some p
pri_is None p h = absurd (false_true false refl h)
pri_is (Some key) p h = ap (λ (n : ℕ). Some n) (eqb-true key.pri p h)

-- the key that is renewed has the priority
pub renewed_pri : (picked : Bool) (turn : ℕ) (rank : Option UnitKey) (t : Option ℕ) → rank_pri (renewed_rank picked turn rank t) ≡ t
renewed_pri picked turn rank None = refl
renewed_pri picked turn rank (Some p) =
    elim (cases_Bool (takes_turn picked rank (Some p))) [
      | inl e ↦ ap (λ (b : Bool). rank_pri (cond b (Some (record { pri = p; turn = turn })) rank)) e
      | inr e ↦ ap (λ (b : Bool). rank_pri (cond b (Some (record { pri = p; turn = turn })) rank)) e
          ∙ pri_is rank p (not-false (is_pri rank p) (or_parts picked (not (is_pri rank p)) e).1)
    ]

-- and its turn is that of the clutch bucket
pub renewed_turn_is : (picked : Bool) (rank : Option UnitKey) (t : Option ℕ) (k : Clutch) (x : Flat) → clutch_place k < length x.turns → turn_of x k ≡ rank_turn rank
    → turn_of (turned picked rank t k x) k ≡ rank_turn (renewed_rank picked x.next_turn rank t)
renewed_turn_is picked rank None k x within was = get_or-set_same x.turns (clutch_place k) None None within
renewed_turn_is picked rank (Some p) k x within was =
    elim (cases_Bool (takes_turn picked rank (Some p))) [
      | inl e ↦ ap (λ (b : Bool). turn_of (cond b (with_next_turn k x) x) k) e
          ∙ (get_or-set_same x.turns (clutch_place k) (Some x.next_turn) None within
          ∙ ap (λ (b : Bool). rank_turn (cond b (Some (record { pri = p; turn = x.next_turn })) rank)) (sym e))
      | inr e ↦ ap (λ (b : Bool). turn_of (cond b (with_next_turn k x) x) k) e
          ∙ (was ∙ ap (λ (b : Bool). rank_turn (cond b (Some (record { pri = p; turn = x.next_turn })) rank)) (sym e))
    ]

-- other clutch buckets keep their turns
pub other_turn : (picked : Bool) (rank : Option UnitKey) (t : Option ℕ) (k l : Clutch) (x : Flat) → clutch_place l ≢ clutch_place k → turn_of (turned picked rank t k x) l ≡ turn_of x l
other_turn picked rank None k l x n = get_or-set_other x.turns (clutch_place k) (clutch_place l) None None n
other_turn picked rank (Some p) k l x n =
    elim (cases_Bool (takes_turn picked rank (Some p))) [
      | inl e ↦ ap (λ (b : Bool). turn_of (cond b (with_next_turn k x) x) l) e ∙ get_or-set_other x.turns (clutch_place k) (clutch_place l) (Some x.next_turn) None n
      | inr e ↦ ap (λ (b : Bool). turn_of (cond b (with_next_turn k x) x) l) e
    ]

-- entries, spans and places stay, and the next turn is the renewed one
pub record OnlyTurns (picked : Bool) (rank : Option UnitKey) (t : Option ℕ) (x y : Flat) : Type 0 where
  pub entries : y.entries ≡ x.entries
  pub spans : y.spans ≡ x.spans
  pub places : length y.turns ≡ length x.turns
  pub next : y.next_turn ≡ renewed_turn picked x.next_turn rank t

pub only_turns : (picked : Bool) (rank : Option UnitKey) (t : Option ℕ) (k : Clutch) (x : Flat) → OnlyTurns picked rank t x (turned picked rank t k x)
only_turns picked rank None k x = record { entries = refl; spans = refl; places = length-set x.turns (clutch_place k) None; next = refl }
only_turns picked rank (Some p) k x =
    elim (cases_Bool (takes_turn picked rank (Some p))) [
      | inl e ↦ record {
        entries = ap (λ (b : Bool). (cond b (with_next_turn k x) x).entries) e;
        spans = ap (λ (b : Bool). (cond b (with_next_turn k x) x).spans) e;
        places = ap (λ (b : Bool). length (cond b (with_next_turn k x) x).turns) e ∙ length-set x.turns (clutch_place k) (Some x.next_turn);
        next = ap (λ (b : Bool). (cond b (with_next_turn k x) x).next_turn) e ∙ ap (λ (b : Bool). cond b (x.next_turn + 1) x.next_turn) (sym e);
      }
      | inr e ↦ record {
        entries = ap (λ (b : Bool). (cond b (with_next_turn k x) x).entries) e;
        spans = ap (λ (b : Bool). (cond b (with_next_turn k x) x).spans) e;
        places = ap (λ (b : Bool). length (cond b (with_next_turn k x) x).turns) e;
        next = ap (λ (b : Bool). (cond b (with_next_turn k x) x).next_turn) e ∙ ap (λ (b : Bool). cond b (x.next_turn + 1) x.next_turn) (sym e);
      }
    ]
