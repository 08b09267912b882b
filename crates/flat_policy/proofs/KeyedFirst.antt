-- The first of a lane by the priority with the score of the unit, the turn of the unit and the order number.
use Rattle.std.proofs.Common.{◌≡◌, ℕ, ◌<◌, ◌≤◌, nat_lt, int_lt, Bool, true, false, ◌&&◌, ◌||◌, ◌==◌, cond, Contains, Option, Some, None, is_some, refl, sym, ap, ◌∙◌, inl, inr, arith, eq-eqb, eqb-true, le-ltb}
use Rattle.std.proofs.lemmas.Bool.{cases_Bool, cond-false, cond-true, false≢true, false_from_ne_true, or_parts, or_from, and_parts, and_from, ltb-false}
use Rattle.std.proofs.lemmas.List.Elements.{All-contains}
use Rattle.sched_base.specs.declared.Bucket.{Bucket}
use Rattle.bucket_tables.specs.declared.Lane.{Lane}
use Rattle.flat_policy.specs.Laws.Choice.{OrdersMembers}
use Rattle.flat_policy.specs.Laws.Units.{KeysFindFirst, goes_by_keys, goes_on_a_tie, scored}
use Rattle.flat_policy.specs.Policy.Precedence.{clutch_precedes, clutch_priority, in_one_unit, precedes, precedes_in_lane, turn_before}
use Rattle.flat_policy.specs.Policy.Queue.{Clutch, Flat, Queued, clutch_of, in_clutch, lane_entries, turn_of}
use Rattle.flat_policy.specs.Policy.Unpreceded.{IsUnpreceded, unpreceded}
use Rattle.flat_policy.specs.Policy.WellFormed.{HasOrderNumber, WellFormed}
use Rattle.flat_policy.proofs.Buckets.{in_own_clutch}
use Rattle.flat_policy.proofs.Choice.{StrictOn, chosen_is, is_unpreceded, strict_from_order, there_under_strict}
use Rattle.flat_policy.proofs.Entries.{arrival_from_order, each_member, same_from_arrival}
use Rattle.flat_policy.proofs.InLane.{UnboundOf, lane_member, lane_order, one_unit_turned, turn_irreflexive, turn_transitive, turns_apart, unit_joined, unit_same}
use Rattle.flat_policy.proofs.Lexical.{by_number_irreflexive, falls_total, falls_transitive, int_irreflexive, int_total, int_transitive}
use Rattle.flat_policy.proofs.Members.{all_from_members, any_from_member}
use Rattle.flat_policy.proofs.UnitPriorities.{of_one_unit, scored_first, scored_within_clutch}
use Rattle.flat_policy.proofs.Units.{order_alike, unit_strict, unit_total}

-- in an unbound lane ties go by a strict order
tie_strict : (s : Flat) (b : Bucket) → StrictOn (UnboundOf b) (goes_on_a_tie s)
tie_strict s b =
    unit_strict (UnboundOf b) (λ (x y : Queued). in_one_unit x.facts y.facts) (λ (x : Queued). clutch_of x.facts)
    (λ (x y : Queued). int_lt x.order y.order) (λ (k l : Clutch). turn_before (turn_of s k) (turn_of s l)) (record {
      same = unit_same b;
      joined = λ x y mx my. unit_joined x y;
      inner_strict = record { irreflexive = λ x m. int_irreflexive x.order; transitive = λ x y z mx my mz. int_transitive x.order y.order z.order };
      outer_strict = record {
        irreflexive = λ x m. turn_irreflexive (turn_of s (clutch_of x.facts));
        transitive = λ x y z mx my mz. turn_transitive (turn_of s (clutch_of x.facts)) (turn_of s (clutch_of y.facts)) (turn_of s (clutch_of z.facts));
      };
    })

-- entries with one order number are one
same_order : (groups : ℕ) (s : Flat) → WellFormed groups s → (x y : Queued) → Contains s.entries x → Contains s.entries y → int_lt x.order y.order ≡ false → int_lt y.order x.order ≡ false → x ≡ y
same_order groups s w x y cx cy h k =
    same_from_arrival s.entries w.arrivals_rise x y cx cy
    (arrival_from_order x y (each_member HasOrderNumber s.entries w.order_numbers x cx) (each_member HasOrderNumber s.entries w.order_numbers y cy)
    (int_total x.order y.order h k))

-- two clutch buckets with entries have turns that differ
turns_apart_of : (groups : ℕ) (s : Flat) → WellFormed groups s → (x y : Queued) → Contains s.entries x → Contains s.entries y → is_some x.facts.bound ≡ false → is_some y.facts.bound ≡ false → in_one_unit x.facts y.facts ≡ false
    → turn_before (turn_of s (clutch_of x.facts)) (turn_of s (clutch_of y.facts)) ≡ false → turn_before (turn_of s (clutch_of y.facts)) (turn_of s (clutch_of x.facts)) ≡ false → x ≡ y
turns_apart_of groups s w x y cx cy ux uy apart h k =
    let gx = each_member (λ (e : Queued). e.facts.group < groups) s.entries w.groups_below x cx in
    let gy = each_member (λ (e : Queued). e.facts.group < groups) s.entries w.groups_below y cy in
    absurd (turns_apart (turn_of s (clutch_of x.facts)) (turn_of s (clutch_of y.facts))
    (w.turns_where_entries (clutch_of x.facts) gx ∙ any_from_member (in_clutch (clutch_of x.facts)) s.entries x cx (in_own_clutch x ux))
    (w.turns_where_entries (clutch_of y.facts) gy ∙ any_from_member (in_clutch (clutch_of y.facts)) s.entries y cy (in_own_clutch y uy))
    (w.turns_differ (clutch_of x.facts) (clutch_of y.facts) (λ same. false≢true (sym apart ∙ unit_joined x y same)) gx gy)
    h k)

unbound_keys : (groups : ℕ) (s : Flat) → WellFormed groups s → (at : Lane) → at.bound ≡ false → OrdersMembers (goes_by_keys s) (lane_entries s at)
unbound_keys groups s w at e =
    let u : (x : Queued) → Contains (lane_entries s at) x → UnboundOf at.bucket x = λ x c. ((lane_member s at x c).3 ∙ e, (lane_member s at x c).2) in
    record {
      irreflexive = λ x c. by_number_irreflexive (scored s x) (goes_on_a_tie s x x) ((tie_strict s at.bucket).irreflexive x (u x c));
      transitive = λ x y z cx cy cz. falls_transitive (scored s x) (scored s y) (scored s z) (goes_on_a_tie s x y) (goes_on_a_tie s y z) (goes_on_a_tie s x z)
          (λ p q. (tie_strict s at.bucket).transitive x y z (u x cx) (u y cy) (u z cz));
      total = λ x y cx cy h k.
          let t = falls_total (scored s x) (scored s y) (goes_on_a_tie s x y) (goes_on_a_tie s y x) h k in
          unit_total (λ (a b : Queued). in_one_unit a.facts b.facts) (λ (a : Queued). clutch_of a.facts)
          (λ (a b : Queued). int_lt a.order b.order) (λ (k l : Clutch). turn_before (turn_of s k) (turn_of s l)) x y
          (same_order groups s w x y (lane_member s at x cx).0 (lane_member s at y cy).0)
          (one_unit_turned x y ((u x cx).0 ∙ sym (u y cy).0))
          (turns_apart_of groups s w x y (lane_member s at x cx).0 (lane_member s at y cy).0 (u x cx).0 (u y cy).0)
          t.1 t.2;
    }

-- in a bound lane ties go by the order number
bound_tie : (s : Flat) (x y : Queued) → is_some x.facts.bound ≡ true → goes_on_a_tie s x y ≡ int_lt x.order y.order
bound_tie s x y e =
    ap (λ b. cond (b || (x.facts.group == y.facts.group)) (int_lt x.order y.order) (turn_before (turn_of s (clutch_of x.facts)) (turn_of s (clutch_of y.facts)))) e

abbrev by_score_and_order : Flat → Queued → Queued → Bool
by_score_and_order s x y = nat_lt (scored s y) (scored s x) || ((scored s x == scored s y) && int_lt x.order y.order)

bound_keys : (groups : ℕ) (s : Flat) → WellFormed groups s → (at : Lane) → at.bound ≡ true → OrdersMembers (goes_by_keys s) (lane_entries s at)
bound_keys groups s w at e =
    order_alike (by_score_and_order s) (goes_by_keys s) (lane_entries s at)
    (λ x y cx cy. ap (λ b. nat_lt (scored s y) (scored s x) || ((scored s x == scored s y) && b)) (bound_tie s x y ((lane_member s at x cx).3 ∙ e)))
    (record {
      irreflexive = λ x c. by_number_irreflexive (scored s x) (int_lt x.order x.order) (int_irreflexive x.order);
      transitive = λ x y z c d f. falls_transitive (scored s x) (scored s y) (scored s z) (int_lt x.order y.order) (int_lt y.order z.order) (int_lt x.order z.order)
          (λ p q. int_transitive x.order y.order z.order);
      total = λ x y cx cy h k.
          let t = falls_total (scored s x) (scored s y) (int_lt x.order y.order) (int_lt y.order x.order) h k in
          same_order groups s w x y (lane_member s at x cx).0 (lane_member s at y cy).0 t.1 t.2;
    })

keys_order : (groups : ℕ) (s : Flat) → WellFormed groups s → (at : Lane) → OrdersMembers (goes_by_keys s) (lane_entries s at)
keys_order groups s w at =
    elim (cases_Bool at.bound) [
      | inl e ↦ bound_keys groups s w at e
      | inr e ↦ unbound_keys groups s w at e
    ]

-- a number that is not the greater, and at a tie a test that fails
not_before : (a b : ℕ) (p : Bool) → a ≤ b → (a ≡ b → p ≡ false) → (nat_lt b a || ((a == b) && p)) ≡ false
not_before a b p h tie =
    or_from (nat_lt b a) ((a == b) && p) (le-ltb b a h)
    (false_from_ne_true ((a == b) && p) (λ t. let both = and_parts (a == b) p t in false≢true (sym (tie (eqb-true a b both.0)) ∙ both.1)))

-- what such a test says where it fails
not_before_parts : (a b : ℕ) (p : Bool) → (nat_lt b a || ((a == b) && p)) ≡ false → (a ≤ b) × (a ≡ b → p ≡ false)
not_before_parts a b p h =
    let parts = or_parts (nat_lt b a) ((a == b) && p) h in (
      ltb-false b a parts.0,
      λ e. false_from_ne_true p (λ t. false≢true (sym parts.1 ∙ and_from (a == b) p (eq-eqb a b e) t)),
    )

-- no entry of its unit goes before the first of a lane by the keys
unit_later : (s : Flat) (at : Lane) (f e : Queued) → Contains (lane_entries s at) f → Contains (lane_entries s at) e → in_one_unit f.facts e.facts ≡ true → precedes f e ≡ false → goes_by_keys s f e ≡ false
unit_later s at f e cf ce one h =
    let parts = not_before_parts f.pri e.pri (int_lt f.order e.order) h in
    let same = of_one_unit s at f e cf ce one in
    not_before (scored s f) (scored s e) (goes_on_a_tie s f e) (omega (arith, parts.0, same))
    (λ tie. cond-true (in_one_unit f.facts e.facts) (int_lt f.order e.order) (turn_before (turn_of s (clutch_of f.facts)) (turn_of s (clutch_of e.facts))) one
    ∙ parts.1 (omega (arith, tie, same)))

-- nor does one of another unit
other_later : (s : Flat) (f e : Queued) → scored s f ≤ clutch_priority s (clutch_of f.facts) → scored s e ≡ clutch_priority s (clutch_of e.facts) → in_one_unit f.facts e.facts ≡ false → clutch_precedes s (clutch_of f.facts) (clutch_of e.facts) ≡ false → goes_by_keys s f e ≡ false
other_later s f e within is two h =
    let parts = not_before_parts (clutch_priority s (clutch_of f.facts)) (clutch_priority s (clutch_of e.facts)) (turn_before (turn_of s (clutch_of f.facts)) (turn_of s (clutch_of e.facts))) h in
    not_before (scored s f) (scored s e) (goes_on_a_tie s f e) (omega (arith, parts.0, within, is))
    (λ tie. cond-false (in_one_unit f.facts e.facts) (int_lt f.order e.order) (turn_before (turn_of s (clutch_of f.facts)) (turn_of s (clutch_of e.facts))) two
    ∙ parts.1 (omega (arith, tie, parts.0, within, is)))

-- none of its lane goes before the first by the keys
first_by_keys : (groups : ℕ) (s : Flat) (at : Lane) → WellFormed groups s → (e : Queued) → unpreceded (precedes_in_lane s) (lane_entries s at) ≡ Some e → IsUnpreceded (goes_by_keys s) (lane_entries s at) e
first_by_keys groups s at w e h =
    let u = is_unpreceded (precedes_in_lane s) (lane_entries s at) e h in
    record {
      member = u.member;
      first = all_from_members (λ f. goes_by_keys s f e ≡ false) (lane_entries s at) (λ f c.
          let later : precedes_in_lane s f e ≡ false = All-contains (λ z. precedes_in_lane s z e ≡ false) (lane_entries s at) f u.first c in
          elim (cases_Bool (in_one_unit f.facts e.facts)) [
            | inl one ↦ unit_later s at f e c u.member one
                (sym (cond-true (in_one_unit f.facts e.facts) (precedes f e) (clutch_precedes s (clutch_of f.facts) (clutch_of e.facts)) one) ∙ later)
            | inr two ↦ other_later s f e (scored_within_clutch s f (lane_member s at f c).0 (or_parts (is_some f.facts.bound) (f.facts.group == e.facts.group) two).0)
                (scored_first groups s at w e (sym (lane_member s at f c).3 ∙ (or_parts (is_some f.facts.bound) (f.facts.group == e.facts.group) two).0) h) two
                (sym (cond-false (in_one_unit f.facts e.facts) (precedes f e) (clutch_precedes s (clutch_of f.facts) (clutch_of e.facts)) two) ∙ later)
          ]);
    }

none_of : (o : Option Queued) → is_some o ≡ false → o ≡ None
none_of None h = refl
none_of (Some e) h = absurd (false≢true (sym h))

found_alike : (groups : ℕ) (s : Flat) (at : Lane) → WellFormed groups s → (o : Option Queued) → unpreceded (precedes_in_lane s) (lane_entries s at) ≡ o → o ≡ unpreceded (goes_by_keys s) (lane_entries s at)
found_alike groups s at w (Some e) h = sym (chosen_is (goes_by_keys s) (lane_entries s at) (keys_order groups s w at) e (first_by_keys groups s at w e h))
found_alike groups s at w None h =
    let long = there_under_strict (precedes_in_lane s) (lane_entries s at) (strict_from_order (precedes_in_lane s) (lane_entries s at) (lane_order groups s w at)) in
    let also = there_under_strict (goes_by_keys s) (lane_entries s at) (strict_from_order (goes_by_keys s) (lane_entries s at) (keys_order groups s w at)) in
    sym (none_of (unpreceded (goes_by_keys s) (lane_entries s at)) (also ∙ (sym long ∙ ap is_some h)))

pub keys_find_first : (groups : ℕ) (s : Flat) (at : Lane) → WellFormed groups s → KeysFindFirst s at
keys_find_first groups s at w = record {
  orders = keys_order groups s w at;
  first = found_alike groups s at w (unpreceded (precedes_in_lane s) (lane_entries s at)) refl;
}
