-- The pick in a lane, found by unit and then by entry.
use Rattle.std.proofs.Common.{◌≡◌, ℕ, Bool, true, false, Contains, List, filter, Some, is_some, sym, ap, ap₂, ◌∙◌, inl, inr}
use Rattle.std.proofs.lemmas.Bool.{cases_Bool, cond-false, cond-true}
use Rattle.std.proofs.lemmas.List.Elements.{All-contains}
use Rattle.bucket_tables.specs.declared.Lane.{Lane}
use Rattle.flat_policy.specs.Laws.Choice.{OrdersMembers}
use Rattle.flat_policy.specs.Laws.Units.{IsFirstClutch}
use Rattle.flat_policy.specs.Policy.Moves.{goes_before, pick_in}
use Rattle.flat_policy.specs.Policy.Precedence.{clutch_precedes, in_one_unit, precedes, precedes_in_lane}
use Rattle.flat_policy.specs.Policy.Queue.{Clutch, Flat, Queued, clutch_entries, clutch_of, has_entries, in_clutch, in_lane, lane, lane_entries}
use Rattle.flat_policy.specs.Policy.Unpreceded.{IsUnpreceded, unpreceded}
use Rattle.flat_policy.specs.Policy.WellFormed.{WellFormed}
use Rattle.flat_policy.proofs.ByMembers.{choice_alike, order_within}
use Rattle.flat_policy.proofs.Buckets.{in_clutch_parts, in_own_clutch, in_own_lane}
use Rattle.flat_policy.proofs.Chosen.{has_from_member}
use Rattle.flat_policy.proofs.Choice.{chosen_is, is_unpreceded, strict_from_order, there_under_strict}
use Rattle.flat_policy.proofs.InLane.{UnboundOf, bound_alike, goes_alike, lane_member, lane_order, unit_same}
use Rattle.flat_policy.proofs.Members.{all_from_members, any_from_member, filter_has, member_from_any, member_of_filter}
use Rattle.flat_policy.proofs.PickIsOne.{pick_in_there, some_of}
use Rattle.flat_policy.proofs.Picks.{first_in_lane, stands_in_lane}
use Rattle.flat_policy.proofs.Precedes.{precedes_orders}

pub pick_in_lane : (groups : ℕ) (s : Flat) (at : Lane) → WellFormed groups s → has_entries s at ≡ true → pick_in s at ≡ unpreceded (precedes_in_lane s) (lane_entries s at)
pick_in_lane groups s at w h =
    let found = pick_in_there groups s w at h in
    let e : Queued = found.0 in
    let u = is_unpreceded (goes_before s at) s.entries e found.1 in
    let inside = stands_in_lane s at e h u in
    let v = first_in_lane s at e inside u in
    found.1 ∙ sym (chosen_is (precedes_in_lane s) (lane_entries s at) (lane_order groups s w at) e (record {
      member = v.member;
      first = all_from_members (λ y. precedes_in_lane s y e ≡ false) (lane_entries s at) (λ y c.
          sym (goes_alike s at y e (lane_member s at y c).1 inside) ∙ All-contains (λ z. goes_before s at z e ≡ false) (lane_entries s at) y v.first c);
    }))

-- entries of a filter stand in the order of all entries
filter_order : (p : Queued → Bool) (es : List Queued) → OrdersMembers precedes es → OrdersMembers precedes (filter p es)
filter_order p es o = order_within precedes es (filter p es) (λ x c. (member_of_filter p es x c).0) o

-- the first of a list that has members
pub first_there : (es : List Queued) → OrdersMembers precedes es → (x : Queued) → Contains es x → (e : Queued) × (unpreceded precedes es ≡ Some e)
first_there es o x c =
    some_of (unpreceded precedes es) (there_under_strict precedes es (strict_from_order precedes es o) ∙ has_from_member es x c)

pub in_lane_from : (at : Lane) (e : Queued) → e.facts.bucket ≡ at.bucket → is_some e.facts.bound ≡ at.bound → in_lane at e ≡ true
in_lane_from at e b f = ap (λ (l : Lane). in_lane l e) (sym (ap₂ lane b f)) ∙ in_own_lane e

-- the first of the first clutch bucket goes before all of the lane
first_of_clutch : (s : Flat) (at : Lane) (k : Clutch) → at.bound ≡ false → IsFirstClutch s at k → (e : Queued) → IsUnpreceded precedes (clutch_entries s k) e → IsUnpreceded (precedes_in_lane s) (lane_entries s at) e
first_of_clutch s at k free f e u =
    let m = member_of_filter (in_clutch k) s.entries e u.member in
    let parts = in_clutch_parts k e m.1 in
    let bucket : e.facts.bucket ≡ at.bucket = ap (λ (l : Clutch). l.bucket) parts.1 ∙ f.bucket in
    let ours : UnboundOf at.bucket e = (parts.0, bucket) in
    record {
      member = filter_has (in_lane at) s.entries e m.0 (in_lane_from at e bucket (parts.0 ∙ sym free));
      first = all_from_members (λ y. precedes_in_lane s y e ≡ false) (lane_entries s at) (λ y c.
          let l = lane_member s at y c in
          let theirs : UnboundOf at.bucket y = (l.3 ∙ free, l.2) in
          elim (cases_Bool (in_one_unit y.facts e.facts)) [
            | inl one ↦ cond-true (in_one_unit y.facts e.facts) (precedes y e) (clutch_precedes s (clutch_of y.facts) (clutch_of e.facts)) one
                ∙ All-contains (λ z. precedes z e ≡ false) (clutch_entries s k) y u.first
                (filter_has (in_clutch k) s.entries y l.0
                (ap (λ (j : Clutch). in_clutch j y) (sym (unit_same at.bucket y e theirs ours one ∙ parts.1)) ∙ in_own_clutch y theirs.0))
            | inr two ↦ cond-false (in_one_unit y.facts e.facts) (precedes y e) (clutch_precedes s (clutch_of y.facts) (clutch_of e.facts)) two
                ∙ (ap (λ (j : Clutch). clutch_precedes s (clutch_of y.facts) j) parts.1
                ∙ f.first (clutch_of y.facts) l.2 (any_from_member (in_clutch (clutch_of y.facts)) s.entries y l.0 (in_own_clutch y theirs.0)))
          ]);
    }

pub first_in_clutch : (groups : ℕ) (s : Flat) (at : Lane) (k : Clutch) → WellFormed groups s → at.bound ≡ false → IsFirstClutch s at k → unpreceded (precedes_in_lane s) (lane_entries s at) ≡ unpreceded precedes (clutch_entries s k)
first_in_clutch groups s at k w free f =
    let o = filter_order (in_clutch k) s.entries (precedes_orders s.entries w.arrivals_rise w.order_numbers) in
    let m = member_from_any (in_clutch k) s.entries f.filled in
    let found = first_there (clutch_entries s k) o m.0 (filter_has (in_clutch k) s.entries m.0 m.1 m.2) in
    chosen_is (precedes_in_lane s) (lane_entries s at) (lane_order groups s w at) found.0
    (first_of_clutch s at k free f found.0 (is_unpreceded precedes (clutch_entries s k) found.0 found.1)) ∙ sym found.1

pub first_of_bound : (groups : ℕ) (s : Flat) (at : Lane) → WellFormed groups s → at.bound ≡ true → unpreceded (precedes_in_lane s) (lane_entries s at) ≡ unpreceded precedes (lane_entries s at)
first_of_bound groups s at w bound =
    choice_alike (precedes_in_lane s) precedes (lane_entries s at) (λ x y c d. bound_alike s x y ((lane_member s at x c).3 ∙ bound))
