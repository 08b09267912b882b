-- What is offered by the mask, found by lane.
use Rattle.std.proofs.Common.{◌≡◌, ℕ, nat_lt, true, false, ◌&&◌, ◌||◌, ◌==◌, Contains, filter, None, is_some, refl, sym, ap, ◌∙◌, inl, inr, eqb-true}
use Rattle.std.specs.List.{list_any}
use Rattle.std.proofs.lemmas.Bool.{and_from, and_parts, and_right, cases_Bool, false_from_ne_true, false≢true, ltb-true, not-true, not_from_false, or_from}
use Rattle.std.proofs.lemmas.List.Elements.{All-contains}
use Rattle.sched_base.specs.Bucket.{index}
use Rattle.sched_base.specs.declared.Bucket.{Bucket}
use Rattle.flat_policy.specs.Laws.Offers.{IsLowestMasked, MaskedByLane}
use Rattle.flat_policy.specs.Policy.Offer.{is_masked, is_unbound, masked_before, offered_masked}
use Rattle.flat_policy.specs.Policy.Precedence.{precedes_in_lane}
use Rattle.flat_policy.specs.Policy.Queue.{Flat, Queued, has_entries, in_lane, lane, lane_entries}
use Rattle.flat_policy.specs.Policy.Setup.{mask_has}
use Rattle.flat_policy.specs.Policy.Unpreceded.{IsUnpreceded, unpreceded}
use Rattle.flat_policy.specs.Policy.WellFormed.{WellFormed}
use Rattle.flat_policy.proofs.Buckets.{bucket_from_index}
use Rattle.flat_policy.proofs.ByUnit.{in_lane_from}
use Rattle.flat_policy.proofs.Choice.{chosen_is, is_unpreceded, strict_from_order, there_under_strict}
use Rattle.flat_policy.proofs.Chosen.{has_from_member}
use Rattle.flat_policy.proofs.Greatest.{filter_none}
use Rattle.flat_policy.proofs.InLane.{lane_member, lane_order}
use Rattle.flat_policy.proofs.Members.{all_from_members, any_from_member, filter_has, member_from_any, member_of_filter, none_from_each}
use Rattle.flat_policy.proofs.Offers.{masked_order}
use Rattle.flat_policy.proofs.PickIsOne.{some_of}

-- an entry in the mask is unbound, its bucket is in the mask, and its unbound lane has entries
record IsMaskedEntry (mask : ℕ) (s : Flat) (e : Queued) : Type 0 where
  member : Contains s.entries e
  free : is_some e.facts.bound ≡ false
  masked : mask_has mask e.facts.bucket ≡ true
  filled : has_entries s (lane e.facts.bucket false) ≡ true

masked_entry : (mask : ℕ) (s : Flat) (e : Queued) → Contains (filter (λ (x : Queued). is_masked mask x.facts) s.entries) e → IsMaskedEntry mask s e
masked_entry mask s e c =
    let m = member_of_filter (λ (x : Queued). is_masked mask x.facts) s.entries e c in
    let parts = and_parts (is_unbound e.facts) (mask_has mask e.facts.bucket) m.1 in
    let free : is_some e.facts.bound ≡ false = not-true (is_some e.facts.bound) parts.0 in
    record {
      member = m.0;
      free = free;
      masked = parts.1;
      filled = any_from_member (in_lane (lane e.facts.bucket false)) s.entries e m.0 (in_lane_from (lane e.facts.bucket false) e refl free);
    }

-- no entry in the mask has a lower bucket than the lowest one
not_lower : (mask : ℕ) (s : Flat) (b : Bucket) → IsLowestMasked mask s b → (y : Queued) → IsMaskedEntry mask s y → nat_lt (index y.facts.bucket) (index b) ≡ false
not_lower mask s b low y is =
    elim (cases_Bool (nat_lt (index y.facts.bucket) (index b))) [
      | inl e ↦ absurd (false≢true (sym (low.lowest y.facts.bucket (ltb-true (index y.facts.bucket) (index b) e) is.masked) ∙ is.filled))
      | inr e ↦ e
    ]

-- and one of the lowest bucket stands in its unbound lane
masked_late : (mask : ℕ) (s : Flat) (b : Bucket) (e y : Queued) → IsUnpreceded (precedes_in_lane s) (lane_entries s (lane b false)) e → IsMaskedEntry mask s y
    → ((index y.facts.bucket == index b) && precedes_in_lane s y e) ≡ false
masked_late mask s b e y u is =
    elim (cases_Bool (index y.facts.bucket == index b)) [
      | inl same ↦ and_right (index y.facts.bucket == index b) (precedes_in_lane s y e)
          (All-contains (λ z. precedes_in_lane s z e ≡ false) (lane_entries s (lane b false)) y u.first
          (filter_has (in_lane (lane b false)) s.entries y is.member
          (in_lane_from (lane b false) y (bucket_from_index y.facts.bucket b (eqb-true (index y.facts.bucket) (index b) same)) is.free)))
      | inr other ↦ ap (λ c. c && precedes_in_lane s y e) other
    ]

-- the first of the lowest unbound lane in the mask goes before all entries in the mask
first_of_mask : (mask : ℕ) (s : Flat) (b : Bucket) → IsLowestMasked mask s b → (e : Queued) → IsUnpreceded (precedes_in_lane s) (lane_entries s (lane b false)) e
    → IsUnpreceded (masked_before s) (filter (λ (x : Queued). is_masked mask x.facts) s.entries) e
first_of_mask mask s b low e u =
    let m = lane_member s (lane b false) e u.member in
    record {
      member = filter_has (λ (x : Queued). is_masked mask x.facts) s.entries e m.0
          (and_from (is_unbound e.facts) (mask_has mask e.facts.bucket) (not_from_false (is_some e.facts.bound) m.3) (ap (mask_has mask) m.2 ∙ low.masked));
      first = all_from_members (λ y. masked_before s y e ≡ false) (filter (λ (x : Queued). is_masked mask x.facts) s.entries) (λ y c.
          let is = masked_entry mask s y c in
          ap (λ (d : Bucket). nat_lt (index y.facts.bucket) (index d) || ((index y.facts.bucket == index d) && precedes_in_lane s y e)) m.2
          ∙ or_from (nat_lt (index y.facts.bucket) (index b)) ((index y.facts.bucket == index b) && precedes_in_lane s y e)
          (not_lower mask s b low y is) (masked_late mask s b e y u is));
    }

masked_first : (groups mask : ℕ) (s : Flat) → WellFormed groups s → (b : Bucket) → IsLowestMasked mask s b → offered_masked mask s ≡ unpreceded (precedes_in_lane s) (lane_entries s (lane b false))
masked_first groups mask s w b low =
    let at = lane b false in
    let m = member_from_any (in_lane at) s.entries low.filled in
    let o = strict_from_order (precedes_in_lane s) (lane_entries s at) (lane_order groups s w at) in
    let there = there_under_strict (precedes_in_lane s) (lane_entries s at) o
    ∙ has_from_member (lane_entries s at) m.0 (filter_has (in_lane at) s.entries m.0 m.1 m.2) in
    let found = some_of (unpreceded (precedes_in_lane s) (lane_entries s at)) there in
    chosen_is (masked_before s) (filter (λ (x : Queued). is_masked mask x.facts) s.entries) (masked_order groups mask s w) found.0
    (first_of_mask mask s b low found.0 (is_unpreceded (precedes_in_lane s) (lane_entries s at) found.0 found.1)) ∙ sym found.1

-- where no bucket of the mask has unbound entries, no entry is in the mask
masked_none : (mask : ℕ) (s : Flat) → ((b : Bucket) → mask_has mask b ≡ true → has_entries s (lane b false) ≡ false) → offered_masked mask s ≡ None
masked_none mask s empty =
    let none : list_any (λ (x : Queued). is_masked mask x.facts) s.entries ≡ false = none_from_each (λ (x : Queued). is_masked mask x.facts) s.entries (λ x c.
    false_from_ne_true (is_masked mask x.facts) (λ t.
    let is = masked_entry mask s x (filter_has (λ (y : Queued). is_masked mask y.facts) s.entries x c t) in
    false≢true (sym (empty x.facts.bucket is.masked) ∙ is.filled))) in
    ap (unpreceded (masked_before s)) (filter_none (λ (x : Queued). is_masked mask x.facts) s.entries none)

pub masked_by_lane : (groups mask : ℕ) (s : Flat) → WellFormed groups s → MaskedByLane mask s
masked_by_lane groups mask s w = record { first = masked_first groups mask s w; none = masked_none mask s }
