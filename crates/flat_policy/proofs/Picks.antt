-- The pick: one where there are entries, none where there are none.
use Rattle.std.proofs.Common.{◌≡◌, true, false, not, ◌&&◌, ◌||◌, sym, ap₂, ◌∙◌, inl, inr}
use Rattle.std.proofs.lemmas.Bool.{cases_Bool, false≢true, and_left}
use Rattle.std.proofs.lemmas.List.Elements.{All-contains}
use Rattle.bucket_tables.specs.declared.Lane.{Lane}
use Rattle.flat_policy.specs.Policy.Moves.{goes_before}
use Rattle.flat_policy.specs.Policy.Precedence.{precedes_in_lane}
use Rattle.flat_policy.specs.Policy.Queue.{Flat, Queued, has_entries, in_lane, lane_entries}
use Rattle.flat_policy.specs.Policy.Unpreceded.{IsUnpreceded}
use Rattle.flat_policy.proofs.Members.{all_from_members, filter_has, member_from_any, member_of_filter}

-- an entry outside the lane goes before none, and one in the lane goes before each outside
outside_before : (s : Flat) (at : Lane) (x y : Queued) → in_lane at x ≡ false → goes_before s at x y ≡ false
outside_before s at x y e = and_left (in_lane at x) (not (in_lane at y) || precedes_in_lane s x y) e

inside_before : (s : Flat) (at : Lane) (x y : Queued) → in_lane at x ≡ true → in_lane at y ≡ false → goes_before s at x y ≡ true
inside_before s at x y e f = ap₂ (λ a b. a && (not b || precedes_in_lane s x y)) e f

-- in the cluster the first of a lane's entries goes first, and one that goes first stands in the lane, where that has entries
pub first_of_lane : (s : Flat) (at : Lane) (e : Queued) → IsUnpreceded (goes_before s at) (lane_entries s at) e → IsUnpreceded (goes_before s at) s.entries e
first_of_lane s at e h = record {
  member = (member_of_filter (in_lane at) s.entries e h.member).0;
  first = all_from_members (λ y. goes_before s at y e ≡ false) s.entries (λ y c. elim (cases_Bool (in_lane at y)) [
    | inl t ↦ All-contains (λ z. goes_before s at z e ≡ false) (lane_entries s at) y h.first (filter_has (in_lane at) s.entries y c t)
    | inr f ↦ outside_before s at y e f
  ]);
}

pub first_in_lane : (s : Flat) (at : Lane) (e : Queued) → in_lane at e ≡ true → IsUnpreceded (goes_before s at) s.entries e → IsUnpreceded (goes_before s at) (lane_entries s at) e
first_in_lane s at e t h = record {
  member = filter_has (in_lane at) s.entries e h.member t;
  first = all_from_members (λ y. goes_before s at y e ≡ false) (lane_entries s at) (λ y c.
      All-contains (λ z. goes_before s at z e ≡ false) s.entries y h.first (member_of_filter (in_lane at) s.entries y c).0);
}

pub stands_in_lane : (s : Flat) (at : Lane) (e : Queued) → has_entries s at ≡ true → IsUnpreceded (goes_before s at) s.entries e → in_lane at e ≡ true
stands_in_lane s at e h u =
    elim (cases_Bool (in_lane at e)) [
      | inl t ↦ t
      | inr f ↦ (let m = member_from_any (in_lane at) s.entries h in
          absurd (false≢true (sym (All-contains (λ z. goes_before s at z e ≡ false) s.entries m.0 u.first m.1) ∙ inside_before s at m.0 e m.2 f)))
    ]
