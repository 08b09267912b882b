-- In any queue, well-formed or not, a lane with entries has one that no other goes before.
use Rattle.std.proofs.Common.{◌≡◌, Bool, true, false, Contains, Some, ◌∙◌, sym, inl, inr}
use Rattle.std.proofs.lemmas.Bool.{cases_Bool}
use Rattle.bucket_tables.specs.declared.Lane.{Lane}
use Rattle.flat_policy.specs.Policy.Moves.{goes_before, pick_in}
use Rattle.flat_policy.specs.Policy.Precedence.{precedes, precedes_in_lane}
use Rattle.flat_policy.specs.Policy.Queue.{Flat, Queued, has_entries, in_lane, lane_entries}
use Rattle.flat_policy.specs.Policy.Unpreceded.{unpreceded}
use Rattle.flat_policy.proofs.Choice.{StrictOn, chosen_from_unpreceded, is_unpreceded, there_under_strict}
use Rattle.flat_policy.proofs.Chosen.{has_from_member}
use Rattle.flat_policy.proofs.InLane.{UnboundOf, bound_alike, goes_alike, lane_member, unbound_strict}
use Rattle.flat_policy.proofs.Members.{filter_has, member_from_any}
use Rattle.flat_policy.proofs.PickIsOne.{some_of}
use Rattle.flat_policy.proofs.Picks.{first_of_lane}
use Rattle.flat_policy.proofs.Precedes.{precedes_irreflexive, precedes_transitive}

-- a test that says the same of members is as strict
strict_alike : {X : Type 0} (M : X → Type 0) (p q : X → X → Bool) → ((x y : X) → M x → M y → q x y ≡ p x y) → StrictOn M p → StrictOn M q
strict_alike M p q same o = record {
  irreflexive = λ x m. same x x m m ∙ o.irreflexive x m;
  transitive = λ x y z mx my mz h k. same x z mx mz ∙ o.transitive x y z mx my mz (sym (same x y mx my) ∙ h) (sym (same y z my mz) ∙ k);
}

unbound_lane : (s : Flat) (at : Lane) → at.bound ≡ false → StrictOn (Contains (lane_entries s at)) (precedes_in_lane s)
unbound_lane s at e =
    let u : (x : Queued) → Contains (lane_entries s at) x → UnboundOf at.bucket x = λ x c. ((lane_member s at x c).3 ∙ e, (lane_member s at x c).2) in
    record {
      irreflexive = λ x c. (unbound_strict s at.bucket).irreflexive x (u x c);
      transitive = λ x y z cx cy cz. (unbound_strict s at.bucket).transitive x y z (u x cx) (u y cy) (u z cz);
    }

bound_lane : (s : Flat) (at : Lane) → at.bound ≡ true → StrictOn (Contains (lane_entries s at)) (precedes_in_lane s)
bound_lane s at e =
    strict_alike (Contains (lane_entries s at)) precedes (precedes_in_lane s) (λ x y cx cy. bound_alike s x y ((lane_member s at x cx).3 ∙ e))
    (record { irreflexive = λ x c. precedes_irreflexive x; transitive = λ x y z cx cy cz. precedes_transitive x y z })

goes_strict : (s : Flat) (at : Lane) → StrictOn (Contains (lane_entries s at)) (goes_before s at)
goes_strict s at =
    strict_alike (Contains (lane_entries s at)) (precedes_in_lane s) (goes_before s at)
    (λ x y cx cy. goes_alike s at x y (lane_member s at x cx).1 (lane_member s at y cy).1)
    (elim (cases_Bool at.bound) [
      | inl e ↦ bound_lane s at e
      | inr e ↦ unbound_lane s at e
    ])

pub pick_in_lane : (s : Flat) (at : Lane) → has_entries s at ≡ true → (e : Queued) × (pick_in s at ≡ Some e)
pick_in_lane s at h =
    let m = member_from_any (in_lane at) s.entries h in
    let has = has_from_member (lane_entries s at) m.0 (filter_has (in_lane at) s.entries m.0 m.1 m.2) in
    let best = some_of (unpreceded (goes_before s at) (lane_entries s at)) (there_under_strict (goes_before s at) (lane_entries s at) (goes_strict s at) ∙ has) in
    chosen_from_unpreceded (goes_before s at) s.entries best.0
    (first_of_lane s at best.0 (is_unpreceded (goes_before s at) (lane_entries s at) best.0 best.1))
