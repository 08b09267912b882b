-- A lane that passes an earlier deadline may do so, by its state.
use Rattle.std.proofs.Common.{◌≡◌, nat_lt, Bool, true, false, cond, Contains, List, filter, Option, Some, None, option_map, refl, sym, ap, ◌∙◌, subst, inl, inr, arith}
use Rattle.std.proofs.lemmas.Bool.{cases_Bool}
use Rattle.std.proofs.lemmas.Option.{none-some, same_Some}
use Rattle.sched_base.specs.Bucket.{index}
use Rattle.bucket_tables.specs.declared.Lane.{Lane}
use Rattle.flat_policy.specs.declared.lanes.Kind.{Kind}
use Rattle.flat_policy.specs.declared.lanes.Kind.TheVariants.{Natural, Pass, Starve}
use Rattle.flat_policy.specs.declared.setup.Times.{Times}
use Rattle.flat_policy.specs.Policy.Queue.{Flat, LaneState, has_entries, same_lane}
use Rattle.flat_policy.specs.Laws.Windows.{kind_at, lane_state}
use Rattle.flat_policy.specs.Policy.Windows.{above_ui, choice_against, chosen, chosen_behind, chosen_under, earliest_of, filled_lanes, higher_of, may_pass, passing_of, some_higher, stands_higher}
use Rattle.flat_policy.proofs.Buckets.{same_lane_is}
use Rattle.flat_policy.proofs.Choice.{is_unpreceded}
use Rattle.flat_policy.proofs.Members.{member_of_filter}
use Rattle.windows.proofs.Events.{HasTenLanes}
use Rattle.windows.proofs.LaneStates.{one_state}

-- a window that let its lane pass
record Passing (ts : List Times) (x : Flat) (at : Lane) : Type 0 where
  pub window : LaneState
  pub stood : Contains x.lanes window
  pub there : same_lane window.lane at ≡ true
  pub may : may_pass ts window ≡ true

no_kind_here : (b : Bool) (k : Kind) → cond b None None ≡ Some k → ⊥
no_kind_here true k h = none-some k h
no_kind_here false k h = none-some k h

behind_never : (at : Lane) (b : Bool) (e : LaneState) → kind_at at (Some (chosen_behind b e)) ≡ Some Pass → ⊥
behind_never at true e h =
    elim (cases_Bool (same_lane e.lane at)) [
      | inl t ↦ (let f = sym (ap (λ b. cond b (Some Starve) None) t) ∙ h in starve_is_no_pass (same_Some Starve Pass f))
      | inr t ↦ none-some Pass (sym (ap (λ b. cond b (Some Starve) None) t) ∙ h)
    ]
  where
    starve_is_no_pass : Starve ≡ Pass → ⊥
    starve_is_no_pass h = grind arith
behind_never at false e h =
    elim (cases_Bool (same_lane e.lane at)) [
      | inl t ↦ (let f = sym (ap (λ b. cond b (Some Natural) None) t) ∙ h in natural_is_no_pass (same_Some Natural Pass f))
      | inr t ↦ none-some Pass (sym (ap (λ b. cond b (Some Natural) None) t) ∙ h)
    ]
  where
    natural_is_no_pass : Natural ≡ Pass → ⊥
    natural_is_no_pass h = grind arith

against : (ts : List Times) (x : Flat) (at : Lane) (e : LaneState) (o : Option LaneState) → passing_of ts (filled_lanes x) e ≡ o → kind_at at (Some (choice_against o (filled_lanes x) e)) ≡ Some Pass → Passing ts x at
against ts x at e None p h = absurd (behind_never at (some_higher (higher_of (filled_lanes x) e)) e h)
against ts x at e (Some l) p h =
    let among = (is_unpreceded (λ (y z : LaneState). stands_higher y.lane z.lane) (filter (may_pass ts) (higher_of (filled_lanes x) e)) l p).member in
    let may = member_of_filter (may_pass ts) (higher_of (filled_lanes x) e) l among in
    let higher = member_of_filter (λ (m : LaneState). nat_lt (index m.lane.bucket) (index e.lane.bucket)) (filled_lanes x) l may.0 in
    let filled = member_of_filter (λ (m : LaneState). has_entries x m.lane) x.lanes l higher.0 in
    record {
      window = l;
      stood = filled.0;
      there = elim (cases_Bool (same_lane l.lane at)) [
        | inl t ↦ t
        | inr t ↦ absurd (none-some Pass (sym (ap (λ b. cond b (Some Pass) None) t) ∙ h))
      ];
      may = may.1;
    }

earliest_passes : (ts : List Times) (x : Flat) (at : Lane) (o : Option LaneState) → kind_at at (option_map (λ (e : LaneState). choice_against (passing_of ts (filled_lanes x) e) (filled_lanes x) e) o) ≡ Some Pass → Passing ts x at
earliest_passes ts x at None h = absurd (none-some Pass h)
earliest_passes ts x at (Some e) h = against ts x at e (passing_of ts (filled_lanes x) e) refl h

under_passes : (ts : List Times) (x : Flat) (at : Lane) (o : Option Lane) → kind_at at (chosen_under o ts x) ≡ Some Pass → Passing ts x at
under_passes ts x at (Some l) h = absurd (no_kind_here (same_lane l at) Pass h)
under_passes ts x at None h = earliest_passes ts x at (earliest_of (filled_lanes x)) h

pub passes : (ts : List Times) (x : Flat) (at : Lane) (l : LaneState) → HasTenLanes x → lane_state x at ≡ Some l → kind_at at (chosen ts x) ≡ Some Pass → may_pass ts l ≡ true
passes ts x at l ten is h =
    let p = under_passes ts x at (above_ui x) h in
    subst (λ (m : LaneState). may_pass ts m ≡ true) (sym (one_state x at l p.window ten is p.stood (same_lane_is p.window.lane at p.there))) p.may
