-- The warp law: what the warp of a lane is in every run, and so how long the lane may pass.
use Rattle.std.proofs.Common.{◌≡◌, ◌⊎◌, ℕ, ◌+◌, ◌<◌, ◌==◌, nat_le, true, not, List, Option, Some, None, refl, sym, ap, ◌∙◌, subst, inl, inr, arith}
use Rattle.std.proofs.lemmas.Bool.{and_parts, cases_Bool, cond_both, cond-true, cond-false, false≢true, leb-false}
use Rattle.bucket_tables.specs.declared.Lane.{Lane}
use Rattle.flat_policy.specs.declared.lanes.Kind.{Kind}
use Rattle.flat_policy.specs.declared.lanes.Kind.TheVariants.{Natural, Pass, Starve}
use Rattle.flat_policy.specs.declared.lanes.Warp.{Warp}
use Rattle.flat_policy.specs.declared.lanes.Warp.TheVariants.{Spent, Until, Unused}
use Rattle.flat_policy.specs.declared.setup.Times.{Times}
use Rattle.flat_policy.specs.Policy.Queue.{Flat, LaneState, same_lane}
use Rattle.flat_policy.specs.Policy.Setup.{SetupParts, cluster_times, times_for}
use Rattle.flat_policy.specs.Laws.Windows.{EventKeepsWarp, PassIsWithin, WarpKept, WarpLaw, first_pass_after, first_pass_by, kind_at, lane_fills, lane_state, no_event, select_at}
use Rattle.flat_policy.specs.Policy.Windows.{begun_warp, chosen, expired, expired_warp, expired_window, may_pass, renewed_deadline, unspent, window_over}
use Rattle.windows.proofs.Events.{HasTenLanes, after_kind, expired_ten}
use Rattle.windows.proofs.LaneRuns.{EventsKeep, Rule, kept_in_runs}
use Rattle.windows.proofs.LaneStates.{expired_state, state_lane}
use Rattle.windows.proofs.Passes.{passes}

-- the warp of a lane by the first Pass since the last Natural choice: unused before it, and from it on it runs or is spent
abbrev WarpFits : ℕ → Option ℕ → Warp → Type 0
WarpFits span None w = w ≡ Unused
WarpFits span (Some m) w = (w ≡ Until (m + span)) ⊎ (w ≡ Spent)

-- the same after warps expired: one that still runs has not come to its end
abbrev WarpStands : ℕ → ℕ → Option ℕ → Warp → Type 0
WarpStands span now None w = w ≡ Unused
WarpStands span now (Some m) w = ((w ≡ Until (m + span)) × (now < m + span)) ⊎ (w ≡ Spent)

until_stands : (span now m end : ℕ) → end ≡ m + span → WarpStands span now (Some m) (expired_warp now (Until end))
until_stands span now m end is =
    elim (cases_Bool (nat_le end now)) [
      | inl e ↦ inr (cond-true (nat_le end now) Spent (Until end) e)
      | inr e ↦ inl (cond-false (nat_le end now) Spent (Until end) e ∙ ap Until is, omega (arith, is, leb-false end now e))
    ]

warp_stands : (span now : ℕ) (first : Option ℕ) (w : Warp) → WarpFits span first w → WarpStands span now first (expired_warp now w)
warp_stands span now None w h = ap (expired_warp now) h
warp_stands span now (Some m) w h =
    elim h [
      | inl e ↦ subst (λ v. WarpStands span now (Some m) (expired_warp now v)) (sym e) (until_stands span now m (m + span) refl)
      | inr e ↦ inr (ap (expired_warp now) e)
    ]

warp_fits : (span now : ℕ) (first : Option ℕ) (w : Warp) → WarpStands span now first w → WarpFits span first w
warp_fits span now None w h = h
warp_fits span now (Some m) w h = elim h [ inl e ↦ inl e.0 | inr e ↦ inr e ]

-- a warp that the first Pass begins, and one that a further Pass finds
begun_fits : (span now : ℕ) (first : Option ℕ) (w : Warp) → WarpStands span now first w → WarpFits span (first_pass_after first now (Some Pass)) (begun_warp span now w)
begun_fits span now None w h = inl (ap (begun_warp span now) h)
begun_fits span now (Some m) w h = elim h [ inl e ↦ inl (ap (begun_warp span now) e.0) | inr e ↦ inr (ap (begun_warp span now) e) ]

-- the span of a lane's warp
abbrev span_at : List Times → Lane → ℕ
span_at ts at = (times_for ts at.bucket).warp

chosen_fits : (ts : List Times) (at : Lane) (now : ℕ) (first : Option ℕ) (k : Option Kind) (l : LaneState) → l.lane ≡ at → WarpStands (span_at ts at) now first l.warp → WarpFits (span_at ts at) (first_pass_after first now k) (after_kind ts now k l).warp
chosen_fits ts at now first None l is h = warp_fits (span_at ts at) now first l.warp h
chosen_fits ts at now first (Some Natural) l is h = refl
chosen_fits ts at now first (Some Starve) l is h = warp_fits (span_at ts at) now first l.warp h
chosen_fits ts at now first (Some Pass) l is h =
    subst (λ x. WarpFits (span_at ts at) (first_pass_after first now (Some Pass)) (begun_warp (span_at ts x) now l.warp)) (sym is)
    (begun_fits (span_at ts at) now first l.warp h)

-- a lane that may pass has a warp, and it isn't spent
spent_never : (w : Warp) → w ≡ Spent → unspent w ≡ true → ⊥
spent_never w e h = false≢true (sym (ap unspent e) ∙ h)

has_span : (n : ℕ) → not (n == 0) ≡ true → 0 < n
has_span n h = grind arith

pass_within : (ts : List Times) (at : Lane) (now : ℕ) (first : Option ℕ) (l : LaneState) → l.lane ≡ at → may_pass ts l ≡ true → WarpStands (span_at ts at) now first l.warp → PassIsWithin (span_at ts at) first now (Some Pass)
pass_within ts at now None l is may h =
    let span : 0 < span_at ts at = subst (λ x. 0 < span_at ts x) is (has_span (span_at ts l.lane) (and_parts (not (span_at ts l.lane == 0)) (unspent l.warp) may).0) in
    omega (arith, span)
pass_within ts at now (Some m) l is may h =
    elim h [
      | inl e ↦ e.1
      | inr e ↦ absurd (spent_never l.warp e (and_parts (not (span_at ts l.lane == 0)) (unspent l.warp) may).1)
    ]

expired_warp_is : (ts : List Times) (now : ℕ) (l : LaneState) → (expired_window ts now l).warp ≡ expired_warp now l.warp
expired_warp_is ts now l =
    let warped : LaneState = record l { warp = expired_warp now l.warp } in
    cond_both (window_over (times_for ts l.lane.bucket).quantum now l.starved) (renewed_deadline ts now warped) warped
    (λ (m : LaneState). m.warp ≡ expired_warp now l.warp) (λ e. refl) (λ e. refl)

kind_within : (ts : List Times) (at : Lane) (now : ℕ) (first : Option ℕ) (x : Flat) (l : LaneState) → HasTenLanes x → lane_state x at ≡ Some l
    → WarpStands (span_at ts at) now first l.warp → (k : Option Kind) → kind_at at (chosen ts x) ≡ k → PassIsWithin (span_at ts at) first now k
kind_within ts at now first x l ten is h None chosen' = tt
kind_within ts at now first x l ten is h (Some Natural) chosen' = tt
kind_within ts at now first x l ten is h (Some Starve) chosen' = tt
kind_within ts at now first x l ten is h (Some Pass) chosen' = pass_within ts at now first l (state_lane x at l is) (passes ts x at l ten is chosen') h

-- the rule of a lane's warp
abbrev warp_rule : List Times → Lane → Rule
warp_rule ts at = record {
  Fits = λ first l. WarpFits (span_at ts at) first l.warp;
  Keeps = λ s next first e. EventKeepsWarp ts s at first e;
  after = λ s first e. first_pass_by ts s at first e;
}

keeps_warp : (setup : SetupParts) (c : ℕ) (at : Lane) → EventsKeep setup c at (warp_rule (cluster_times setup c) at)
keeps_warp setup c at s next first (select_at now) l ten is state fits =
    let ts = cluster_times setup c in
    let x : Flat = expired ts s now in
    let m : LaneState = expired_window ts now l in
    let here = expired_state ts s now at l is in
    let stands : WarpStands (span_at ts at) now first m.warp =
    subst (WarpStands (span_at ts at) now first) (sym (expired_warp_is ts now l)) (warp_stands (span_at ts at) now first l.warp fits) in
    let k : Option Kind = kind_at at (chosen ts x) in (
      kind_within ts at now first x m (expired_ten ts s now ten) here stands k refl,
      chosen_fits ts at now first k m (state_lane x at m here) stands,
    )
keeps_warp setup c at s next first (lane_fills now filled) l ten is state fits =
    let ts = cluster_times setup c in (
      tt,
      cond_both (same_lane filled at) (renewed_deadline ts now l) l (λ (m : LaneState). WarpFits (span_at ts at) first m.warp) (λ e. fits) (λ e. fits),
    )
keeps_warp setup c at s next first no_event l ten is state fits = (tt, fits)

pub warp_law_is : WarpLaw
warp_law_is setup c at ls end among run =
    kept_in_runs setup c at (warp_rule (cluster_times setup c) at) (WarpKept setup c at)
    (record { none = λ first s. tt; more = λ first s l ls kept rest. (kept, rest) })
    (keeps_warp setup c at) (λ x. refl) ls end among run
