-- The starvation law: what the starvation window of a lane is in every run, and so how long it lasts.
use Rattle.std.proofs.Common.{◌≡◌, ℕ, ◌+◌, ◌<◌, nat_le, Bool, true, false, cond, List, Option, Some, None, refl, sym, ap, ◌∙◌, subst, arith}
use Rattle.std.specs.Option.{option_map_or}
use Rattle.std.proofs.lemmas.Bool.{le-leb, leb-false}
use Rattle.bucket_tables.specs.declared.Lane.{Lane}
use Rattle.flat_policy.specs.declared.lanes.Kind.{Kind}
use Rattle.flat_policy.specs.declared.lanes.Kind.TheVariants.{Natural, Pass, Starve}
use Rattle.flat_policy.specs.declared.lanes.Starved.{Starved}
use Rattle.flat_policy.specs.declared.lanes.Starved.TheVariants.{No, Since}
use Rattle.flat_policy.specs.declared.setup.Times.{Times}
use Rattle.flat_policy.specs.Policy.Queue.{LaneState, same_lane}
use Rattle.flat_policy.specs.Policy.Setup.{SetupParts, cluster_times, times_for}
use Rattle.flat_policy.specs.Laws.Windows.{EndsInTime, EventKeepsWindow, IsRenewed, NaturalRenews, SetupsHaveQuanta, StarvationLaw, StarveIsWithin, WindowKept, first_starve_after, first_starve_by, kind_at, lane_fills, no_event, select_at, unless_renewed, window_ends}
use Rattle.flat_policy.specs.Policy.Windows.{chosen, expired, expired_warp, expired_window, opened_window, renewed_deadline, window_over}
use Rattle.windows.proofs.Events.{after_kind}
use Rattle.windows.proofs.LaneRuns.{EventsKeep, Rule, kept_in_runs}
use Rattle.windows.proofs.LaneStates.{expired_state, state_lane}

-- the starvation window of a lane by the first Starve choice since the last renewal
abbrev StarveFits : Option ℕ → Starved → Type 0
StarveFits None w = w ≡ No
StarveFits (Some m) w = w ≡ Since m

-- a window that a choice finds is not over
abbrev IsOpen : ℕ → ℕ → Option ℕ → Type 0
IsOpen quantum now None = Unit {0}
IsOpen quantum now (Some m) = now < m + quantum

-- whether the window of a first Starve choice is over
abbrev is_over : ℕ → ℕ → Option ℕ → Bool
is_over quantum now None = false
is_over quantum now (Some m) = nat_le (m + quantum) now

over_is : (quantum now : ℕ) (first : Option ℕ) (w : Starved) → StarveFits first w → window_over quantum now w ≡ is_over quantum now first
over_is quantum now None w h = ap (window_over quantum now) h
over_is quantum now (Some m) w h = ap (window_over quantum now) h

-- the window after it may have ended
still_fits : (first : Option ℕ) (over : Bool) (w : Starved) → StarveFits first w → StarveFits (unless_renewed over first) (cond over No w)
still_fits first true w h = refl
still_fits first false w h = h

still_open : (quantum now : ℕ) (first : Option ℕ) (over : Bool) → is_over quantum now first ≡ over → IsOpen quantum now (unless_renewed over first)
still_open quantum now first true e = tt
still_open quantum now None false e = tt
still_open quantum now (Some m) false e = leb-false (m + quantum) now e

ends_in_time : (quantum now : ℕ) (first : Option ℕ) (ends : Bool) → ends ≡ is_over quantum now first → EndsInTime quantum first now ends
ends_in_time quantum now None ends e = tt
ends_in_time quantum now (Some m) ends e = λ late. e ∙ le-leb (m + quantum) now late

opened_fits : (now : ℕ) (first : Option ℕ) (w : Starved) → StarveFits first w → StarveFits (first_starve_after first now (Some Starve)) (opened_window now w)
opened_fits now None w h = ap (opened_window now) h
opened_fits now (Some m) w h = ap (opened_window now) h

chosen_fits : (ts : List Times) (now : ℕ) (first : Option ℕ) (k : Option Kind) (l : LaneState) → StarveFits first l.starved → StarveFits (first_starve_after first now k) (after_kind ts now k l).starved
chosen_fits ts now first None l h = h
chosen_fits ts now first (Some Natural) l h = refl
chosen_fits ts now first (Some Pass) l h = h
chosen_fits ts now first (Some Starve) l h = opened_fits now first l.starved h

starve_within : (quantum now : ℕ) (first : Option ℕ) → 0 < quantum → IsOpen quantum now first → StarveIsWithin quantum first now (Some Starve)
starve_within quantum now None some open' = omega (arith, some)
starve_within quantum now (Some m) some open' = open'

kind_within : (quantum now : ℕ) (first : Option ℕ) (k : Option Kind) → 0 < quantum → IsOpen quantum now first → StarveIsWithin quantum first now k
kind_within quantum now first None some open' = tt
kind_within quantum now first (Some Natural) some open' = tt
kind_within quantum now first (Some Pass) some open' = tt
kind_within quantum now first (Some Starve) some open' = starve_within quantum now first some open'

-- the span of a lane's starvation window
abbrev quantum_at : List Times → Lane → ℕ
quantum_at ts at = (times_for ts at.bucket).quantum

-- what becomes of a lane whose window is over, and of one that is not
expired_starved_is : (ts : List Times) (now : ℕ) (l : LaneState) → (expired_window ts now l).starved ≡ cond (window_over (quantum_at ts l.lane) now l.starved) No l.starved
expired_starved_is ts now l =
    let warped : LaneState = record l { warp = expired_warp now l.warp } in
    elim (window_over (quantum_at ts l.lane) now l.starved) as (λ b. (cond b (renewed_deadline ts now warped) warped).starved ≡ cond b No l.starved) [ true ↦ refl | false ↦ refl ]

expired_renews : (ts : List Times) (now : ℕ) (l : LaneState) → window_over (quantum_at ts l.lane) now l.starved ≡ true → IsRenewed ts now (Some (expired_window ts now l))
expired_renews ts now l over =
    let warped : LaneState = record l { warp = expired_warp now l.warp } in
    subst (λ b. IsRenewed ts now (Some (cond b (renewed_deadline ts now warped) warped))) (sym over) (refl, refl)

natural_renews : (ts : List Times) (now : ℕ) (l : LaneState) (k : Option Kind) → NaturalRenews ts now (Some (after_kind ts now k l)) k
natural_renews ts now l None = tt
natural_renews ts now l (Some Natural) = (refl, refl)
natural_renews ts now l (Some Pass) = tt
natural_renews ts now l (Some Starve) = tt

-- the rule of a lane's starvation window
abbrev starve_rule : List Times → Lane → Rule
starve_rule ts at = record {
  Fits = λ first l. StarveFits first l.starved;
  Keeps = λ s next first e. EventKeepsWindow expired ts s next at first e;
  after = λ s first e. first_starve_by expired ts s at first e;
}

keeps_window : (setup : SetupParts) (c : ℕ) (at : Lane) → 0 < quantum_at (cluster_times setup c) at → EventsKeep setup c at (starve_rule (cluster_times setup c) at)
keeps_window setup c at some s next first (select_at now) l ten is state fits =
    let ts = cluster_times setup c in
    let m : LaneState = expired_window ts now l in
    let quantum = quantum_at ts at in
    let over : Bool = is_over quantum now first in
    let here = expired_state ts s now at l is in
    let k : Option Kind = kind_at at (chosen ts (expired ts s now)) in
    let read : window_over quantum now l.starved ≡ over = over_is quantum now first l.starved fits in
    let ends : window_ends ts s now at ≡ over = ap (λ (o : Option LaneState). option_map_or (λ (n : LaneState). window_over quantum now n.starved) o false) is ∙ read in
    let own : window_over (quantum_at ts l.lane) now l.starved ≡ over = ap (λ (x : Lane). window_over (quantum_at ts x) now l.starved) (state_lane s at l is) ∙ read in
    let left : StarveFits (unless_renewed over first) m.starved =
    subst (StarveFits (unless_renewed over first)) (sym (expired_starved_is ts now l ∙ ap (λ b. cond b No l.starved) own)) (still_fits first over l.starved fits) in (
      record {
        in_time = ends_in_time quantum now first (window_ends ts s now at) ends;
        ending_renews = λ end. subst (IsRenewed ts now) (sym here) (expired_renews ts now l (own ∙ sym ends ∙ end));
        within = subst (λ b. StarveIsWithin quantum (unless_renewed b first) now k) (sym ends)
            (kind_within quantum now (unless_renewed over first) k some (still_open quantum now first over refl));
        natural_renews = subst (λ o. NaturalRenews ts now o k) (sym state) (natural_renews ts now m k);
      },
      subst (λ b. StarveFits (first_starve_after (unless_renewed b first) now k) (after_kind ts now k m).starved) (sym ends)
          (chosen_fits ts now (unless_renewed over first) k m left),
    )
keeps_window setup c at some s next first (lane_fills now filled) l ten is state fits =
    let ts = cluster_times setup c in (
      λ here. subst (IsRenewed ts now) (sym (state ∙ ap (λ b. Some (cond b (renewed_deadline ts now l) l)) here)) (refl, refl),
      elim (same_lane filled at) as (λ b. StarveFits (unless_renewed b first) (cond b (renewed_deadline ts now l) l).starved) [ true ↦ refl | false ↦ fits ],
    )
keeps_window setup c at some s next first no_event l ten is state fits = (tt, fits)

pub starvation_law_is : SetupsHaveQuanta → StarvationLaw
starvation_law_is quanta setup c at ls end built within among run =
    kept_in_runs setup c at (starve_rule (cluster_times setup c) at) (WindowKept expired setup c at)
    (record { none = λ first s. tt; more = λ first s l ls kept rest. (kept, rest) })
    (keeps_window setup c at (quanta setup c built within at.bucket)) (λ x. refl) ls end among run
