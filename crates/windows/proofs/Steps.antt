-- The windows after each step are those of the queue.
use Rattle.std.proofs.Common.{◌≡◌, ℕ, Bool, true, false, ◌||◌, cond, Contains, List, [], ◌∷◌, map, Option, Some, None, option_and_then, refl, sym, ap, ◌∙◌, subst}
use Rattle.std.specs.List.{list_any}
use Rattle.std.proofs.lemmas.Bool.{cond_both, or_parts}
use Rattle.std.proofs.lemmas.Option.{none-some}
use Rattle.sched_base.specs.declared.Bucket.TheVariants.{Ui}
use Rattle.sched_base.specs.declared.Facts.{Facts}
use Rattle.bucket_tables.specs.declared.Lane.{Lane}
use Rattle.flat_policy.specs.declared.lanes.Kind.{Kind}
use Rattle.flat_policy.specs.declared.setup.Times.{Times}
use Rattle.flat_policy.specs.Policy.Moves.{entered, goes_before, pick_in, removed, removed_by_selection, selected_by}
use Rattle.flat_policy.specs.Policy.Queue.{Flat, LaneState, Queued, has_entries, in_lane, lane, lane_of, same_lane, timeshare_lanes}
use Rattle.flat_policy.specs.Policy.Refresh.{refreshed}
use Rattle.flat_policy.specs.Policy.WellFormed.{ArrivalsRise, WellFormed}
use Rattle.flat_policy.specs.Policy.Windows.{Choice, at_lane, expired, expired_window, renewed_deadline, window_after, windows_after}
use Rattle.flat_policy.proofs.After.{selected_by_entries}
use Rattle.flat_policy.proofs.Buckets.{same_lane_is, same_lane_itself}
use Rattle.flat_policy.proofs.Choice.{is_unpreceded}
use Rattle.flat_policy.proofs.ChosenLane.{chooses_filled}
use Rattle.flat_policy.proofs.KeptLanes.{at_lane_keeps, expired_keeps, lane_names, map_keeps_lanes, window_keeps}
use Rattle.flat_policy.proofs.Members.{any_from_member}
use Rattle.flat_policy.proofs.Picks.{stands_in_lane}
use Rattle.windows.specs.Flags.{AreWindowsOf}
use Rattle.windows.specs.Steps.{FollowEntering, FollowLeaving, FollowSelecting, FollowSteps}
use Rattle.windows.specs.WindowStates.{WindowState, expired_at, with_choice, with_flag}
use Rattle.windows.proofs.AnyPick.{pick_in_lane}
use Rattle.windows.proofs.EachLane.{elsewhere}
use Rattle.windows.proofs.Events.{entered_lanes, expired_ten, refreshed_lanes, removed_lanes, selection_lanes}
use Rattle.windows.proofs.Following.{follows}
use Rattle.windows.proofs.LaneEntries.{has_entered, has_refreshed, has_removed, has_without}
use Rattle.windows.proofs.LaneStates.{same_either_way}

-- tests of lanes go by the lanes alone
by_names : (test : Lane → Bool) (ls : List LaneState) → map (λ (l : LaneState). test l.lane) ls ≡ map test (lane_names ls)
by_names test [] = refl
by_names test (l ∷ ls) = ap (λ bs. test l.lane ∷ bs) (by_names test ls)

same_tests : (p q : Lane → Bool) → ((l : Lane) → p l ≡ q l) → (ls : List Lane) → map p ls ≡ map q ls
same_tests p q same [] = refl
same_tests p q same (l ∷ ls) = ap (λ b. b ∷ map p ls) (same l) ∙ ap (λ bs. q l ∷ bs) (same_tests p q same ls)

-- windows with other lanes and one other flag, where one lane has entries now or has none
flagged : (ts : List Times) (s next : Flat) (w : WindowState) (at : Lane) (b : Bool) (ls : List LaneState) → AreWindowsOf ts s w
    → next.lanes ≡ ls → lane_names ls ≡ lane_names s.lanes → ((l : Lane) → has_entries next l ≡ cond (same_lane l at) b (has_entries s l))
    → AreWindowsOf ts next (record { times = w.times; lanes = ls; filled = with_flag at b w.lanes w.filled })
flagged ts s next w at b ls are lanes names has = record {
  times = are.times;
  lanes = sym lanes;
  filled = ap (λ ms. with_flag at b ms w.filled) are.lanes
      ∙ ap (with_flag at b s.lanes) are.filled
      ∙ follows (has_entries s) at b s.lanes
      ∙ by_names (λ l. cond (same_lane l at) b (has_entries s l)) s.lanes
      ∙ ap (map (λ l. cond (same_lane l at) b (has_entries s l))) (sym names)
      ∙ same_tests (λ l. cond (same_lane l at) b (has_entries s l)) (has_entries next) (λ l. sym (has l)) (lane_names ls)
      ∙ sym (by_names (has_entries next) ls)
      ∙ ap (map (λ (l : LaneState). has_entries next l.lane)) (sym lanes);
}

-- windows with other lanes, where the same lanes have entries
unflagged : (ts : List Times) (s next : Flat) (w : WindowState) (ls : List LaneState) → AreWindowsOf ts s w
    → next.lanes ≡ ls → lane_names ls ≡ lane_names s.lanes → ((l : Lane) → has_entries next l ≡ has_entries s l)
    → AreWindowsOf ts next (record { times = w.times; lanes = ls; filled = w.filled })
unflagged ts s next w ls are lanes names has = record {
  times = are.times;
  lanes = sym lanes;
  filled = are.filled
      ∙ by_names (has_entries s) s.lanes
      ∙ ap (map (has_entries s)) (sym names)
      ∙ same_tests (has_entries s) (has_entries next) (λ l. sym (has l)) (lane_names ls)
      ∙ sym (by_names (has_entries next) ls)
      ∙ ap (map (λ (l : LaneState). has_entries next l.lane)) (sym lanes);
}

-- the windows of lanes among which a lane is not
apart_from : (ts : List Times) (s next : Flat) (w : WindowState) (at : Lane) → list_any (λ (m : Lane). same_lane m at) (lane_names s.lanes) ≡ false → AreWindowsOf ts s w
    → next.lanes ≡ s.lanes → ((l : Lane) → same_lane l at ≡ false → has_entries next l ≡ has_entries s l) → AreWindowsOf ts next w
apart_from ts s next w at out are lanes has = record {
  times = are.times;
  lanes = are.lanes ∙ sym lanes;
  filled = are.filled ∙ others s.lanes out ∙ ap (map (λ (l : LaneState). has_entries next l.lane)) (sym lanes);
}
  where
    others : (ls : List LaneState) → list_any (λ (m : Lane). same_lane m at) (lane_names ls) ≡ false
        → map (λ (l : LaneState). has_entries s l.lane) ls ≡ map (λ (l : LaneState). has_entries next l.lane) ls
    others [] h = refl
    others (l ∷ ls) h =
        let parts = or_parts (same_lane l.lane at) (list_any (λ (m : Lane). same_lane m at) (lane_names ls)) h in
        ap (λ b. b ∷ map (λ (m : LaneState). has_entries s m.lane) ls) (sym (has l.lane parts.0))
        ∙ ap (λ bs. has_entries next l.lane ∷ bs) (others ls parts.1)

-- a UI lane is not among the ten
ui_apart : (s : Flat) (at : Lane) → lane_names s.lanes ≡ timeshare_lanes → at.bucket ≡ Ui → list_any (λ (m : Lane). same_lane m at) (lane_names s.lanes) ≡ false
ui_apart s at ten ui =
    ap (list_any (λ (m : Lane). same_lane m at)) ten
    ∙ ap (λ b. list_any (λ (m : Lane). same_lane m (lane b at.bound)) timeshare_lanes) ui

entered_one : (has : Bool) (here : Bool) → (has || here) ≡ cond here true has
entered_one true true = refl
entered_one true false = refl
entered_one false true = refl
entered_one false false = refl

entering : (ts : List Times) (s : Flat) (w : WindowState) → lane_names s.lanes ≡ timeshare_lanes → AreWindowsOf ts s w → (t : Facts) (head : Bool) (now : ℕ) → FollowEntering ts s w t head now
entering ts s w ten are t head now =
    let at = lane_of t in
    let next = entered ts t head now s in
    let lanes = entered_lanes ts t head now s in
    let has : (l : Lane) → has_entries next l ≡ cond (same_lane l at) true (has_entries s l) =
    λ l. has_entered ts t head now s l ∙ entered_one (has_entries s l) (same_lane at l) ∙ ap (λ b. cond b true (has_entries s l)) (same_either_way at l) in
    let renewed = at_lane at (renewed_deadline ts now) s.lanes in
    let names = at_lane_keeps at (renewed_deadline ts now) (λ l. refl) s.lanes in
    record {
      empty = λ none.
          let are' = flagged ts s next w at true renewed are (lanes ∙ ap (λ b. cond b s.lanes renewed) none) names has in
          subst (λ (v : WindowState). AreWindowsOf ts next v)
          (ap (λ us. record { times = w.times; lanes = at_lane at (renewed_deadline us now) s.lanes; filled = with_flag at true w.lanes w.filled }) (sym are.times)
          ∙ ap (λ ms. record { times = w.times; lanes = at_lane at (renewed_deadline w.times now) ms; filled = with_flag at true w.lanes w.filled }) (sym are.lanes))
          are';
      filled = λ some.
          let are' = unflagged ts s next w s.lanes are (lanes ∙ ap (λ b. cond b s.lanes renewed) some) refl
          (λ l. has l ∙ already (same_lane l at) l refl some) in
          subst (λ (v : WindowState). AreWindowsOf ts next v) (ap (λ ms. record { times = w.times; lanes = ms; filled = w.filled }) (sym are.lanes)) are';
      ui = λ is.
          let out = ui_apart s at ten is in
          apart_from ts s next w at out are
          (lanes ∙ cond_both (has_entries s at) s.lanes renewed (λ ls. ls ≡ s.lanes) (λ e. refl) (λ e. elsewhere at (renewed_deadline ts now) s.lanes out))
          (λ l other. has l ∙ ap (λ b. cond b true (has_entries s l)) other);
    }
  where
    already : (b : Bool) (l : Lane) → same_lane l (lane_of t) ≡ b → has_entries s (lane_of t) ≡ true → cond b true (has_entries s l) ≡ has_entries s l
    already true l is some = sym some ∙ ap (has_entries s) (sym (same_lane_is l (lane_of t) is))
    already false l is some = refl

-- an entry leaves a queue, whose lanes it keeps or not
leaving : (ts : List Times) (s next : Flat) (w : WindowState) (e : Queued) → lane_names s.lanes ≡ timeshare_lanes → AreWindowsOf ts s w → Contains s.entries e
    → next.lanes ≡ s.lanes → ((l : Lane) → in_lane l e ≡ false → has_entries next l ≡ has_entries s l) → FollowLeaving ts next w (lane_of e.facts)
leaving ts s next w e ten are c lanes has =
    let at = lane_of e.facts in
    let there : has_entries s at ≡ true = any_from_member (in_lane at) s.entries e c (same_lane_itself at) in
    record {
      remain = λ some.
          let are' = unflagged ts s next w s.lanes are lanes refl (λ l. kept l (same_lane at l) refl some there) in
          subst (λ (v : WindowState). AreWindowsOf ts next v) (ap (λ ms. record { times = w.times; lanes = ms; filled = w.filled }) (sym are.lanes)) are';
      none = λ none.
          let are' = flagged ts s next w at false s.lanes are lanes refl (λ l. lost l (same_lane at l) refl none) in
          subst (λ (v : WindowState). AreWindowsOf ts next v) (ap (λ ms. record { times = w.times; lanes = ms; filled = with_flag at false w.lanes w.filled }) (sym are.lanes)) are';
      ui = λ is. apart_from ts s next w at (ui_apart s at ten is) are lanes (λ l other. has l (same_either_way at l ∙ other));
    }
  where
    kept : (l : Lane) (b : Bool) → same_lane (lane_of e.facts) l ≡ b → has_entries next (lane_of e.facts) ≡ true → has_entries s (lane_of e.facts) ≡ true → has_entries next l ≡ has_entries s l
    kept l true is some there =
        let same = same_lane_is (lane_of e.facts) l is in
        ap (has_entries next) (sym same) ∙ some ∙ sym there ∙ ap (has_entries s) same
    kept l false is some there = has l is

    lost : (l : Lane) (b : Bool) → same_lane (lane_of e.facts) l ≡ b → has_entries next (lane_of e.facts) ≡ false → has_entries next l ≡ cond (same_lane l (lane_of e.facts)) false (has_entries s l)
    lost l true is none =
        ap (has_entries next) (sym (same_lane_is (lane_of e.facts) l is)) ∙ none
        ∙ ap (λ x. cond x false (has_entries s l)) (sym (same_either_way l (lane_of e.facts) ∙ is))
    lost l false is none = has l is ∙ ap (λ x. cond x false (has_entries s l)) (sym (same_either_way l (lane_of e.facts) ∙ is))

expiring : (ts : List Times) (s : Flat) (w : WindowState) (now : ℕ) → AreWindowsOf ts s w → AreWindowsOf ts (expired ts s now) (expired_at now w)
expiring ts s w now are =
    let ls = map (expired_window ts now) s.lanes in
    let are' = unflagged ts s (expired ts s now) w ls are refl (map_keeps_lanes (expired_window ts now) (expired_keeps ts now) s.lanes) (λ l. refl) in
    subst (λ (v : WindowState). AreWindowsOf ts (expired ts s now) v)
    (ap (λ us. record { times = w.times; lanes = map (expired_window us now) s.lanes; filled = w.filled }) (sym are.times)
    ∙ ap (λ ms. record { times = w.times; lanes = map (expired_window w.times now) ms; filled = w.filled }) (sym are.lanes))
    are'

choosing : (ts : List Times) (x : Flat) (w : WindowState) (now : ℕ) (at : Lane) (k : Option Kind) → AreWindowsOf ts x w → AreWindowsOf ts (windows_after ts now k at x) (with_choice now at k w)
choosing ts x w now at None are = are
choosing ts x w now at (Some kind) are =
    let ls = at_lane at (window_after ts now kind) x.lanes in
    let are' = unflagged ts x (windows_after ts now (Some kind) at x) w ls are refl (at_lane_keeps at (window_after ts now kind) (window_keeps ts now kind) x.lanes) (λ l. refl) in
    subst (λ (v : WindowState). AreWindowsOf ts (windows_after ts now (Some kind) at x) v)
    (ap (λ us. record { times = w.times; lanes = at_lane at (window_after us now kind) x.lanes; filled = w.filled }) (sym are.times)
    ∙ ap (λ ms. record { times = w.times; lanes = at_lane at (window_after w.times now kind) ms; filled = w.filled }) (sym are.lanes))
    are'

-- the changes of a choice and the leaving of an entry, in either order
choice_lanes : (ts : List Times) (now : ℕ) (k : Option Kind) (at : Lane) (x y : Flat) → y.lanes ≡ x.lanes → (windows_after ts now k at y).lanes ≡ (windows_after ts now k at x).lanes
choice_lanes ts now None at x y same = same
choice_lanes ts now (Some kind) at x y same = ap (at_lane at (window_after ts now kind)) same

choice_names : (ts : List Times) (now : ℕ) (k : Option Kind) (at : Lane) (x : Flat) → lane_names (windows_after ts now k at x).lanes ≡ lane_names x.lanes
choice_names ts now None at x = refl
choice_names ts now (Some kind) at x = at_lane_keeps at (window_after ts now kind) (window_keeps ts now kind) x.lanes

windows_entries : (ts : List Times) (now : ℕ) (k : Option Kind) (at : Lane) (x : Flat) → (windows_after ts now k at x).entries ≡ x.entries
windows_entries ts now None at x = refl
windows_entries ts now (Some kind) at x = refl

selecting_one : (ts : List Times) (x : Flat) (w : WindowState) (now : ℕ) → ArrivalsRise x.entries → lane_names x.lanes ≡ timeshare_lanes → AreWindowsOf ts x w
    → (c : Choice) (e : Queued) → Contains x.entries e → lane_of e.facts ≡ c.lane
    → FollowLeaving ts (windows_after ts now c.kind c.lane (removed_by_selection e now x)) (with_choice now c.lane c.kind w) c.lane
selecting_one ts x w now rise ten are c e among named =
    let y = windows_after ts now c.kind c.lane x in
    let next = windows_after ts now c.kind c.lane (removed_by_selection e now x) in
    let entries = windows_entries ts now c.kind c.lane x in
    let left = selected_by_entries ts now x (Some c) (Some e) (λ none. absurd (none-some c (sym none))) in
    subst (λ at. FollowLeaving ts next (with_choice now c.lane c.kind w) at) named
    (leaving ts y next (with_choice now c.lane c.kind w) e (choice_names ts now c.kind c.lane x ∙ ten) (choosing ts x w now c.lane c.kind are)
    (subst (λ es. Contains es e) (sym entries) among)
    (choice_lanes ts now c.kind c.lane x (removed_by_selection e now x) (selection_lanes e now x))
    (λ l out. ap (list_any (in_lane l)) left ∙ has_without x.entries rise e among l out ∙ ap (list_any (in_lane l)) (sym entries)))

selecting : (ts : List Times) (s : Flat) (w : WindowState) (now : ℕ) → ArrivalsRise s.entries → lane_names s.lanes ≡ timeshare_lanes → AreWindowsOf ts s w → FollowSelecting ts s w now
selecting ts s w now rise ten are =
    let x = expired ts s now in
    let v = expired_at now w in
    let ten' = expired_ten ts s now ten in
    let are' = expiring ts s w now are in
    let after : Option Choice → Flat = λ o. selected_by ts now x o (option_and_then (λ (d : Choice). pick_in x d.lane) o) in
    record {
      expires = are';
      chooses = λ c is.
          let filled = (chooses_filled ts x ten').filled c is in
          let p = pick_in_lane x c.lane filled in
          let first = is_unpreceded (goes_before x c.lane) x.entries p.0 p.1 in
          subst (λ (u : Flat). FollowLeaving ts u (with_choice now c.lane c.kind v) c.lane)
          (ap (selected_by ts now x (Some c)) (sym p.1) ∙ ap after (sym is))
          (selecting_one ts x v now rise ten' are' c p.0 first.member (same_lane_is (lane_of p.0.facts) c.lane (stands_in_lane x c.lane p.0 filled first)));
      none = λ is.
          subst (λ (u : Flat). AreWindowsOf ts u v) (ap after (sym is))
          (unflagged ts x (record x { last = now }) v v.lanes are' (sym are'.lanes) (ap lane_names are'.lanes) (λ l. refl));
    }

pub follow_steps : (groups : ℕ) (ts : List Times) (s : Flat) (w : WindowState) → WellFormed groups s → AreWindowsOf ts s w → FollowSteps ts s w
follow_steps groups ts s w well are = record {
  entering = λ t head now. entering ts s w well.ten_lanes are t head now;
  leaving = λ e now c. leaving ts s (removed e now s) w e well.ten_lanes are c (removed_lanes e now s) (λ l out. has_removed s well.arrivals_rise e now l c out);
  selecting = λ now. selecting ts s w now well.arrivals_rise well.ten_lanes are;
  refreshing = λ n now.
      unflagged ts s (refreshed n s now) w w.lanes are (refreshed_lanes n s now ∙ sym are.lanes) (ap lane_names are.lanes) (λ l. has_refreshed n s now l);
  touching = λ now. record { times = are.times; lanes = are.lanes; filled = are.filled };
  powering = λ on now. record { times = are.times; lanes = are.lanes; filled = are.filled };
}
