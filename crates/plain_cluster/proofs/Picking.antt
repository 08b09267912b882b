-- The pick, by the lane that is chosen and the first of that lane.
use Rattle.std.proofs.Common.{◌≡◌, ◌≢◌, ℕ, zero, suc, ◌+◌, ◌<◌, ◌||◌, Bool, true, false, cond, List, [], ◌∷◌, filter, fold, length, map, Option, Some, None, is_some, option_and_then, refl, sym, ap, ap₂, ◌∙◌, subst, inl, inr, arith}
use Rattle.std.specs.List.{list_any}
use Rattle.std.proofs.lemmas.Bool.{cases_Bool, cond-false, cond-true, cond_both, false≢true}
use Rattle.std.proofs.lemmas.List.{length-map}
use Rattle.bucket_tables.specs.declared.Lane.{Lane}
use Rattle.sched_base.specs.declared.Bucket.TheVariants.{Ui}
use Rattle.flat_policy.specs.declared.lanes.Kind.{Kind}
use Rattle.flat_policy.specs.declared.lanes.Kind.TheVariants.{Natural, Pass, Starve}
use Rattle.flat_policy.specs.declared.setup.Times.{Times}
use Rattle.flat_policy.specs.Laws.Choice.{ChoiceIsOne, better, has_member}
use Rattle.flat_policy.specs.Laws.Picks.{ChoosesAFilledLane}
use Rattle.flat_policy.specs.Laws.Units.{FirstGoesByKeys, PickStandsInLane, goes_by_keys}
use Rattle.flat_policy.specs.Policy.Moves.{clutch_has_entries, pick, pick_in, removed_by_selection, selected, selected_by, with_next_turn, without_entry, without_turn}
use Rattle.flat_policy.specs.Policy.Precedence.{precedes_in_lane}
use Rattle.flat_policy.specs.Policy.Queue.{Flat, LaneState, Queued, clutch_of, has_entries, in_lane, lane, lane_entries, same_lane}
use Rattle.flat_policy.specs.Policy.Setup.{times_for}
use Rattle.flat_policy.specs.Policy.Unpreceded.{unpreceded}
use Rattle.flat_policy.specs.Policy.WellFormed.{WellFormed}
use Rattle.flat_policy.specs.Policy.Windows.{Choice, above_ui, at_lane, chosen, chosen_of, chosen_under, expired, expired_warp, expired_window, window_over, renewed_deadline, window_after, windows_after}
use Rattle.windows.specs.Flags.{AreWindowsOf, ChoicesAgree}
use Rattle.windows.specs.WindowStates.{WindowState, filled_of}
use Rattle.flat_policy.specs.Policy.Clusters.{slots_without}
use Rattle.plain_cluster.specs.Entries.{RowList, Slotted, entries_of, entry_at, slots_of}
use Rattle.plain_cluster.specs.Queues.{IsChosen, IsQueue, TakesOut, flat_of}
use Rattle.plain_cluster.specs.declared.queue.Queue.{Queue}
use Rattle.plain_cluster.proofs.Flags.{names_stay}

-- a queue with other states of the same lanes is as well-formed
pub with_lanes : (groups : ℕ) (s : Flat) (ls : List LaneState) → WellFormed groups s → map (λ (l : LaneState). l.lane) ls ≡ map (λ (l : LaneState). l.lane) s.lanes → WellFormed groups (record s { lanes = ls })
with_lanes groups s ls w same = record {
  few = w.few;
  arrivals_rise = w.arrivals_rise;
  arrivals_below = w.arrivals_below;
  order_numbers = w.order_numbers;
  groups_below = w.groups_below;
  bases_within = w.bases_within;
  priorities_within = w.priorities_within;
  turns_below = w.turns_below;
  turns_differ = w.turns_differ;
  turns_where_entries = w.turns_where_entries;
  spans_length = w.spans_length;
  spans_small = w.spans_small;
  turns_length = w.turns_length;
  ten_lanes = same ∙ w.ten_lanes;
}

none_from : {X : Type 0} (o : Option X) → is_some o ≡ false → o ≡ None
none_from None h = refl
none_from (Some x) h = absurd (false≢true (sym h))

no_member : {X : Type 0} (xs : List X) → length xs ≡ 0 → has_member xs ≡ false
no_member [] h = refl
no_member (x ∷ xs) h = absurd (omega (arith, h))

pub some_member : {X : Type 0} (xs : List X) → 0 < length xs → has_member xs ≡ true
some_member [] h = absurd (omega (arith, h))
some_member (x ∷ xs) h = refl

-- whether some pass, and whether a filter leaves some
passing_members : {X : Type 0} (p : X → Bool) (xs : List X) → list_any p xs ≡ has_member (filter p xs)
passing_members p [] = refl
passing_members {X} p (x ∷ xs) =
    elim (cases_Bool (p x)) [
      | inl e ↦ ap (λ b. b || list_any p xs) e ∙ ap (λ (ys : List X). has_member ys) (sym (cond-true (p x) (x ∷ filter p xs) (filter p xs) e))
      | inr e ↦ ap (λ b. b || list_any p xs) e ∙ (passing_members p xs ∙ ap (λ (ys : List X). has_member ys) (sym (cond-false (p x) (x ∷ filter p xs) (filter p xs) e)))
    ]

-- a lane whose warp has expired
abbrev warped : ℕ → LaneState → LaneState
warped now l = record l { warp = expired_warp now l.warp }

-- the lanes keep their names when windows expire, and when one is chosen
pub expired_names : (ts : List Times) (now : ℕ) (l : LaneState) → (expired_window ts now l).lane ≡ l.lane
expired_names ts now l = cond_both (window_over (times_for ts l.lane.bucket).quantum now l.starved) (renewed_deadline ts now (warped now l)) (warped now l) (λ (k : LaneState). k.lane ≡ l.lane) (λ e. refl) (λ e. refl)

after_names : (ts : List Times) (now : ℕ) (kind : Kind) (l : LaneState) → (window_after ts now kind l).lane ≡ l.lane
after_names ts now Pass l = refl
after_names ts now Starve l = refl
after_names ts now Natural l = refl

pub chosen_names : (ts : List Times) (now : ℕ) (kind : Kind) (at : Lane) (l : LaneState) → (cond (same_lane l.lane at) (window_after ts now kind l) l).lane ≡ l.lane
chosen_names ts now kind at l = cond_both (same_lane l.lane at) (window_after ts now kind l) l (λ (k : LaneState). k.lane ≡ l.lane) (λ e. after_names ts now kind l) (λ e. refl)

-- other states of the same lanes leave a queue what it is
pub queue_with : (groups : ℕ) (q : Queue) (f : LaneState → LaneState) → IsQueue groups q → ((l : LaneState) → (f l).lane ≡ l.lane) → IsQueue groups (record q { windows = record q.windows { lanes = map f q.windows.lanes } })
queue_with groups q f k same = record {
  formed = with_lanes groups (flat_of q) (map f q.windows.lanes) k.formed (names_stay (λ m. m) f q.windows.lanes same);
  flags = k.flags ∙ sym (names_stay (λ m. has_entries (flat_of q) m) f q.windows.lanes same);
}

-- the windows of a queue are those of the queue as the policy defines it
pub windows_of : (groups : ℕ) (q : Queue) → IsQueue groups q → AreWindowsOf q.windows.times (flat_of q) q.windows
windows_of groups q k = record { times = refl; lanes = refl; filled = k.flags }

-- a choice of lanes needs lanes
none_of_none : (ts : List Times) (vs : List LaneState) → vs ≡ [] → chosen_of ts vs ≡ None
none_of_none ts vs e = ap (chosen_of ts) e

pub some_filled : ChoosesAFilledLane → ChoicesAgree → (groups : ℕ) (q : Queue) → IsQueue groups q → above_ui (flat_of q) ≡ None → has_member (flat_of q).entries ≡ true → filled_of q.windows ≢ []
some_filled chooses agree groups q k below some none =
    let ts = q.windows.times in
    let by : chosen ts (flat_of q) ≡ None =
    ap (λ o. chosen_under o ts (flat_of q)) below ∙ (sym (agree ts (flat_of q) q.windows (windows_of groups q k)) ∙ none_of_none ts (filled_of q.windows) none) in
    false≢true (ap is_some (sym by) ∙ ((chooses groups ts (flat_of q) k.formed).there ∙ some))

-- a lane of UI is chosen
pub chosen_ui : ChoosesAFilledLane → (q : Queue) (now : ℕ) (bound : Bool) → IsQueue q.groups q → above_ui (flat_of q) ≡ Some (lane Ui bound) → IsChosen q q now (lane Ui bound)
chosen_ui chooses q now bound k above =
    let c : Choice = record { lane = lane Ui bound; kind = None } in
    let is : chosen q.windows.times (flat_of q) ≡ Some c = ap (λ o. chosen_under o q.windows.times (flat_of q)) above in
    record {
      choice = c;
      chosen = is;
      lane = refl;
      filled = (chooses q.groups q.windows.times (flat_of q) k.formed).filled c is;
      flat = refl;
      rows = refl;
      queue = k;
      units = refl;
      times = refl;
      groups = refl;
    }

-- a lane is chosen by its deadline
pub chosen_lane : ChoosesAFilledLane → ChoicesAgree → (q : Queue) (now : ℕ) (at : Lane) (kind : Kind) → IsQueue q.groups q → above_ui (flat_of q) ≡ None
    → chosen_of q.windows.times (filled_of q.windows) ≡ Some (record { lane = at; kind = Some kind })
    → IsChosen q (record q { windows = record q.windows { lanes = at_lane at (window_after q.windows.times now kind) q.windows.lanes } }) now at
chosen_lane chooses agree q now at kind k below by =
    let ts = q.windows.times in
    let c : Choice = record { lane = at; kind = Some kind } in
    let is : chosen ts (flat_of q) ≡ Some c =
    ap (λ o. chosen_under o ts (flat_of q)) below ∙ (sym (agree ts (flat_of q) q.windows (windows_of q.groups q k)) ∙ by) in
    record {
      choice = c;
      chosen = is;
      lane = refl;
      filled = (chooses q.groups ts (flat_of q) k.formed).filled c is;
      flat = refl;
      rows = refl;
      queue = queue_with q.groups q (λ (l : LaneState). cond (same_lane l.lane at) (window_after ts now kind l) l) k (chosen_names ts now kind at);
      units = refl;
      times = refl;
      groups = refl;
    }

-- which entry of a lane goes first doesn't go by windows
pub first_alike : (ts : List Times) (now : ℕ) (kind : Option Kind) (at l : Lane) (x : Flat)
    → unpreceded (precedes_in_lane (windows_after ts now kind at x)) (lane_entries (windows_after ts now kind at x) l) ≡ unpreceded (precedes_in_lane x) (lane_entries x l)
first_alike ts now None at l x = refl
first_alike ts now (Some kind) at l x = refl

through : (f : Flat → Flat) (b : Bool) (x y : Flat) → f (cond b x y) ≡ cond b (f x) (f y)
through f true x y = refl
through f false x y = refl

-- an entry leaves alike before and after the windows of the choice change
pub leaves_alike : (ts : List Times) (now : ℕ) (kind : Option Kind) (at : Lane) (e : Queued) (x : Flat)
    → removed_by_selection e now (windows_after ts now kind at x) ≡ windows_after ts now kind at (removed_by_selection e now x)
leaves_alike ts now None at e x = refl
leaves_alike ts now (Some kind) at e x =
    let f : Flat → Flat = windows_after ts now (Some kind) at in
    let y = without_entry e now x in
    let k = clutch_of e.facts in
    sym (through f (is_some e.facts.bound) y (cond (clutch_has_entries y k) (with_next_turn k y) (without_turn k y))
    ∙ ap (λ z. cond (is_some e.facts.bound) (f y) z) (through f (clutch_has_entries y k) (with_next_turn k y) (without_turn k y)))

-- the pick is the first of the chosen lane
pub pick_is_first : PickStandsInLane → (groups : ℕ) (q n : Queue) (s : Flat) (now : ℕ) (at : Lane) (o : Option Queued) → flat_of q ≡ expired q.windows.times s now → IsQueue groups q → IsChosen q n now at
    → o ≡ unpreceded (precedes_in_lane (flat_of n)) (lane_entries (flat_of n) at) → pick q.windows.times now s ≡ o
pick_is_first law groups q n s now at o is k c first =
    let ts = q.windows.times in
    ap (λ x. option_and_then (λ (c : Choice). pick_in x c.lane) (chosen ts x)) (sym is)
    ∙ (ap (option_and_then (λ (c : Choice). pick_in (flat_of q) c.lane)) c.chosen
    ∙ (ap (pick_in (flat_of q)) c.lane
    ∙ (law groups (flat_of q) at k.formed c.filled
    ∙ (sym (first_alike ts now c.choice.kind c.choice.lane at (flat_of q))
    ∙ (ap (λ x. unpreceded (precedes_in_lane x) (lane_entries x at)) (sym c.flat) ∙ sym first)))))

-- the queue after it
pub selected_is : (q n : Queue) (s : Flat) (now : ℕ) (at : Lane) (e : Queued) → flat_of q ≡ expired q.windows.times s now → IsChosen q n now at → pick q.windows.times now s ≡ Some e
    → removed_by_selection e now (flat_of n) ≡ selected q.windows.times now s
selected_is q n s now at e is c picked =
    let ts = q.windows.times in
    ap (removed_by_selection e now) c.flat
    ∙ (leaves_alike ts now c.choice.kind c.choice.lane e (flat_of q)
    ∙ sym (ap₂ (λ x o. selected_by ts now x (chosen ts x) o) (sym is) picked
    ∙ ap (λ o. selected_by ts now (flat_of q) o (Some e)) c.chosen))

-- where nothing is queued there is no pick
pub no_pick : ChoosesAFilledLane → (groups : ℕ) (q : Queue) (s : Flat) (now : ℕ) → flat_of q ≡ expired q.windows.times s now → IsQueue groups q → length q.rows.rows ≡ 0
    → (pick q.windows.times now s ≡ None) × (selected q.windows.times now s ≡ record (flat_of q) { last = now })
no_pick chooses groups q s now is k none =
    let ts = q.windows.times in
    let empty : chosen ts (flat_of q) ≡ None =
    none_from (chosen ts (flat_of q)) ((chooses groups ts (flat_of q) k.formed).there ∙ no_member (flat_of q).entries (length-map q.rows.rows (λ r. r.entry) ∙ none)) in
    let nobody : pick ts now s ≡ None =
    ap (λ x. option_and_then (λ (c : Choice). pick_in x c.lane) (chosen ts x)) (sym is) ∙ ap (option_and_then (λ (c : Choice). pick_in (flat_of q) c.lane)) empty in (
      nobody,
      ap (λ x. selected_by ts now x (chosen ts x) (pick ts now s)) (sym is) ∙ ap (λ o. selected_by ts now (flat_of q) o (pick ts now s)) empty,
    )

-- in a lane that has entries one goes first
pub first_there : ChoiceIsOne Queued → FirstGoesByKeys → (groups : ℕ) (q : Queue) (at : Lane) → IsQueue groups q → has_entries (flat_of q) at ≡ true → is_some (unpreceded (precedes_in_lane (flat_of q)) (lane_entries (flat_of q) at)) ≡ true
first_there one keys groups q at k filled =
    let s = flat_of q in
    let by = keys groups s at k.formed in
    ap is_some by.first ∙ ((one (goes_by_keys s) (lane_entries s at) by.orders).there ∙ (sym (passing_members (in_lane at) s.entries) ∙ filled))

-- and one pass finds it
pub first_found : ChoiceIsOne Queued → FirstGoesByKeys → (groups : ℕ) (q : Queue) (at : Lane) → IsQueue groups q
    → fold (better (goes_by_keys (flat_of q))) None (filter (in_lane at) (flat_of q).entries) ≡ unpreceded (precedes_in_lane (flat_of q)) (lane_entries (flat_of q) at)
first_found one keys groups q at k =
    let s = flat_of q in
    let by = keys groups s at k.formed in
    (one (goes_by_keys s) (lane_entries s at) by.orders).by_scan ∙ sym by.first

-- the pick leaves a queue whose windows have expired, and in which its lane was chosen
pub selects : (q x n left : Queue) (now : ℕ) (at : Lane) (e : Queued) → flat_of x ≡ expired x.windows.times (flat_of q) now → x.rows ≡ q.rows → x.windows.times ≡ q.windows.times → x.groups ≡ q.groups → IsChosen x n now at
    → pick x.windows.times now (flat_of q) ≡ Some e → TakesOut n left e (removed_by_selection e now (flat_of n)) → TakesOut q left e (selected x.windows.times now (flat_of q))
selects q x n left now at e is rows times groups c picked t =
    let same = c.rows ∙ rows in
    record {
      flat = t.flat ∙ selected_is x n (flat_of q) now at e is c picked;
      slots = t.slots ∙ ap (λ (r : RowList). slots_without e.arrival (entries_of r.rows) (slots_of r.rows)) same;
      spare = t.spare ∙ ap (λ (r : RowList). r.spare + 1) same;
      flags = t.flags;
      times = t.times ∙ (c.times ∙ times);
      groups = t.groups ∙ (c.groups ∙ groups);
    }

-- there is an entry at each place
pub there_is : (rows : List Slotted) (i : ℕ) → i < length rows → (e : Queued) × (entry_at rows (Some i) ≡ Some e)
there_is [] i within = absurd (omega (arith, within))
there_is (r ∷ rs) zero within = (r.entry, refl)
there_is (r ∷ rs) (suc i) within = there_is rs i (omega (arith, within))

-- the queue after windows expire
pub expired_queue : (q : Queue) (w : WindowState) (now : ℕ) → IsQueue q.groups q → w ≡ record q.windows { lanes = map (expired_window q.windows.times now) q.windows.lanes }
    → IsQueue q.groups (record q { windows = w }) × (flat_of (record q { windows = w }) ≡ expired w.times (flat_of q) now) × (w.times ≡ q.windows.times)
expired_queue q w now k is =
    let p : WindowState → Type 0 = λ v. IsQueue q.groups (record q { windows = v }) × (flat_of (record q { windows = v }) ≡ expired v.times (flat_of q) now) × (v.times ≡ q.windows.times) in
    subst p (sym is) (queue_with q.groups q (expired_window q.windows.times now) k (expired_names q.windows.times now), refl, refl)

-- so that the chosen lane has one
no_first : ChoiceIsOne Queued → FirstGoesByKeys → (x n : Queue) (now : ℕ) (at : Lane) → IsChosen x n now at → None ≡ unpreceded (precedes_in_lane (flat_of n)) (lane_entries (flat_of n) at) → ⊥
no_first one keys x n now at c none =
    false≢true (ap is_some none ∙ first_there one keys x.groups n at c.queue (ap (λ (r : RowList). list_any (in_lane at) (entries_of r.rows)) c.rows ∙ c.filled))

pub first_found_there : ChoiceIsOne Queued → FirstGoesByKeys → (x n : Queue) (now : ℕ) (at : Lane) (place : Option ℕ) → IsChosen x n now at
    → entry_at n.rows.rows place ≡ unpreceded (precedes_in_lane (flat_of n)) (lane_entries (flat_of n) at) → is_some place ≡ true
first_found_there one keys x n now at None c first = absurd (no_first one keys x n now at c first)
first_found_there one keys x n now at (Some place) c first = refl
