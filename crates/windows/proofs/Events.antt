-- What each line of a cluster does to the windows of its lanes.
use Rattle.std.proofs.Common.{◌≡◌, ℕ, ◌==◌, ◌&&◌, nat_lt, Bool, true, false, not, ◌||◌, cond, List, length, Option, Some, None, is_some, option_and_then, option_map, refl, sym, ap, ◌∙◌, subst}
use Rattle.std.proofs.lemmas.Bool.{cond_both}
use Rattle.std.proofs.lemmas.Option.{none-some, same_Some}
use Rattle.sched_base.specs.Limits.{most_threads}
use Rattle.sched_base.specs.declared.Act.{Act}
use Rattle.sched_base.specs.declared.Facts.{Facts}
use Rattle.sched_base.specs.declared.Answer.TheVariants as answers
use Rattle.sched_base.specs.declared.Act.TheVariants as acts
use Rattle.bucket_tables.specs.declared.Lane.{Lane}
use Rattle.flat_policy.specs.declared.journal.Line.{Line}
use Rattle.flat_policy.specs.declared.lanes.Kind.{Kind}
use Rattle.flat_policy.specs.declared.setup.Times.{Times}
use Rattle.flat_policy.specs.Policy.Aim.{may_enter}
use Rattle.flat_policy.specs.Policy.ClusterSteps.{Event, enter_event, facts_of, flat_after_offer, got, look_event, named_entry, offer_event, power_event, pull_event, refresh_event, select_event, touched}
use Rattle.flat_policy.specs.Policy.Moves.{clutch_has_entries, entered, lanes_filled, pick, pick_in, removed, removed_by_selection, selected, selected_by, turn_on_entering, turn_on_leaving, turn_on_selection, with_entry, with_next_turn, without_entry, without_turn}
use Rattle.flat_policy.specs.Policy.Offer.{offered_between}
use Rattle.flat_policy.specs.Runs.Histories.{CStep, act_of, actor_of, bucket_of_index, entering, event_by, flat_after, moment_of, where_true}
use Rattle.flat_policy.specs.Policy.Precedence.{clutch_priority}
use Rattle.flat_policy.specs.Policy.Queue.{Clutch, Flat, LaneState, Queued, clutch_of, has_entries, lane_of, timeshare_lanes}
use Rattle.flat_policy.specs.Policy.Refresh.{all_clutches, refreshed, turn_on_refresh, with_new_prices}
use Rattle.flat_policy.specs.Policy.Setup.{SetupParts, cluster_times, group_count, home_of}
use Rattle.flat_policy.specs.Laws.Windows.{WindowEvent, event_if_empty, event_if_on, event_of_entering, lane_fills, no_event, select_at, window_event, window_event_by}
use Rattle.flat_policy.specs.Policy.Windows.{Choice, at_lane, chosen, expired, expired_window, renewed_deadline, window_after, windows_after}
use Rattle.flat_policy.proofs.ChosenLane.{chooses_filled}
use Rattle.flat_policy.proofs.KeptLanes.{at_lane_keeps, expired_keeps, lane_names, map_keeps_lanes, window_keeps}
use Rattle.flat_policy.proofs.Refreshes.{fold_keeps}
use Rattle.windows.proofs.AnyPick.{pick_in_lane}

-- the windows of each of the ten lanes stand in the lanes' order
abbrev pub HasTenLanes : Flat → Type 0
HasTenLanes s = lane_names s.lanes ≡ timeshare_lanes

-- the lanes after an event
abbrev pub LanesBy : List Times → Flat → Flat → WindowEvent → Type 0
LanesBy ts s next (select_at now) = next ≡ selected ts now s
LanesBy ts s next (lane_fills now at) = next.lanes ≡ at_lane at (renewed_deadline ts now) s.lanes
LanesBy ts s next no_event = next.lanes ≡ s.lanes

pub removed_lanes : (e : Queued) (now : ℕ) (s : Flat) → (removed e now s).lanes ≡ s.lanes
removed_lanes e now s =
    let after : Flat = without_entry e now s in
    let k : Clutch = clutch_of e.facts in
    let P : Flat → Type 0 = λ (u : Flat). u.lanes ≡ s.lanes in
    let same : Bool = clutch_priority s k == clutch_priority after k in
    cond_both (is_some e.facts.bound) after (turn_on_leaving s k after) P (λ h. refl)
    (λ h. cond_both (not (clutch_has_entries after k)) (without_turn k after) (cond same after (with_next_turn k after)) P (λ f. refl)
    (λ f. cond_both same after (with_next_turn k after) P (λ g. refl) (λ g. refl)))

pub selection_lanes : (e : Queued) (now : ℕ) (s : Flat) → (removed_by_selection e now s).lanes ≡ s.lanes
selection_lanes e now s =
    let after : Flat = without_entry e now s in
    let k : Clutch = clutch_of e.facts in
    let P : Flat → Type 0 = λ (u : Flat). u.lanes ≡ s.lanes in
    cond_both (is_some e.facts.bound) after (turn_on_selection k after) P (λ h. refl)
    (λ h. cond_both (clutch_has_entries after k) (with_next_turn k after) (without_turn k after) P (λ f. refl) (λ f. refl))

pub entered_lanes : (ts : List Times) (t : Facts) (head : Bool) (now : ℕ) (s : Flat) → (entered ts t head now s).lanes ≡ lanes_filled ts now s (lane_of t)
entered_lanes ts t head now s =
    let after : Flat = with_entry ts t head now s in
    let k : Clutch = clutch_of t in
    let P : Flat → Type 0 = λ (u : Flat). u.lanes ≡ lanes_filled ts now s (lane_of t) in
    cond_both (is_some t.bound) after (turn_on_entering s k after) P (λ h. refl)
    (λ h. cond_both (not (clutch_has_entries s k) || not (clutch_priority s k == clutch_priority after k)) (with_next_turn k after) after P (λ e. refl) (λ e. refl))

pub refreshed_lanes : (groups : ℕ) (s : Flat) (now : ℕ) → (refreshed groups s now).lanes ≡ s.lanes
refreshed_lanes groups s now =
    fold_keeps (turn_on_refresh s) (λ (b : Flat). b.lanes ≡ s.lanes) (all_clutches groups)
    (λ b k c h. cond_both (clutch_priority s k == clutch_priority b k) b (with_next_turn k b) (λ (u : Flat). u.lanes ≡ s.lanes) (λ e. h) (λ e. h))
    (with_new_prices s now) refl

offer_lanes : (now : ℕ) (s : Flat) (o : Option Queued) → (flat_after_offer now s o).lanes ≡ s.lanes
offer_lanes now s None = refl
offer_lanes now s (Some e) = removed_lanes e now s

-- what an event of a place has, where the line has a place there
where_has : {X : Type 0} (P : X → Type 0) (b : Bool) (x y : X) → P x → where_true b x ≡ Some y → P y
where_has P true x y p is = subst P (same_Some x y is) p
where_has P false x y p is = absurd (none-some y is)

map_has : {X Y : Type 0} (P : Y → Type 0) (f : X → Y) → ((x : X) → P (f x)) → (o : Option X) (y : Y) → option_map f o ≡ Some y → P y
map_has P f each None y is = absurd (none-some y is)
map_has P f each (Some x) y is = subst P (same_Some (f x) y is) (each x)

then_has : {X Y : Type 0} (P : Y → Type 0) (f : X → Option Y) → ((x : X) (y : Y) → f x ≡ Some y → P y) → (o : Option X) (y : Y) → option_and_then f o ≡ Some y → P y
then_has P f each None y is = absurd (none-some y is)
then_has P f each (Some x) y is = each x y is

if_has : {X : Type 0} (b : Bool) (o : Option X) (y : X) → cond b o None ≡ Some y → o ≡ Some y
if_has true o y is = is
if_has false o y is = absurd (none-some y is)

by_filling : (ts : List Times) (s next : Flat) (now : ℕ) (there : Bool) (at : Lane) → next.lanes ≡ cond there s.lanes (at_lane at (renewed_deadline ts now) s.lanes) → LanesBy ts s next (event_if_empty there now at)
by_filling ts s next now true at h = h
by_filling ts s next now false at h = h

by_entering : (setup : SetupParts) (c : ℕ) (s : Flat) (head : Bool) (now : ℕ) (o : Option Facts) (event : Event)
    → option_and_then (entering setup c s head now) o ≡ Some event → LanesBy (cluster_times setup c) s event.flat (event_of_entering s now o)
by_entering setup c s head now None event is = absurd (none-some event is)
by_entering setup c s head now (Some t) event is =
    where_has (λ (e : Event). LanesBy (cluster_times setup c) s e.flat (event_of_entering s now (Some t)))
    (nat_lt (length s.entries) most_threads && may_enter setup t c) (enter_event setup c t head now s) event
    (by_filling (cluster_times setup c) s (entered (cluster_times setup c) t head now s) now (has_entries s (lane_of t)) (lane_of t)
    (entered_lanes (cluster_times setup c) t head now s))
    is

by_selecting : (ts : List Times) (now : ℕ) (s : Flat) (on : Bool) (told other : Event) → told.flat ≡ selected ts now s → other.flat.lanes ≡ s.lanes → LanesBy ts s (cond on told other).flat (event_if_on on now)
by_selecting ts now s true told other h k = h
by_selecting ts now s false told other h k = k

by_act : (setup : SetupParts) (c : ℕ) (s : Flat) (l : Line) (act : Act) (event : Event)
    → event_by setup c s l act ≡ Some event → LanesBy (cluster_times setup c) s event.flat (window_event_by s l act)
by_act setup c s l (acts.Make name group bucket base bound) event is = absurd (none-some event is)
by_act setup c s l (acts.Enter at head) event is =
    by_entering setup c s head (moment_of l) l.entry.thread event
    (if_has (at == c) (option_and_then (entering setup c s head (moment_of l)) l.entry.thread) event is)
by_act setup c s l acts.Select event is =
    where_has (λ (e : Event). LanesBy (cluster_times setup c) s e.flat (event_if_on s.on (moment_of l)))
    (home_of setup (actor_of l) == c) (select_event setup c (moment_of l) s) event
    (by_selecting (cluster_times setup c) (moment_of l) s s.on
    (record {
      answer = got (pick (cluster_times setup c) (moment_of l) s);
      thread = facts_of (pick (cluster_times setup c) (moment_of l) s);
      flat = selected (cluster_times setup c) (moment_of l) s;
    })
    (record { answer = answers.Off; thread = None; flat = touched (moment_of l) s })
    refl refl)
    is
by_act setup c s l (acts.Offer at) event is =
    where_has (λ (e : Event). e.flat.lanes ≡ s.lanes) ((at == c) && not (home_of setup (actor_of l) == c))
    (offer_event setup c (home_of setup (actor_of l)) (moment_of l) s) event
    (offer_lanes (moment_of l) s (offered_between setup c (home_of setup (actor_of l)) s)) is
by_act setup c s l (acts.Pull name) event is =
    map_has (λ (e : Event). e.flat.lanes ≡ s.lanes) (λ (e : Queued). pull_event e (moment_of l) s) (λ e. removed_lanes e (moment_of l) s)
    (named_entry s name) event
    (if_has (home_of setup (actor_of l) == c) (option_map (λ (e : Queued). pull_event e (moment_of l) s) (named_entry s name)) event is)
by_act setup c s l (acts.Look at) event is =
    map_has (λ (e : Event). e.flat.lanes ≡ s.lanes) (λ b. look_event setup c b (moment_of l) s) (λ b. refl)
    (option_and_then bucket_of_index l.mark) event
    (if_has (at == c) (option_map (λ b. look_event setup c b (moment_of l) s) (option_and_then bucket_of_index l.mark)) event is)
by_act setup c s l acts.Aim event is = absurd (none-some event is)
by_act setup c s l (acts.Ran us) event is = absurd (none-some event is)
by_act setup c s l acts.Sleep event is = absurd (none-some event is)
by_act setup c s l (acts.Wake name) event is = absurd (none-some event is)
by_act setup c s l acts.End event is = absurd (none-some event is)
by_act setup c s l acts.Blocked event is = absurd (none-some event is)
by_act setup c s l acts.Refresh event is =
    where_has (λ (e : Event). e.flat.lanes ≡ s.lanes) (home_of setup (actor_of l) == c) (refresh_event setup (moment_of l) s) event
    (refreshed_lanes (group_count setup) s (moment_of l)) is
by_act setup c s l (acts.Off at) event is =
    where_has (λ (e : Event). e.flat.lanes ≡ s.lanes) (at == c) (power_event false (moment_of l) s) event refl is
by_act setup c s l (acts.On at) event is =
    where_has (λ (e : Event). e.flat.lanes ≡ s.lanes) (at == c) (power_event true (moment_of l) s) event refl is

-- the lanes after a line of a cluster
pub lanes_by : (setup : SetupParts) (c : ℕ) (s : Flat) (l : Line) → CStep setup c s l (flat_after setup c s l)
    → LanesBy (cluster_times setup c) s (flat_after setup c s l) (window_event s l)
lanes_by setup c s l step =
    subst (λ (next : Flat). LanesBy (cluster_times setup c) s next (window_event s l)) (sym step.leads)
    (by_act setup c s l (act_of l) step.event step.happens)

-- a window after a choice of its lane by deadlines, or of another
abbrev pub after_kind : List Times → ℕ → Option Kind → LaneState → LaneState
after_kind ts now None l = l
after_kind ts now (Some kind) l = window_after ts now kind l

-- the lanes after a choice
abbrev lanes_after : List Times → ℕ → Option Kind → Lane → List LaneState → List LaneState
lanes_after ts now None at ls = ls
lanes_after ts now (Some kind) at ls = at_lane at (window_after ts now kind) ls

abbrev pub lanes_chosen : List Times → ℕ → Option Choice → List LaneState → List LaneState
lanes_chosen ts now None ls = ls
lanes_chosen ts now (Some c) ls = lanes_after ts now c.kind c.lane ls

windows_lanes : (ts : List Times) (now : ℕ) (k : Option Kind) (at : Lane) (s : Flat) → (windows_after ts now k at s).lanes ≡ lanes_after ts now k at s.lanes
windows_lanes ts now None at s = refl
windows_lanes ts now (Some kind) at s = refl

pub expired_ten : (ts : List Times) (s : Flat) (now : ℕ) → HasTenLanes s → HasTenLanes (expired ts s now)
expired_ten ts s now ten = map_keeps_lanes (expired_window ts now) (expired_keeps ts now) s.lanes ∙ ten

-- what is chosen is picked, so that its lane's windows change
selected_lanes_by : (ts : List Times) (now : ℕ) (x : Flat) → HasTenLanes x → (o : Option Choice) → chosen ts x ≡ o → (selected_by ts now x o (option_and_then (λ (c : Choice). pick_in x c.lane) o)).lanes ≡ lanes_chosen ts now o x.lanes
selected_lanes_by ts now x ten None is = refl
selected_lanes_by ts now x ten (Some c) is =
    let p = pick_in_lane x c.lane ((chooses_filled ts x ten).filled c is) in
    subst (λ (o : Option Queued). (selected_by ts now x (Some c) o).lanes ≡ lanes_after ts now c.kind c.lane x.lanes) (sym p.1)
    (windows_lanes ts now c.kind c.lane (removed_by_selection p.0 now x) ∙ ap (lanes_after ts now c.kind c.lane) (selection_lanes p.0 now x))

pub selected_lanes : (ts : List Times) (now : ℕ) (s : Flat) → HasTenLanes s → (selected ts now s).lanes ≡ lanes_chosen ts now (chosen ts (expired ts s now)) (expired ts s now).lanes
selected_lanes ts now s ten = selected_lanes_by ts now (expired ts s now) (expired_ten ts s now ten) (chosen ts (expired ts s now)) refl

names_after : (ts : List Times) (now : ℕ) (k : Option Kind) (at : Lane) (ls : List LaneState) → lane_names (lanes_after ts now k at ls) ≡ lane_names ls
names_after ts now None at ls = refl
names_after ts now (Some kind) at ls = at_lane_keeps at (window_after ts now kind) (window_keeps ts now kind) ls

names_chosen : (ts : List Times) (now : ℕ) (o : Option Choice) (ls : List LaneState) → lane_names (lanes_chosen ts now o ls) ≡ lane_names ls
names_chosen ts now None ls = refl
names_chosen ts now (Some c) ls = names_after ts now c.kind c.lane ls

-- each event leaves the lanes in their order
pub ten_by : (ts : List Times) (s next : Flat) (e : WindowEvent) → HasTenLanes s → LanesBy ts s next e → HasTenLanes next
ten_by ts s next (select_at now) ten h =
    let x : Flat = expired ts s now in
    ap (λ (u : Flat). lane_names u.lanes) h ∙ (ap lane_names (selected_lanes ts now s ten) ∙ (names_chosen ts now (chosen ts x) x.lanes ∙ expired_ten ts s now ten))
ten_by ts s next (lane_fills now at) ten h = ap lane_names h ∙ (at_lane_keeps at (renewed_deadline ts now) (λ l. refl) s.lanes ∙ ten)
ten_by ts s next no_event ten h = ap lane_names h ∙ ten
