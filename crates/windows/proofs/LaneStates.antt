-- The state of one lane after each event.
use Rattle.std.proofs.Common.{◌≡◌, ℕ, true, false, cond, Contains, List, [], ◌∷◌, map, find, Option, Some, None, option_map, refl, sym, ap, ◌∙◌, subst, inl, inr}
use Rattle.std.proofs.lemmas.Bool.{cases_Bool, cond_both}
use Rattle.bucket_tables.specs.declared.Lane.{Lane}
use Rattle.flat_policy.specs.declared.lanes.Kind.{Kind}
use Rattle.flat_policy.specs.declared.setup.Times.{Times}
use Rattle.flat_policy.specs.Laws.Windows.{IsTimeshare, WindowEvent, kind_at, lane_fills, lane_state, no_event, select_at}
use Rattle.flat_policy.specs.Policy.Queue.{Flat, LaneState, same_lane, timeshare_lanes}
use Rattle.flat_policy.specs.Policy.Windows.{Choice, at_lane, chosen, expired, expired_window, renewed_deadline, stands_higher, window_after}
use Rattle.flat_policy.proofs.Buckets.{same_lane_is, same_lane_itself}
use Rattle.flat_policy.proofs.Chosen.{member_of_map}
use Rattle.flat_policy.proofs.KeptLanes.{expired_keeps, window_keeps}
use Rattle.flat_policy.proofs.Members.{find_finds, finds_from_member, member_from_any}
use Rattle.flat_policy.proofs.Orders.{lanes_in_order}
use Rattle.windows.proofs.Events.{HasTenLanes, LanesBy, after_kind, lanes_chosen, selected_lanes}

-- what is found after a change that keeps lanes is what was found, changed
found_map : (at : Lane) (f : LaneState → LaneState) → ((l : LaneState) → (f l).lane ≡ l.lane) → (ls : List LaneState)
    → find (λ (l : LaneState). same_lane l.lane at) (map f ls) ≡ option_map f (find (λ (l : LaneState). same_lane l.lane at) ls)
found_map at f keeps [] = refl
found_map at f keeps (l ∷ ls) =
    ap (λ (x : Lane). cond (same_lane x at) (Some (f l)) (find (λ (m : LaneState). same_lane m.lane at) (map f ls))) (keeps l)
    ∙ elim (same_lane l.lane at) as (λ b. cond b (Some (f l)) (find (λ (m : LaneState). same_lane m.lane at) (map f ls))
    ≡ option_map f (cond b (Some l) (find (λ (m : LaneState). same_lane m.lane at) ls))) [
      | true ↦ refl
      | false ↦ found_map at f keeps ls
    ]

-- the state of a lane is one of its lane
pub state_lane : (s : Flat) (at : Lane) (l : LaneState) → lane_state s at ≡ Some l → l.lane ≡ at
state_lane s at l is = same_lane_is l.lane at (find_finds (λ (m : LaneState). same_lane m.lane at) s.lanes l is).1

-- each of the ten lanes has a state, and no other of its lane stands there
pub has_state : (s : Flat) (at : Lane) → HasTenLanes s → IsTimeshare at → (l : LaneState) × (lane_state s at ≡ Some l)
has_state s at ten among =
    let named = member_from_any (same_lane at) timeshare_lanes among in
    let stands = member_of_map (λ (l : LaneState). l.lane) s.lanes named.0 (subst (λ ls. Contains ls named.0) (sym ten) named.1) in
    let is : stands.0.lane ≡ at = stands.2 ∙ sym (same_lane_is at named.0 named.2) in
    finds_from_member (λ (l : LaneState). same_lane l.lane at) s.lanes stands.0 stands.1
    (subst (λ x. same_lane x at ≡ true) (sym is) (same_lane_itself at))

pub one_state : (s : Flat) (at : Lane) (l m : LaneState) → HasTenLanes s → lane_state s at ≡ Some l → Contains s.lanes m → m.lane ≡ at → l ≡ m
one_state s at l m ten is stands named =
    let found = find_finds (λ (x : LaneState). same_lane x.lane at) s.lanes l is in
    let higher = (lanes_in_order s ten).higher in
    let same : l.lane ≡ m.lane = state_lane s at l is ∙ sym named in
    higher.total l m found.0 stands
    (subst (λ x. stands_higher l.lane x ≡ false) same (higher.irreflexive l found.0))
    (subst (λ x. stands_higher x l.lane ≡ false) same (higher.irreflexive l found.0))

pub same_either_way : (x y : Lane) → same_lane x y ≡ same_lane y x
same_either_way x y =
    elim (cases_Bool (same_lane x y)) [
      | inl e ↦ ap (λ z. same_lane x z) (sym (same_lane_is x y e)) ∙ ap (λ z. same_lane z x) (same_lane_is x y e)
      | inr e ↦ elim (cases_Bool (same_lane y x)) [
        | inl f ↦ ap (λ z. same_lane z y) (sym (same_lane_is y x f)) ∙ ap (λ z. same_lane y z) (same_lane_is y x f)
        | inr f ↦ e ∙ sym f
      ]
    ]

-- the state of a lane, where one lane changes
pub changed_state : (changed at : Lane) (f : LaneState → LaneState) → ((l : LaneState) → (f l).lane ≡ l.lane) → (ls : List LaneState) (l : LaneState)
    → find (λ (m : LaneState). same_lane m.lane at) ls ≡ Some l
    → find (λ (m : LaneState). same_lane m.lane at) (at_lane changed f ls) ≡ Some (cond (same_lane changed at) (f l) l)
changed_state changed at f keeps ls l is =
    let named : l.lane ≡ at = same_lane_is l.lane at (find_finds (λ (m : LaneState). same_lane m.lane at) ls l is).1 in
    found_map at (λ (m : LaneState). cond (same_lane m.lane changed) (f m) m)
    (λ m. cond_both (same_lane m.lane changed) (f m) m (λ (n : LaneState). n.lane ≡ m.lane) (λ e. keeps m) (λ e. refl)) ls
    ∙ ap (option_map (λ (m : LaneState). cond (same_lane m.lane changed) (f m) m)) is
    ∙ ap (λ b. Some (cond b (f l) l)) (ap (λ x. same_lane x changed) named ∙ same_either_way at changed)

pub expired_state : (ts : List Times) (s : Flat) (now : ℕ) (at : Lane) (l : LaneState) → lane_state s at ≡ Some l → lane_state (expired ts s now) at ≡ Some (expired_window ts now l)
expired_state ts s now at l is = found_map at (expired_window ts now) (expired_keeps ts now) s.lanes ∙ ap (option_map (expired_window ts now)) is

kind_state : (ts : List Times) (now : ℕ) (at c : Lane) (k : Option Kind) (ls : List LaneState) (l : LaneState)
    → find (λ (m : LaneState). same_lane m.lane at) ls ≡ Some l
    → find (λ (m : LaneState). same_lane m.lane at) (lanes_chosen ts now (Some (record { lane = c; kind = k })) ls)
    ≡ Some (after_kind ts now (kind_at at (Some (record { lane = c; kind = k }))) l)
kind_state ts now at c None ls l is =
    is ∙ elim (same_lane c at) as (λ b. Some l ≡ Some (after_kind ts now (cond b None None) l)) [ true ↦ refl | false ↦ refl ]
kind_state ts now at c (Some kind) ls l is =
    changed_state c at (window_after ts now kind) (window_keeps ts now kind) ls l is
    ∙ elim (same_lane c at) as (λ b. Some (cond b (window_after ts now kind l) l) ≡ Some (after_kind ts now (cond b (Some kind) None) l)) [ true ↦ refl | false ↦ refl ]

choice_state : (ts : List Times) (now : ℕ) (at : Lane) (o : Option Choice) (ls : List LaneState) (l : LaneState)
    → find (λ (m : LaneState). same_lane m.lane at) ls ≡ Some l
    → find (λ (m : LaneState). same_lane m.lane at) (lanes_chosen ts now o ls) ≡ Some (after_kind ts now (kind_at at o) l)
choice_state ts now at None ls l is = is
choice_state ts now at (Some c) ls l is = kind_state ts now at c.lane c.kind ls l is

-- the state of a lane after an event, by its state before
abbrev pub state_by : List Times → Flat → Lane → WindowEvent → LaneState → LaneState
state_by ts s at (select_at now) l = after_kind ts now (kind_at at (chosen ts (expired ts s now))) (expired_window ts now l)
state_by ts s at (lane_fills now filled) l = cond (same_lane filled at) (renewed_deadline ts now l) l
state_by ts s at no_event l = l

pub state_after : (ts : List Times) (s next : Flat) (at : Lane) (e : WindowEvent) (l : LaneState)
    → HasTenLanes s → LanesBy ts s next e → lane_state s at ≡ Some l → lane_state next at ≡ Some (state_by ts s at e l)
state_after ts s next at (select_at now) l ten h is =
    let x : Flat = expired ts s now in
    ap (find (λ (m : LaneState). same_lane m.lane at)) (ap (λ (u : Flat). u.lanes) h ∙ selected_lanes ts now s ten)
    ∙ choice_state ts now at (chosen ts x) x.lanes (expired_window ts now l) (expired_state ts s now at l is)
state_after ts s next at (lane_fills now filled) l ten h is =
    ap (find (λ (m : LaneState). same_lane m.lane at)) h ∙ changed_state filled at (renewed_deadline ts now) (λ m. refl) s.lanes l is
state_after ts s next at no_event l ten h is = ap (find (λ (m : LaneState). same_lane m.lane at)) h ∙ is
