-- The chosen lane: there is one exactly where there are entries, and it has entries.
use Rattle.std.proofs.Common.{◌≡◌, ◌⊎◌, nat_le, Bool, true, false, not, ◌&&◌, ◌||◌, Contains, List, [], ◌∷◌, map, refl, sym, ap, ◌∙◌, subst, inl, inr, arith}
use Rattle.std.proofs.lemmas.Bool.{and_cases, cases_Bool, false≢true, not-false, or_cases, or_left, or_parts, or_right, leb-true, leb-false}
use Rattle.sched_base.specs.Bucket.{index}
use Rattle.sched_base.specs.declared.Bucket.{Bucket}
use Rattle.sched_base.specs.declared.Bucket.TheVariants.{Bg, Df, Fg, Ini, Ui, Ut}
use Rattle.bucket_tables.specs.declared.Lane.{Lane}
use Rattle.flat_policy.specs.Laws.Choice.{has_member}
use Rattle.flat_policy.specs.Policy.Queue.{Flat, LaneState, Queued, has_entries, in_lane, lane, lane_of, timeshare_lanes}
use Rattle.flat_policy.specs.Policy.Windows.{better_ui_lane, bucket_has_entries, bucket_priority, due_before, filled_lanes, lane_priority, stands_higher, ui_goes_first}
use Rattle.flat_policy.proofs.Buckets.{in_own_lane}
use Rattle.flat_policy.proofs.Choice.{StrictOn}
use Rattle.flat_policy.proofs.Greatest.{empty_lane_priority, ui_lane_priority}
use Rattle.flat_policy.proofs.Lexical.{by_number_irreflexive, rises_transitive}
use Rattle.flat_policy.proofs.Members.{any_from_member, contains_cases, contains_here, contains_later, contains_none, filter_has, member_of_filter}

-- lanes stand in a strict order, and lanes with their deadlines too
bound_irreflexive : (a : Bool) → (a && not a) ≡ false
bound_irreflexive true = refl
bound_irreflexive false = refl

bound_transitive : (a b c : Bool) → (a && not b) ≡ true → (b && not c) ≡ true → (a && not c) ≡ true
bound_transitive true true c h k = absurd (false≢true h)
bound_transitive true false c h k = absurd (false≢true k)
bound_transitive false b c h k = absurd (false≢true h)

pub higher_irreflexive : (x : Lane) → stands_higher x x ≡ false
higher_irreflexive x = by_number_irreflexive (index x.bucket) (x.bound && not x.bound) (bound_irreflexive x.bound)

pub higher_transitive : (x y z : Lane) → stands_higher x y ≡ true → stands_higher y z ≡ true → stands_higher x z ≡ true
higher_transitive x y z h k =
    rises_transitive (index x.bucket) (index y.bucket) (index z.bucket) (x.bound && not y.bound) (y.bound && not z.bound) (x.bound && not z.bound)
    (λ e f. bound_transitive x.bound y.bound z.bound) h k

pub due_strict : (ls : List LaneState) → StrictOn (Contains ls) due_before
due_strict ls = record {
  irreflexive = λ x c. by_number_irreflexive x.deadline (stands_higher x.lane x.lane) (higher_irreflexive x.lane);
  transitive = λ x y z cx cy cz h k.
      rises_transitive x.deadline y.deadline z.deadline (stands_higher x.lane y.lane) (stands_higher y.lane z.lane) (stands_higher x.lane z.lane)
      (λ e f. higher_transitive x.lane y.lane z.lane) h k;
}

-- the members of a list behind a function
pub member_of_map : {X Y : Type 0} (f : X → Y) (xs : List X) (y : Y) → Contains (map f xs) y → (x : X) × Contains xs x × (f x ≡ y)
member_of_map f [] y c = absurd (contains_none y c)
member_of_map f (x ∷ xs) y c =
    elim (contains_cases (f x) (map f xs) y c) [
      | inl is ↦ (x, contains_here x xs, is)
      | inr d ↦ (let m = member_of_map f xs y d in (m.0, contains_later x xs m.0 m.1, m.2))
    ]

pub has_from_member : {X : Type 0} (xs : List X) (x : X) → Contains xs x → has_member xs ≡ true
has_from_member [] x c = absurd (contains_none x c)
has_from_member (y ∷ ys) x c = refl

-- a lane stands among the ten, or is one of UI
ten_or_ui : (b : Bucket) (bound : Bool) → Contains timeshare_lanes (lane b bound) ⊎ (b ≡ Ui)
ten_or_ui Ui bound = inr refl
ten_or_ui Fg true = inl (0, omega arith, refl)
ten_or_ui Fg false = inl (1, omega arith, refl)
ten_or_ui Ini true = inl (2, omega arith, refl)
ten_or_ui Ini false = inl (3, omega arith, refl)
ten_or_ui Df true = inl (4, omega arith, refl)
ten_or_ui Df false = inl (5, omega arith, refl)
ten_or_ui Ut true = inl (6, omega arith, refl)
ten_or_ui Ut false = inl (7, omega arith, refl)
ten_or_ui Bg true = inl (8, omega arith, refl)
ten_or_ui Bg false = inl (9, omega arith, refl)

-- a lane of the ten that has entries is among the filled ones
filled_from_ten : (s : Flat) → map (λ (l : LaneState). l.lane) s.lanes ≡ timeshare_lanes → (at : Lane) → Contains timeshare_lanes at → has_entries s at ≡ true → has_member (filled_lanes s) ≡ true
filled_from_ten s ten at c h =
    let m = member_of_map (λ (l : LaneState). l.lane) s.lanes at (subst (λ ls. Contains ls at) (sym ten) c) in
    has_from_member (filled_lanes s) m.0
    (filter_has (λ (l : LaneState). has_entries s l.lane) s.lanes m.0 m.1 (ap (has_entries s) m.2 ∙ h))

-- where no UI lane goes first, a filled lane is among the ten
filled_from_bucket : (s : Flat) → map (λ (l : LaneState). l.lane) s.lanes ≡ timeshare_lanes → bucket_has_entries s Fg ≡ true → has_member (filled_lanes s) ≡ true
filled_from_bucket s ten h =
    elim (or_cases (has_entries s (lane Fg true)) (has_entries s (lane Fg false)) h) [
      | inl e ↦ filled_from_ten s ten (lane Fg true) (0, omega arith, refl) e
      | inr e ↦ filled_from_ten s ten (lane Fg false) (1, omega arith, refl) e
    ]

-- an entry of UI fills a lane of UI
ui_from_entry : (s : Flat) (bound : Bool) → has_entries s (lane Ui bound) ≡ true → bucket_has_entries s Ui ≡ true
ui_from_entry s true h = or_left (has_entries s (lane Ui true)) (has_entries s (lane Ui false)) h
ui_from_entry s false h = or_right (has_entries s (lane Ui true)) (has_entries s (lane Ui false)) h

fg_where_ui_waits : (s : Flat) → bucket_has_entries s Ui ≡ true → ui_goes_first s ≡ false → bucket_has_entries s Fg ≡ true
fg_where_ui_waits s ui h =
    elim (and_cases (bucket_has_entries s Ui) (not (bucket_has_entries s Fg) || nat_le (bucket_priority s Fg) (bucket_priority s Ui)) h) [
      | inl e ↦ absurd (false≢true (sym e ∙ ui))
      | inr e ↦ not-false (bucket_has_entries s Fg) (or_parts (not (bucket_has_entries s Fg)) (nat_le (bucket_priority s Fg) (bucket_priority s Ui)) e).0
    ]

pub filled_from_entry : (s : Flat) → map (λ (l : LaneState). l.lane) s.lanes ≡ timeshare_lanes → ui_goes_first s ≡ false → (e : Queued) → Contains s.entries e → has_member (filled_lanes s) ≡ true
filled_from_entry s ten h e c =
    let at : Lane = lane_of e.facts in
    let filled : has_entries s at ≡ true = any_from_member (in_lane at) s.entries e c (in_own_lane e) in
    elim (ten_or_ui at.bucket at.bound) [
      | inl d ↦ filled_from_ten s ten at d filled
      | inr ui ↦ filled_from_bucket s ten
          (fg_where_ui_waits s (ui_from_entry s at.bound (ap (λ b. has_entries s (lane b at.bound)) (sym ui) ∙ filled)) h)
    ]

pub filled_entry : (s : Flat) (l : LaneState) → Contains (filled_lanes s) l → has_entries s l.lane ≡ true
filled_entry s l c = (member_of_filter (λ (l : LaneState). has_entries s l.lane) s.lanes l c).1

-- the better UI lane has entries where some UI lane has
pub better_ui_has : (s : Flat) → bucket_has_entries s Ui ≡ true → has_entries s (better_ui_lane s) ≡ true
better_ui_has s h =
    let bound = has_entries s (lane Ui true) in
    let free = has_entries s (lane Ui false) in
    elim (cases_Bool (nat_le (lane_priority s (lane Ui false)) (lane_priority s (lane Ui true)))) [
      | inl e ↦ ap (λ b. has_entries s (lane Ui b)) e ∙ elim (cases_Bool bound) [
        | inl t ↦ t
        | inr f ↦ absurd (elim (or_cases bound free h) [
          | inl t ↦ false≢true (sym f ∙ t)
          | inr t ↦ omega (arith, ui_lane_priority s t, empty_lane_priority s true Ui f, leb-true (lane_priority s (lane Ui false)) (lane_priority s (lane Ui true)) e)
        ])
      ]
      | inr e ↦ ap (λ b. has_entries s (lane Ui b)) e ∙ elim (cases_Bool free) [
        | inl t ↦ t
        | inr f ↦ absurd (omega (arith, empty_lane_priority s false Ui f, leb-false (lane_priority s (lane Ui false)) (lane_priority s (lane Ui true)) e))
      ]
    ]
