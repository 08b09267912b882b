-- A change made at each lane of a set, one after another, the highest first.
use Rattle.std.proofs.Common.{◌≡◌, Bool, true, false, not, ◌&&◌, cond, List, [], ◌∷◌, Some, refl, ap, ◌∙◌}
use Rattle.std.specs.List.{list_any}
use Rattle.std.proofs.lemmas.Bool.{and_parts, cond-false, cond-true, not-true, or_parts}
use Rattle.bucket_tables.specs.declared.Lane.{Lane}
use Rattle.flat_policy.specs.Policy.Queue.{LaneState, same_lane}
use Rattle.flat_policy.specs.Policy.Windows.{at_lane}
use Rattle.root_deadlines.specs.Lanes.{behind_first, filled_among, first_of}
use Rattle.windows.proofs.Ordered.{lanes_of}

-- no lane comes twice
abbrev pub apart : List Lane → Bool
apart [] = true
apart (l ∷ ls) = not (list_any (λ (m : Lane). same_lane m l) ls) && (not (list_any (same_lane l) ls) && (same_lane l l && apart ls))

-- a change at a lane that isn't there changes nothing
pub elsewhere : (at : Lane) (f : LaneState → LaneState) (ws : List LaneState) → list_any (λ (m : Lane). same_lane m at) (lanes_of ws) ≡ false → at_lane at f ws ≡ ws
elsewhere at f [] h = refl
elsewhere at f (w ∷ ws) h =
    let parts = or_parts (same_lane w.lane at) (list_any (λ (m : Lane). same_lane m at) (lanes_of ws)) h in
    ap (λ v. v ∷ at_lane at f ws) (cond-false (same_lane w.lane at) (f w) w parts.0) ∙ ap (λ vs. w ∷ vs) (elsewhere at f ws parts.1)

-- the lanes of a set change, and the others stay
abbrev pub changed_where : List Bool → (LaneState → LaneState) → List LaneState → List LaneState
changed_where [] f ws = ws
changed_where (b ∷ bs) f [] = []
changed_where (b ∷ bs) f (w ∷ ws) = cond b (f w) w ∷ changed_where bs f ws

pub none_changed : (bs : List Bool) (f : LaneState → LaneState) (ws : List LaneState) → filled_among bs ws ≡ [] → changed_where bs f ws ≡ ws
none_changed [] f ws none = refl
none_changed (b ∷ bs) f [] none = refl
none_changed (true ∷ bs) f (w ∷ ws) none = absurd cc
none_changed (false ∷ bs) f (w ∷ ws) none = ap (λ vs. w ∷ vs) (none_changed bs f ws none)

-- the first of a set fails a test that all fail
first_fails : (p : Lane → Bool) (bs : List Bool) (ls : List Lane) (l : Lane) → Some l ≡ first_of (filled_among bs ls) → list_any p ls ≡ false → p l ≡ false
first_fails p [] ls l first h = absurd cc
first_fails p (b ∷ bs) [] l first h = absurd cc
first_fails p (true ∷ bs) (m ∷ ms) l first h =
    let same : l ≡ m = cc in
    ap p same ∙ (or_parts (p m) (list_any p ms) h).0
first_fails p (false ∷ bs) (m ∷ ms) l first h = first_fails p bs ms l first (or_parts (p m) (list_any p ms) h).1

-- once the first of a set changed, the others are left
pub one_changed : (bs : List Bool) (f : LaneState → LaneState) (ws : List LaneState) (l : Lane) → Some l ≡ first_of (filled_among bs (lanes_of ws)) → apart (lanes_of ws) ≡ true
    → changed_where (behind_first bs) f (at_lane l f ws) ≡ changed_where bs f ws
one_changed [] f ws l first h = absurd cc
one_changed (b ∷ bs) f [] l first h = absurd cc
one_changed (true ∷ bs) f (w ∷ ws) l first h =
    let here : l ≡ w.lane = cc in
    let ls = lanes_of ws in
    let a = and_parts (not (list_any (λ (m : Lane). same_lane m w.lane) ls)) (not (list_any (same_lane w.lane) ls) && (same_lane w.lane w.lane && apart ls)) h in
    let b = and_parts (not (list_any (same_lane w.lane) ls)) (same_lane w.lane w.lane && apart ls) a.1 in
    let c = and_parts (same_lane w.lane w.lane) (apart ls) b.1 in
    ap (λ v. v ∷ changed_where bs f (at_lane l f ws)) (cond-true (same_lane w.lane l) (f w) w (ap (same_lane w.lane) here ∙ c.0))
    ∙ ap (λ vs. f w ∷ changed_where bs f vs)
    (elsewhere l f ws (ap (λ x. list_any (λ (m : Lane). same_lane m x) ls) here ∙ not-true (list_any (λ (m : Lane). same_lane m w.lane) ls) a.0))
one_changed (false ∷ bs) f (w ∷ ws) l first h =
    let ls = lanes_of ws in
    let a = and_parts (not (list_any (λ (m : Lane). same_lane m w.lane) ls)) (not (list_any (same_lane w.lane) ls) && (same_lane w.lane w.lane && apart ls)) h in
    let b = and_parts (not (list_any (same_lane w.lane) ls)) (same_lane w.lane w.lane && apart ls) a.1 in
    let c = and_parts (same_lane w.lane w.lane) (apart ls) b.1 in
    ap (λ v. v ∷ changed_where (behind_first bs) f (at_lane l f ws))
    (cond-false (same_lane w.lane l) (f w) w (first_fails (same_lane w.lane) bs ls l first (not-true (list_any (same_lane w.lane) ls) b.0)))
    ∙ ap (λ vs. w ∷ vs) (one_changed bs f ws l first c.1)
