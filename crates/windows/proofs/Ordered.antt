-- Lanes in their order: the first of them is the one that none stands higher than.
use Rattle.std.proofs.Common.{◌≡◌, Bool, true, false, not, cond, List, [], ◌∷◌, map, filter, find, Some, refl, sym, ap, ◌∙◌}
use Rattle.std.specs.List.{list_all, list_any}
use Rattle.std.proofs.lemmas.Bool.{and_from, and_parts, or_from}
use Rattle.bucket_tables.specs.declared.Lane.{Lane}
use Rattle.flat_policy.specs.Policy.Queue.{LaneState}
use Rattle.flat_policy.specs.Policy.Unpreceded.{unpreceded}
use Rattle.flat_policy.specs.Policy.Windows.{stands_higher}
use Rattle.flat_policy.proofs.Chosen.{higher_irreflexive}
use Rattle.root_deadlines.specs.Lanes.{filled_among, first_of}
use Rattle.root_deadlines.proofs.InOrder.{in_order, not_back}

abbrev pub lanes_of : List LaneState → List Lane
lanes_of ws = map (λ (w : LaneState). w.lane) ws

all_among : {X : Type 0} (test : X → Bool) (fs : List Bool) (xs : List X) → list_all test xs ≡ true → list_all test (filled_among fs xs) ≡ true
all_among test [] xs h = refl
all_among test (f ∷ fs) [] h = refl
all_among test (true ∷ fs) (x ∷ xs) h =
    let p = and_parts (test x) (list_all test xs) h in
    and_from (test x) (list_all test (filled_among fs xs)) p.0 (all_among test fs xs p.1)
all_among test (false ∷ fs) (x ∷ xs) h = all_among test fs xs (and_parts (test x) (list_all test xs) h).1

order_among : (fs : List Bool) (ls : List Lane) → in_order ls ≡ true → in_order (filled_among fs ls) ≡ true
order_among [] ls h = refl
order_among (f ∷ fs) [] h = refl
order_among (true ∷ fs) (l ∷ ls) h =
    let p = and_parts (list_all (stands_higher l) ls) (in_order ls) h in
    and_from (list_all (stands_higher l) (filled_among fs ls)) (in_order (filled_among fs ls)) (all_among (stands_higher l) fs ls p.0) (order_among fs ls p.1)
order_among (false ∷ fs) (l ∷ ls) h = order_among fs ls (and_parts (list_all (stands_higher l) ls) (in_order ls) h).1

among_map : {X Y : Type 0} (f : X → Y) (fs : List Bool) (xs : List X) → filled_among fs (map f xs) ≡ map f (filled_among fs xs)
among_map f [] xs = refl
among_map f (b ∷ fs) [] = refl
among_map f (true ∷ fs) (x ∷ xs) = ap (λ ys. f x ∷ ys) (among_map f fs xs)
among_map f (false ∷ fs) (x ∷ xs) = among_map f fs xs

-- the filled lanes are in order, too
pub filled_in_order : (fs : List Bool) (ws : List LaneState) → in_order (lanes_of ws) ≡ true → in_order (lanes_of (filled_among fs ws)) ≡ true
filled_in_order fs ws h = ap in_order (sym (among_map (λ (w : LaneState). w.lane) fs ws)) ∙ order_among fs (lanes_of ws) h

-- no lane is filled where no window is
pub none_filled : (fs : List Bool) (ws : List LaneState) → filled_among fs (lanes_of ws) ≡ [] → filled_among fs ws ≡ []
none_filled fs ws h = none_of (filled_among fs ws) (sym (among_map (λ (w : LaneState). w.lane) fs ws) ∙ h)
  where
    none_of : (us : List LaneState) → lanes_of us ≡ [] → us ≡ []
    none_of [] e = refl
    none_of (u ∷ us) e = absurd cc

-- no window is filled where no lane is
pub none_of_lanes : (fs : List Bool) (ws : List LaneState) → filled_among fs ws ≡ [] → filled_among fs (lanes_of ws) ≡ []
none_of_lanes fs ws h = among_map (λ (w : LaneState). w.lane) fs ws ∙ ap lanes_of h

all_filtered : (test : Lane → Bool) (p : LaneState → Bool) (ws : List LaneState) → list_all test (lanes_of ws) ≡ true → list_all test (lanes_of (filter p ws)) ≡ true
all_filtered test p [] h = refl
all_filtered test p (w ∷ ws) h =
    let parts = and_parts (test w.lane) (list_all test (lanes_of ws)) h in
    let rest = all_filtered test p ws parts.1 in
    elim (p w) as (λ b. list_all test (lanes_of (cond b (w ∷ filter p ws) (filter p ws))) ≡ true) [
      | true ↦ and_from (test w.lane) (list_all test (lanes_of (filter p ws))) parts.0 rest
      | false ↦ rest
    ]

pub filtered_in_order : (p : LaneState → Bool) (ws : List LaneState) → in_order (lanes_of ws) ≡ true → in_order (lanes_of (filter p ws)) ≡ true
filtered_in_order p [] h = refl
filtered_in_order p (w ∷ ws) h =
    let parts = and_parts (list_all (stands_higher w.lane) (lanes_of ws)) (in_order (lanes_of ws)) h in
    let rest = filtered_in_order p ws parts.1 in
    elim (p w) as (λ b. in_order (lanes_of (cond b (w ∷ filter p ws) (filter p ws))) ≡ true) [
      | true ↦ and_from (list_all (stands_higher w.lane) (lanes_of (filter p ws))) (in_order (lanes_of (filter p ws)))
          (all_filtered (stands_higher w.lane) p ws parts.0) rest
      | false ↦ rest
    ]

none_higher : (x : LaneState) (ws : List LaneState) → list_all (stands_higher x.lane) (lanes_of ws) ≡ true → list_any (λ (y : LaneState). stands_higher y.lane x.lane) ws ≡ false
none_higher x [] h = refl
none_higher x (w ∷ ws) h =
    let parts = and_parts (stands_higher x.lane w.lane) (list_all (stands_higher x.lane) (lanes_of ws)) h in
    or_from (stands_higher w.lane x.lane) (list_any (λ (y : LaneState). stands_higher y.lane x.lane) ws) (not_back x.lane w.lane parts.0) (none_higher x ws parts.1)

-- of lanes in order, the highest is the first
pub highest_is_first : (ws : List LaneState) → in_order (lanes_of ws) ≡ true
    → unpreceded (λ (x y : LaneState). stands_higher x.lane y.lane) ws ≡ first_of ws
highest_is_first [] h = refl
highest_is_first (w ∷ ws) h =
    let parts = and_parts (list_all (stands_higher w.lane) (lanes_of ws)) (in_order (lanes_of ws)) h in
    let higher = λ (x y : LaneState). stands_higher x.lane y.lane in
    ap (λ b. cond (not b) (Some w) (find (λ x. not (list_any (λ y. higher y x) (w ∷ ws))) ws))
    (or_from (stands_higher w.lane w.lane) (list_any (λ (y : LaneState). stands_higher y.lane w.lane) ws)
    (higher_irreflexive w.lane)
    (none_higher w ws parts.0))
