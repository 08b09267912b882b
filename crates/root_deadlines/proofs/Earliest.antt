-- One pass over the ten lanes finds the filled lane that is due first.
use Rattle.std.proofs.Common.{◌≡◌, ◌&&◌, ◌||◌, ◌==◌, ◌<◌, nat_lt, suc, arith, subst, inl, inr, ℕ, Contains, is_some, Bool, true, false, cond, List, [], ◌∷◌, length, map, fold, Option, None, Some, option_map, refl, sym, ap, ◌∙◌}
use Rattle.std.specs.Prelude.{slice_get, slice_index}
use Rattle.std.specs.List.{list_all}
use Rattle.std.proofs.lemmas.Bool.{and_parts, cond_both, false≢true}
use Rattle.std.proofs.lemmas.List.{get_or-map}
use Rattle.std.proofs.lemmas.List.FromFn.{get_or-range_with_len}
use Rattle.std.proofs.lemmas.Option.{slice_get-get_or}
use Rattle.std.proofs.Math.ListN.{get_or}
use Rattle.sched_base.specs.declared.buckets.Bucket.TheVariants.{Fg}
use Rattle.bucket_tables.specs.declared.Lane.{Lane}
use Rattle.flat_policy.specs.Laws.Choice.{OrdersMembers, better}
use Rattle.flat_policy.specs.Policy.Queue.{LaneState, empty_flat, lane, timeshare_lanes}
use Rattle.flat_policy.specs.Policy.Windows.{due_before, earliest_of, stands_higher}
use Rattle.flat_policy.proofs.Choice.{chooses_one}
use Rattle.flat_policy.proofs.Members.{contains_cases, contains_here, contains_later, contains_none}
use Rattle.flat_policy.proofs.Orders.{lanes_in_order}
use Rattle.root_deadlines.specs.declared.lanes.Due.{Due}
use Rattle.root_deadlines.specs.Lanes.{AreStatesOf, LaneTable, behind_first, filled_among, first_of}
use Rattle.root_deadlines.specs.Indices.{index_of_lane}
use Rattle.root_deadlines.specs.Sooner.{due_at, passed, sooner_of, sooner_with}
use Rattle.root_deadlines.proofs.InOrder.{in_order, not_back}
use Rattle.root_deadlines.proofs.Tens.{by_ten}

pub behind_length : (fs : List Bool) → length (behind_first fs) ≡ length fs
behind_length [] = refl
behind_length (true ∷ fs) = refl
behind_length (false ∷ fs) = ap (λ n. suc n) (behind_length fs)

-- the pass over flags and lanes with their deadlines, beside each other
abbrev over : List Bool → List Due → Due → Due
over [] ds a = a
over (f ∷ fs) [] a = a
over (f ∷ fs) (d ∷ ds) a = over fs ds (sooner_with f a d)

passed_over : (fs : List Bool) (ds : List ℕ) (a : Due) → length fs ≡ 10 → passed fs ds a ≡ over fs (map (due_at ds) timeshare_lanes) a
passed_over fs ds a ten =
    by_ten (λ gs. passed gs ds a ≡ over gs (map (due_at ds) timeshare_lanes) a) (λ u0 u1 u2 u3 u4 u5 u6 u7 u8 u9. refl) fs ten

-- lanes and deadlines, beside each other
abbrev dues : List Lane → List ℕ → List Due
dues [] ds = []
dues (l ∷ ls) [] = []
dues (l ∷ ls) (d ∷ ds) = record { index = index_of_lane l; deadline = d } ∷ dues ls ds

dues_at : (ds : List ℕ) → length ds ≡ 10 → map (due_at ds) timeshare_lanes ≡ dues timeshare_lanes ds
dues_at ds ten = by_ten (λ es. map (due_at es) timeshare_lanes ≡ dues timeshare_lanes es) (λ a b c d e f g h i j. refl) ds ten

abbrev due_of : LaneState → Due
due_of w = record { index = index_of_lane w.lane; deadline = w.deadline }

dues_of : (ws : List LaneState) → dues (map (λ (w : LaneState). w.lane) ws) (map (λ (w : LaneState). w.deadline) ws) ≡ map due_of ws
dues_of [] = refl
dues_of (w ∷ ws) = ap (λ ds. due_of w ∷ ds) (dues_of ws)

first_alone : (a b : Bool) → (a || (b && false)) ≡ a
first_alone true b = refl
first_alone false true = refl
first_alone false false = refl

-- of two windows in their order, the later one is due before the earlier one by its deadline alone
by_deadline : (x w : LaneState) → stands_higher x.lane w.lane ≡ true → due_before w x ≡ nat_lt w.deadline x.deadline
by_deadline x w higher =
    ap (λ b. nat_lt w.deadline x.deadline || ((w.deadline == x.deadline) && b)) (not_back x.lane w.lane higher)
    ∙ first_alone (nat_lt w.deadline x.deadline) (w.deadline == x.deadline)

-- a pass over windows in their order, from one that stands higher than all of them
over_windows : (fs : List Bool) (ws : List LaneState) (x : LaneState)
    → list_all (stands_higher x.lane) (map (λ (w : LaneState). w.lane) ws) ≡ true → in_order (map (λ (w : LaneState). w.lane) ws) ≡ true
    → Some (over fs (map due_of ws) (due_of x)) ≡ option_map due_of (fold (better due_before) (Some x) (filled_among fs ws))
over_windows [] ws x later order = refl
over_windows (f ∷ fs) [] x later order = refl
over_windows (true ∷ fs) (w ∷ ws) x later order =
    let ls = map (λ (v : LaneState). v.lane) ws in
    let parts = and_parts (list_all (stands_higher w.lane) ls) (in_order ls) order in
    let rest = and_parts (stands_higher x.lane w.lane) (list_all (stands_higher x.lane) ls) later in
    ap (λ b. Some (over fs (map due_of ws) (cond b (due_of w) (due_of x)))) (sym (by_deadline x w rest.0))
    ∙ elim (due_before w x) as (λ b. Some (over fs (map due_of ws) (cond b (due_of w) (due_of x)))
    ≡ option_map due_of (fold (better due_before) (cond b (Some w) (Some x)) (filled_among fs ws))) [
      | true ↦ over_windows fs ws w parts.0 parts.1
      | false ↦ over_windows fs ws x rest.1 parts.1
    ]
over_windows (false ∷ fs) (w ∷ ws) x later order =
    let ls = map (λ (v : LaneState). v.lane) ws in
    over_windows fs ws x (and_parts (stands_higher x.lane w.lane) (list_all (stands_higher x.lane) ls) later).1
    (and_parts (list_all (stands_higher w.lane) ls) (in_order ls) order).1

-- the same from the first that is filled, over those behind it
from_first : (fs : List Bool) (ws : List LaneState) (y : Due) → in_order (map (λ (w : LaneState). w.lane) ws) ≡ true
    → first_of (filled_among fs (map due_of ws)) ≡ Some y
    → Some (over (behind_first fs) (map due_of ws) y) ≡ option_map due_of (fold (better due_before) None (filled_among fs ws))
from_first [] ws y order first = absurd cc
from_first (f ∷ fs) [] y order first = absurd cc
from_first (true ∷ fs) (w ∷ ws) y order first =
    let ls = map (λ (v : LaneState). v.lane) ws in
    let parts = and_parts (list_all (stands_higher w.lane) ls) (in_order ls) order in
    let here : y ≡ due_of w = cc in
    ap (λ d. Some (over fs (map due_of ws) d)) here
    ∙ over_windows fs ws w parts.0 parts.1
from_first (false ∷ fs) (w ∷ ws) y order first =
    let ls = map (λ (v : LaneState). v.lane) ws in
    from_first fs ws y (and_parts (list_all (stands_higher w.lane) ls) (in_order ls) order).1 first

first_map : {X Y : Type 0} (f : X → Y) (fs : List Bool) (xs : List X) → first_of (filled_among fs (map f xs)) ≡ option_map f (first_of (filled_among fs xs))
first_map f [] xs = refl
first_map f (b ∷ fs) [] = refl
first_map f (true ∷ fs) (x ∷ xs) = refl
first_map f (false ∷ fs) (x ∷ xs) = first_map f fs xs

-- the lanes of a list stand at their indices
abbrev Indexed : List Lane → Type 0
Indexed [] = Unit {0}
Indexed (l ∷ ls) = (slice_get timeshare_lanes (index_of_lane l) ≡ Some l) × Indexed ls

ten_indexed : Indexed timeshare_lanes
ten_indexed = (refl, (refl, (refl, (refl, (refl, (refl, (refl, (refl, (refl, (refl, tt))))))))))

indexed_among : (fs : List Bool) (ws : List LaneState) → Indexed (map (λ (w : LaneState). w.lane) ws) → Indexed (map (λ (w : LaneState). w.lane) (filled_among fs ws))
indexed_among [] ws p = tt
indexed_among (f ∷ fs) [] p = tt
indexed_among (true ∷ fs) (w ∷ ws) p = (p.0, indexed_among fs ws p.1)
indexed_among (false ∷ fs) (w ∷ ws) p = indexed_among fs ws p.1

abbrev lane_of_due : Option Due → Option Lane
lane_of_due None = None
lane_of_due (Some d) = slice_get timeshare_lanes d.index

best_indexed : (ws : List LaneState) (x : LaneState) → slice_get timeshare_lanes (index_of_lane x.lane) ≡ Some x.lane → Indexed (map (λ (w : LaneState). w.lane) ws)
    → lane_of_due (option_map due_of (fold (better due_before) (Some x) ws)) ≡ option_map (λ (e : LaneState). e.lane) (fold (better due_before) (Some x) ws)
best_indexed [] x at p = at
best_indexed (w ∷ ws) x at p =
    elim (due_before w x) as (λ b. lane_of_due (option_map due_of (fold (better due_before) (cond b (Some w) (Some x)) ws))
    ≡ option_map (λ (e : LaneState). e.lane) (fold (better due_before) (cond b (Some w) (Some x)) ws)) [
      | true ↦ best_indexed ws w p.0 p.1
      | false ↦ best_indexed ws x at p.1
    ]

any_indexed : (ws : List LaneState) → Indexed (map (λ (w : LaneState). w.lane) ws)
    → lane_of_due (option_map due_of (fold (better due_before) None ws)) ≡ option_map (λ (e : LaneState). e.lane) (fold (better due_before) None ws)
any_indexed [] p = refl
any_indexed (w ∷ ws) p = best_indexed ws w p.0 p.1

-- each number below ten is the index of a lane
pub lane_there : (p : ℕ) → p < 10 → (x : Lane) × (slice_get timeshare_lanes p ≡ Some x) × (index_of_lane x ≡ p)
lane_there p small =
    let fg = lane Fg true in (
      get_or timeshare_lanes p fg,
      slice_get-get_or timeshare_lanes p fg small,
      sym (get_or-map index_of_lane timeshare_lanes p fg 0 small) ∙ get_or-range_with_len 0 10 p 0 small ∙ omega arith,
    )

-- what is among the flagged is among all
among_all : {X : Type 0} (fs : List Bool) (xs : List X) (x : X) → Contains (filled_among fs xs) x → Contains xs x
among_all [] xs x c = absurd (contains_none x c)
among_all (f ∷ fs) [] x c = absurd (contains_none x c)
among_all (true ∷ fs) (y ∷ ys) x c =
    elim (contains_cases y (filled_among fs ys) x c) [
      | inl is ↦ subst (λ z. Contains (y ∷ ys) z) is (contains_here y ys)
      | inr d ↦ contains_later y ys x (among_all fs ys x d)
    ]
among_all (false ∷ fs) (y ∷ ys) x c = contains_later y ys x (among_all fs ys x c)

-- the lane that is due first, by one pass
due_by_scan : (fs : List Bool) (ws : List LaneState) → map (λ (w : LaneState). w.lane) ws ≡ timeshare_lanes
    → fold (better due_before) None (filled_among fs ws) ≡ earliest_of (filled_among fs ws)
due_by_scan fs ws ten =
    let all = (lanes_in_order (record (empty_flat 0) { lanes = ws }) ten).due in
    let order : OrdersMembers due_before (filled_among fs ws) = record {
      irreflexive = λ x c. all.irreflexive x (among_all fs ws x c);
      transitive = λ x y z c d e. all.transitive x y z (among_all fs ws x c) (among_all fs ws y d) (among_all fs ws z e);
      total = λ x y c d. all.total x y (among_all fs ws x c) (among_all fs ws y d);
    } in
    (chooses_one due_before (filled_among fs ws) order).by_scan

earliest_is : (fs : List Bool) (ds : List ℕ) → length fs ≡ 10 → length ds ≡ 10 → (p : ℕ) → p < 10 → slice_get timeshare_lanes p ≡ first_of (filled_among fs timeshare_lanes)
    → (ws : List LaneState) → AreStatesOf (record { filled = fs; deadlines = ds }) ws
    → slice_get timeshare_lanes (passed (behind_first fs) ds (record { index = p; deadline = slice_index ds p })).index ≡ option_map (λ (e : LaneState). e.lane) (earliest_of (filled_among fs ws))
earliest_is fs ds flags numbers p small first ws are =
    let there = lane_there p small in
    let x = there.0 in
    let same : map (due_at ds) timeshare_lanes ≡ map due_of ws =
    dues_at ds numbers
    ∙ ap (λ ls. dues ls ds) (sym are.lanes)
    ∙ ap (λ es. dues (map (λ (w : LaneState). w.lane) ws) es) (sym are.deadlines)
    ∙ dues_of ws in
    let begins : first_of (filled_among fs (map due_of ws)) ≡ Some (due_at ds x) =
    ap (λ es. first_of (filled_among fs es)) (sym same) ∙ first_map (due_at ds) fs timeshare_lanes ∙ ap (option_map (due_at ds)) (sym first ∙ there.1) in
    let rest = behind_first fs in
    ap (λ q. slice_get timeshare_lanes (passed rest ds (record { index = q; deadline = slice_index ds q })).index) (sym there.2)
    ∙ ap (λ (d : Due). slice_get timeshare_lanes d.index) (passed_over rest ds (due_at ds x) (behind_length fs ∙ flags) ∙ ap (λ es. over rest es (due_at ds x)) same)
    ∙ ap lane_of_due (from_first fs ws (due_at ds x) (ap in_order are.lanes) begins)
    ∙ any_indexed (filled_among fs ws) (indexed_among fs ws (subst Indexed (sym are.lanes) ten_indexed))
    ∙ ap (λ o. option_map (λ (e : LaneState). e.lane) o) (due_by_scan fs ws are.lanes)

among_map : {X Y : Type 0} (f : X → Y) (fs : List Bool) (xs : List X) → filled_among fs (map f xs) ≡ map f (filled_among fs xs)
among_map f [] xs = refl
among_map f (b ∷ fs) [] = refl
among_map f (true ∷ fs) (x ∷ xs) = ap (λ ys. f x ∷ ys) (among_map f fs xs)
among_map f (false ∷ fs) (x ∷ xs) = among_map f fs xs

over_none : (fs : List Bool) (es : List Due) (a : Due) → filled_among fs es ≡ [] → over fs es a ≡ a
over_none [] es a none = refl
over_none (f ∷ fs) [] a none = refl
over_none (true ∷ fs) (e ∷ es) a none = absurd cc
over_none (false ∷ fs) (e ∷ es) a none = over_none fs es a none

-- a pass may begin with the first of its lanes
over_first : (fs : List Bool) (es : List Due) (a d : Due) → first_of (filled_among fs es) ≡ Some d → over fs es a ≡ over (behind_first fs) es (sooner_of a d)
over_first [] es a d first = absurd cc
over_first (f ∷ fs) [] a d first = absurd cc
over_first (true ∷ fs) (e ∷ es) a d first =
    let here : d ≡ e = cc in
    ap (λ x. over fs es (sooner_of a x)) (sym here)
over_first (false ∷ fs) (e ∷ es) a d first = over_first fs es a d first

pass_from : (fs : List Bool) (ds : List ℕ) (a : Due) → length fs ≡ 10 → (p : ℕ) → p < 10 → slice_get timeshare_lanes p ≡ first_of (filled_among fs timeshare_lanes)
    → passed fs ds a ≡ passed (behind_first fs) ds (sooner_of a (record { index = p; deadline = slice_index ds p }))
pass_from fs ds a flags p small first =
    let there = lane_there p small in
    let x = there.0 in
    let es = map (due_at ds) timeshare_lanes in
    let begins : first_of (filled_among fs es) ≡ Some (due_at ds x) =
    first_map (due_at ds) fs timeshare_lanes ∙ ap (option_map (due_at ds)) (sym first ∙ there.1) in
    passed_over fs ds a flags
    ∙ over_first fs es a (due_at ds x) begins
    ∙ sym (passed_over (behind_first fs) ds (sooner_of a (due_at ds x)) (behind_length fs ∙ flags))
    ∙ ap (λ q. passed (behind_first fs) ds (sooner_of a (record { index = q; deadline = slice_index ds q }))) there.2

-- where none is first, the pass leaves what was found
pub pass_stays : (fs : List Bool) (ds : List ℕ) (a : Due) → length fs ≡ 10 → filled_among fs timeshare_lanes ≡ [] → passed fs ds a ≡ a
pass_stays fs ds a flags none =
    passed_over fs ds a flags
    ∙ over_none fs (map (due_at ds) timeshare_lanes) a (among_map (due_at ds) fs timeshare_lanes ∙ ap (map (due_at ds)) none)

-- one lane more of a pass, from what the calls ensure
pub one_more : (fs gs : List Bool) (ds : List ℕ) (a d s : Due) (p : ℕ) → length fs ≡ 10 → p < 10 → slice_get timeshare_lanes p ≡ first_of (filled_among fs timeshare_lanes)
    → d ≡ record { index = p; deadline = slice_index ds p } → s ≡ sooner_of a d → gs ≡ behind_first fs → passed gs ds s ≡ passed fs ds a
one_more fs gs ds a d s p ten small first due sooner behind =
    ap (λ hs. passed hs ds s) behind
    ∙ ap (passed (behind_first fs) ds) (sooner ∙ ap (sooner_of a) due)
    ∙ sym (pass_from fs ds a ten p small first)

pub sooner_small : (a d s : Due) → a.index < 10 → d.index < 10 → s ≡ sooner_of a d → s.index < 10
sooner_small a d s x y sooner = subst (λ (e : Due). e.index < 10) (sym sooner) (cond_both (nat_lt d.deadline a.deadline) d a (λ (e : Due). e.index < 10) (λ h. y) (λ h. x))

-- the lane that is due first, from a pass over those behind the highest
pub found_is : (fs : List Bool) (ds : List ℕ) → length fs ≡ 10 → length ds ≡ 10
    → (p : ℕ) → p < 10 → slice_get timeshare_lanes p ≡ first_of (filled_among fs timeshare_lanes) → (rest : List Bool) → rest ≡ behind_first fs
    → (d : Due) → d ≡ passed rest ds (record { index = p; deadline = slice_index ds p }) → (l : Lane) → slice_get timeshare_lanes d.index ≡ Some l
    → (ws : List LaneState) → AreStatesOf (record { filled = fs; deadlines = ds }) ws → Some l ≡ option_map (λ (e : LaneState). e.lane) (earliest_of (filled_among fs ws))
found_is fs ds flags numbers p small first rest behind d pass l at ws are =
    sym at
    ∙ ap (λ (a : Due). slice_get timeshare_lanes a.index) (pass ∙ ap (λ gs. passed gs ds (record { index = p; deadline = slice_index ds p })) behind)
    ∙ earliest_is fs ds flags numbers p small first ws are

-- one lane less is left behind the first
pub fewer : {X : Type 0} (fs : List Bool) (xs : List X) (o : Option X) → o ≡ first_of (filled_among fs xs) → is_some o ≡ true
    → length (filled_among (behind_first fs) xs) < length (filled_among fs xs)
fewer [] xs o first some = absurd (false≢true (sym (ap is_some first) ∙ some))
fewer (f ∷ fs) [] o first some = absurd (false≢true (sym (ap is_some first) ∙ some))
fewer (true ∷ fs) (x ∷ xs) o first some = omega arith
fewer (false ∷ fs) (x ∷ xs) o first some = fewer fs xs o first some

-- none is the first of no list but the empty one
pub first_none : {X : Type 0} (xs : List X) → None ≡ first_of xs → xs ≡ []
first_none [] h = refl
first_none (x ∷ xs) h = absurd cc

pub none_is : (fs : List Bool) (ds : List ℕ) (t : LaneTable) → record { filled = fs; deadlines = ds } ≡ t → None ≡ first_of (filled_among fs timeshare_lanes)
    → (ws : List LaneState) → AreStatesOf t ws
    → None ≡ option_map (λ (e : LaneState). e.lane) (earliest_of (filled_among t.filled ws))
none_is fs ds t view first ws are =
    let none = first ∙ ap (λ (u : LaneTable). first_of (filled_among u.filled timeshare_lanes)) view in
    let lanes : None ≡ option_map (λ (w : LaneState). w.lane) (first_of (filled_among t.filled ws)) =
    none ∙ ap (λ ls. first_of (filled_among t.filled ls)) (sym are.lanes) ∙ first_map (λ (w : LaneState). w.lane) t.filled ws in
    ap (λ us. option_map (λ (e : LaneState). e.lane) (earliest_of us)) (sym (first_none (filled_among t.filled ws) (unmapped (first_of (filled_among t.filled ws)) lanes)))
  where
    unmapped : (o : Option LaneState) → None ≡ option_map (λ (w : LaneState). w.lane) o → None ≡ o
    unmapped None h = refl
    unmapped (Some w) h = absurd cc
