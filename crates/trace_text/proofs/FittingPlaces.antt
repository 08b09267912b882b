-- The numbers of the place of a name are in the ranges of lines, and so are the clusters of an aim.
use Rattle.std.proofs.Common.{◌≡◌, ◌<◌, ◌≤◌, ◌+◌, ◌==◌, ◌&&◌, ◌||◌, ℕ, zero, suc, All, Bool, IfSome, IsTrue, true, false, List, [], ◌∷◌, None, Option, Some, arith, cond, inl, inr, is_some, length, refl, unwrap_or}
use Rattle.std.specs.List.{list_any}
use Rattle.std.specs.Option.{option_map_or}
use Rattle.std.proofs.lemmas.Bool.{and_parts, cond_both, eqb-true, false≢true, or_cases}
use Rattle.std.proofs.lemmas.List.Elements.{All-cons, All-filter, All-nil}
use Rattle.sched_base.specs.declared.Facts.{Facts}
use Rattle.sched_base.specs.declared.Place.{Place}
use Rattle.flat_policy.specs.declared.setup.EdgeSpec.{EdgeSpec}
use Rattle.flat_policy.specs.Laws.Sound.{FittingPrefersAmong, Sound}
use Rattle.flat_policy.specs.Policy.Aim.{Look, MayEnter, may_enter_by, needed, needed_by, not_looked, movable}
use Rattle.flat_policy.specs.Policy.BuiltSetups.{IsEdge, IsSetup}
use Rattle.flat_policy.specs.Policy.ClusterSteps.{named_entry}
use Rattle.flat_policy.specs.Policy.Machine.{Hand, MachineState, Yard, held_by, holds, in_yard, is_blocked, place_of, queued_in}
use Rattle.flat_policy.specs.Policy.Queue.{Flat}
use Rattle.flat_policy.specs.Policy.Setup.{SetupParts, cluster_count, edge_between, migrates, numbers_below, numbers_from}
use Rattle.flat_policy.specs.Policy.Threads.{ThreadFits}
use Rattle.trace_text.specs.Writing.{PlaceFits}
use Rattle.trace_text.proofs.Found.{found_has, found_passes}
use Rattle.sched_base.specs.declared.Place.TheVariants as places

-- ---- places

queue_place : (ss : List Flat) (c name : ℕ) → c + length ss ≤ 16 → IfSome (queued_in ss c name) PlaceFits
queue_place [] c name few = tt
queue_place (s ∷ ss) c name few =
    let here : c ≤ 15 = omega (arith, few) in
    cond_both (is_some (named_entry s name)) (Some (places.Queue c)) (queued_in ss (c + 1) name) (λ o. IfSome o PlaceFits)
    (λ e. here)
    (λ e. queue_place ss (c + 1) name (omega (arith, few)))

hand_place : (hs : List Hand) (a name : ℕ) → a + length hs ≤ 16 → IfSome (held_by hs a name) PlaceFits
hand_place [] a name few = tt
hand_place (h ∷ hs) a name few =
    let here : a ≤ 15 = omega (arith, few) in
    cond_both (holds name h.thread) (Some (places.Hand a)) (held_by hs (a + 1) name) (λ o. IfSome o PlaceFits)
    (λ e. here)
    (λ e. hand_place hs (a + 1) name (omega (arith, few)))

yard_place : (y : Yard) (name : ℕ) → PlaceFits (in_yard y name)
yard_place y name =
    let ended : Bool = list_any (λ n. n == name) y.ended in
    cond_both (is_blocked y name) places.Blocked (cond ended places.Ended places.Nowhere) PlaceFits
    (λ e. tt)
    (λ e. cond_both ended places.Ended places.Nowhere PlaceFits (λ f. tt) (λ f. tt))

either_place : (o : Option Place) (other : Place) → IfSome o PlaceFits → PlaceFits other → PlaceFits (unwrap_or o other)
either_place None other first second = second
either_place (Some p) other first second = first

pub place_fits : (setup : SetupParts) (g : MachineState) (name : ℕ) → IsSetup setup → Sound setup g → PlaceFits (place_of g name)
place_fits setup g name is sound =
    either_place (queued_in g.flats 0 name) (unwrap_or (held_by g.hands 0 name) (in_yard g.yard name))
    (queue_place g.flats 0 name (omega (arith, sound.flats_length, is.clusters_most)))
    (either_place (held_by g.hands 0 name) (in_yard g.yard name)
    (hand_place g.hands 0 name (omega (arith, sound.hands_length, is.actors_most)))
    (yard_place g.yard name))

-- ---- clusters

-- an edge that is there ends at one of the clusters
edge_ends : (count from to : ℕ) (o : Option EdgeSpec) → IfSome o (IsEdge count) → IfSome o (λ (e : EdgeSpec). ((e.from == from) && (e.to == to)) ≡ true)
    → option_map_or (λ (e : EdgeSpec). e.migrate) o false ≡ true → to < count
edge_ends count from to None is passes moves = absurd (false≢true moves)
edge_ends count from to (Some e) is passes moves =
    let same = eqb-true e.to to (and_parts (e.from == from) (e.to == to) passes).1 in
    omega (arith, same, is.to_below)

moves_among : (setup : SetupParts) (from to : ℕ) → IsSetup setup → migrates setup from to ≡ true → to < cluster_count setup
moves_among setup from to is moves =
    let there : EdgeSpec → Bool = λ e. (e.from == from) && (e.to == to) in
    edge_ends (cluster_count setup) from to (edge_between setup from to)
    (found_has (IsEdge (cluster_count setup)) there setup.edges is.edges)
    (found_passes there setup.edges)
    moves

enters_among_by : (setup : SetupParts) (bound : Option ℕ) (prefer c : ℕ) → IsSetup setup → ((b : ℕ) → bound ≡ Some b → b < cluster_count setup) → prefer < cluster_count setup
    → IsTrue (may_enter_by setup bound prefer c) → c < cluster_count setup
enters_among_by setup (Some b) prefer c is bound preferred may = let same = eqb-true c b may in let below = bound b refl in omega (arith, same, below)
enters_among_by setup None prefer c is bound preferred may =
    elim (or_cases (c == prefer) (migrates setup prefer c) may) [
      | inl e ↦ (let same = eqb-true c prefer e in omega (arith, same, preferred))
      | inr moves ↦ moves_among setup prefer c is moves
    ]

-- a cluster that a thread may enter is there
pub enters_among : (setup : SetupParts) (t : Facts) (c : ℕ) → FittingPrefersAmong → IsSetup setup → ThreadFits setup t → MayEnter setup t c → c < cluster_count setup
enters_among setup t c prefers is fits may = enters_among_by setup t.bound t.prefer c is fits.bound (prefers setup t is fits) may

numbers_among : (count first n : ℕ) → first + n ≤ count → All (λ c. c < count) (numbers_from first n)
numbers_among count first zero few = All-nil (λ c. c < count)
numbers_among count first (suc n) few =
    let here : first < count = omega (arith, few) in
    All-cons (λ c. c < count) first (numbers_from (suc first) n) here (numbers_among count (suc first) n (omega (arith, few)))

needed_among_by : (setup : SetupParts) (prefer : ℕ) (to : List ℕ) → All (λ c. c < cluster_count setup) (needed_by setup prefer to)
needed_among_by setup prefer [] = All-nil (λ c. c < cluster_count setup)
needed_among_by setup prefer (j ∷ js) =
    All-filter (λ c. (c == prefer) || migrates setup prefer c) (λ c. c < cluster_count setup) (numbers_below (cluster_count setup))
    (numbers_among (cluster_count setup) 0 (cluster_count setup) (omega arith))

-- the clusters that an aim needs to have been looked at are there
pub needed_among : (setup : SetupParts) (t : Facts) → All (λ c. c < cluster_count setup) (needed setup t)
needed_among setup t =
    cond_both (is_some t.bound) [] (needed_by setup t.prefer (movable setup t.prefer)) (All (λ c. c < cluster_count setup))
    (λ e. All-nil (λ c. c < cluster_count setup))
    (λ e. needed_among_by setup t.prefer (movable setup t.prefer))

pub missing_among : (setup : SetupParts) (looks : List (Option Look)) (t : Facts) → IfSome (not_looked setup looks t) (λ c. c < cluster_count setup)
missing_among setup looks t = found_has (λ c. c < cluster_count setup) _ (needed setup t) (needed_among setup t)
