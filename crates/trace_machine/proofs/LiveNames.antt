-- How many names may be away from the queues: no more are blocked, ended and in one hand than were made.
use Rattle.std.proofs.Common.{◌≡◌, ℕ, ◌==◌, ◌||◌, ◌+◌, ◌≤◌, true, false, cond, List, [], ◌∷◌, ◌++◌, Option, Some, count_by, length, map, refl, sym, ap, ap₂, ◌∙◌, inl, inr, arith, eq-eqb, eqb}
use Rattle.std.specs.List.{AllByRecursion, IsDistinct, list_any}
use Rattle.std.specs.Set.{is_member}
use Rattle.std.proofs.lemmas.Bool.{cases_Bool, cases_eq, cases_lt, ne_eqb, or_parts}
use Rattle.std.proofs.lemmas.Cmp.{nat_eq_equiv}
use Rattle.std.proofs.lemmas.List.{get_or_past, length-append, length-map}
use Rattle.std.proofs.lemmas.List.Sums.{get_or-le-sum_by, sum_by-append, sum_by-cons}
use Rattle.std.proofs.lemmas.Map.Made.{length-le_from_is_member}
use Rattle.sched_base.specs.declared.Facts.{Facts}
use Rattle.flat_policy.specs.Laws.Counts.{EachNameOnce}
use Rattle.flat_policy.specs.Policy.Machine.{MachineState, Sleeper, Yard, count_held, count_in_yard, hand_at, holds, live_count, no_hand, place_count}
use Rattle.trace_machine.proofs.Found.{counted_from_any, none_from_uncounted}
use Rattle.trace_machine.proofs.Standing.{counted_once}

same_test : (q n : ℕ) → eqb q n ≡ (n == q)
same_test q n =
    elim (cases_eq q n) [
      | inl is ↦ eq-eqb q n is ∙ sym (eq-eqb n q (sym is))
      | inr other ↦ ne_eqb q n other ∙ sym (ne_eqb n q (λ e. other (sym e)))
    ]

any_member : (q : ℕ) (ns : List ℕ) → is_member eqb ns q ≡ list_any (λ n. n == q) ns
any_member q [] = refl
any_member q (n ∷ ns) = ap₂ (λ b c. b || c) (same_test q n) (any_member q ns)

apart_from_none : (n : ℕ) (ns : List ℕ) → list_any (λ m. m == n) ns ≡ false → AllByRecursion (λ m. eqb n m ≡ false) ns
apart_from_none n [] none = tt
apart_from_none n (m ∷ ms) none =
    let parts = or_parts (m == n) (list_any (λ k. k == n) ms) none in
    (same_test n m ∙ parts.0, apart_from_none n ms parts.1)

-- numbers that each stand once at most are distinct
distinct : (ns : List ℕ) → ((q : ℕ) → count_by (λ n. n == q) ns ≤ 1) → IsDistinct eqb ns
unfolding IsDistinct
distinct [] few = tt
distinct (n ∷ ns) few = (
  apart_from_none n ns (none_from_uncounted (λ m. m == n) ns
      (omega (arith, few n, sum_by-cons (λ m. cond (m == n) 1 0) n ns, ap {B = ℕ} (λ b. cond b 1 0) (eq-eqb n n refl)))),
  distinct ns (λ q. omega (arith, few q, sum_by-cons (λ m. cond (m == q) 1 0) n ns)),
)

-- numbers that each stand once at most, and all in another list, are no more than it has
pub no_more : (ns ms : List ℕ) → ((q : ℕ) → count_by (λ n. n == q) ns ≤ 1) → ((q : ℕ) → 1 ≤ count_by (λ n. n == q) ns → list_any (λ n. n == q) ms ≡ true)
    → length ns ≤ length ms
no_more ns ms few there =
    length-le_from_is_member {eq = eqb} nat_eq_equiv ns ms (distinct ns few)
    (λ q is. any_member q ms ∙ there q (counted_from_any (λ n. n == q) ns (sym (any_member q ns) ∙ is)))

-- the names in the yard
abbrev pub name_of : Sleeper → ℕ
name_of w = w.facts.name

abbrev pub names_away : Yard → List ℕ
names_away y = map name_of y.blocked ++ y.ended

count_names : (q : ℕ) (ws : List Sleeper) → count_by (λ n. n == q) (map name_of ws) ≡ count_by (λ (w : Sleeper). w.facts.name == q) ws
count_names q [] = refl
count_names q (w ∷ ws) =
    omega (
      arith,
      count_names q ws,
      sum_by-cons (λ n. cond (n == q) 1 0) w.facts.name (map name_of ws),
      sum_by-cons (λ (x : Sleeper). cond (x.facts.name == q) 1 0) w ws,
    )

pub count_away : (q : ℕ) (y : Yard) → count_by (λ n. n == q) (names_away y) ≡ count_in_yard q y
count_away q y = omega (arith, sum_by-append (λ n. cond (n == q) 1 0) (map name_of y.blocked) y.ended, count_names q y.blocked)

-- a name that is counted was made
pub made_where_counted : (g : MachineState) (name : ℕ) → EachNameOnce g → 1 ≤ place_count g name → list_any (λ n. n == name) g.yard.made ≡ true
made_where_counted g name once some =
    elim (cases_Bool (list_any (λ n. n == name) g.yard.made)) [
      | inl made ↦ made
      | inr never ↦ absurd (omega (arith, once name, some, ap {B = ℕ} (λ b. cond b 1 0) never))
    ]

-- no more names are blocked and ended than were made
pub away_within : (g : MachineState) → EachNameOnce g → length g.yard.blocked + length g.yard.ended ≤ length g.yard.made
away_within g once =
    let y : Yard = g.yard in
    let few = no_more (names_away y) y.made
    (λ q. omega (arith, count_away q y, counted_once g q once))
    (λ q some. made_where_counted g q once (omega (arith, some, count_away q y))) in
    omega (arith, few, length-append (map name_of y.blocked) y.ended, length-map y.blocked name_of)

-- no more names are blocked than live
pub blocked_within : (g : MachineState) → EachNameOnce g → length g.yard.blocked ≤ live_count g.yard
blocked_within g once = let few = away_within g once in omega (arith, few)

-- what a hand and the yard count is within what all places count
pub hand_and_yard : (g : MachineState) (a name : ℕ) → count_held name (hand_at g a) + count_in_yard name g.yard ≤ place_count g name
hand_and_yard g a name =
    elim (cases_lt a (length g.hands)) [
      | inl within ↦ omega (arith, get_or-le-sum_by (count_held name) g.hands a no_hand within)
      | inr past ↦ omega (arith, ap (count_held name) (get_or_past g.hands a no_hand past))
    ]

-- and no more with the thread of a hand
pub held_within : (g : MachineState) (a : ℕ) (t : Facts) → EachNameOnce g → (hand_at g a).thread ≡ Some t
    → length g.yard.blocked + length g.yard.ended + 1 ≤ length g.yard.made
held_within g a t once holding =
    let y : Yard = g.yard in
    let held : (q : ℕ) → count_by (λ n. n == q) (t.name ∷ names_away y) ≤ place_count g q =
    λ q. omega (
      arith,
      sum_by-cons (λ n. cond (n == q) 1 0) t.name (names_away y),
      count_away q y,
      hand_and_yard g a q,
      ap {B = ℕ} (λ (o : Option Facts). cond (holds q o) 1 0) holding,
    ) in
    let few = no_more (t.name ∷ names_away y) y.made
    (λ q. omega (arith, held q, counted_once g q once))
    (λ q some. made_where_counted g q once (omega (arith, some, held q))) in
    omega (arith, few, length-append (map name_of y.blocked) y.ended, length-map y.blocked name_of)
