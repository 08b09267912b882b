-- Before a held thread enters a queue it has room.
use Rattle.std.proofs.Common.{◌≡◌, ℕ, ◌==◌, ◌+◌, ◌≤◌, ◌<◌, cond, List, [], ◌∷◌, ◌++◌, Option, Some, count_by, length, map, refl, ap, inl, inr, arith}
use Rattle.std.proofs.lemmas.Bool.{cases_lt}
use Rattle.std.proofs.lemmas.List.{get_or_past, length-append, length-map}
use Rattle.std.proofs.lemmas.List.Sums.{get_or-le-sum_by, sum_by-append, sum_by-cons}
use Rattle.sched_base.specs.declared.Facts.{Facts}
use Rattle.flat_policy.specs.Laws.Counts.{EachNameOnce}
use Rattle.flat_policy.specs.Policy.Machine.{MachineState, Yard, count_held, count_in_yard, count_queued, flat_at, hand_at, holds, no_hand, place_count}
use Rattle.flat_policy.specs.Policy.Queue.{Flat, Queued, empty_flat}
use Rattle.trace_machine.specs.Acting.{IsKept}
use Rattle.trace_machine.specs.Machines.{MachineView}
use Rattle.trace_machine.specs.Parts.{cluster_at, hand_of, state_of}
use Rattle.trace_machine.proofs.LiveNames.{count_away, hand_and_yard, made_where_counted, name_of, names_away, no_more}
use Rattle.trace_machine.proofs.Setting.{flat_here}
use Rattle.trace_machine.proofs.Standing.{counted_once}

abbrev name_in : Queued → ℕ
name_in e = e.facts.name

count_entries : (q : ℕ) (es : List Queued) → count_by (λ n. n == q) (map name_in es) ≡ count_by (λ (e : Queued). e.facts.name == q) es
count_entries q [] = refl
count_entries q (e ∷ es) =
    omega (
      arith,
      count_entries q es,
      sum_by-cons (λ n. cond (n == q) 1 0) e.facts.name (map name_in es),
      sum_by-cons (λ (x : Queued). cond (x.facts.name == q) 1 0) e es,
    )

-- what a queue, a hand and the yard count is within what all places count
three_places : (g : MachineState) (c a name : ℕ) → count_queued name (flat_at g c) + count_held name (hand_at g a) + count_in_yard name g.yard ≤ place_count g name
three_places g c a name =
    elim (cases_lt c (length g.flats)) [
      | inl within ↦ elim (cases_lt a (length g.hands)) [
        | inl there ↦ omega (arith, get_or-le-sum_by (count_queued name) g.flats c (empty_flat 0) within, get_or-le-sum_by (count_held name) g.hands a no_hand there)
        | inr past ↦ omega (arith, get_or-le-sum_by (count_queued name) g.flats c (empty_flat 0) within, ap (count_held name) (get_or_past g.hands a no_hand past))
      ]
      | inr past ↦ omega (arith, ap (count_queued name) (get_or_past g.flats c (empty_flat 0) past), hand_and_yard g a name)
    ]

-- no more names are in a queue, in a hand, and ended than were made
queued_within : (g : MachineState) (c a : ℕ) (t : Facts) → EachNameOnce g → (hand_at g a).thread ≡ Some t
    → length (flat_at g c).entries + length g.yard.ended + 1 ≤ length g.yard.made
queued_within g c a t once holding =
    let y : Yard = g.yard in
    let es : List Queued = (flat_at g c).entries in
    let ns : List ℕ = map name_in es ++ names_away y in
    let counts : (q : ℕ) → count_by (λ n. n == q) (t.name ∷ ns) ≤ place_count g q =
    λ q. omega (
      arith,
      sum_by-cons (λ n. cond (n == q) 1 0) t.name ns,
      sum_by-append (λ n. cond (n == q) 1 0) (map name_in es) (names_away y),
      count_entries q es,
      count_away q y,
      three_places g c a q,
      ap {B = ℕ} (λ (o : Option Facts). cond (holds q o) 1 0) holding,
    ) in
    let few = no_more (t.name ∷ ns) y.made
    (λ q. omega (arith, counts q, counted_once g q once))
    (λ q some. made_where_counted g q once (omega (arith, some, counts q))) in
    omega (arith, few, length-append (map name_in es) (names_away y), length-map es name_in, length-append (map name_of y.blocked) y.ended)

-- fewer threads are queued than may live, where a hand holds one
pub room_to_enter : (v : MachineView) (y : Yard) (a c : ℕ) (t : Facts) → IsKept v.parts.setup (state_of v.parts y) → (hand_of v.parts a).thread ≡ Some t
    → length (cluster_at v.parts c).flat.entries < v.parts.setup.threads
room_to_enter v y a c t kept holding =
    omega (
      arith,
      queued_within (state_of v.parts y) c a t kept.once holding,
      kept.within.live,
      ap (λ (s : Flat). length s.entries) (flat_here v.parts y c),
    )
