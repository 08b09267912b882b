-- Where names stand in a machine in code, and what the policy says of them.
use Rattle.std.proofs.Common.{◌≡◌, ℕ, ◌==◌, ◌&&◌, ◌+◌, ◌≤◌, Bool, false, cond, Contains, List, [], ◌∷◌, Option, Some, None, count_by, is_some, length, sum_by, unwrap_or, refl, sym, ap, ◌∙◌, subst, inl, inr, arith, eq-eqb}
use Rattle.std.specs.List.{list_any}
use Rattle.std.proofs.lemmas.Bool.{cases_Bool, cases_lt, cond-false, cond-true}
use Rattle.std.proofs.lemmas.List.{get_or_past}
use Rattle.std.proofs.lemmas.List.Sums.{get_or-le-sum_by, sum_by-cons}
use Rattle.sched_base.specs.declared.Facts.{Facts}
use Rattle.sched_base.specs.declared.Place.{Place}
use Rattle.sched_base.specs.declared.Place.TheVariants as places
use Rattle.flat_policy.specs.Laws.Counts.{EachNameOnce, RunsKeepCounts}
use Rattle.flat_policy.specs.Laws.Places.{PlaceIsWhereItStands}
use Rattle.flat_policy.specs.Policy.Clusters.{standing_among}
use Rattle.flat_policy.specs.Policy.ClusterSteps.{named_entry}
use Rattle.flat_policy.specs.Policy.Machine.{Hand, MachineState, Sleeper, Yard, count_at, count_held, count_queued, held_by, holds, in_yard, is_blocked, no_hand, place_count, place_of, queued_in}
use Rattle.flat_policy.specs.Policy.Queue.{Flat, Queued, empty_flat}
use Rattle.trace_machine.specs.declared.names.Standing.{Standing}
use Rattle.trace_machine.specs.declared.names.Standing.TheVariants as standings
use Rattle.trace_machine.specs.declared.yard.Resting.{Resting}
use Rattle.trace_machine.specs.Machines.{HasYard, MachineView, MeansOver, StandsThere}
use Rattle.trace_machine.specs.Parts.{cluster_at, state_of}
use Rattle.trace_machine.specs.Yards.{place_in, sleeper_in, standing_of}
use Rattle.trace_machine.proofs.Found.{contains_here, contains_later, counted_from_any, found_none, member_counted, none_from_uncounted}
use Rattle.trace_machine.proofs.Setting.{flat_here}

-- what is known of a machine's names: its yard, where each name stands, that each is in one place, and that this is the place that is told
pub record KnowsPlaces (v : MachineView) (y : Yard) : Type 0 where
  pub yard : HasYard v y
  pub names : (name : ℕ) → StandsThere v y name (standing_of v.names name)
  pub once : EachNameOnce (state_of v.parts y)
  pub law : PlaceIsWhereItStands

-- it is known of each machine in code, by the laws
pub knows_places : (v : MachineView) (y : Yard) → MeansOver v y → RunsKeepCounts → PlaceIsWhereItStands → KnowsPlaces v y
knows_places v y m counts law = record {
  yard = m.yard;
  names = m.names;
  once = counts v.parts.setup m.history.0 (state_of v.parts y) m.history.1;
  law = law;
}

-- an entry that stands in a slot is one of the entries
pub standing_member : (slot arrival : ℕ) (es : List Queued) (slots : List ℕ) (e : Queued) → standing_among slot arrival es slots ≡ Some e → Contains es e
standing_member slot arrival [] slots e is = grind arith
standing_member slot arrival (x ∷ xs) [] e is = grind arith
standing_member slot arrival (x ∷ xs) (k ∷ ks) e is =
    let test : Bool = (k == slot) && (x.arrival == arrival) in
    elim (cases_Bool test) [
      | inl here ↦ (let same : x ≡ e = grind (arith, sym (cond-true test (Some x) (standing_among slot arrival xs ks) here) ∙ is) in
          subst (λ z. Contains (x ∷ xs) z) same (contains_here x xs))
      | inr other ↦ contains_later x xs e (standing_member slot arrival xs ks e (sym (cond-false test (Some x) (standing_among slot arrival xs ks) other) ∙ is))
    ]

-- a name that stands somewhere is counted at the place that its standing names
stands_counted : (v : MachineView) (y : Yard) (name : ℕ) (s : Standing) → HasYard v y → StandsThere v y name (Some s) → 1 ≤ count_at (state_of v.parts y) (place_in (Some s)) name
stands_counted v y name (standings.Queued t) yard there =
    let e : Queued = there.1.0 in
    let c = standing_member t.slot t.arrival (cluster_at v.parts t.cluster).flat.entries (cluster_at v.parts t.cluster).slots e there.1.1 in
    subst (λ (s : Flat). 1 ≤ count_queued name s) (sym (flat_here v.parts y t.cluster))
    (member_counted (λ (q : Queued). q.facts.name == name) (cluster_at v.parts t.cluster).flat.entries e c (eq-eqb e.facts.name name there.1.2))
stands_counted v y name (standings.Held a) yard there =
    let t : Facts = there.1.0 in
    omega (arith, ap {B = ℕ} (λ (o : Option Facts). cond (holds name o) 1 0) there.1.1, ap {B = ℕ} (λ b. cond b 1 0) (eq-eqb t.name name there.1.2))
stands_counted v y name (standings.Blocked slot) yard there =
    let w : Resting = there.0 in
    member_counted (λ (s : Sleeper). s.facts.name == name) y.blocked (sleeper_in w) (yard.blocked slot w there.1) (eq-eqb w.thread.name name there.2)
stands_counted v y name standings.Ended yard there = counted_from_any (λ n. n == name) y.ended there

-- no more is counted at one place than anywhere
pub within_all : (g : MachineState) (p : Place) (name : ℕ) → count_at g p name ≤ place_count g name
within_all g (places.Queue c) name =
    elim (cases_lt c (length g.flats)) [
      | inl within ↦ omega (arith, get_or-le-sum_by (count_queued name) g.flats c (empty_flat 0) within)
      | inr past ↦ omega (arith, ap (count_queued name) (get_or_past g.flats c (empty_flat 0) past))
    ]
within_all g (places.Hand a) name =
    elim (cases_lt a (length g.hands)) [
      | inl within ↦ omega (arith, get_or-le-sum_by (count_held name) g.hands a no_hand within)
      | inr past ↦ omega (arith, ap (count_held name) (get_or_past g.hands a no_hand past))
    ]
within_all g places.Blocked name = omega arith
within_all g places.Ended name = omega arith
within_all g places.Nowhere name = omega arith

-- a name that is counted nowhere is told to be nowhere
queued_nowhere : (ss : List Flat) (c name : ℕ) → sum_by (count_queued name) ss ≡ 0 → queued_in ss c name ≡ None
queued_nowhere [] c name none = refl
queued_nowhere (s ∷ ss) c name none =
    let sums = sum_by-cons (count_queued name) s ss in
    let unnamed : is_some (named_entry s name) ≡ false = ap is_some (found_none (λ (e : Queued). e.facts.name == name) s.entries (omega (arith, none, sums))) in
    cond-false (is_some (named_entry s name)) (Some (places.Queue c)) (queued_in ss (c + 1) name) unnamed ∙ queued_nowhere ss (c + 1) name (omega (arith, none, sums))

held_nowhere : (hs : List Hand) (a name : ℕ) → sum_by (count_held name) hs ≡ 0 → held_by hs a name ≡ None
held_nowhere [] a name none = refl
held_nowhere (h ∷ hs) a name none =
    let sums = sum_by-cons (count_held name) h hs in
    elim (cases_Bool (holds name h.thread)) [
      | inl e ↦ absurd (omega (arith, none, sums, ap {B = ℕ} (λ b. cond b 1 0) e))
      | inr e ↦ cond-false (holds name h.thread) (Some (places.Hand a)) (held_by hs (a + 1) name) e ∙ held_nowhere hs (a + 1) name (omega (arith, none, sums))
    ]

yard_nowhere : (y : Yard) (name : ℕ) → count_by (λ (w : Sleeper). w.facts.name == name) y.blocked ≡ 0 → count_by (λ n. n == name) y.ended ≡ 0 → in_yard y name ≡ places.Nowhere
yard_nowhere y name awake alive =
    cond-false (is_blocked y name) places.Blocked (cond (list_any (λ n. n == name) y.ended) places.Ended places.Nowhere) (none_from_uncounted (λ (w : Sleeper). w.facts.name == name) y.blocked awake)
    ∙ cond-false (list_any (λ n. n == name) y.ended) places.Ended places.Nowhere (none_from_uncounted (λ n. n == name) y.ended alive)

place_nowhere : (g : MachineState) (name : ℕ) → place_count g name ≡ 0 → place_of g name ≡ places.Nowhere
place_nowhere g name none =
    ap (λ o. unwrap_or o (unwrap_or (held_by g.hands 0 name) (in_yard g.yard name))) (queued_nowhere g.flats 0 name (omega (arith, none)))
    ∙ ap (λ o. unwrap_or o (in_yard g.yard name)) (held_nowhere g.hands 0 name (omega (arith, none)))
    ∙ yard_nowhere g.yard name (omega (arith, none)) (omega (arith, none))

-- a name is counted once at most
pub counted_once : (g : MachineState) (name : ℕ) → EachNameOnce g → place_count g name ≤ 1
counted_once g name once =
    elim (cases_Bool (list_any (λ n. n == name) g.yard.made)) [
      | inl made ↦ omega (arith, once name, ap {B = ℕ} (λ b. cond b 1 0) made)
      | inr never ↦ omega (arith, once name, ap {B = ℕ} (λ b. cond b 1 0) never)
    ]

-- the place that is told of a name is that of its standing
place_by : (v : MachineView) (y : Yard) → KnowsPlaces v y → (name : ℕ) (st : Option Standing) → StandsThere v y name st → place_of (state_of v.parts y) name ≡ place_in st
place_by v y k name None there =
    place_nowhere (state_of v.parts y) name (k.once name ∙ ap {B = ℕ} (λ b. cond b 1 0) there)
place_by v y k name (Some s) there =
    k.law (state_of v.parts y) (place_in (Some s)) name (counted_once (state_of v.parts y) name k.once) (stands_counted v y name s k.yard there)

pub place_is : (v : MachineView) (y : Yard) → KnowsPlaces v y → (name : ℕ) → place_of (state_of v.parts y) name ≡ place_in (standing_of v.names name)
place_is v y k name = place_by v y k name (standing_of v.names name) (k.names name)

-- a name was made exactly where it stands somewhere
used_by : (v : MachineView) (y : Yard) → KnowsPlaces v y → (name : ℕ) (st : Option Standing) → StandsThere v y name st → list_any (λ n. n == name) y.made ≡ is_some st
used_by v y k name None there = there
used_by v y k name (Some s) there =
    elim (cases_Bool (list_any (λ n. n == name) y.made)) [
      | inl made ↦ made
      | inr never ↦ absurd (omega (
        arith,
        stands_counted v y name s k.yard there,
        within_all (state_of v.parts y) (place_in (Some s)) name,
        k.once name,
        ap {B = ℕ} (λ b. cond b 1 0) never,
      ))
    ]

pub used_is : (v : MachineView) (y : Yard) → KnowsPlaces v y → (name : ℕ) → list_any (λ n. n == name) y.made ≡ is_some (standing_of v.names name)
used_is v y k name = used_by v y k name (standing_of v.names name) (k.names name)
