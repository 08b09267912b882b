-- What the policy finds by a name: its entry, its hand, its sleeper, and the refusals of a pull and a wake.
use Rattle.std.proofs.Common.{◌≡◌, ◌≢◌, ℕ, ◌==◌, ◌≤◌, Bool, true, false, not, cond, Option, Some, None, is_none, is_some, refl, sym, ap, ◌∙◌, subst, inl, inr, arith, eq-eqb}
use Rattle.std.proofs.lemmas.Bool.{cases_eq, ne_eqb}
use Rattle.link_arena.specs.Arena.{value_at}
use Rattle.sched_base.specs.declared.Answer.TheVariants as answers
use Rattle.sched_base.specs.declared.Facts.{Facts}
use Rattle.sched_base.specs.declared.Place.TheVariants as places
use Rattle.sched_base.specs.declared.Ticket.{Ticket}
use Rattle.flat_policy.specs.Policy.ClusterSteps.{named_entry}
use Rattle.flat_policy.specs.Policy.Machine.{Sleeper, Yard, count_queued, flat_at, holds, is_blocked, not_blocked, not_queued, refuse, sleeper_of}
use Rattle.flat_policy.specs.Policy.Queue.{Flat, Queued}
use Rattle.trace_machine.specs.declared.names.Standing.{Standing}
use Rattle.trace_machine.specs.declared.names.Standing.TheVariants as standings
use Rattle.trace_machine.specs.declared.yard.Resting.{Resting}
use Rattle.trace_machine.specs.Machines.{MachineView, StandsThere}
use Rattle.trace_machine.specs.Parts.{IsQueuedAs, cluster_at, hand_of, state_of}
use Rattle.trace_machine.specs.Yards.{place_in, sleeper_in, slot_in, standing_of, is_queued_at}
use Rattle.trace_machine.proofs.Found.{any_from_counted, counted, found_alone, found_none, member_counted}
use Rattle.trace_machine.proofs.Setting.{flat_here}
use Rattle.trace_machine.proofs.Standing.{KnowsPlaces, counted_once, place_is, standing_member, within_all}

-- the standing that a place is of
in_queue : (st : Option Standing) (c : ℕ) → place_in st ≡ places.Queue c → (t : Ticket) × (st ≡ Some (standings.Queued t)) × (t.cluster ≡ c)
in_queue None c e = absurd (cc)
in_queue (Some (standings.Queued t)) c e = (t, refl, cc)
in_queue (Some (standings.Held a)) c e = absurd (cc)
in_queue (Some (standings.Blocked slot)) c e = absurd (cc)
in_queue (Some standings.Ended) c e = absurd (cc)

in_hand : (st : Option Standing) (a : ℕ) → place_in st ≡ places.Hand a → st ≡ Some (standings.Held a)
in_hand None a e = absurd (cc)
in_hand (Some (standings.Queued t)) a e = absurd (cc)
in_hand (Some (standings.Held b)) a e = (let same : b ≡ a = cc in ap (λ n. Some (standings.Held n)) same)
in_hand (Some (standings.Blocked slot)) a e = absurd (cc)
in_hand (Some standings.Ended) a e = absurd (cc)

-- whether a standing is one in the yard
abbrev pub is_resting : Option Standing → Bool
is_resting None = false
is_resting (Some (standings.Queued t)) = false
is_resting (Some (standings.Held a)) = false
is_resting (Some (standings.Blocked slot)) = true
is_resting (Some standings.Ended) = false

-- a standing is in the yard exactly where it names a slot
pub resting_is : (st : Option Standing) → is_resting st ≡ is_some (slot_in st)
resting_is None = refl
resting_is (Some (standings.Queued t)) = refl
resting_is (Some (standings.Held a)) = refl
resting_is (Some (standings.Blocked slot)) = refl
resting_is (Some standings.Ended) = refl

-- the standing that names a slot
pub slot_is : (st : Option Standing) (slot : ℕ) → slot_in st ≡ Some slot → st ≡ Some (standings.Blocked slot)
slot_is None slot e = absurd (cc)
slot_is (Some (standings.Queued t)) slot e = absurd (cc)
slot_is (Some (standings.Held a)) slot e = absurd (cc)
slot_is (Some (standings.Blocked at)) slot e = (let same : at ≡ slot = cc in ap (λ n. Some (standings.Blocked n)) same)
slot_is (Some standings.Ended) slot e = absurd (cc)

-- a queued name's ticket names its entry
pub queued_is : (v : MachineView) (y : Yard) → KnowsPlaces v y → (name : ℕ) (t : Ticket) → standing_of v.names name ≡ Some (standings.Queued t)
    → IsQueuedAs (cluster_at v.parts t.cluster) name t
queued_is v y k name t is =
    let there = subst (StandsThere v y name) is (k.names name) in
    let s : Flat = (cluster_at v.parts t.cluster).flat in
    let e : Queued = there.1.0 in
    let few : count_queued name s ≤ 1 = omega (
      arith,
      within_all (state_of v.parts y) (places.Queue t.cluster) name,
      counted_once (state_of v.parts y) name k.once,
      ap (count_queued name) (flat_here v.parts y t.cluster),
    ) in (
      e,
      there.1.1,
      found_alone (λ (q : Queued). q.facts.name == name) s.entries e
          (standing_member t.slot t.arrival s.entries (cluster_at v.parts t.cluster).slots e there.1.1) (eq-eqb e.facts.name name there.1.2) few,
    )

-- a name of another standing has no entry in a queue
pub not_queued_is_none : (v : MachineView) (y : Yard) → KnowsPlaces v y → (name c : ℕ) → place_in (standing_of v.names name) ≢ places.Queue c
    → named_entry (flat_at (state_of v.parts y) c) name ≡ None
not_queued_is_none v y k name c other =
    let s : Flat = flat_at (state_of v.parts y) c in
    elim (counted (λ (q : Queued). q.facts.name == name) s.entries) [
      | inl some ↦ absurd (other (sym (place_is v y k name) ∙ k.law (state_of v.parts y) (places.Queue c) name (counted_once (state_of v.parts y) name k.once) some.1))
      | inr none ↦ found_none (λ (q : Queued). q.facts.name == name) s.entries none.1
    ]

unqueued_is : (v : MachineView) (y : Yard) → KnowsPlaces v y → (name c : ℕ) (st : Option Standing) → standing_of v.names name ≡ st
    → is_none (named_entry (flat_at (state_of v.parts y) c) name) ≡ not (is_queued_at c st)
unqueued_is v y k name c None is = ap is_none (not_queued_is_none v y k name c (λ e. let f = sym (ap place_in is) ∙ e in cc))
unqueued_is v y k name c (Some (standings.Queued t)) is =
    elim (cases_eq t.cluster c) [
      | inl here ↦ (let q = queued_is v y k name t is in
          ap is_none (ap (λ (s : Flat). named_entry s name) (ap (flat_at (state_of v.parts y)) (sym here) ∙ flat_here v.parts y t.cluster) ∙ q.2) ∙ sym (ap not (eq-eqb t.cluster c here)))
      | inr other ↦ ap is_none (not_queued_is_none v y k name c (λ e. let f = sym (ap place_in is) ∙ e in other (cc))) ∙ sym (ap not (ne_eqb t.cluster c other))
    ]
unqueued_is v y k name c (Some (standings.Held a)) is = ap is_none (not_queued_is_none v y k name c (λ e. let f = sym (ap place_in is) ∙ e in cc))
unqueued_is v y k name c (Some (standings.Blocked slot)) is = ap is_none (not_queued_is_none v y k name c (λ e. let f = sym (ap place_in is) ∙ e in cc))
unqueued_is v y k name c (Some standings.Ended) is = ap is_none (not_queued_is_none v y k name c (λ e. let f = sym (ap place_in is) ∙ e in cc))

-- the refusal of a pull at a cluster, by the standing
pub not_queued_is : (v : MachineView) (y : Yard) → KnowsPlaces v y → (name c : ℕ)
    → not_queued (state_of v.parts y) (flat_at (state_of v.parts y) c) name ≡ refuse (not (is_queued_at c (standing_of v.names name))) (answers.NotQueued (place_in (standing_of v.names name)))
not_queued_is v y k name c =
    ap (λ p. refuse (is_none (named_entry (flat_at (state_of v.parts y) c) name)) (answers.NotQueued p)) (place_is v y k name)
    ∙ ap (λ b. refuse b (answers.NotQueued (place_in (standing_of v.names name)))) (unqueued_is v y k name c (standing_of v.names name) refl)

-- a held thread's name stands in that hand
pub held_is : (v : MachineView) (y : Yard) → KnowsPlaces v y → (a : ℕ) (t : Facts) → (hand_of v.parts a).thread ≡ Some t
    → standing_of v.names t.name ≡ Some (standings.Held a)
held_is v y k a t holding =
    in_hand (standing_of v.names t.name) a
    (sym (place_is v y k t.name)
    ∙ k.law (state_of v.parts y) (places.Hand a) t.name (counted_once (state_of v.parts y) t.name k.once)
    (omega (arith, ap {B = ℕ} (λ (o : Option Facts). cond (holds t.name o) 1 0) holding, ap {B = ℕ} (λ b. cond b 1 0) (eq-eqb t.name t.name refl))))

-- the sleeper of a blocked name is the one in its slot
pub sleeper_is : (v : MachineView) (y : Yard) → KnowsPlaces v y → (name slot : ℕ) → standing_of v.names name ≡ Some (standings.Blocked slot)
    → (w : Resting) × (value_at v.yard.sleepers slot ≡ Some w) × (w.thread.name ≡ name) × (sleeper_of y name ≡ Some (sleeper_in w))
sleeper_is v y k name slot is =
    let there = subst (StandsThere v y name) is (k.names name) in
    let w : Resting = there.0 in (
      w,
      there.1,
      there.2,
      found_alone (λ (s : Sleeper). s.facts.name == name) y.blocked (sleeper_in w) (k.yard.blocked slot w there.1) (eq-eqb w.thread.name name there.2)
          (omega (arith, within_all (state_of v.parts y) places.Blocked name, counted_once (state_of v.parts y) name k.once)),
    )

-- a name of a standing outside the yard is not blocked
awake : (v : MachineView) (y : Yard) → KnowsPlaces v y → (name : ℕ) → place_in (standing_of v.names name) ≢ places.Blocked → is_blocked y name ≡ false
awake v y k name other =
    elim (counted (λ (s : Sleeper). s.facts.name == name) y.blocked) [
      | inl some ↦ absurd (other (sym (place_is v y k name) ∙ k.law (state_of v.parts y) places.Blocked name (counted_once (state_of v.parts y) name k.once) some.1))
      | inr none ↦ none.0
    ]

blocked_by : (v : MachineView) (y : Yard) → KnowsPlaces v y → (name : ℕ) (st : Option Standing) → standing_of v.names name ≡ st → is_blocked y name ≡ is_resting st
blocked_by v y k name None is = awake v y k name (λ e. let f = sym (ap place_in is) ∙ e in cc)
blocked_by v y k name (Some (standings.Queued t)) is = awake v y k name (λ e. let f = sym (ap place_in is) ∙ e in cc)
blocked_by v y k name (Some (standings.Held a)) is = awake v y k name (λ e. let f = sym (ap place_in is) ∙ e in cc)
blocked_by v y k name (Some (standings.Blocked slot)) is =
    let there = subst (StandsThere v y name) is (k.names name) in
    let w : Resting = there.0 in
    any_from_counted (λ (s : Sleeper). s.facts.name == name) y.blocked
    (member_counted (λ (s : Sleeper). s.facts.name == name) y.blocked (sleeper_in w) (k.yard.blocked slot w there.1) (eq-eqb w.thread.name name there.2))
blocked_by v y k name (Some standings.Ended) is = awake v y k name (λ e. let f = sym (ap place_in is) ∙ e in cc)

-- a name is blocked exactly where its standing is one in the yard
pub blocked_is : (v : MachineView) (y : Yard) → KnowsPlaces v y → (name : ℕ) → is_blocked y name ≡ is_resting (standing_of v.names name)
blocked_is v y k name = blocked_by v y k name (standing_of v.names name) refl

-- the refusal of a wake, by the standing
pub not_blocked_is : (v : MachineView) (y : Yard) → KnowsPlaces v y → (name : ℕ)
    → not_blocked (state_of v.parts y) name ≡ refuse (not (is_resting (standing_of v.names name))) (answers.NotBlocked (place_in (standing_of v.names name)))
not_blocked_is v y k name =
    ap (λ p. refuse (not (is_blocked y name)) (answers.NotBlocked p)) (place_is v y k name)
    ∙ ap (λ b. refuse (not b) (answers.NotBlocked (place_in (standing_of v.names name)))) (blocked_is v y k name)
