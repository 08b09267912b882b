-- A named thread comes out of the home's queue into the hand.
use Rattle.std.proofs.Common.{◌≡◌, ℕ, ◌==◌, ◌<◌, [], ◌∷◌, Some, None, is_some, not, slice_set, refl, sym, ap, ◌∙◌, subst, eq-eqb}
use Rattle.std.proofs.lemmas.Bool.{eqb-true}
use Rattle.sched_base.specs.declared.Act.TheVariants as acts
use Rattle.sched_base.specs.declared.Answer.TheVariants as answers
use Rattle.sched_base.specs.declared.Ticket.{Ticket}
use Rattle.flat_policy.specs.Policy.ClusterSteps.{named_entry, pull_event}
use Rattle.flat_policy.specs.Policy.Machine.{Hand, MachineState, Outcome, Refusal, Yard, filled_hand, flat_at, hand_full, not_queued, pull_outcome, taking}
use Rattle.flat_policy.specs.Policy.Queue.{Flat, Queued}
use Rattle.flat_policy.specs.Policy.Setup.{SetupParts, actor_count, home_of}
use Rattle.trace_machine.specs.Acting.{ActsTo, IsSet, KeepsOn}
use Rattle.trace_machine.specs.declared.names.Standing.TheVariants as standings
use Rattle.trace_machine.specs.Machines.{MachineView, MeansOver}
use Rattle.trace_machine.specs.Parts.{Does, IsOtherThread, IsQueuedAs, accepted_at, cluster_at, hand_of, state_of}
use Rattle.trace_machine.specs.Yards.{is_queued_at, standing_of}
use Rattle.trace_machine.proofs.ActsTo.{refused_by}
use Rattle.trace_machine.proofs.Found.{found_passes}
use Rattle.trace_machine.proofs.MovingActs.{hand_by, hands_after, move_acts}
use Rattle.trace_machine.proofs.Setting.{flat_here, hand_changed}
use Rattle.trace_machine.proofs.Standing.{KnowsPlaces}
use Rattle.trace_machine.proofs.StandingFound.{not_queued_is, queued_is}
use Rattle.trace_machine.proofs.YardActs.{actor_within, known}
use Rattle.trace_machine.proofs.YardMoves.{IsNoted, apart_from_sleepers, refusal_none}

-- the ticket of a name at home names its entry there
pub queued_at_home : (v : MachineView) (y : Yard) (a name : ℕ) (ticket : Ticket) → KnowsPlaces v y → standing_of v.names name ≡ Some (standings.Queued ticket)
    → ticket.cluster ≡ home_of v.parts.setup a → IsQueuedAs (cluster_at v.parts (home_of v.parts.setup a)) name ticket
queued_at_home v y a name ticket k stands here = subst (λ c. IsQueuedAs (cluster_at v.parts c) name ticket) here (queued_is v y k name ticket stands)

-- a pull is accepted where the hand is empty and the name is queued at home
pub pull_accepted : (v : MachineView) (y : Yard) (a name : ℕ) (ticket : Ticket) → KnowsPlaces v y → (hand_of v.parts a).thread ≡ None
    → standing_of v.names name ≡ Some (standings.Queued ticket) → ticket.cluster ≡ home_of v.parts.setup a → refused_by v.parts y a (acts.Pull name) ≡ None
pull_accepted v y a name ticket k empty stands here =
    let home : ℕ = home_of v.parts.setup a in
    let refusing : Refusal = not_queued (state_of v.parts y) (flat_at (state_of v.parts y) home) name in
    refusal_none (hand_full (hand_of v.parts a)) (refusing ∷ []) (ap is_some empty)
    (refusal_none refusing []
    (ap (λ (r : Refusal). r.holds) (not_queued_is v y k name home)
    ∙ ap (λ st. not (is_queued_at home st)) stands
    ∙ ap not (eq-eqb ticket.cluster home here))
    refl)

-- a named thread comes out of the home's queue
pub pull_acts : (old new : MachineView) (y : Yard) (a now name : ℕ) (ticket : Ticket)
    → IsSet old a now (acts.Pull name) → MeansOver old y → KeepsOn old y
    → (hand_of old.parts a).thread ≡ None → standing_of old.names name ≡ Some (standings.Queued ticket) → ticket.cluster ≡ home_of old.parts.setup a
    → Does old.parts new.parts a now (acts.Pull name) answers.Yes
    → IsNoted old new name (standings.Held a) → new.yard ≡ old.yard → new.steps ≡ old.steps
    → ActsTo old new y a now (acts.Pull name) answers.Yes
pull_acts old new y a now name ticket set means keeps empty stands here does noted yard steps =
    let k = known old y means keeps in
    let home : ℕ = home_of old.parts.setup a in
    let g : MachineState = state_of old.parts y in
    let queued = queued_at_home old y a name ticket k stands here in
    let e : Queued = queued.0 in
    let found : named_entry (flat_at g home) name ≡ Some e = ap (λ (s : Flat). named_entry s name) (flat_here old.parts y home) ∙ queued.2 in
    let named : e.facts.name ≡ name =
    eqb-true e.facts.name name (found_passes (λ (q : Queued). q.facts.name == name) (cluster_at old.parts home).flat.entries e queued.2) in
    let comes : accepted_at old.parts y a now (acts.Pull name) ≡ taking old.parts.setup g a (hand_of old.parts a) home now (pull_event e now (flat_at g home)) =
    ap (pull_outcome old.parts.setup g a (hand_of old.parts a) home now) found in
    let hand : Hand = filled_hand old.parts.setup e.facts now in
    let hands : (accepted_at old.parts y a now (acts.Pull name)).state.hands ≡ slice_set old.parts.hands a hand = ap (λ (o : Outcome). o.state.hands) comes in
    move_acts old new y a now (acts.Pull name) answers.Yes name (standings.Held a) means
    (record {
      accepted = pull_accepted old y a name ticket k empty stands here;
      does = does;
      hand = hand;
      hands = hands;
      held = λ u holding. (let f = sym empty ∙ holding in absurd (cc));
      moved = λ n other. subst (IsOtherThread n) (sym (ap (λ (o : Outcome). o.thread) comes)) (λ f. other (sym f ∙ named));
      noted = noted;
      yard = yard;
      steps = steps;
    }) (
      subst (λ (s : SetupParts). a < actor_count s) (sym does.keeps_setup) set.ready.actor,
      (
        e.facts,
        hand_by old.parts new.parts a hand a (hands_after old new y a now (acts.Pull name) answers.Yes hand does hands)
            ∙ ap (λ (h : Hand). h.thread) (hand_changed old.parts a hand (actor_within old a now (acts.Pull name) set)),
        named,
      ),
    )
    (apart_from_sleepers old y name means.yard (λ slot is. let f = sym stands ∙ is in cc))
