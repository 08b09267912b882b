-- Acts that move a thread between a hand and a queue: what they come to, with the name of the thread noted.
use Rattle.std.proofs.Common.{◌≡◌, ◌≢◌, ℕ, ◌<◌, Bool, false, [], ◌∷◌, Some, None, is_none, slice_set, refl, sym, ap, ◌∙◌, subst, inl, inr}
use Rattle.std.proofs.lemmas.Bool.{cases_eq, eqb-false, ne_eqb}
use Rattle.std.proofs.lemmas.Option.{same_Some}
use Rattle.link_arena.specs.Arena.{value_at}
use Rattle.sched_base.specs.declared.Act.{Act}
use Rattle.sched_base.specs.declared.Act.TheVariants as acts
use Rattle.sched_base.specs.declared.Answer.{Answer}
use Rattle.sched_base.specs.declared.Answer.TheVariants as answers
use Rattle.sched_base.specs.declared.Facts.{Facts}
use Rattle.sched_base.specs.declared.Ticket.{Ticket}
use Rattle.flat_policy.specs.Policy.Clusters.{NameStands}
use Rattle.flat_policy.specs.Policy.Machine.{Hand, MachineState, Outcome, Yard, empty_hand, enter_outcome, hand_empty, not_allowed}
use Rattle.flat_policy.specs.Policy.Setup.{SetupParts, cluster_count}
use Rattle.trace_machine.specs.Acting.{ActsTo, IsSet, KeepsOn}
use Rattle.trace_machine.specs.declared.names.Standing.{Standing}
use Rattle.trace_machine.specs.declared.names.Standing.TheVariants as standings
use Rattle.trace_machine.specs.declared.yard.Resting.{Resting}
use Rattle.trace_machine.specs.Machines.{MachineView, MeansOver, StandsThere}
use Rattle.trace_machine.specs.Parts.{Does, IsOtherThread, PartsView, accepted_at, cluster_at, hand_of, state_of}
use Rattle.trace_machine.specs.Yards.{YardView}
use Rattle.trace_machine.proofs.ActsTo.{accepted_is, refused_by}
use Rattle.trace_machine.proofs.Frames.{Frame, names_after, yard_stays}
use Rattle.trace_machine.proofs.Setting.{hand_other, rehanded}
use Rattle.trace_machine.proofs.YardActs.{held_apart, known}
use Rattle.trace_machine.proofs.YardMoves.{IsNoted, is_name, moved_stands, noted_other, refusal_none}

-- what an accepted act that moves a thread has to show: the hand that changed, and that the thread of that name alone moved
pub record IsMove (old new : MachineView) (y : Yard) (a now : ℕ) (act : Act) (told : Answer) (name : ℕ) (s : Standing) : Type 0 where
  pub accepted : refused_by old.parts y a act ≡ None
  pub does : Does old.parts new.parts a now act told
  pub hand : Hand
  pub hands : (accepted_at old.parts y a now act).state.hands ≡ slice_set old.parts.hands a hand
  pub held : (t : Facts) → (hand_of old.parts a).thread ≡ Some t → t.name ≡ name
  pub moved : (n : ℕ) → n ≢ name → IsOtherThread n (accepted_at old.parts y a now act).thread
  pub noted : IsNoted old new name s
  pub yard : new.yard ≡ old.yard
  pub steps : new.steps ≡ old.steps

-- the hands after it
pub hands_after : (old new : MachineView) (y : Yard) (a now : ℕ) (act : Act) (told : Answer) (hand : Hand) → Does old.parts new.parts a now act told
    → (accepted_at old.parts y a now act).state.hands ≡ slice_set old.parts.hands a hand → new.parts.hands ≡ slice_set old.parts.hands a hand
hands_after old new y a now act told hand does hands = sym (ap (λ (g : MachineState). g.hands) (does.leads y)) ∙ hands

-- a hand by the list of hands
pub hand_by : (p q : PartsView) (a : ℕ) (hand : Hand) (k : ℕ) → q.hands ≡ slice_set p.hands a hand → (hand_of q k).thread ≡ (hand_of (rehanded p a hand) k).thread
hand_by p q a hand k is = ap (λ hs. (hand_of (record p { hands = hs }) k).thread) is

move_frame : (old new : MachineView) (y : Yard) (a now : ℕ) (act : Act) (told : Answer) (name : ℕ) (s : Standing) → IsMove old new y a now act told name s → Frame old new y y (is_name name)
move_frame old new y a now act told name s m = record {
  setup = m.does.keeps_setup;
  queues = λ c slot arrival n is stands. m.does.stands y c slot arrival n (m.moved n (eqb-false n name is)) stands;
  hands = λ k t is holding.
      elim (cases_eq k a) [
        | inl here ↦ absurd (eqb-false t.name name is (m.held t (ap (λ i. (hand_of old.parts i).thread) (sym here) ∙ holding)))
        | inr other ↦ (
          t,
          hand_by old.parts new.parts a m.hand k (hands_after old new y a now act told m.hand m.does m.hands)
              ∙ ap (λ (h : Hand). h.thread) (hand_other old.parts a m.hand k other)
              ∙ holding,
          refl,
        )
      ];
  slots = λ slot w is there. ap (λ (v : YardView). value_at v.sleepers slot) m.yard ∙ there;
  ended = λ n is there. there;
  made = λ n is never. never;
  table = λ n is. noted_other old new name s n m.noted (eqb-false n name is);
}

-- such an act comes to what the policy says, where the name stands under its new standing and was no sleeper's
pub move_acts : (old new : MachineView) (y : Yard) (a now : ℕ) (act : Act) (told : Answer) (name : ℕ) (s : Standing) → MeansOver old y
    → IsMove old new y a now act told name s → StandsThere new y name (Some s)
    → ((slot : ℕ) (w : Resting) → value_at old.yard.sleepers slot ≡ Some w → w.thread.name ≢ name)
    → ActsTo old new y a now act told
move_acts old new y a now act told name s means m there apart =
    let frame = move_frame old new y a now act told name s m in
    record {
      after = y;
      answers = ap (λ (r : Outcome). r.answer) (accepted_is old.parts y a now act m.accepted) ∙ m.does.answers y;
      leads = ap (λ (r : Outcome). r.state) (accepted_is old.parts y a now act m.accepted) ∙ m.does.leads y;
      keeps_setup = m.does.keeps_setup;
      serve = m.does.serves old.steps means.serve;
      yard = yard_stays old new y (is_name name) frame m.yard means.yard (λ slot w is. ne_eqb w.thread.name name (apart slot w is));
      names = names_after old new y y (is_name name) frame means.names (moved_stands old new y name s m.noted there);
      steps = m.steps;
    }

-- the hand's thread enters a queue
pub enter_acts : (old new : MachineView) (y : Yard) (a now c : ℕ) (head : Bool) (t : Facts) (ticket : Ticket)
    → IsSet old a now (acts.Enter c head) → MeansOver old y → KeepsOn old y
    → (hand_of old.parts a).thread ≡ Some t → c < cluster_count old.parts.setup
    → (not_allowed old.parts.setup (hand_of old.parts a).thread c).holds ≡ false
    → Does old.parts new.parts a now (acts.Enter c head) (answers.Pri ticket.pri) → ticket.cluster ≡ c
    → NameStands (cluster_at new.parts c) ticket.slot ticket.arrival t.name
    → IsNoted old new t.name (standings.Queued ticket) → new.yard ≡ old.yard → new.steps ≡ old.steps
    → ActsTo old new y a now (acts.Enter c head) (answers.Pri ticket.pri)
enter_acts old new y a now c head t ticket set means keeps holding below allowed does cluster stands noted yard steps =
    let accepted : accepted_at old.parts y a now (acts.Enter c head) ≡ enter_outcome old.parts.setup (state_of old.parts y) a c head now (Some t) =
    ap (enter_outcome old.parts.setup (state_of old.parts y) a c head now) holding in
    move_acts old new y a now (acts.Enter c head) (answers.Pri ticket.pri) t.name (standings.Queued ticket) means
    (record {
      accepted = refusal_none (hand_empty (hand_of old.parts a)) (not_allowed old.parts.setup (hand_of old.parts a).thread c ∷ []) (ap is_none holding)
          (refusal_none (not_allowed old.parts.setup (hand_of old.parts a).thread c) [] allowed refl);
      does = does;
      hand = empty_hand old.parts.setup now;
      hands = ap (λ (o : Outcome). o.state.hands) accepted;
      held = λ u holds_it. ap (λ (f : Facts). f.name) (sym (same_Some t u (sym holding ∙ holds_it)));
      moved = λ n other. subst (IsOtherThread n) (sym (ap (λ (o : Outcome). o.thread) accepted)) (λ e. other (sym e));
      noted = noted;
      yard = yard;
      steps = steps;
    }) (
      subst (λ (s : SetupParts). ticket.cluster < cluster_count s) (sym does.keeps_setup) (subst (λ k. k < cluster_count old.parts.setup) (sym cluster) below),
      subst (λ k. NameStands (cluster_at new.parts k) ticket.slot ticket.arrival t.name) (sym cluster) stands,
    )
    (held_apart old y a t (known old y means keeps) holding)
