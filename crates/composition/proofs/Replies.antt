-- The reply of the machine to a line that is not before the last moments of its actor and its spot.
use Rattle.std.proofs.Common.{◌≡◌, ℕ, ◌≤◌, max, Option, ap, ◌∙◌, arith}
use Rattle.sched_base.specs.declared.Answer.{Answer}
use Rattle.sched_base.specs.declared.Entry.{Entry}
use Rattle.sched_base.specs.declared.Spot.{Spot}
use Rattle.flat_policy.specs.declared.journal.Line.{Line}
use Rattle.flat_policy.specs.Policy.Machine.{MachineState, Outcome, accepted_by, effective_moment, hand_at, last_at, outcome, outcome_by, reply, state_after}
use Rattle.flat_policy.specs.Policy.Setup.{SetupParts}
use Rattle.flat_policy.specs.Runs.Histories.{act_of, actor_of, moment_of}
use Rattle.composition.proofs.Outcomes.{Comes, told}

-- the machine replies the line itself, and goes on to a state
pub record Replies (setup : SetupParts) (g : MachineState) (l : Line) (next : MachineState) : Type 0 where
  pub itself : reply setup g l.entry.step ≡ l.entry
  pub leads : state_after setup g l.entry.step ≡ next

moment_is : (setup : SetupParts) (g : MachineState) (l : Line) (spot : Option Spot) (next : MachineState) → Comes setup g (hand_at g (actor_of l)) l (act_of l) spot next
    → (hand_at g (actor_of l)).last ≤ moment_of l → last_at g spot ≤ moment_of l → effective_moment setup g l.entry.step ≡ moment_of l
moment_is setup g l spot next comes hand place =
    let by_spot : effective_moment setup g l.entry.step ≡ max (max (moment_of l) (hand_at g (actor_of l)).last) (last_at g spot) =
    ap (λ (s : Option Spot). max (max (moment_of l) (hand_at g (actor_of l)).last) (last_at g s)) comes.at in
    omega (arith, by_spot, hand, place)

outcome_is : (setup : SetupParts) (g : MachineState) (l : Line) (spot : Option Spot) (next : MachineState) → Comes setup g (hand_at g (actor_of l)) l (act_of l) spot next → effective_moment setup g l.entry.step ≡ moment_of l → outcome setup g l.entry.step ≡ told l next
outcome_is setup g l spot next comes moment =
    ap (λ (o : Option Answer). outcome_by setup g l.entry.step o) comes.accepted
    ∙ (ap (λ m. accepted_by setup g (actor_of l) (hand_at g (actor_of l)) m (act_of l)) moment ∙ comes.comes)

pub replies : (setup : SetupParts) (g : MachineState) (l : Line) (spot : Option Spot) (next : MachineState) → Comes setup g (hand_at g (actor_of l)) l (act_of l) spot next
    → (hand_at g (actor_of l)).last ≤ moment_of l → last_at g spot ≤ moment_of l → Replies setup g l next
replies setup g l spot next comes hand place =
    let moment = moment_is setup g l spot next comes hand place in
    let is = outcome_is setup g l spot next comes moment in
    let with_outcome : Outcome → Entry = λ o. record { step = record l.entry.step { moment = effective_moment setup g l.entry.step }; answer = o.answer; thread = o.thread } in
    let with_moment : ℕ → Entry = λ m. record { step = record l.entry.step { moment = m }; answer = l.entry.answer; thread = l.entry.thread } in
    record {
      itself = ap with_outcome is ∙ ap with_moment moment;
      leads = ap (λ (o : Outcome). o.state) is;
    }
