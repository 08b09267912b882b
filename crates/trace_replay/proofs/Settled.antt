-- The step of a reply is replied the same, and leads to the same state.
use Rattle.std.proofs.Common.{◌≡◌, ℕ, ◌<◌, ◌&&◌, List, [], ◌∷◌, ◌++◌, Option, Some, None, IsTrue, nat_lt, refl, sym, ap, ◌∙◌, subst, arith}
use Rattle.std.proofs.lemmas.Bool.{and_from, and_parts, lt-ltb}
use Rattle.sched_base.specs.Limits.{moment_limit}
use Rattle.sched_base.specs.declared.Answer.{Answer}
use Rattle.sched_base.specs.declared.Entry.{Entry}
use Rattle.sched_base.specs.declared.Step.{Step}
use Rattle.flat_policy.specs.Policy.Machine.{MachineState, Outcome, RunsFrom, accepted_by, effective_moment, fits_act, fits_step, hand_at, numbers_fit, outcome, outcome_by, refusal, reply, state_after}
use Rattle.flat_policy.specs.Policy.Setup.{SetupParts, actor_count}

-- a step at its effective moment
abbrev settled : SetupParts → MachineState → Step → Step
settled setup g s = record s { moment = effective_moment setup g s }

moment_settles : (setup : SetupParts) (g : MachineState) (s : Step) → effective_moment setup g (settled setup g s) ≡ effective_moment setup g s
moment_settles setup g s = omega arith

-- it fits, where that moment is in range
pub settled_fits : (setup : SetupParts) (g : MachineState) (s : Step) → IsTrue (fits_step setup s) → effective_moment setup g s < moment_limit → IsTrue (fits_step setup (reply setup g s).step)
settled_fits setup g s fits soon =
    let rest = nat_lt s.actor (actor_count setup) && (fits_act setup s.act && numbers_fit s.act) in
    and_from (nat_lt (effective_moment setup g s) moment_limit) rest (lt-ltb (effective_moment setup g s) moment_limit soon)
    (and_parts (nat_lt s.moment moment_limit) rest fits).1

-- what a step comes to at a moment, by its refusal
at_moment : SetupParts → MachineState → Step → ℕ → Option Answer → Outcome
at_moment setup g s now (Some answer) = record { answer = answer; thread = None; state = g }
at_moment setup g s now None = accepted_by setup g s.actor (hand_at g s.actor) now s.act

by_moment : (setup : SetupParts) (g : MachineState) (s : Step) (m : ℕ) (o : Option Answer) → outcome_by setup g (record s { moment = m }) o ≡ at_moment setup g s (effective_moment setup g (record s { moment = m })) o
unfolding at_moment
by_moment setup g s m (Some answer) = refl
by_moment setup g s m None = refl

outcome_settles : (setup : SetupParts) (g : MachineState) (s : Step) → outcome setup g (settled setup g s) ≡ outcome setup g s
outcome_settles setup g s =
    by_moment setup g s (effective_moment setup g s) (refusal setup g s)
    ∙ ap (λ m. at_moment setup g s m (refusal setup g s)) (moment_settles setup g s)
    ∙ sym (by_moment setup g s s.moment (refusal setup g s))

abbrev told : Step → ℕ → Outcome → Entry
told s m o = record { step = record s { moment = m }; answer = o.answer; thread = o.thread }

pub reply_settles : (setup : SetupParts) (g : MachineState) (s : Step) → reply setup g (reply setup g s).step ≡ reply setup g s
reply_settles setup g s =
    ap (λ m. told s m (outcome setup g (settled setup g s))) (moment_settles setup g s)
    ∙ ap (told s (effective_moment setup g s)) (outcome_settles setup g s)

pub state_settles : (setup : SetupParts) (g : MachineState) (s : Step) → state_after setup g (reply setup g s).step ≡ state_after setup g s
state_settles setup g s = ap (λ (o : Outcome). o.state) (outcome_settles setup g s)

-- a run goes on with the reply to a step
pub runs_on : (setup : SetupParts) (g : MachineState) (h : List Entry) (end : MachineState) (s : Step) → RunsFrom setup g h end → IsTrue (fits_step setup (reply setup end s).step)
    → RunsFrom setup g (h ++ reply setup end s ∷ []) (state_after setup end s)
runs_on setup g [] end s run fits =
    subst (λ (k : MachineState). RunsFrom setup k (reply setup end s ∷ []) (state_after setup end s)) run
    (fits, reply_settles setup end s, sym (state_settles setup end s))
runs_on setup g (e ∷ es) end s run fits = (run.0, run.1, runs_on setup (state_after setup g e.step) es end s run.2 fits)
