-- Steps one after the other.
use Rattle.std.proofs.Common.{◌≡◌, ℕ, ◌+◌, ◌<◌, ◌≤◌, ◌^◌, ◌∷◌, ◌++◌, List, [], add-one, append-nil, append_assoc, drop, drop-cons, get_or, length, map, refl, sym, ap, ◌∙◌, subst, arith}
use Rattle.sched_base.specs.declared.Step.{Step}
use Rattle.flat_policy.specs.Policy.Machine.{MachineState, replies, reply, state_after, states_after}
use Rattle.trace_machine.specs.Machines.{IsMachine, MachineView, Means, StepsTo, reply_in}
use Rattle.trace_machine.specs.declared.Reply.{Reply}

-- after some steps of a list, with those that are left: the machine means a state from which the rest goes on as the policy's list does
pub record RunsSoFar (old now : MachineView) (told : List Reply) (all rest : List Step) : Type 0 where
  pub machine : IsMachine now
  pub setup : now.parts.setup ≡ old.parts.setup
  pub few : now.steps + length rest ≤ 2 ^ 50
  pub goes : (g : MachineState) → Means old g
      → (h : MachineState) × Means now h × (told ++ map reply_in (replies old.parts.setup h rest) ≡ map reply_in (replies old.parts.setup g all))
      × (states_after old.parts.setup h rest ≡ states_after old.parts.setup g all)

-- before the first step
pub runs_begin : (v : MachineView) (all : List Step) → IsMachine v → v.steps + length all ≤ 2 ^ 50 → RunsSoFar v v [] all all
runs_begin v all machine few = record { machine = machine; setup = refl; few = few; goes = λ g means. (g, means, refl, refl) }

-- one step more
pub runs_next : (old now next : MachineView) (told : List Reply) (all rest : List Step) (s : Step) (r : Reply) → RunsSoFar old now told all (s ∷ rest) → StepsTo now next s r
    → next.steps ≡ now.steps + 1 → RunsSoFar old next (told ++ r ∷ []) all rest
runs_next old now next told all rest s r run steps count =
    let m = run.machine in
    let here = steps m.0 m.1 in
    record {
      machine = (state_after now.parts.setup m.0 s, here.1);
      setup = here.2 ∙ run.setup;
      few = omega (arith, run.few, count);
      goes = λ g means.
          let h = run.goes g means in
          let done = steps h.0 h.1 in
          let after : MachineState = state_after old.parts.setup h.0 s in
          let more : List Reply = map reply_in (replies old.parts.setup after rest) in (
            after,
            subst (λ p. Means next (state_after p h.0 s)) run.setup done.1,
            append_assoc told (r ∷ []) more ∙ (ap (λ q. told ++ q ∷ more) (done.0 ∙ ap (λ p. reply_in (reply p h.0 s)) run.setup) ∙ h.2),
            h.3,
          );
    }

-- after the last step
pub runs_end : (old now : MachineView) (told : List Reply) (all : List Step) → RunsSoFar old now told all [] → (g : MachineState) → Means old g
    → (told ≡ map reply_in (replies old.parts.setup g all)) × Means now (states_after old.parts.setup g all)
runs_end old now told all run g means =
    let h = run.goes g means in
    (sym (append-nil told) ∙ h.2, subst (Means now) h.3 h.1)

-- the step at a place of the list
pub runs_on_at : (old now next : MachineView) (told after : List Reply) (all : List Step) (i : ℕ) (d : Step) (r : Reply) → RunsSoFar old now told all (drop i all) → i < length all
    → StepsTo now next (get_or all i d) r → next.steps ≡ now.steps + 1 → after ≡ told ++ r ∷ [] → RunsSoFar old next after all (drop (i + 1) all)
runs_on_at old now next told after all i d r run within steps count is =
    let here : drop i all ≡ get_or all i d ∷ drop (i + 1) all = drop-cons all i d within ∙ ap (λ n. get_or all i d ∷ drop n all) (sym (add-one i)) in
    subst (λ ts. RunsSoFar old next ts all (drop (i + 1) all)) (sym is)
    (runs_next old now next told all (drop (i + 1) all) (get_or all i d) r (subst (RunsSoFar old now told all) here run) steps count)
