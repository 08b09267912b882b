-- The steps of a load in code are the policy's.
use Rattle.std.proofs.Common.{◌≡◌, ℕ, ◌+◌, ◌*◌, ◌%◌, ◌<◌, ◌≤◌, Option, Some, None, IsTrue, refl, sym, ap, ◌∙◌, subst, arith, add-one, nat_lt, ◌&&◌}
use Rattle.std.proofs.lemmas.Bool.{and_from, lt-ltb}
use Rattle.sched_base.specs.Limits.{moment_limit}
use Rattle.sched_base.specs.declared.Act.{Act}
use Rattle.sched_base.specs.declared.Facts.{Facts}
use Rattle.sched_base.specs.declared.Step.{Step}
use Rattle.flat_policy.specs.Laws.Counts.{RunsStaySound}
use Rattle.flat_policy.specs.Laws.Sound.{FittingPrefersAmong}
use Rattle.flat_policy.specs.Policy.Machine.{MachineState, empty_machine, fits_act, fits_step, hand_at, numbers_fit, reply, state_after}
use Rattle.flat_policy.specs.Policy.Setup.{SetupParts, actor_count, cluster_count}
use Rattle.flat_policy.specs.Runs.LoadTrace.{LoadState, Tally, drawn, kept_after, load_after, load_setup, load_step, load_taken, next_draw, no_tally, step_by_draw, step_of_load, tallied}
use Rattle.trace_machine.specs.Machines.{IsMachine, MachineView, Means, StepsTo, reply_in}
use Rattle.trace_machine.specs.declared.Reply.{Reply}
use Rattle.trace_replay.specs.LoadsSoFar.{FitsLoad, HasRun, TakesStep, count_total, load_in, tally_in}
use Rattle.trace_replay.specs.declared.load.counts.Counts.{Counts}
use Rattle.trace_replay.specs.declared.load.stepping.LoadSoFar.{LoadSoFar}
use Rattle.trace_replay.proofs.LoadCounts.{counts_few}

-- a held thread prefers one of the two clusters
pub prefers_few : (v : MachineView) (a : ℕ) (held : Option Facts) (t : Facts) → RunsStaySound → FittingPrefersAmong → IsMachine v → v.parts.setup ≡ load_setup → a < 6
    → ((g : MachineState) → Means v g → held ≡ (hand_at g a).thread) → held ≡ Some t → t.prefer < 2
prefers_few v a held t stay among machine setup below is some =
    let means = machine.1.2 in
    let sound = stay v.parts.setup means.history.0 _ means.history.1 in
    let within : a < actor_count v.parts.setup = subst (λ (p : SetupParts). a < actor_count p) (sym setup) below in
    let thread = sym (is _ (machine.1.0, refl, means)) ∙ some in
    subst (λ (p : SetupParts). t.prefer < cluster_count p) setup (among v.parts.setup t means.setup ((sound.hands a within).thread t thread))

-- a step of the load fits where its act does
pub step_fits : (i r : ℕ) (act : Act) → i < 200000 → FitsLoad act → IsTrue (fits_step load_setup (record { moment = i * 50; actor = r % 6; act = act }))
step_fits i r act few fits =
    and_from (nat_lt (i * 50) moment_limit) (nat_lt (r % 6) (actor_count load_setup) && (fits_act load_setup act && numbers_fit act)) (lt-ltb (i * 50) moment_limit (omega (arith, few)))
    (and_from (nat_lt (r % 6) (actor_count load_setup)) (fits_act load_setup act && numbers_fit act) (lt-ltb (r % 6) 6 (omega arith))
    (and_from (fits_act load_setup act) (numbers_fit act) fits.0 fits.1))

-- a step in code that is the load's step is taken as the load takes it
pub takes_step : (i : ℕ) (old new : MachineView) (before : LoadSoFar) (draw number : ℕ) (step : Step) (told : Reply) (held kept : Option _) (counts : Counts)
    → old.parts.setup ≡ load_setup → draw ≡ next_draw before.draw → number ≡ drawn draw
    → ((g : MachineState) → Means old g → step ≡ step_by_draw (load_in before g) i number)
    → ((g : MachineState) → Means old g → held ≡ (hand_at g step.actor).thread)
    → StepsTo old new step told → new.steps ≡ old.steps + 1
    → kept ≡ kept_after before.kept step.act held → tally_in counts ≡ tallied (tally_in before.counts) step.act told.answer
    → TakesStep i old new before (record { draw = draw; kept = kept; counts = counts })
takes_step i old new before draw number step told held kept counts setup next num is hand steps count keeps counted g means =
    let st : LoadState = load_in before g in
    let x : ℕ = next_draw before.draw in
    let after : LoadSoFar = record { draw = draw; kept = kept; counts = counts } in
    let step_is : step ≡ step_of_load st i = is g means ∙ ap (step_by_draw st i) (num ∙ ap drawn next) in
    let done = steps g means in
    let went : (told ≡ reply_in (reply load_setup g step)) × Means new (state_after load_setup g step) =
    subst (λ (p : SetupParts). (told ≡ reply_in (reply p g step)) × Means new (state_after p g step)) setup (done.0, done.1) in
    let kept_is : kept ≡ (load_taken st x step).kept = keeps ∙ ap (kept_after before.kept step.act) (hand g means) in
    let tally_is : tally_in counts ≡ (load_taken st x step).tally = counted ∙ ap (λ (r : Reply). tallied (tally_in before.counts) step.act r.answer) went.0 in
    let same : load_in after (load_taken st x step).state ≡ load_taken st x step =
    ap (λ d. record { draw = d; state = state_after load_setup g step; kept = kept; tally = tally_in counts }) next
    ∙ ap (λ k. record { draw = x; state = state_after load_setup g step; kept = k; tally = tally_in counts }) kept_is
    ∙ ap (λ y. record { draw = x; state = state_after load_setup g step; kept = (load_taken st x step).kept; tally = y }) tally_is in
    let there = subst (λ (s : Step). Means new (load_taken st x s).state × (load_in after (load_taken st x s).state ≡ load_taken st x s)) step_is (went.1, same) in
    (there.0, there.1, done.2, count)

-- before the first step
pub run_begins : (seed : ℕ) (v : MachineView) (counts : Counts) → Means v (empty_machine load_setup) → v.parts.setup ≡ load_setup → v.steps ≡ 0 → tally_in counts ≡ no_tally
    → HasRun seed 0 v (record { draw = seed; kept = None; counts = counts })
run_begins seed v counts means setup steps none = record {
  means = means;
  same = ap (λ (y : Tally). record { draw = seed; state = empty_machine load_setup; kept = None; tally = y }) none;
  setup = setup;
  steps = omega (arith, steps);
}

-- one step more
pub run_goes_on : (seed i : ℕ) (old new : MachineView) (before after : LoadSoFar) → HasRun seed i old before → TakesStep i old new before after → HasRun seed (i + 1) new after
run_goes_on seed i old new before after run takes =
    let st : LoadState = load_after seed i in
    let done = takes st.state run.means in
    let there = subst (λ (q : LoadState). Means new (load_step q i).state × (load_in after (load_step q i).state ≡ load_step q i)) run.same (done.0, done.1) in
    subst (λ n. HasRun seed n new after) (sym (add-one i)) (record {
      means = there.0;
      same = there.1;
      setup = done.2 ∙ run.setup;
      steps = omega (arith, done.3, run.steps);
    })

-- the counts so far are few
pub counts_fit : (seed i : ℕ) (v : MachineView) (l : LoadSoFar) → HasRun seed i v l → i ≤ 200000 → count_total (tally_in l.counts) ≤ 400000
counts_fit seed i v l run few = omega (arith, ap (λ (st : LoadState). count_total st.tally) run.same, counts_few seed i, few)

-- a machine that made steps of the load means a state
pub run_machine : (seed i : ℕ) (v : MachineView) (l : LoadSoFar) → HasRun seed i v l → IsMachine v
run_machine seed i v l run = ((load_after seed i).state, run.means)
