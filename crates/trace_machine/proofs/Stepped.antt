-- A step, from the act at its effective moment.
use Rattle.std.proofs.Common.{◌≡◌, ℕ, ◌+◌, ◌<◌, ◌≤◌, ◌^◌, IsTrue, Option, Some, None, Result, Ok, Err, OnErr, refl, sym, ap, ap₂, ◌∙◌, subst, arith}
use Rattle.sched_base.specs.Limits.{moment_limit}
use Rattle.sched_base.specs.declared.Answer.{Answer}
use Rattle.sched_base.specs.declared.Spot.{Spot}
use Rattle.sched_base.specs.declared.Spot.TheVariants as spots
use Rattle.sched_base.specs.declared.Step.{Step}
use Rattle.link_arena.specs.Arena.{value_at}
use Rattle.flat_policy.specs.Policy.Clusters.{NameStands}
use Rattle.sched_base.specs.declared.Facts.{Facts}
use Rattle.flat_policy.specs.Policy.BuiltSetups.{IsSetup}
use Rattle.flat_policy.specs.Policy.Machine.{GRun, MachineState, Yard, effective_moment, fits_step, last_at, reply, spot_of, state_after}
use Rattle.flat_policy.specs.Policy.Queue.{Flat}
use Rattle.flat_policy.specs.Policy.Setup.{SetupParts, actor_count, cluster_count}
use Rattle.trace_machine.specs.Acting.{Acts, ActsTo, IsSet, KeepsOn}
use Rattle.trace_machine.specs.Machines.{MachineView, Means, MeansOver, StandsThere, StepsTo, reply_in}
use Rattle.trace_machine.specs.Parts.{AllServe, PartsView, cluster_at, hand_of, state_of}
use Rattle.trace_machine.specs.Yards.{YardView, standing_of}
use Rattle.trace_machine.specs.declared.Reply.{Reply}
use Rattle.trace_machine.specs.declared.names.Standing.{Standing}
use Rattle.trace_machine.specs.declared.names.Standing.TheVariants as standings
use Rattle.trace_machine.specs.declared.yard.Resting.{Resting}
use Rattle.trace_machine.proofs.Histories.{history_grows, moment_soon}
use Rattle.trace_machine.proofs.Keeping.{outcome_is}
use Rattle.trace_machine.proofs.Moments.{clusters_there, hands_there, step_parts}
use Rattle.trace_machine.proofs.Setting.{flat_here, serves_longer}

-- the last moment of the actor, and of the place, are not after the effective moment
spot_before : (p : PartsView) (y : Yard) (o : Option Spot) (c : ℕ) → o ≡ Some (spots.Cluster c) → (cluster_at p c).flat.last ≤ last_at (state_of p y) o
spot_before p y o c is = subst (λ (q : Option Spot). (cluster_at p c).flat.last ≤ last_at (state_of p y) q) (sym is) (omega (arith, ap (λ (s : Flat). s.last) (flat_here p y c)))

yard_before : (p : PartsView) (y : Yard) (o : Option Spot) → o ≡ Some spots.Yard → y.last ≤ last_at (state_of p y) o
yard_before p y o is = subst (λ (q : Option Spot). y.last ≤ last_at (state_of p y) q) (sym is) (omega arith)

-- a machine that means something is set for a step that fits, at its effective moment
pub set_for : (v : MachineView) (y : Yard) (s : Step) (now : ℕ) → MeansOver v y → KeepsOn v y → IsTrue (fits_step v.parts.setup s) → v.steps < 2 ^ 50
    → now ≡ effective_moment v.parts.setup (state_of v.parts y) s → IsSet v s.actor now s.act
set_for v y s now means keeps fits few is =
    let parts = step_parts v.parts.setup s fits in
    let spot = spot_of v.parts.setup s in
    let g : MachineState = state_of v.parts y in
    record {
      machine = (g, (y, refl, means));
      ready = record {
        setup = means.setup;
        clusters = clusters_there v y keeps;
        hands = hands_there v y keeps;
        serve = λ c below. serves_longer v.parts.setup v.steps (2 ^ 50) c (cluster_at v.parts c) (omega (arith, few)) (means.serve c below);
        actor = parts.actor;
        hand = keeps.before.sound.hands s.actor parts.actor;
      };
      steps = few;
      moment = subst (λ n. n < moment_limit) (sym is) (moment_soon v.parts.setup g s keeps.before.sound fits);
      act_fits = parts.act;
      numbers = parts.numbers;
      after_hand = omega (arith, is);
      after_yard = λ o. omega (arith, is, yard_before v.parts y spot o, means.yard.last);
      after_cluster = λ c o. omega (arith, is, spot_before v.parts y spot c o);
    }

-- a name stands alike in machines of the same parts and yard
same_standing : (v w : MachineView) (y : Yard) (name : ℕ) (o : Option Standing) → w.parts ≡ v.parts → w.yard ≡ v.yard → StandsThere v y name o → StandsThere w y name o
same_standing v w y name None parts yard stands = stands
same_standing v w y name (Some (standings.Queued t)) parts yard stands =
    subst (λ (p : PartsView). (t.cluster < cluster_count p.setup) × NameStands (cluster_at p t.cluster) t.slot t.arrival name) (sym parts) stands
same_standing v w y name (Some (standings.Held a)) parts yard stands =
    subst (λ (p : PartsView). (a < actor_count p.setup) × ((t : Facts) × ((hand_of p a).thread ≡ Some t) × (t.name ≡ name))) (sym parts) stands
same_standing v w y name (Some (standings.Blocked slot)) parts yard stands =
    subst (λ (x : YardView). (r : Resting) × (value_at x.sleepers slot ≡ Some r) × (r.thread.name ≡ name)) (sym yard) stands
same_standing v w y name (Some standings.Ended) parts yard stands = stands

-- what an act comes to is what the step comes to
steps_there : (old new : MachineView) (s : Step) (now : ℕ) (answer : Answer) (y : Yard) → MeansOver old y → KeepsOn old y → IsTrue (fits_step old.parts.setup s)
    → now ≡ effective_moment old.parts.setup (state_of old.parts y) s → ActsTo old new y s.actor now s.act answer
    → (record { moment = now; answer = answer } ≡ reply_in (reply old.parts.setup (state_of old.parts y) s))
    × Means (record new { steps = new.steps + 1 }) (state_after old.parts.setup (state_of old.parts y) s) × (new.parts.setup ≡ old.parts.setup)
steps_there old new s now answer y over keeps fits moment done =
    let setup : SetupParts = old.parts.setup in
    let here : MachineState = state_of old.parts y in
    let last : MachineView = record new { steps = new.steps + 1 } in
    let comes = outcome_is setup here s now (sym moment) in
    let state : state_after setup here s ≡ state_of new.parts done.after = ap (λ o. o.state) comes ∙ done.leads in
    let run = history_grows setup here s old.steps over.history keeps.before.sound fits in
    let next : MeansOver last done.after = record {
      setup = subst IsSetup (sym done.keeps_setup) over.setup;
      serve = subst (λ n. AllServe n new.parts) (ap (λ n. n + 1) (sym done.steps)) done.serve;
      yard = record {
        last = done.yard.last;
        live = done.yard.live;
        count = done.yard.count;
        blocked = done.yard.blocked;
        named = done.yard.named;
        room = done.yard.room;
      };
      names = λ name. same_standing new last done.after name (standing_of new.names name) refl refl (done.names name);
      history = (run.0, subst (λ (p : SetupParts). GRun p run.0 (state_of new.parts done.after)) (sym done.keeps_setup) (subst (GRun setup run.0) state run.1), omega (arith, run.2, done.steps));
    } in (
      ap₂ (λ n a. record { moment = n; answer = a }) moment (sym (ap (λ o. o.answer) comes ∙ done.answers)),
      (done.after, state, next),
      done.keeps_setup,
    )

pub steps_to : (old new last : MachineView) (s : Step) (now : ℕ) (answer : Answer) → ((y : Yard) → MeansOver old y → KeepsOn old y) → IsTrue (fits_step old.parts.setup s)
    → ((y : Yard) → MeansOver old y → now ≡ effective_moment old.parts.setup (state_of old.parts y) s)
    → Acts old new s.actor now s.act answer → last ≡ record new { steps = new.steps + 1 }
    → StepsTo old last s (record { moment = now; answer = answer })
steps_to old new last s now answer keeps fits moment acts is g means =
    let y : Yard = means.0 in
    let over = means.2 in
    let told : Reply = record { moment = now; answer = answer } in
    let setup : SetupParts = old.parts.setup in
    subst (λ (w : MachineView). (told ≡ reply_in (reply setup g s)) × Means w (state_after setup g s) × (w.parts.setup ≡ setup)) (sym is)
    (subst (λ (h : MachineState). (told ≡ reply_in (reply setup h s)) × Means (record new { steps = new.steps + 1 }) (state_after setup h s) × (new.parts.setup ≡ setup)) (sym means.1)
    (steps_there old new s now answer y over (keeps y over) fits (moment y over) (acts y over)))

-- what holds in any case holds of an error
pub on_error : {T E : Type 0} (r : Result T E) {P : Type 0} → P → OnErr r P
on_error (Ok value) p = tt
on_error (Err e) p = p
