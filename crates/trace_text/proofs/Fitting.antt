-- The numbers of a step that a built setup fits are in the ranges of lines.
use Rattle.std.proofs.Common.{◌≡◌, ◌≤◌, ◌^◌, ◌&&◌, ℕ, zero, suc, All, true, IfSome, IsTrue, List, [], ◌∷◌, None, Option, Some, arith, nat_le, nat_lt}
use Rattle.std.specs.Option.{option_map_or}
use Rattle.std.proofs.lemmas.Bool.{and_parts, leb-true, ltb-true}
use Rattle.sched_base.specs.Limits.{moment_limit}
use Rattle.sched_base.specs.declared.Act.{Act}
use Rattle.sched_base.specs.declared.Entry.{Entry}
use Rattle.sched_base.specs.declared.Step.{Step}
use Rattle.flat_policy.specs.Policy.BuiltSetups.{IsSetup}
use Rattle.flat_policy.specs.Policy.Machine.{MachineState, RunsFrom, fits_act, fits_step, numbers_fit, state_after}
use Rattle.flat_policy.specs.Policy.Setup.{SetupParts, actor_count, cluster_count, group_count}
use Rattle.trace_text.specs.Laws.{FittingStepsHaveTexts}
use Rattle.trace_text.specs.Writing.{ActFits, StepFits}
use Rattle.sched_base.specs.declared.Act.TheVariants as acts

cluster_fits : (count c : ℕ) → count ≤ 8 → nat_lt c count ≡ true → c ≤ 15
cluster_fits count c few e = let below = ltb-true c count e in omega arith

bound_fits : (count : ℕ) (bound : Option ℕ) → count ≤ 8 → option_map_or (λ c. nat_lt c count) bound true ≡ true → IfSome bound (λ c. c ≤ 15)
bound_fits count None few e = tt
bound_fits count (Some c) few e = cluster_fits count c few e

act_fits : (setup : SetupParts) → IsSetup setup → (a : Act) → fits_act setup a ≡ true → numbers_fit a ≡ true → ActFits a
act_fits setup is (acts.Make name group bucket base bound) e n =
    let p = and_parts (nat_lt group (group_count setup)) (nat_le base 127 && option_map_or (λ c. nat_lt c (cluster_count setup)) bound true) e in
    let q = and_parts (nat_le base 127) (option_map_or (λ c. nat_lt c (cluster_count setup)) bound true) p.1 in
    let below = ltb-true group (group_count setup) p.0 in
    let most : group_count setup ≤ 64 = is.groups_most in
    let group_fits : group ≤ 63 = omega arith in
    (ltb-true name (2 ^ 32) n, group_fits, leb-true base 127 q.0, bound_fits (cluster_count setup) bound is.clusters_most q.1)
act_fits setup is (acts.Enter c head) e n = cluster_fits (cluster_count setup) c is.clusters_most e
act_fits setup is acts.Select e n = tt
act_fits setup is (acts.Offer c) e n = cluster_fits (cluster_count setup) c is.clusters_most e
act_fits setup is (acts.Pull name) e n = ltb-true name (2 ^ 32) n
act_fits setup is (acts.Look c) e n = cluster_fits (cluster_count setup) c is.clusters_most e
act_fits setup is acts.Aim e n = tt
act_fits setup is (acts.Ran us) e n = ltb-true us (2 ^ 32) n
act_fits setup is acts.Sleep e n = tt
act_fits setup is (acts.Wake name) e n = ltb-true name (2 ^ 32) n
act_fits setup is acts.End e n = tt
act_fits setup is acts.Blocked e n = tt
act_fits setup is acts.Refresh e n = tt
act_fits setup is (acts.Off c) e n = cluster_fits (cluster_count setup) c is.clusters_most e
act_fits setup is (acts.On c) e n = cluster_fits (cluster_count setup) c is.clusters_most e

-- a fact of the first and of each other
All-cons : {A : Type 0} (P : A → Type 0) (x : A) (xs : List A) → P x → All P xs → All P (x ∷ xs)
All-cons P x xs first others zero d lt = first
All-cons P x xs first others (suc k) d lt = others k d (omega arith)

pub step_fits : (setup : SetupParts) (s : Step) → IsSetup setup → IsTrue (fits_step setup s) → StepFits s
step_fits setup s is e =
    let p = and_parts (nat_lt s.moment moment_limit) (nat_lt s.actor (actor_count setup) && (fits_act setup s.act && numbers_fit s.act)) e in
    let q = and_parts (nat_lt s.actor (actor_count setup)) (fits_act setup s.act && numbers_fit s.act) p.1 in
    let r = and_parts (fits_act setup s.act) (numbers_fit s.act) q.1 in
    let actor = ltb-true s.actor (actor_count setup) q.0 in
    let most : actor_count setup ≤ 16 = is.actors_most in
    record { moment = ltb-true s.moment moment_limit p.0; actor = omega arith; act = act_fits setup is s.act r.0 r.1 }

history_fits : (setup : SetupParts) (g end : MachineState) (es : List Entry) → IsSetup setup → RunsFrom setup g es end → All (λ (e : Entry). StepFits e.step) es
history_fits setup g end [] is run = λ k d lt. absurd (omega arith)
history_fits setup g end (e ∷ es) is run =
    All-cons (λ (e : Entry). StepFits e.step) e es (step_fits setup e.step is run.0) (history_fits setup (state_after setup g e.step) end es is run.2)

pub fitting_steps : FittingStepsHaveTexts
fitting_steps = record { step = step_fits; history = history_fits }
