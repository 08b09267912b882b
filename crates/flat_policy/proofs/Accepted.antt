-- What each step that the setup fits does to a sound state.
use Rattle.std.proofs.Common.{◌≡◌, ℕ, ◌<◌, ◌==◌, ◌^◌, nat_le, nat_lt, Bool, true, false, ◌&&◌, cond, List, [], ◌∷◌, Option, Some, None, is_some, refl, sym, subst, arith}
use Rattle.std.specs.Option.{option_map_or}
use Rattle.std.proofs.lemmas.Bool.{and_parts, false≢true, leb-false, leb-true, ltb-true}
use Rattle.std.proofs.lemmas.Option.{none-some, same_Some}
use Rattle.sched_base.specs.Limits.{moment_limit, most_base}
use Rattle.sched_base.specs.declared.Act.{Act}
use Rattle.sched_base.specs.declared.Act.TheVariants as acts
use Rattle.sched_base.specs.declared.Answer.{Answer}
use Rattle.sched_base.specs.declared.Answer.TheVariants as answers
use Rattle.sched_base.specs.declared.Bucket.{Bucket}
use Rattle.sched_base.specs.declared.Facts.{Facts}
use Rattle.sched_base.specs.declared.Step.{Step}
use Rattle.flat_policy.specs.Policy.ClusterSteps.{named_entry, offer_event, select_event}
use Rattle.flat_policy.specs.Policy.Threads.{ThreadFits, made_thread}
use Rattle.flat_policy.specs.Laws.Sound.{Sound}
use Rattle.flat_policy.specs.Policy.Machine.{MachineState, Refusal, accepted_by, effective_moment, first_refusal, fits_act, fits_step, flat_at, hand_at, hand_full, last_at, live_count, name_used, no_room, not_blocked, not_queued, numbers_fit, outcome_by, refusal, refusals_by, refuse, site_of, sleeper_of, spot_from, state_after}
use Rattle.flat_policy.specs.Policy.Setup.{SetupParts, actor_count, cluster_count, group_count, home_of}
use Rattle.flat_policy.proofs.HandMoves.{aim_goes, look_goes, power_goes, ran_goes, refresh_goes}
use Rattle.flat_policy.proofs.Moved.{enter_goes, offer_out, pull_goes, select_out, taking_goes}
use Rattle.flat_policy.proofs.SoundParts.{Goes, goes_nowhere, home_within}
use Rattle.flat_policy.proofs.YardMoves.{blocked_goes, end_goes, make_goes, sleep_goes, wake_goes}

none_holds : (b : Bool) (a : Answer) (o : Option Answer) → cond b (Some a) o ≡ None → (b ≡ false) × (o ≡ None)
none_holds true a o h = absurd (none-some a (sym h))
none_holds false a o h = (refl, h)

-- where no refusal comes, none of their conditions holds
pub no_refusal : (r : Refusal) (rs : List Refusal) → first_refusal (r ∷ rs) ≡ None → (r.holds ≡ false) × (first_refusal rs ≡ None)
no_refusal r rs h = none_holds r.holds r.answer (first_refusal rs) h

no_thread : (o : Option Facts) → is_some o ≡ false → o ≡ None
no_thread None h = refl
no_thread (Some t) h = absurd (false≢true (sym h))

bound_fits : (n c : ℕ) (bound : Option ℕ) → option_map_or (λ d. nat_lt d n) bound true ≡ true → bound ≡ Some c → c < n
bound_fits n c None h e = absurd (none-some c e)
bound_fits n c (Some b) h e = subst (λ d. d < n) (same_Some b c e) (ltb-true b n h)

made_fits : (setup : SetupParts) (name group : ℕ) (bucket : Bucket) (base : ℕ) (bound : Option ℕ) (now : ℕ) → fits_act setup (acts.Make name group bucket base bound) ≡ true → name < 2 ^ 32 → ThreadFits setup (made_thread setup name group bucket base bound now)
made_fits setup name group bucket base bound now h short =
    let outer = and_parts (nat_lt group (group_count setup)) (nat_le base most_base && option_map_or (λ c. nat_lt c (cluster_count setup)) bound true) h in
    let inner = and_parts (nat_le base most_base) (option_map_or (λ c. nat_lt c (cluster_count setup)) bound true) outer.1 in
    record {
      group = ltb-true group (group_count setup) outer.0;
      base = leb-true base most_base inner.0;
      bound = λ c e. bound_fits (cluster_count setup) c bound inner.1 e;
      prefer = refl;
      name = short;
      usage = omega arith;
      pending_ran = omega arith;
      pending_blocked = omega arith;
    }

-- the last moment of an act's spot
spot_last : (setup : SetupParts) (g : MachineState) (home : ℕ) (act : Act) → Sound setup g → home < cluster_count setup → fits_act setup act ≡ true → last_at g (spot_from home (site_of act)) < moment_limit
spot_last setup g home (acts.Make name group bucket base bound) sound hin fits = sound.yard.last
spot_last setup g home (acts.Enter c head) sound hin fits = (sound.flats c (ltb-true c (cluster_count setup) fits)).last
spot_last setup g home acts.Select sound hin fits = (sound.flats home hin).last
spot_last setup g home (acts.Offer c) sound hin fits = (sound.flats c (ltb-true c (cluster_count setup) fits)).last
spot_last setup g home (acts.Pull name) sound hin fits = (sound.flats home hin).last
spot_last setup g home (acts.Look c) sound hin fits = (sound.flats c (ltb-true c (cluster_count setup) fits)).last
spot_last setup g home acts.Aim sound hin fits = omega arith
spot_last setup g home (acts.Ran us) sound hin fits = omega arith
spot_last setup g home acts.Sleep sound hin fits = sound.yard.last
spot_last setup g home (acts.Wake name) sound hin fits = sound.yard.last
spot_last setup g home acts.End sound hin fits = sound.yard.last
spot_last setup g home acts.Blocked sound hin fits = sound.yard.last
spot_last setup g home acts.Refresh sound hin fits = (sound.flats home hin).last
spot_last setup g home (acts.Off c) sound hin fits = (sound.flats c (ltb-true c (cluster_count setup) fits)).last
spot_last setup g home (acts.On c) sound hin fits = (sound.flats c (ltb-true c (cluster_count setup) fits)).last

-- what it is for a setup to fit a step
pub record StepFits (setup : SetupParts) (step : Step) : Type 0 where
  pub moment : step.moment < moment_limit
  pub actor : step.actor < actor_count setup
  pub act : fits_act setup step.act ≡ true
  pub numbers : numbers_fit step.act ≡ true

pub step_parts : (setup : SetupParts) (step : Step) → fits_step setup step ≡ true → StepFits setup step
step_parts setup step fits =
    let numbers : Bool = fits_act setup step.act && numbers_fit step.act in
    let outer = and_parts (nat_lt step.moment moment_limit) (nat_lt step.actor (actor_count setup) && numbers) fits in
    let inner = and_parts (nat_lt step.actor (actor_count setup)) numbers outer.1 in
    let last = and_parts (fits_act setup step.act) (numbers_fit step.act) inner.1 in
    record {
      moment = ltb-true step.moment moment_limit outer.0;
      actor = ltb-true step.actor (actor_count setup) inner.0;
      act = last.0;
      numbers = last.1;
    }

-- the effective moment of a step that fits
pub moment_soon : (setup : SetupParts) (g : MachineState) (step : Step) → Sound setup g → StepFits setup step → effective_moment setup g step < moment_limit
moment_soon setup g step sound fits =
    omega (
      arith,
      fits.moment,
      (sound.hands step.actor fits.actor).last,
      spot_last setup g (home_of setup step.actor) step.act sound (home_within setup step.actor fits.actor) fits.act,
    )

-- by what the actor does
pub accepted_goes : (setup : SetupParts) (g : MachineState) (a now : ℕ) (act : Act) → Sound setup g → a < actor_count setup → now < moment_limit → fits_act setup act ≡ true → numbers_fit act ≡ true → first_refusal (refusals_by setup g a (hand_at g a) act) ≡ None → Goes setup g (accepted_by setup g a (hand_at g a) now act).state
accepted_goes setup g a now (acts.Make name group bucket base bound) sound ain soon fits numbers none =
    let full = no_refusal (hand_full (hand_at g a)) (name_used g.yard name ∷ no_room setup g.yard ∷ []) none in
    let used = no_refusal (name_used g.yard name) (no_room setup g.yard ∷ []) full.1 in
    let room = no_refusal (no_room setup g.yard) [] used.1 in
    make_goes setup g a now (made_thread setup name group bucket base bound now) sound ain soon (no_thread (hand_at g a).thread full.0)
    (made_fits setup name group bucket base bound now fits (ltb-true name (2 ^ 32) numbers)) used.0 (leb-false setup.threads (live_count g.yard) room.0)
accepted_goes setup g a now (acts.Enter c head) sound ain soon fits numbers none =
    enter_goes setup g a c head now sound ain (ltb-true c (cluster_count setup) fits) soon (hand_at g a).thread refl
accepted_goes setup g a now acts.Select sound ain soon fits numbers none =
    let home = home_within setup a ain in
    let c = home_of setup a in
    taking_goes setup g a c now (select_event setup c now (flat_at g c)) sound ain home soon
    (no_thread (hand_at g a).thread (no_refusal (hand_full (hand_at g a)) [] none).0)
    (select_out setup (flat_at g c) c now soon (sound.flats c home))
accepted_goes setup g a now (acts.Offer c) sound ain soon fits numbers none =
    let cin = ltb-true c (cluster_count setup) fits in
    taking_goes setup g a c now (offer_event setup c (home_of setup a) now (flat_at g c)) sound ain cin soon
    (no_thread (hand_at g a).thread (no_refusal (hand_full (hand_at g a)) (refuse (c == home_of setup a) answers.OwnCluster ∷ []) none).0)
    (offer_out setup (flat_at g c) c (home_of setup a) now soon (sound.flats c cin))
accepted_goes setup g a now (acts.Pull name) sound ain soon fits numbers none =
    let c = home_of setup a in
    pull_goes setup g a c now name sound ain (home_within setup a ain) soon
    (no_thread (hand_at g a).thread (no_refusal (hand_full (hand_at g a)) (not_queued g (flat_at g c) name ∷ []) none).0)
    (named_entry (flat_at g c) name) refl
accepted_goes setup g a now (acts.Look c) sound ain soon fits numbers none = look_goes setup g a c now sound ain (ltb-true c (cluster_count setup) fits) soon (hand_at g a).thread
accepted_goes setup g a now acts.Aim sound ain soon fits numbers none = aim_goes setup g a now sound ain soon (hand_at g a).thread
accepted_goes setup g a now (acts.Ran us) sound ain soon fits numbers none = ran_goes setup g a us now sound ain soon (hand_at g a).thread refl
accepted_goes setup g a now acts.Sleep sound ain soon fits numbers none = sleep_goes setup g a now sound ain soon (hand_at g a).thread refl
accepted_goes setup g a now (acts.Wake name) sound ain soon fits numbers none =
    wake_goes setup g a now name sound ain soon
    (no_thread (hand_at g a).thread (no_refusal (hand_full (hand_at g a)) (not_blocked g name ∷ []) none).0)
    (sleeper_of g.yard name) refl
accepted_goes setup g a now acts.End sound ain soon fits numbers none = end_goes setup g a now sound ain soon (hand_at g a).thread refl
accepted_goes setup g a now acts.Blocked sound ain soon fits numbers none = blocked_goes setup g a now sound ain soon
accepted_goes setup g a now acts.Refresh sound ain soon fits numbers none = refresh_goes setup g a (home_of setup a) now sound ain (home_within setup a ain) soon
accepted_goes setup g a now (acts.Off c) sound ain soon fits numbers none = power_goes setup g a c now false sound ain (ltb-true c (cluster_count setup) fits) soon
accepted_goes setup g a now (acts.On c) sound ain soon fits numbers none = power_goes setup g a c now true sound ain (ltb-true c (cluster_count setup) fits) soon

step_by : (setup : SetupParts) (g : MachineState) (step : Step) → Sound setup g → fits_step setup step ≡ true → (o : Option Answer) → refusal setup g step ≡ o → Goes setup g (outcome_by setup g step o).state
step_by setup g step sound fits (Some answer) e = goes_nowhere setup g sound
step_by setup g step sound fits None e =
    let parts = step_parts setup step fits in
    accepted_goes setup g step.actor (effective_moment setup g step) step.act sound parts.actor (moment_soon setup g step sound parts) parts.act parts.numbers e

pub step_goes : (setup : SetupParts) (g : MachineState) (step : Step) → Sound setup g → fits_step setup step ≡ true → Goes setup g (state_after setup g step)
step_goes setup g step sound fits = step_by setup g step sound fits (refusal setup g step) refl
