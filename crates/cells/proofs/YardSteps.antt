-- Making a thread, going to sleep and ending in a held yard: the steps that their lines make, and what they keep.
use Rattle.std.proofs.Common.{◌≡◌, ℕ, ◌+◌, ◌<◌, ◌≤◌, ◌==◌, nat_le, nat_lt, ◌^◌, ◌&&◌, not, true, false, List, [], ◌∷◌, ◌++◌, length, Option, None, Some, refl, sym, ap, ◌∙◌, arith}
use Rattle.std.specs.List.{list_any}
use Rattle.std.specs.Option.{option_map_or}
use Rattle.std.specs.Prelude.{IsTrue}
use Rattle.std.proofs.lemmas.Bool.{and_from, le-leb, lt-ltb}
use Rattle.std.proofs.lemmas.List.{length_push}
use Rattle.rights.specs.Values.{DeskId}
use Rattle.sched_base.specs.Limits.{moment_limit, most_base, most_threads}
use Rattle.sched_base.specs.declared.Act.TheVariants as acts
use Rattle.sched_base.specs.declared.Facts.{Facts}
use Rattle.sched_base.specs.declared.Step.{Step}
use Rattle.flat_policy.specs.Policy.Machine.{fits_act, fits_step, numbers_fit}
use Rattle.flat_policy.specs.Policy.Setup.{SetupParts, actor_count, cluster_count, group_count}
use Rattle.flat_policy.specs.Policy.Threads.{ThreadFits, made_thread}
use Rattle.flat_policy.specs.Runs.Histories.{DueSleeper, RunYard, YStep, due_after, ending, live_of_run, making, sleeping, where_true}
use Rattle.flat_policy.specs.Runs.Worker.{Program}
use Rattle.cells.specs.Courses.{OnCourse}
use Rattle.cells.specs.Held.{unmarked}
use Rattle.cells.specs.Yards.{EachBlocked, IsSleeper, KeepsYard, YardParts, enlisting, make_act, spare_in, yard_entry, yard_moment, yard_stepped}
use Rattle.cells.proofs.YardKeeping.{made_within, yard_stepped_keeps}

-- a setup fits a step of an actor of its own, at a moment that is not too late
pub fits_from : (setup : SetupParts) (step : Step) → step.moment < moment_limit → step.actor < actor_count setup → fits_act setup step.act ≡ true → numbers_fit step.act ≡ true → IsTrue (fits_step setup step)
fits_from setup step soon known act numbers =
    and_from (nat_lt step.moment moment_limit) (nat_lt step.actor (actor_count setup) && (fits_act setup step.act && numbers_fit step.act)) (lt-ltb step.moment moment_limit soon)
    (and_from (nat_lt step.actor (actor_count setup)) (fits_act setup step.act && numbers_fit step.act) (lt-ltb step.actor (actor_count setup) known)
    (and_from (fits_act setup step.act) (numbers_fit step.act) act numbers))

-- what holds of each of some blocked threads, and of one more, holds of each of all of them
pub blocked_push : (P : DueSleeper → Type 0) (ws : List DueSleeper) (w : DueSleeper) → EachBlocked P ws → P w → EachBlocked P (ws ++ w ∷ [])
blocked_push P [] w each here = (here, tt)
blocked_push P (v ∷ ws) w each here = (each.0, blocked_push P ws w each.1 here)

end_step : (setup : SetupParts) (y : RunYard) (t : Facts) (moment actor : ℕ) → moment < moment_limit → actor < actor_count setup → y.last ≤ moment
    → YStep setup y (unmarked (yard_entry moment actor acts.End (ending y moment t))) (ending y moment t).yard
end_step setup y t moment actor soon known later = record {
  fits = record { step = fits_from setup (record { moment = moment; actor = actor; act = acts.End }) soon known refl refl; mark = refl };
  not_before = later;
  event = ending y moment t;
  happens = refl;
  told = record { answer = refl; thread = refl };
  leads = refl;
}

sleep_step : (setup : SetupParts) (y : RunYard) (t : Facts) (span moment actor : ℕ) → moment < moment_limit → actor < actor_count setup → y.last ≤ moment
    → YStep setup y (record { entry = yard_entry moment actor acts.Sleep (sleeping y moment t span); mark = Some span }) (sleeping y moment t span).yard
sleep_step setup y t span moment actor soon known later = record {
  fits = record { step = fits_from setup (record { moment = moment; actor = actor; act = acts.Sleep }) soon known refl refl; mark = refl };
  not_before = later;
  event = sleeping y moment t span;
  happens = refl;
  told = record { answer = refl; thread = refl };
  leads = refl;
}

-- the cluster that a thread is bound to is there
bound_within : (o : Option ℕ) (n : ℕ) → ((c : ℕ) → o ≡ Some c → c < n) → option_map_or (λ c. nat_lt c n) o true ≡ true
bound_within None n within = refl
bound_within (Some c) n within = lt-ltb c n (within c refl)

-- a setup fits the making of a thread that fits it
make_fits : (setup : SetupParts) (t : Facts) → ThreadFits setup t → (fits_act setup (make_act t) ≡ true) × (numbers_fit (make_act t) ≡ true)
make_fits setup t f =
    let bound = option_map_or (λ (c : ℕ). nat_lt c (cluster_count setup)) t.bound true in (
      and_from (nat_lt t.group (group_count setup)) (nat_le t.base most_base && bound) (lt-ltb t.group (group_count setup) f.group)
          (and_from (nat_le t.base most_base) bound (le-leb t.base most_base f.base) (bound_within t.bound (cluster_count setup) f.bound)),
      lt-ltb t.name (2 ^ 32) f.name,
    )

make_step : (setup : SetupParts) (y : RunYard) (t : Facts) (moment actor : ℕ) → moment < moment_limit → actor < actor_count setup → y.last ≤ moment
    → ThreadFits setup t → t ≡ made_thread setup t.name t.group t.bucket t.base t.bound moment → list_any (λ n. n == t.name) y.made ≡ false → live_of_run y < setup.threads
    → YStep setup y (unmarked (yard_entry moment actor (make_act t) (enlisting y moment t))) (enlisting y moment t).yard
make_step setup y t moment actor soon known later fits fresh unused live =
    let act = make_fits setup t fits in
    let unused_now : not (list_any (λ n. n == t.name) y.made) ≡ true = ap not unused in
    record {
      fits = record { step = fits_from setup (record { moment = moment; actor = actor; act = make_act t }) soon known act.0 act.1; mark = refl };
      not_before = later;
      event = enlisting y moment t;
      happens = ap (making setup y moment) (sym fresh)
          ∙ ap (λ b. where_true b (enlisting y moment t)) (and_from (not (list_any (λ n. n == t.name) y.made)) (nat_lt (live_of_run y) setup.threads) unused_now (lt-ltb (live_of_run y) setup.threads live));
      told = record { answer = refl; thread = refl };
      leads = refl;
    }

module _ (setup : SetupParts) (programs : List Program) (desks : List DeskId) (h : YardParts) (k : KeepsYard setup programs desks h) where
  -- what is kept after a thread ended, where fewer ended before than were made
  pub ends_keeps : (t : Facts) (now actor : ℕ) → now < moment_limit → actor < actor_count setup → length h.yard.ended + 1 ≤ length h.yard.made
      → KeepsYard setup programs desks (yard_stepped (unmarked (yard_entry (yard_moment h.yard now) actor acts.End (ending h.yard (yard_moment h.yard now) t))) (ending h.yard (yard_moment h.yard now) t).yard h)
  ends_keeps t now actor soon known some =
      let moment : ℕ = yard_moment h.yard now in
      let limit : moment < moment_limit = omega (arith, soon, k.last) in
      yard_stepped_keeps setup programs desks h k (unmarked (yard_entry moment actor acts.End (ending h.yard moment t))) (ending h.yard moment t).yard
      (end_step setup h.yard t moment actor limit known (omega arith)) k.course limit (omega (arith, k.few, k.minted)) (made_within setup programs desks h k) k.within
      (omega (arith, length_push h.yard.ended t.name, some))

  -- what is kept after a thread on course went to sleep
  pub sleeps_keeps : (t : Facts) (span now actor : ℕ) → now < moment_limit → actor < actor_count setup → OnCourse setup programs t → h.slots.parked + 1 ≤ h.slots.minted
      → KeepsYard setup programs desks (yard_stepped (record { entry = yard_entry (yard_moment h.yard now) actor acts.Sleep (sleeping h.yard (yard_moment h.yard now) t span); mark = Some span }) (sleeping h.yard (yard_moment h.yard now) t span).yard h)
  sleeps_keeps t span now actor soon known on room =
      let moment : ℕ = yard_moment h.yard now in
      let limit : moment < moment_limit = omega (arith, soon, k.last) in
      let w : DueSleeper = record { facts = t; since = moment; due = due_after moment span } in
      yard_stepped_keeps setup programs desks h k (record { entry = yard_entry moment actor acts.Sleep (sleeping h.yard moment t span); mark = Some span }) (sleeping h.yard moment t span).yard
      (sleep_step setup h.yard t span moment actor limit known (omega arith))
      (blocked_push (IsSleeper setup programs) h.yard.blocked w k.course (record { course = on; soon = omega arith }))
      limit (omega (arith, k.few, k.minted)) (made_within setup programs desks h k)
      (omega (arith, length_push h.yard.blocked w, room, k.parked, k.minted, made_within setup programs desks h k)) k.ended_few

  -- what is kept after a thread on course was made, where spare exceeds the slot rights not parked
  pub enlists_keeps : (t : Facts) (now actor : ℕ) → now < moment_limit → actor < actor_count setup → OnCourse setup programs t
      → t ≡ made_thread setup t.name t.group t.bucket t.base t.bound (yard_moment h.yard now) → list_any (λ n. n == t.name) h.yard.made ≡ false → live_of_run h.yard < setup.threads
      → length h.yard.made < most_threads → h.slots.minted < h.slots.parked + spare_in h
      → KeepsYard setup programs desks (yard_stepped (unmarked (yard_entry (yard_moment h.yard now) actor (make_act t) (enlisting h.yard (yard_moment h.yard now) t))) (enlisting h.yard (yard_moment h.yard now) t).yard h)
  enlists_keeps t now actor soon known on fresh unused live few room =
      let moment : ℕ = yard_moment h.yard now in
      let limit : moment < moment_limit = omega (arith, soon, k.last) in
      yard_stepped_keeps setup programs desks h k (unmarked (yard_entry moment actor (make_act t) (enlisting h.yard moment t))) (enlisting h.yard moment t).yard
      (make_step setup h.yard t moment actor limit known (omega arith) on.fits.thread fresh unused live) k.course limit
      (omega (arith, length_push h.yard.made t.name, few)) (omega (arith, length_push h.yard.made t.name, room, k.parked, k.minted, k.within)) k.within
      (omega (arith, length_push h.yard.made t.name, k.ended_few))
