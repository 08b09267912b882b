-- A history of the machine grows by one line at its end: the reply to the next step.
use Rattle.std.proofs.Common.{◌≡◌, ℕ, Contains, ◌+◌, ◌<◌, ◌≤◌, ◌&&◌, List, [], ◌∷◌, ◌++◌, length, Option, Some, None, IsTrue, nat_lt, refl, sym, ap, ◌∙◌, subst, inl, inr, arith}
use Rattle.std.proofs.lemmas.Bool.{and_from, and_parts, cases_lt, lt-ltb, ltb-true}
use Rattle.std.proofs.lemmas.List.{get_or_past, length_push}
use Rattle.sched_base.specs.Limits.{moment_limit}
use Rattle.sched_base.specs.declared.Answer.{Answer}
use Rattle.sched_base.specs.declared.Entry.{Entry}
use Rattle.sched_base.specs.declared.Spot.{Spot}
use Rattle.sched_base.specs.declared.Spot.TheVariants as spots
use Rattle.sched_base.specs.declared.Step.{Step}
use Rattle.flat_policy.specs.Laws.Sound.{Sound, StepsKeepSound}
use Rattle.trace_machine.proofs.Found.{contains_here, contains_later}
use Rattle.flat_policy.specs.Policy.Machine.{GRun, Hand, MachineState, Outcome, RunsFrom, accepted_by, effective_moment, empty_machine, fits_act, fits_step, hand_at, last_at, no_hand, numbers_fit, outcome, outcome_by, refusal, replies, reply, spot_of, state_after, states_after}
use Rattle.flat_policy.specs.Policy.Queue.{Flat, empty_flat}
use Rattle.flat_policy.specs.Policy.Setup.{SetupParts, actor_count, cluster_count}

-- the last moments of a sound state are in range
hand_soon : (setup : SetupParts) (g : MachineState) (a : ℕ) → Sound setup g → (hand_at g a).last < moment_limit
hand_soon setup g a sound =
    elim (cases_lt a (actor_count setup)) [
      | inl within ↦ (sound.hands a within).last
      | inr past ↦ subst (λ (h : Hand). h.last < moment_limit) (sym (get_or_past g.hands a no_hand (omega (arith, past, sound.hands_length)))) (omega arith)
    ]

spot_soon : (setup : SetupParts) (g : MachineState) → Sound setup g → (o : Option Spot) → last_at g o < moment_limit
spot_soon setup g sound None = omega arith
spot_soon setup g sound (Some (spots.Cluster c)) =
    elim (cases_lt c (cluster_count setup)) [
      | inl within ↦ (sound.flats c within).last
      | inr past ↦ subst (λ (s : Flat). s.last < moment_limit) (sym (get_or_past g.flats c (empty_flat 0) (omega (arith, past, sound.flats_length)))) (omega arith)
    ]
spot_soon setup g sound (Some spots.Yard) = sound.yard.last

-- a step at its effective moment
abbrev settled : SetupParts → MachineState → Step → Step
settled setup g s = record s { moment = effective_moment setup g s }

-- the effective moment of a step at its effective moment is the same
moment_settles : (setup : SetupParts) (g : MachineState) (s : Step) → effective_moment setup g (settled setup g s) ≡ effective_moment setup g s
moment_settles setup g s = omega arith

-- such a step fits
settled_fits : (setup : SetupParts) (g : MachineState) (s : Step) → Sound setup g → IsTrue (fits_step setup s) → IsTrue (fits_step setup (settled setup g s))
settled_fits setup g s sound fits =
    let rest = nat_lt s.actor (actor_count setup) && (fits_act setup s.act && numbers_fit s.act) in
    let parts = and_parts (nat_lt s.moment moment_limit) rest fits in
    let soon : effective_moment setup g s < moment_limit =
    omega (arith, ltb-true s.moment moment_limit parts.0, hand_soon setup g s.actor sound, spot_soon setup g sound (spot_of setup s)) in
    and_from (nat_lt (effective_moment setup g s) moment_limit) rest (lt-ltb (effective_moment setup g s) moment_limit soon) parts.1

-- what a step comes to at a moment, by its refusal
at_moment : SetupParts → MachineState → Step → ℕ → Option Answer → Outcome
at_moment setup g s now (Some answer) = record { answer = answer; thread = None; state = g }
at_moment setup g s now None = accepted_by setup g s.actor (hand_at g s.actor) now s.act

by_moment : (setup : SetupParts) (g : MachineState) (s : Step) (m : ℕ) (o : Option Answer) → outcome_by setup g (record s { moment = m }) o ≡ at_moment setup g s (effective_moment setup g (record s { moment = m })) o
unfolding at_moment
by_moment setup g s m (Some answer) = refl
by_moment setup g s m None = refl

-- a step at its effective moment comes to the same, and so is replied the same
outcome_settles : (setup : SetupParts) (g : MachineState) (s : Step) → outcome setup g (settled setup g s) ≡ outcome setup g s
outcome_settles setup g s =
    by_moment setup g s (effective_moment setup g s) (refusal setup g s)
    ∙ ap (λ m. at_moment setup g s m (refusal setup g s)) (moment_settles setup g s)
    ∙ sym (by_moment setup g s s.moment (refusal setup g s))

abbrev told : Step → ℕ → Outcome → Entry
told s m o = record { step = record s { moment = m }; answer = o.answer; thread = o.thread }

reply_settles : (setup : SetupParts) (g : MachineState) (s : Step) → reply setup g (settled setup g s) ≡ reply setup g s
reply_settles setup g s =
    ap (λ m. told s m (outcome setup g (settled setup g s))) (moment_settles setup g s)
    ∙ ap (told s (effective_moment setup g s)) (outcome_settles setup g s)

-- a run from any state goes on with the reply to a step
runs_on : (setup : SetupParts) (g : MachineState) (h : List Entry) (end : MachineState) (s : Step) → RunsFrom setup g h end → Sound setup end → IsTrue (fits_step setup s) → RunsFrom setup g (h ++ reply setup end s ∷ []) (state_after setup end s)
runs_on setup g [] end s run sound fits =
    subst (λ (k : MachineState). RunsFrom setup k (reply setup end s ∷ []) (state_after setup end s)) run
    (settled_fits setup end s sound fits, reply_settles setup end s, sym (ap (λ (o : Outcome). o.state) (outcome_settles setup end s)))
runs_on setup g (e ∷ es) end s run sound fits = (run.0, run.1, runs_on setup (state_after setup g e.step) es end s run.2 sound fits)

-- a history of no more lines than some number becomes one of no more than one more, where its end is sound and the setup fits the step
pub history_grows : (setup : SetupParts) (g : MachineState) (s : Step) (n : ℕ) → (h : List Entry) × GRun setup h g × (length h ≤ n) → Sound setup g → IsTrue (fits_step setup s)
    → (h : List Entry) × GRun setup h (state_after setup g s) × (length h ≤ n + 1)
history_grows setup g s n old sound fits =
    (old.0 ++ reply setup g s ∷ [], runs_on setup (empty_machine setup) old.0 g s old.1 sound fits, omega (arith, old.2, length_push old.0 (reply setup g s)))

-- the effective moment of a step that fits is in range
pub moment_soon : (setup : SetupParts) (g : MachineState) (s : Step) → Sound setup g → IsTrue (fits_step setup s) → effective_moment setup g s < moment_limit
moment_soon setup g s sound fits =
    let rest = nat_lt s.actor (actor_count setup) && (fits_act setup s.act && numbers_fit s.act) in
    omega (arith, ltb-true s.moment moment_limit (and_parts (nat_lt s.moment moment_limit) rest fits).0, hand_soon setup g s.actor sound, spot_soon setup g sound (spot_of setup s))

-- the replies to steps that the setup fits are a history
pub replies_run : (setup : SetupParts) (g : MachineState) (steps : List Step) → StepsKeepSound → Sound setup g → ((s : Step) → Contains steps s → IsTrue (fits_step setup s))
    → RunsFrom setup g (replies setup g steps) (states_after setup g steps)
replies_run setup g [] keep sound fits = refl
replies_run setup g (s ∷ ss) keep sound fits =
    let fit = fits s (contains_here s ss) in (
      settled_fits setup g s sound fit,
      reply_settles setup g s,
      subst (λ (h : MachineState). RunsFrom setup h (replies setup (state_after setup g s) ss) (states_after setup (state_after setup g s) ss))
          (sym (ap (λ (o : Outcome). o.state) (outcome_settles setup g s)))
          (replies_run setup (state_after setup g s) ss keep (keep setup g s sound fit) (λ t c. fits t (contains_later s ss t c))),
    )
