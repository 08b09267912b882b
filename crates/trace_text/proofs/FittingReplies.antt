-- The numbers of a reply are in the ranges of lines: its step at the effective moment, and its answer.
use Rattle.std.proofs.Common.{◌<◌, ◌&&◌, ℕ, IfSome, IsTrue, None, Option, Some, arith, max, nat_lt}
use Rattle.std.proofs.lemmas.Bool.{and_parts, ltb-true}
use Rattle.sched_base.specs.Limits.{moment_limit}
use Rattle.sched_base.specs.declared.Answer.{Answer}
use Rattle.sched_base.specs.declared.Spot.{Spot}
use Rattle.sched_base.specs.declared.Step.{Step}
use Rattle.flat_policy.specs.Laws.Aims.{AimMayBeEntered}
use Rattle.flat_policy.specs.Laws.Sound.{FittingPrefersAmong, Sound}
use Rattle.flat_policy.specs.Policy.Machine.{MachineState, effective_moment, fits_act, fits_step, hand_at, last_at, numbers_fit, outcome_by, refusal, spot_of}
use Rattle.flat_policy.specs.Policy.Queue.{Flat, empty_flat}
use Rattle.flat_policy.specs.Policy.Setup.{SetupParts, actor_count}
use Rattle.trace_text.specs.Laws.{RepliesHaveTexts}
use Rattle.trace_text.specs.Writing.{AnswerFits}
use Rattle.trace_text.proofs.Fitting.{step_fits}
use Rattle.trace_text.proofs.FittingAnswers.{IsAsked, accepted_fits}
use Rattle.trace_text.proofs.FittingRefusals.{refusal_fits}
use Rattle.trace_text.proofs.Found.{read_has}
use Rattle.sched_base.specs.declared.Spot.TheVariants as spots

spot_soon : (setup : SetupParts) (g : MachineState) (o : Option Spot) → Sound setup g → last_at g o < moment_limit
spot_soon setup g None sound = omega arith
spot_soon setup g (Some (spots.Cluster c)) sound =
    read_has (λ (s : Flat). s.last < moment_limit) g.flats c (empty_flat 0)
    (λ k within. (sound.flats k (omega (arith, within, sound.flats_length))).last)
    (omega arith)
spot_soon setup g (Some spots.Yard) sound = sound.yard.last

max_below : (m n limit : ℕ) → m < limit → n < limit → max m n < limit
max_below m n limit first second = omega (arith, first, second)

moment_soon : (setup : SetupParts) (g : MachineState) (s : Step) → Sound setup g → s.moment < moment_limit → s.actor < actor_count setup → effective_moment setup g s < moment_limit
moment_soon setup g s sound soon actor =
    max_below (max s.moment (hand_at g s.actor).last) (last_at g (spot_of setup s)) moment_limit
    (max_below s.moment (hand_at g s.actor).last moment_limit soon (sound.hands s.actor actor).last)
    (spot_soon setup g (spot_of setup s) sound)

answer_by : (setup : SetupParts) (g : MachineState) (s : Step) (o : Option Answer) → IsAsked setup g s.actor → IfSome o AnswerFits → AnswerFits (outcome_by setup g s o).answer
answer_by setup g s None k fits = accepted_fits setup g s.actor (effective_moment setup g s) s.act k
answer_by setup g s (Some a) k fits = fits

-- the actor of a step that the setup fits is there
actor_there : (setup : SetupParts) (s : Step) → IsTrue (fits_step setup s) → s.actor < actor_count setup
actor_there setup s e =
    let p = and_parts (nat_lt s.moment moment_limit) (nat_lt s.actor (actor_count setup) && (fits_act setup s.act && numbers_fit s.act)) e in
    ltb-true s.actor (actor_count setup) (and_parts (nat_lt s.actor (actor_count setup)) (fits_act setup s.act && numbers_fit s.act) p.1).0

pub replies_fit : AimMayBeEntered → FittingPrefersAmong → RepliesHaveTexts
replies_fit aims prefers setup g s is sound within blocked e =
    let fits = step_fits setup s is e in
    let actor = actor_there setup s e in
    let k : IsAsked setup g s.actor = record { is = is; sound = sound; within = within; blocked = blocked; actor = actor; aims = aims; prefers = prefers } in (
      record { moment = moment_soon setup g s sound fits.moment actor; actor = fits.actor; act = fits.act },
      answer_by setup g s (refusal setup g s) k (refusal_fits setup g s.actor s.act k),
    )
