-- The room and the numbers that the yard needs before a step: they follow from what the policy's laws keep.
use Rattle.std.proofs.Common.{◌≡◌, ℕ, ◌<◌, ◌^◌, Some, arith}
use Rattle.link_arena.specs.Arena.{live_count}
use Rattle.sched_base.specs.declared.Facts.{Facts}
use Rattle.flat_policy.specs.Policy.BuiltSetups.{IsSetup}
use Rattle.flat_policy.specs.Policy.Machine.{Yard}
use Rattle.trace_machine.specs.Acting.{IsKept}
use Rattle.trace_machine.specs.Machines.{HasYard, MachineView}
use Rattle.trace_machine.specs.Parts.{hand_of, state_of}
use Rattle.trace_machine.proofs.LiveNames.{away_within, held_within}

-- before a held thread goes to sleep there is a spare slot
pub spare_to_sleep : (v : MachineView) (y : Yard) (a : ℕ) (t : Facts) → HasYard v y → IsKept v.parts.setup (state_of v.parts y) → (hand_of v.parts a).thread ≡ Some t
    → 0 < v.yard.sleepers.spare
spare_to_sleep v y a t yard kept holding =
    omega (arith, yard.room, yard.count, held_within (state_of v.parts y) a t kept.once holding, kept.within.live)

-- before a held thread ends some thread lives
pub live_to_end : (v : MachineView) (y : Yard) (a : ℕ) (t : Facts) → HasYard v y → IsKept v.parts.setup (state_of v.parts y) → (hand_of v.parts a).thread ≡ Some t
    → 0 < v.yard.live
live_to_end v y a t yard kept holding = omega (arith, yard.live, held_within (state_of v.parts y) a t kept.once holding)

-- the number of live threads fits
pub live_fits : (v : MachineView) (y : Yard) → IsSetup v.parts.setup → HasYard v y → IsKept v.parts.setup (state_of v.parts y) → v.yard.live < 2 ^ 31
live_fits v y setup yard kept = omega (arith, yard.live, kept.within.live, setup.threads_most)

-- so does that of the blocked ones
pub blocked_fits : (v : MachineView) (y : Yard) → IsSetup v.parts.setup → HasYard v y → IsKept v.parts.setup (state_of v.parts y) → live_count v.yard.sleepers < 2 ^ 32
blocked_fits v y setup yard kept =
    omega (arith, yard.count, away_within (state_of v.parts y) kept.once, kept.within.live, setup.threads_most)
