use Rattle.std.proofs.Common.{subst}
use Rattle.flat_policy.specs.Policy.Machine.{empty_machine}
use Rattle.flat_policy.specs.Policy.Setup.{SetupParts}
use Rattle.trace_machine.specs.Machines.{Means}
use Rattle.trace_replay.proofs.load.load_text.Goals as goal

pub run_text-text-requires-clause-begins : goal.run_text-text-requires-clause-begins
run_text-text-requires-clause-begins g c =
    subst (λ (setup : SetupParts). Means c.in_ok-machine.machine (empty_machine setup)) c.in_ok-load_setup.ensures c.in_ok-machine.ensures.means
