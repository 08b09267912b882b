use Rattle.std.proofs.Common.{Result, subst, sym}
use Rattle.flat_policy.specs.Policy.Setup.{SetupParts}
use Rattle.flat_policy.specs.Texts.SetupLines.{SetupNumbers, setup_of, unless_fault}
use Rattle.flat_policy.specs.declared.texts.SetupFault.{SetupFault}
use Rattle.setup_json.specs.Reads.{Reads}
use Rattle.setup_json.proofs.reader.setup_of_fields.Goals as goal

pub returns : goal.returns
returns c =
    subst (λ (m : Result SetupNumbers SetupFault). Reads (λ (s : SetupParts). s) c.setup_of_numbers.result (unless_fault m (λ (n : SetupNumbers). setup_of n n.times)))
    (sym c.in_ok-numbers.ensures) c.setup_of_numbers.ensures
