use Rattle.std.proofs.Common.{Result, subst, sym}
use Rattle.flat_policy.specs.Policy.Setup.{SetupParts}
use Rattle.flat_policy.specs.Texts.SetupLines.{json_of, read_setup_text}
use Rattle.flat_policy.specs.declared.texts.SetupFault.{SetupFault}
use Rattle.setup_json.specs.Reads.{Reads}
use Rattle.setup_json.proofs.Json.{json_goes_on}
use Rattle.setup_json.proofs.OfLine.{never_at_end}
use Rattle.setup_json.proofs.reader.read_setup.Goals as goal

pub returns : goal.returns
returns c =
    let exact : Reads (λ (s : SetupParts). s) c.setup_of_value.result (read_setup_text c.args.line.now) =
    subst (λ (m : Result SetupParts SetupFault). Reads (λ (s : SetupParts). s) c.setup_of_value.result m)
    (sym (json_goes_on (json_of c.args.line.now) _ c.in_ok-value.ensures)) c.setup_of_value.ensures in
    record { exact = exact; of_line = never_at_end c.args.line.now c.setup_of_value.result exact }
