use Rattle.std.proofs.Common.{ap, sym, true≢false, ◌∙◌}
use Rattle.serde_json.specs.Errors.{IsMemory}
use Rattle.setup_json.proofs.Json.{json_found, json_missing}
use Rattle.setup_json.specs.Reads.{json_or_fault}
use Rattle.setup_json.proofs.reader.parse.Goals as goal

pub returns-in-Ok : goal.returns-in-Ok
returns-in-Ok c = json_found c.args.line.now _ c.in-Ok.ensures.ok.0 c.in-Ok.ensures.ok.1

pub returns-in-Err-2 : goal.returns-in-Err-2
returns-in-Err-2 c =
    let not_memory : IsMemory c.in-Err.error → ⊥ = λ m. true≢false (sym (c.is_memory.ensures.1 m) ∙ c.if-is_memory.false) in
    ap json_or_fault (json_missing c.args.line.now (c.in-Err.ensures.err not_memory))
