use Rattle.std.proofs.Common.{◌≡◌, ◌∙◌, ap, ap₂, codes, pos, true}
use Rattle.std.proofs.lemmas.Result.{IfOk-weaker}
use Rattle.clap.specs.Simple.{App, app_of, app_of_fields, with_rule}
use Rattle.clap.specs.Walk.{rule_of}
use Rattle.clap.specs.declared.builder.value_parser.ValueParser.TheVariants.{Signed}
use Rattle.trace_replay.specs.Words.{bare_command, number_rule, replay_command}
use Rattle.trace_replay.proofs.words.replay_command.Goals as goal

pub returns : goal.returns
unfolding replay_command
returns c =
    let bare : app_of c.no_binary_name-command.result ≡ bare_command = ap app_of_fields c.no_binary_name-command.ensures
    ∙ ap (λ (a : App). record a { top = record a.top { no_binary_name = true } }) c.new-2.ensures.app in
    let most : c.range-steps.result ≡ Signed (pos 1) (pos 200000) =
    rw (c.value_parser.ensures, c.new.ensures.start, c.new.ensures.end) at c.range-steps.ensures in
    let load_is : rule_of c.number_option-load.result ≡ number_rule (codes "load") (Signed (pos 0) (pos 4294967295)) =
    c.number_option-load.ensures.rule ∙ ap (number_rule (codes "load")) c.value_parser-seed.ensures in
    let steps_is : rule_of c.number_option-steps.result ≡ number_rule (codes "steps") (Signed (pos 1) (pos 200000)) =
    c.number_option-steps.ensures.rule ∙ ap (number_rule (codes "steps")) most in
    IfOk-weaker c.arg-2.result _ _ (λ r h. h.shape c.number_option-steps.ensures.own
    ∙ ap₂ with_rule (c.in_ok-arg.ensures.shape c.number_option-load.ensures.own ∙ ap₂ with_rule bare load_is) steps_is) c.arg-2.ensures
