use Rattle.std.proofs.Common.{◌≡◌, ◌∙◌, ap, List, [], Option, map, sym, subst, Global}
use Rattle.std.specs.Prelude.{IfErr}
use Rattle.std.specs.String.{string_bytes}
use Rattle.std.specs.Str.Parse.{ParsesUnsigned, ExplainsUnsignedError, HasUnsignedDigitsIfOk}
use Rattle.std.proofs.lemmas.Result.{IfOk-weaker}
use Rattle.clap.specs.Kinds.{HasKind, Kinds}
use Rattle.clap.specs.Words.{Text, kind_of}
use Rattle.trace_replay.specs.Words.{IsRefusal, asked_by, asked_of, refusal_of}
use Rattle.trace_replay.specs.declared.words.Asked.{Asked}
use Rattle.trace_replay.proofs.AskedLemmas.{asked_taken, in_range, no_words, refused}
use Rattle.trace_replay.proofs.ReplayCommand.{fault_is, seed_read, steps_read}
use Rattle.trace_replay.proofs.words.asked_for.Goals as goal

pub returns-in-Err-clause-no_words : goal.returns-in-Err-clause-no_words
returns-in-Err-clause-no_words c = no_words

pub returns-in-Err-try_get_matches_from-clause-no_words :
    goal.returns-in-Err-try_get_matches_from-clause-no_words
returns-in-Err-try_get_matches_from-clause-no_words c = no_words

pub returns-in-Err-try_get_matches_from-clause-err :
    goal.returns-in-Err-try_get_matches_from-clause-err
returns-in-Err-try_get_matches_from-clause-err c =
    let words : List Text = map (string_bytes {Z = Global}) c.args.words.now in
    let error = c.in-Err-try_get_matches_from.error in
    let has = fault_is c.in-Ok.command words (λ (ks : Kinds). HasKind ks error) c.in-Ok.ensures c.in-Err-try_get_matches_from.ensures.kinds in
    let is : c.refusal.result ≡ refusal_of (kind_of error) = c.refusal.ensures ∙ ap refusal_of c.kind.ensures in
    subst (IsRefusal (asked_by words)) (sym is) (refused words error has)

pub returns : goal.returns
returns c =
    let words : List Text = map (string_bytes {Z = Global}) c.args.words.now in
    let command = c.in-Ok.command in
    let parse = c.in-Ok-try_get_matches_from in
    let seed = seed_read command parse.matches words _ (λ bs r. ParsesUnsigned 32 10 bs r × ExplainsUnsignedError 10 bs r × HasUnsignedDigitsIfOk bs r)
    c.get_one-seed.result c.in-Ok.ensures parse.ensures.parsed parse.ensures.matches c.get_one-seed.ensures.none c.get_one-seed.ensures.value (λ u x g. g.0) in
    let steps = steps_read command parse.matches words _ (λ bs r. ParsesUnsigned 32 10 bs r × ExplainsUnsignedError 10 bs r × HasUnsignedDigitsIfOk bs r)
    c.get_one-steps.result c.in-Ok.ensures parse.ensures.parsed parse.ensures.matches c.get_one-steps.ensures.none c.get_one-steps.ensures.value (λ u x g. g.0) in
    let none = fault_is command words (λ (ks : Kinds). ks ≡ []) c.in-Ok.ensures parse.ensures.kinds in
    let same : asked_by words ≡ asked_of c.get_one-seed.result c.get_one-steps.result =
    asked_taken words c.get_one-seed.result c.get_one-steps.result none seed.0 steps.0 in
    record {
      ok = IfOk-weaker c.chosen.result _ _ (λ a h. same ∙ h) c.chosen.ensures.ok;
      err = subst (λ (o : Option Asked). IfErr c.chosen.result (IsRefusal o)) (sym same) c.chosen.ensures.err;
      range = IfOk-weaker c.chosen.result _ _ (in_range c.get_one-seed.result c.get_one-steps.result seed.1 steps.1) c.chosen.ensures.ok;
      no_words = no_words;
    }
