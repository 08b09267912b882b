use Rattle.std.proofs.Common.{◌≡◌, ◌∙◌}
use Rattle.std.proofs.lemmas.Result.{IfOk-weaker}
use Rattle.flat_policy.specs.Runs.LoadTrace.{Load, load_after}
use Rattle.trace_replay.specs.LoadsSoFar.{summary_of, tally_in}
use Rattle.trace_replay.proofs.LoadLines.{summary_is}
use Rattle.trace_replay.proofs.load.run_text.Goals as goal

pub returns-clause-text : goal.returns-clause-text
returns-clause-text g c =
    let seed = c.args.seed in
    let steps = c.args.steps in
    let l = c.in_ok-so_far.so_far in
    let run = c.in_ok-so_far.ensures.run in
    IfOk-weaker c.summary.result (λ text. text.items ≡ summary_of seed steps (tally_in l.counts) c.queued.result) (λ text. text.items ≡ Load seed steps)
    (λ text is. is ∙ summary_is seed steps l c.queued.result run.same (c.queued.ensures (load_after seed steps).state run.means)) c.summary.ensures
