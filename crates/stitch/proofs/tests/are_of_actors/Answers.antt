use Rattle.std.proofs.Common.{◌≡◌, ◌<◌, ℕ, true, below_more, length, sym, subst, rules, arith}
use Rattle.std.proofs.lemmas.Bool.{not-false}
use Rattle.flat_policy.specs.declared.journal.Line.{Line}
use Rattle.flat_policy.specs.Runs.Histories.{actor_of}
use Rattle.flat_policy.specs.Runs.Interleaving.{EachLine}
use Rattle.stitch.proofs.HomeSteps.{lines_at}
use Rattle.stitch.proofs.tests.are_of_actors.Goals as goal

pub loop-a-preserved : goal.loop-a-preserved
loop-a-preserved c =
    let within : c.loop-a.a < length c.args.logs.now = omega arith in
    let told : c.is_of_actor.result ≡ true = search (rules, not-false) in
    below_more _ _ c.loop-a.invariant
    (subst (EachLine (λ (m : Line). actor_of m ≡ c.loop-a.a)) (sym (lines_at c.args.logs.now c.loop-a.a c.index-logs-a.result within c.index-logs-a.is)) (c.is_of_actor.ensures told))
