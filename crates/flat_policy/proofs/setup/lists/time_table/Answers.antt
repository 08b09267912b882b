use Rattle.std.proofs.Common.{List, [], arith, below_more, get_or, ℕ}
use Rattle.std.proofs.lemmas.Grind.{common_steps}
use Rattle.std.proofs.lemmas.List.{get_or_default}
use Rattle.flat_policy.specs.Representation.SetupInside.{HasSixes}
use Rattle.flat_policy.proofs.setup.lists.time_table.Goals as goal

pub loop-c-preserved : goal.loop-c-preserved
loop-c-preserved c = record {
  rows = grind (arith, common_steps);
  len = grind (arith, common_steps);
  sixes = λ k d below.
      below_more (λ j. (e : List (List ℕ)) → HasSixes (get_or c.args.times.now j e)) c.loop-c.c
      (λ j less e. c.loop-c.invariant.sixes j e less)
      (λ e. rw (get_or_default c.args.times.now c.loop-c.c e [] c.loop-c-test.true) c.time_row.ensures.sixes) k below d;
}
