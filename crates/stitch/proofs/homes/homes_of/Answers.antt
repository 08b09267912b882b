use Rattle.std.proofs.Common.{◌≡◌, ℕ, ◌+◌, ◌-◌, ◌<◌, List, cond, drop, length, sym, ap, ◌∙◌, arith}
use Rattle.flat_policy.specs.declared.journal.Line.{Line}
use Rattle.flat_policy.specs.Runs.Interleaving.{home_from, is_home_journal}
use Rattle.stitch.specs.Taking.{lines_of}
use Rattle.stitch.proofs.Counts.{length_lines}
use Rattle.stitch.proofs.HomeSteps.{home_step, lines_at}
use Rattle.stitch.proofs.homes.homes_of.Goals as goal

pub loop-c-preserved : goal.loop-c-preserved
loop-c-preserved c =
    let k : ℕ = c.loop-c.c - 1 in
    let lists : List (List Line) = lines_of c.args.clusters.now in
    let next : c.loop-c.c ≡ k + 1 = omega arith in
    let within : k < length c.args.clusters.now = omega arith in
    let listed : k < length lists = omega (arith, length_lines c.args.clusters.now) in
    record {
      within = omega arith;
      marked = λ a low.
          c.mark_homes.ensures a low
          ∙ ap (λ (n : ℕ). cond (is_home_journal a c.index-clusters-c.result.lines) k n)
          (c.loop-c.invariant.marked a low ∙ ap (λ (n : ℕ). home_from a n (drop n lists)) next)
          ∙ sym (home_step lists a k c.index-clusters-c.result.lines listed (lines_at c.args.clusters.now k c.index-clusters-c.result within c.index-clusters-c.is));
    }
