use Rattle.std.proofs.Common.{Option, ap, arith, sym, ◌+◌, ◌-◌, ◌∙◌, ◌≡◌}
use Rattle.flat_policy.specs.Policy.Aim.{Target}
use Rattle.flat_policy.specs.Policy.Setup.{numbers_from}
use Rattle.migration.specs.Looks.{best_among, candidate_at, targeted, with_candidate}
use Rattle.migration.proofs.Scans.{fold_end, fold_next}
use Rattle.migration.proofs.looks.Looks.best.Goals as goal

pub loop-c-preserved : goal.loop-c-preserved
loop-c-preserved c = λ setup is.
    let next : targeted c.better_of-best.result ≡ with_candidate (targeted c.loop-c.best) (candidate_at setup c.args.self.now c.args.prefer c.args.most c.loop-c.c) =
    c.better_of-best.ensures ∙ ap (with_candidate (targeted c.loop-c.best)) (c.candidate.ensures setup is) in
    ap (λ (b : Option Target). best_among setup c.args.self.now c.args.prefer c.args.most b (numbers_from (c.loop-c.c + 1) (8 - (c.loop-c.c + 1)))) next
    ∙ sym (fold_next (λ b k. with_candidate b (candidate_at setup c.args.self.now c.args.prefer c.args.most k)) (targeted c.loop-c.best) c.loop-c.c 8 (omega arith))
    ∙ c.loop-c.invariant setup is

pub returns : goal.returns
returns c = λ setup is.
    sym (fold_end (λ b k. with_candidate b (candidate_at setup c.args.self.now c.args.prefer c.args.most k)) (targeted c.loop-c.best) c.loop-c.c 8 (omega arith))
    ∙ c.loop-c.invariant setup is
