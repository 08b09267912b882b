use Rattle.std.proofs.Common.{◌+◌, arith, subst, sym}
use Rattle.ports.specs.Judging.{IsDecided}
use Rattle.ports.specs.declared.judging.Found.{Found}
use Rattle.ports.proofs.Newlines.{HasNoNewline-front}
use Rattle.ports.proofs.judging.judge.Goals as goal

pub returns-then-limit-counted-clause-judged : goal.returns-then-limit-counted-clause-judged
returns-then-limit-counted-clause-judged c =
    subst (λ (f : Found). IsDecided c.args.limit c.args.counted c.args.bytes.now f.length f.answer) (sym c.none.ensures) (record {
      reached = omega (arith, c.min.ensures, c.if-bytes-min.false, c.if-limit-counted.true);
      counts = omega arith;
      plain = HasNoNewline-front c.args.bytes.now c.args.newline (c.args.limit + 1) c.min-most.result c.requires.newline c.in-None.ensures (omega (arith, c.min-most.ensures));
    })

pub returns-else-limit-counted-clause-judged : goal.returns-else-limit-counted-clause-judged
returns-else-limit-counted-clause-judged c =
    subst (λ (f : Found). IsDecided c.args.limit c.args.counted c.args.bytes.now f.length f.answer) (sym c.none-else-limit-counted.ensures) (record {
      reached = omega (arith, c.min.ensures, c.if-bytes-min.false, c.if-limit-counted.false);
      short = omega arith;
      plain = HasNoNewline-front c.args.bytes.now c.args.newline c.args.counted c.min-most.result c.requires.newline c.in-None.ensures (omega (arith, c.min-most.ensures));
    })
