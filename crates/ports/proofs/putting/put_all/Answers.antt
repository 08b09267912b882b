use Rattle.std.proofs.Common.{rules}
use Rattle.std.proofs.lemmas.List.{take_rest}
use Rattle.std.proofs.Math.Seq.{take-add}
use Rattle.ports.proofs.KnownBytes.{Appends-append}
use Rattle.ports.proofs.putting.put_all.Goals as goal

pub loop-written-preserved : goal.loop-written-preserved
loop-written-preserved g c =
    record {
      bytes = rw (take-add c.loop-written.written c.in-Ok.count c.args.from.now)
          (Appends-append _ _ _ _ _ c.loop-written.invariant.bytes (rw (take_rest c.args.from.now c.loop-written.written) at c.in-Ok.ensures.bytes));
      within = search rules;
      later = search rules;
      exact = search rules;
    }
