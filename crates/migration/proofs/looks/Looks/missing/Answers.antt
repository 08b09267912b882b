use Rattle.std.proofs.Common.{arith, sym, ◌∙◌}
use Rattle.migration.specs.Looks.{lacks_look}
use Rattle.migration.proofs.Movable.{missing_none, missing_some}
use Rattle.migration.proofs.Scans.{find_end, find_here, find_later}
use Rattle.migration.proofs.looks.Looks.missing.Goals as goal

pub returns-then-not-moves : goal.returns-then-not-moves
returns-then-not-moves c = λ setup is edges.
    sym (missing_none setup is c.args.self.now c.args.prefer (sym (c.moves.ensures setup edges) ∙ c.if-not-moves.true))

pub returns-then-lacks : goal.returns-then-lacks
returns-then-lacks c = λ setup is edges.
    sym (find_here (lacks_look setup c.args.self.now c.args.prefer) c.loop-c.c 8 (omega arith) (sym (c.lacks.ensures setup edges) ∙ c.if-lacks.true))
    ∙ c.loop-c.invariant setup edges
    ∙ sym (missing_some setup is c.args.self.now c.args.prefer (sym (c.moves.ensures setup edges) ∙ c.if-not-moves.false))

pub loop-c-preserved : goal.loop-c-preserved
loop-c-preserved c = λ setup edges.
    find_later (lacks_look setup c.args.self.now c.args.prefer) c.loop-c.c 8 (omega arith) (sym (c.lacks.ensures setup edges) ∙ c.if-lacks.false)
    ∙ c.loop-c.invariant setup edges

pub returns : goal.returns
returns c = λ setup is edges.
    sym (find_end (lacks_look setup c.args.self.now c.args.prefer) c.loop-c.c 8 (omega arith))
    ∙ c.loop-c.invariant setup edges
    ∙ sym (missing_some setup is c.args.self.now c.args.prefer (sym (c.moves.ensures setup edges) ∙ c.if-not-moves.false))
