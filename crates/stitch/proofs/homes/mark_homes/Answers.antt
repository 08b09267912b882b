use Rattle.std.proofs.Common.{◌≡◌, ◌∙◌, sym, inl, inr, arith, get_or}
use Rattle.stitch.proofs.HomeSteps.{marked, unmarked}
use Rattle.stitch.proofs.homes.mark_homes.Goals as goal
use Rattle.stitch.proofs.homes.mark_homes.Goals.{then-is_at_home+then-step-lt-MOST_ACTORS, else-is_at_home, else-is_at_home-via-then-is_at_home+else-step-lt-MOST_ACTORS, else-is_at_home-via-else-is_at_home}

pub loop-i-preserved : goal.loop-i-preserved
loop-i-preserved c = record {
  sixteen = c.if-is_at_home.array_long;
  marked = λ a low.
      elim c.if-is_at_home.branch [
        | then-is_at_home+then-step-lt-MOST_ACTORS w ↦
            rw w.homes-is
            (marked c.args.journal.now.lines c.loop-i.i a c.args.cluster (get_or c.args.homes.now a 0) c.line.result c.loop-i.homes c.line.ensures (c.loop-i.invariant.marked a low)
            (sym c.is_at_home.ensures ∙ w.if-is_at_home.true) (omega (arith, w.if-step-lt-MOST_ACTORS.true, c.loop-i.invariant.sixteen)))
        | else-is_at_home w ↦
            rw w.homes-is
            (unmarked c.args.journal.now.lines c.loop-i.i a c.args.cluster (get_or c.args.homes.now a 0) 16 c.line.result c.loop-i.homes c.line.ensures (c.loop-i.invariant.marked a low) low
            (elim w.else-is_at_home.branch [
              | else-is_at_home-via-then-is_at_home+else-step-lt-MOST_ACTORS v ↦ inr v.if-step-lt-MOST_ACTORS.false
              | else-is_at_home-via-else-is_at_home v ↦ inl (sym c.is_at_home.ensures ∙ v.if-is_at_home.false)
            ]))
      ];
}
