use Rattle.std.proofs.Common.{◌<◌, ◌==◌, ◌∙◌, Vec, Global, ap, filter, find, get_or, map, [], arith}
use Rattle.std.proofs.lemmas.List.{length-map}
use Rattle.edge_matrix.specs.EdgeTables.{edges_of}
use Rattle.flat_policy.specs.declared.texts.Power.{Power}
use Rattle.flat_policy.specs.declared.texts.ProgramLine.{ProgramLine}
use Rattle.cells.proofs.Framing.{by_turn_kept, named_kept}
use Rattle.cells.proofs.frame.Frame.new.Goals as goal

pub invariant_of-result : goal.invariant_of-result
invariant_of-result g c =
    let items = λ (r : Vec Power Global). r.items in
    record {
      setup_is = c.requires.setup;
      edges_are = c.of-edges.ensures ∙ ap edges_of c.requires.setup;
      runnable = c.requires.runnable;
      named = λ name.
          named_kept c.args.programs.items g.N.RunName.programs name _ c.requires.programs
          (c.in_ok-named.ensures name ∙ ap (find (λ (p : ProgramLine). p.name == name)) c.deref.ensures.value);
      told = λ turn below.
          let some : 0 < c.args.turns = omega (arith, below, c.in_ok-told.ensures.turns, length-map c.in_ok-told.told.items items) in
          by_turn_kept c.args.powers.items g.N.RunName.powers (get_or (map items c.in_ok-told.told.items) turn []) turn (c.requires.powers some)
          (c.in_ok-told.ensures.each turn below ∙ ap (filter (λ (p : Power). p.turn == turn)) c.deref-2.ensures.value);
    }
