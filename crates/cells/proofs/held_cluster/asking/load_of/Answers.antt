use Rattle.std.proofs.Common.{refl, sym, ◌∙◌}
use Rattle.cells.proofs.Asking.{load_told}
use Rattle.cells.proofs.held_cluster.asking.load_of.Goals as goal

pub returns-then-is_on-clause-told : goal.returns-then-is_on-clause-told
returns-then-is_on-clause-told g c =
    let v = g.K.Cluster.view c.args.queue.now in
    load_told v c.args.b c.args.now c.look.result (sym c.is_on.ensures ∙ c.if-is_on.true) (c.look.ensures.load _ refl)
