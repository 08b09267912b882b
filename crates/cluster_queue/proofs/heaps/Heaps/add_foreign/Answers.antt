-- The slot of an unbound thread is pushed, and that of a bound thread is passed over.
use Rattle.std.proofs.Common.{is_some, ap, sym, ◌∙◌}
use Rattle.sched_base.specs.declared.Facts.{Facts}
use Rattle.cluster_queue.specs.declared.heaps.Heaps.{Heaps}
use Rattle.cluster_queue.proofs.Filling.{filled_bound, filled_unbound, item_is_new}
use Rattle.cluster_queue.proofs.heaps.Heaps.add_foreign.Goals as goal

pub returns-then-is_some-clause-filled : goal.returns-then-is_some-clause-filled
returns-then-is_some-clause-filled g c =
    filled_bound c.args.arena.now c.args.self.now c.args.slot c.get.result.now c.get.ensures
    (ap (λ (t : Facts). is_some t.bound) (sym c.facts.ensures.facts) ∙ (sym c.is_some.ensures ∙ c.if-is_some.true)) c.requires.filled

pub push-requires-clause-lacks : goal.push-requires-clause-lacks
push-requires-clause-lacks g c =
    let item = c.get.result.now in
    c.fill_laws.ensures.lacks c.args.arena.now c.args.self.now.foreign c.requires.filled.done c.args.slot item c.requires.filled.offers c.get.ensures
    (item_is_new c.args.arena.now c.args.self.now c.args.slot item c.requires.filled c.get.ensures)

pub returns-clause-filled : goal.returns-clause-filled
returns-clause-filled g c =
    let item = c.get.result.now in
    let later : Heaps = record c.args.self.now { foreign = c.push.new.self } in
    filled_unbound c.args.arena.now c.push.new.arena c.args.self.now later c.args.slot item c.get.ensures c.requires.filled c.push.ensures.pushes
    (c.push.ensures.entries c.requires.filled.done item c.get.ensures (item_is_new c.args.arena.now c.args.self.now c.args.slot item c.requires.filled c.get.ensures) c.requires.filled.offers)
