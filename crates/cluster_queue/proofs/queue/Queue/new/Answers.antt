use Rattle.cluster_queue.proofs.NewQueue.{flat_new, nested_new}
use Rattle.cluster_queue.proofs.queue.Queue.new.Goals as goal

pub returns-clause-flat : goal.returns-clause-flat
returns-clause-flat c =
    let arena = c.in_ok-arena.arena in
    let heaps = c.in_ok-heaps.heaps in
    flat_new c.args.groups arena heaps c.new-3.result c.args.times c.in_ok-arena.ensures c.new-3.ensures (c.in_ok-heaps.ensures.follows arena c.in_ok-arena.ensures)

pub returns-clause-nested : goal.returns-clause-nested
returns-clause-nested c =
    let arena = c.in_ok-arena.arena in
    let heaps = c.in_ok-heaps.heaps in
    nested_new c.args.groups arena heaps c.new-3.result c.args.times c.in_ok-arena.ensures c.new-3.ensures (c.in_ok-heaps.ensures.follows arena c.in_ok-arena.ensures)
    c.requires c.in_ok-heaps.ensures.room
