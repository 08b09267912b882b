-- A slot leaves the queue of its bound lane, or the heap of its preferred cluster and its unit.
use Rattle.std.proofs.Common.{is_some, sym, ap, ◌∙◌, subst}
use Rattle.sched_base.specs.Bucket.{index}
use Rattle.sched_base.specs.declared.Facts.{Facts}
use Rattle.thread_queue.specs.Queue.{HasSlot, Queue}
use Rattle.clutch_bucket.specs.Lane.{HasLaneSlot, Lane, LaneStands}
use Rattle.cluster_queue.proofs.BoundHeld.{bound_has}
use Rattle.cluster_queue.proofs.Leaving.{facts_are, removes_bound, removes_unbound}
use Rattle.cluster_queue.proofs.LeaveLaws.{LeaveLaws}
use Rattle.cluster_queue.proofs.Places.{bound_read, lane_read}
use Rattle.cluster_queue.proofs.SecondLinks.{second_hold}
use Rattle.cluster_queue.proofs.UnboundHeld.{unbound_has, unbound_held}
use Rattle.cluster_queue.proofs.heaps.Heaps.remove.Goals as goal

pub remove-requires-clause-held : goal.remove-requires-clause-held
remove-requires-clause-held g c =
    let can = c.requires.can in
    let arena = c.args.arena.now in
    let heaps = c.args.self.now in
    let facts = facts_are arena c.args.slot c.get.result.now can.item c.facts-facts.result c.facts-facts.ensures.facts c.get.ensures can.stored in
    let bound = ap (λ (t : Facts). is_some t.bound) (sym facts) ∙ (sym c.is_some.ensures ∙ c.if-is_some.true) in
    let at = c.index-at.ensures.index ∙ ap (λ (t : Facts). index t.bucket) facts in
    subst (λ (q : Queue). HasSlot arena q c.args.slot) (sym (bound_read heaps can.item.thread.bucket c.index-at.result c.index-self-at.result can.follows.six at)) (bound_has arena heaps c.args.slot can bound)

pub remove-requires-else-is_some-clause-held : goal.remove-requires-else-is_some-clause-held
remove-requires-else-is_some-clause-held g c =
    let can = c.requires.can in
    let arena = c.args.arena.now in
    let facts = facts_are arena c.args.slot c.get.result.now can.item c.facts-facts.result c.facts-facts.ensures.facts c.get.ensures can.stored in
    let free = ap (λ (t : Facts). is_some t.bound) (sym facts) ∙ (sym c.is_some.ensures ∙ c.if-is_some.false) in
    unbound_held c.leave_laws.ensures.listed arena c.args.self.now c.args.slot can free

pub remove-requires-else-is_some-2-clause-stands : goal.remove-requires-else-is_some-2-clause-stands
remove-requires-else-is_some-2-clause-stands g c =
    let can = c.requires.can in
    let laws = c.leave_laws.ensures in
    let arena = c.args.arena.now in
    let mid = c.remove-else-is_some.new.arena in
    let heaps = c.args.self.now in
    let facts = facts_are arena c.args.slot c.get.result.now can.item c.facts-facts.result c.facts-facts.ensures.facts c.get.ensures can.stored in
    let at = c.index-at.ensures.index ∙ ap (λ (t : Facts). index t.bucket) facts in
    subst (λ (l : Lane). LaneStands mid l) (sym (lane_read heaps can.item.thread.bucket c.index-at.result c.index-self-at-else-is_some.result can.follows.six at))
    ((second_hold laws.queues arena mid _ c.remove-else-is_some.ensures.removes.kept heaps can.count can.s can.follows laws.stand).lanes can.item.thread.bucket)

pub remove-requires-else-is_some-2-clause-has : goal.remove-requires-else-is_some-2-clause-has
remove-requires-else-is_some-2-clause-has g c =
    let can = c.requires.can in
    let arena = c.args.arena.now in
    let mid = c.remove-else-is_some.new.arena in
    let heaps = c.args.self.now in
    let facts = facts_are arena c.args.slot c.get.result.now can.item c.facts-facts.result c.facts-facts.ensures.facts c.get.ensures can.stored in
    let free = ap (λ (t : Facts). is_some t.bound) (sym facts) ∙ (sym c.is_some.ensures ∙ c.if-is_some.false) in
    let at = c.index-at.ensures.index ∙ ap (λ (t : Facts). index t.bucket) facts in
    subst (λ (l : Lane). HasLaneSlot mid l c.args.slot) (sym (lane_read heaps can.item.thread.bucket c.index-at.result c.index-self-at-else-is_some.result can.follows.six at))
    (unbound_has c.leave_laws.ensures.queues arena mid heaps c.remove-else-is_some.new.self c.args.slot can free c.remove-else-is_some.ensures.removes)

pub returns-then-is_some-clause-leaves : goal.returns-then-is_some-clause-leaves
returns-then-is_some-clause-leaves g c =
    let can = c.requires.can in
    let l = c.leave_laws.ensures in
    let laws : LeaveLaws = record { live = l.live; place = l.place; unbound = l.unbound; listed = l.listed; foreign = l.foreign; gone = l.gone; apart = l.apart; queues = l.queues; stand = l.stand; stay = l.stay } in
    let arena = c.args.arena.now in
    let facts = facts_are arena c.args.slot c.get.result.now can.item c.facts-facts.result c.facts-facts.ensures.facts c.get.ensures can.stored in
    let bound = ap (λ (t : Facts). is_some t.bound) (sym facts) ∙ (sym c.is_some.ensures ∙ c.if-is_some.true) in
    let at = c.index-at.ensures.index ∙ ap (λ (t : Facts). index t.bucket) facts in
    removes_bound laws arena c.remove.new.arena c.args.self.now c.args.slot c.index-at.result c.index-self-at.result c.remove.new.self c.args.picked c.args.turns.now can at bound c.remove.ensures.removes

pub returns-else-is_some-clause-leaves : goal.returns-else-is_some-clause-leaves
returns-else-is_some-clause-leaves g c =
    let can = c.requires.can in
    let l = c.leave_laws.ensures in
    let laws : LeaveLaws = record { live = l.live; place = l.place; unbound = l.unbound; listed = l.listed; foreign = l.foreign; gone = l.gone; apart = l.apart; queues = l.queues; stand = l.stand; stay = l.stay } in
    let arena = c.args.arena.now in
    let facts = facts_are arena c.args.slot c.get.result.now can.item c.facts-facts.result c.facts-facts.ensures.facts c.get.ensures can.stored in
    let free = ap (λ (t : Facts). is_some t.bound) (sym facts) ∙ (sym c.is_some.ensures ∙ c.if-is_some.false) in
    let at = c.index-at.ensures.index ∙ ap (λ (t : Facts). index t.bucket) facts in
    let leaves = c.remove-else-is_some-2.ensures in
    removes_unbound laws arena c.remove-else-is_some.new.arena c.remove-else-is_some-2.new.arena c.args.self.now c.remove-else-is_some.new.self c.args.slot c.index-at.result c.index-self-at-else-is_some.result c.remove-else-is_some-2.new.self
    c.args.picked c.args.turns.now c.remove-else-is_some-2.new.turns can at free c.remove-else-is_some.ensures.removes c.remove-else-is_some.ensures.entries
    (record { free = leaves.free; follows = leaves.follows; groups = leaves.groups; arena = leaves.arena; queues = leaves.queues })
