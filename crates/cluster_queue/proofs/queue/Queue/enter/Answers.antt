-- A thread's lane is filled, and its item comes.
use Rattle.std.proofs.Common.{ap, sym, ◌∙◌, subst, arith, rules, ℤ, to_z, of_z, SFits, w64}
use Rattle.std.proofs.lemmas.Int.{to_z-of_z}
use Rattle.sched_base.specs.declared.Facts.{Facts}
use Rattle.flat_policy.specs.Policy.Moves.{settled_thread}
use Rattle.flat_policy.specs.Policy.Queue.{lane_of}
use Rattle.cluster_queue.specs.Queues.{IsStored, flat_of}
use Rattle.cluster_queue.specs.declared.queue.Queue.{Queue}
use Rattle.cluster_queue.proofs.EnteredThread.{entered_windows, flat_entered, item_is, item_with, pri_is, unit_few}
use Rattle.cluster_queue.proofs.queue.Queue.enter.Goals as goal
use Rattle.cluster_queue.proofs.Windowed.{stored_elsewhere}

pub overflow_add-others : goal.overflow_add-others
overflow_add-others c =
    let q = c.args.self.now in
    let has = c.requires.queue.nested.stored in
    omega (arith, c.unit_len-others.ensures q.arena q.groups (flat_of q) has.heaps, unit_few (flat_of q) c.facts-facts.result, has.len, c.requires.few)

pub insert-slot-requires-clause-stored : goal.insert-slot-requires-clause-stored
insert-slot-requires-clause-stored c =
    let q = c.args.self.now in
    subst (λ (x : Queue). IsStored x) (sym c.fill_lane.ensures.same) (stored_elsewhere q c.fill_lane.new.self.windows q.last c.requires.queue.nested.stored)

pub returns-clause-pri : goal.returns-clause-pri
returns-clause-pri c =
    let q = c.args.self.now in
    let t = c.args.thread in
    let used = ap (λ (f : Facts). f.usage) (c.facts.ensures.facts ∙ c.settled-thread.ensures) in
    pri_is (flat_of q) t c.facts-facts.result c.args.head c.args.now c.unit_len-others.result c.facts.result.usage c.priority-pri.result c.facts-facts.ensures.facts used
    (c.unit_len-others.ensures q.arena q.groups (flat_of q) c.requires.queue.nested.stored.heaps) c.priority-pri.ensures.priority

pub returns-clause-flat : goal.returns-clause-flat
returns-clause-flat c =
    let q = c.args.self.now in
    let t = c.args.thread in
    let same = c.facts-facts.ensures.facts in
    let used = ap (λ (f : Facts). f.usage) (c.facts.ensures.facts ∙ c.settled-thread.ensures) in
    let price = pri_is (flat_of q) t c.facts-facts.result c.args.head c.args.now c.unit_len-others.result c.facts.result.usage c.priority-pri.result same used
    (c.unit_len-others.ensures q.arena q.groups (flat_of q) c.requires.queue.nested.stored.heaps) c.priority-pri.ensures.priority in
    let number : ℤ = to_z w64 (of_z w64 c.order_number.result) in
    let fits : SFits w64 c.order_number.result = search rules in
    let order = to_z-of_z w64 c.order_number.result fits ∙ c.order_number.ensures in
    let item = item_with (flat_of q) c.settled-thread.result c.priority-pri.result number in
    flat_entered q c.fill_lane.new.self c.insert-slot.new.self t c.args.head c.args.now c.lane_of.result c.facts-facts.result.pending_ran c.facts-facts.result.pending_blocked item
    c.fill_lane.ensures.same c.fill_lane.ensures.lanes (c.lane_of.ensures ∙ ap lane_of same) (ap (λ (f : Facts). f.pending_ran) same) (ap (λ (f : Facts). f.pending_blocked) same)
    (item_is (flat_of q) (settled_thread c.args.now t) c.settled-thread.result c.args.head c.priority-pri.result number c.settled-thread.ensures price order)
    c.insert-slot.ensures.flat

pub returns-clause-nested : goal.returns-clause-nested
returns-clause-nested c = record {
  stored = c.insert-slot.ensures.stored;
  windows = entered_windows c.enter_laws.ensures c.args.self.now c.fill_lane.new.self c.insert-slot.new.self c.args.thread c.args.head c.args.now c.lane_of.result c.requires.queue.formed
      (c.lane_of.ensures ∙ ap lane_of c.facts-facts.ensures.facts) c.fill_lane.ensures.filled c.insert-slot.ensures.windows (returns-clause-flat c);
}
