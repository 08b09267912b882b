-- An item goes, and its lane is cleared where no entry remains.
use Rattle.std.proofs.Common.{ap, sym, ◌∙◌, subst}
use Rattle.flat_policy.specs.Policy.Queue.{Queued, lane_of}
use Rattle.thread_queue.specs.Item.{entry_of}
use Rattle.cluster_queue.specs.Queues.{TakesOut, after_leaving, flat_of}
use Rattle.cluster_queue.specs.declared.queue.Queue.{Queue}
use Rattle.cluster_queue.proofs.Taken.{ItemGone, entry_is, taken_last, taken_more}
use Rattle.cluster_queue.proofs.queue.Queue.take.Goals as goal

pub returns-then-not-has_lane-clause-taken : goal.returns-then-not-has_lane-clause-taken
returns-then-not-has_lane-clause-taken c = λ e h.
    let q = c.args.self.now in
    let m = c.remove_slot-item.new.self in
    let item = c.remove_slot-item.result in
    let out = c.remove_slot-item.ensures in
    let at = c.lane_of-lane.result in
    let gone : ItemGone q m c.args.slot c.args.picked item at = record { queue = c.requires.queue; stored = out.item; flat = out.flat; slots = out.slots; spare = out.spare; kept = out.stored; windows = out.windows; groups = out.groups; lane = c.lane_of-lane.ensures ∙ ap lane_of c.facts.ensures.facts } in
    let has = c.has_lane.ensures m.arena m.groups (flat_of m) out.stored.heaps in
    subst (λ (x : Queued). TakesOut q c.clear_lane.new.self x (after_leaving c.args.picked x c.args.now (flat_of q))) (entry_is q c.args.slot item e out.item h)
    (subst (λ (n : Queue). TakesOut q n (entry_of item) (after_leaving c.args.picked (entry_of item) c.args.now (flat_of q))) (sym c.clear_lane.ensures)
    (taken_last q m c.args.slot c.args.picked item at c.args.now gone c.leave_laws.ensures.filling c.leave_laws.ensures.entries (sym has ∙ c.if-not-has_lane.true)))

pub returns-else-not-has_lane-clause-taken : goal.returns-else-not-has_lane-clause-taken
returns-else-not-has_lane-clause-taken c = λ e h.
    let q = c.args.self.now in
    let m = c.remove_slot-item.new.self in
    let item = c.remove_slot-item.result in
    let out = c.remove_slot-item.ensures in
    let at = c.lane_of-lane.result in
    let gone : ItemGone q m c.args.slot c.args.picked item at = record { queue = c.requires.queue; stored = out.item; flat = out.flat; slots = out.slots; spare = out.spare; kept = out.stored; windows = out.windows; groups = out.groups; lane = c.lane_of-lane.ensures ∙ ap lane_of c.facts.ensures.facts } in
    let has = c.has_lane.ensures m.arena m.groups (flat_of m) out.stored.heaps in
    let n : Queue = record m { last = c.args.now } in
    subst (λ (x : Queued). TakesOut q n x (after_leaving c.args.picked x c.args.now (flat_of q))) (entry_is q c.args.slot item e out.item h)
    (taken_more q m c.args.slot c.args.picked item at c.args.now gone c.leave_laws.ensures.entries (sym has ∙ c.if-not-has_lane.false))
