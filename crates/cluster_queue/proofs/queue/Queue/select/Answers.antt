use Rattle.std.proofs.Common.{Option, Some, is_some, ap, sym, ◌∙◌, subst, arith}
use Rattle.flat_policy.specs.Policy.ClusterSteps.{facts_of}
use Rattle.flat_policy.specs.Policy.Moves.{pick, selected}
use Rattle.flat_policy.specs.Policy.Queue.{Queued}
use Rattle.cluster_queue.specs.Moves.{entry_in}
use Rattle.cluster_queue.specs.Queues.{Leaves, flat_of}
use Rattle.cluster_queue.specs.declared.queue.Queue.{Queue}
use Rattle.cluster_queue.proofs.Held.{holds, slot_there, some_from}
use Rattle.cluster_queue.proofs.Selecting.{pick_is_first, picks_none, picks_some, selects, stays_expired}
use Rattle.cluster_queue.proofs.Windowed.{can_read, expires}
use Rattle.cluster_queue.proofs.queue.Queue.select.Goals as goal

pub returns-then-self-eq0-clause-picked : goal.returns-then-self-eq0-clause-picked
returns-then-self-eq0-clause-picked c = ap facts_of (sym (picks_none c.pick_is_one.ensures c.args.self.now c.args.now c.requires.queue c.if-self-eq0.true))

pub returns-then-self-eq0-clause-left : goal.returns-then-self-eq0-clause-left
returns-then-self-eq0-clause-left c =
    let q = c.args.self.now in
    let now = c.args.now in
    let x : Queue = record q { windows = c.expire.new.self } in
    let n : Queue = record x { last = now } in
    let none = picks_none c.pick_is_one.ensures q now c.requires.queue c.if-self-eq0.true in
    subst (λ (o : Option Queued). Leaves q n o (selected q.windows.times now (flat_of q))) (sym none)
    (stays_expired q x now (expires q c.expire.new.self now c.requires.queue c.expire.ensures) none)

pub choose-lane-requires-clause-queue : goal.choose-lane-requires-clause-queue
choose-lane-requires-clause-queue c = (expires c.args.self.now c.expire.new.self c.args.now c.requires.queue c.expire.ensures).queue

pub unwrap-slot-requires : goal.unwrap-slot-requires
unwrap-slot-requires c =
    let q = c.args.self.now in
    let now = c.args.now in
    let x : Queue = record q { windows = c.expire.new.self } in
    let n = c.choose-lane.new.self in
    let e = expires q c.expire.new.self now c.requires.queue c.expire.ensures in
    let first = pick_is_first q x n now c.choose-lane.result e c.choose-lane.ensures c.pick_stands_in_lane.ensures in
    slot_there n.arena c.first_of.result
    (ap is_some (c.first_of.ensures.first (can_read n c.choose-lane.ensures.queue) ∙ first) ∙ picks_some c.pick_is_one.ensures q now c.requires.queue (omega arith))

pub returns-clause-picked : goal.returns-clause-picked
returns-clause-picked c =
    let q = c.args.self.now in
    let now = c.args.now in
    let x : Queue = record q { windows = c.expire.new.self } in
    let n = c.choose-lane.new.self in
    let e = expires q c.expire.new.self now c.requires.queue c.expire.ensures in
    let first = pick_is_first q x n now c.choose-lane.result e c.choose-lane.ensures c.pick_stands_in_lane.ensures in
    let d = some_from (pick q.windows.times now (flat_of q)) (picks_some c.pick_is_one.ensures q now c.requires.queue (omega arith)) in
    let held = holds n c.unwrap-slot.result d.0
    (ap (entry_in n.arena) (sym c.unwrap-slot.ensures) ∙ (c.first_of.ensures.first (can_read n c.choose-lane.ensures.queue) ∙ (first ∙ d.1))) in
    ap Some (c.take.ensures.thread d.0 held) ∙ ap facts_of (sym d.1)

pub returns-clause-left : goal.returns-clause-left
returns-clause-left c =
    let q = c.args.self.now in
    let now = c.args.now in
    let x : Queue = record q { windows = c.expire.new.self } in
    let n = c.choose-lane.new.self in
    let e = expires q c.expire.new.self now c.requires.queue c.expire.ensures in
    let first = pick_is_first q x n now c.choose-lane.result e c.choose-lane.ensures c.pick_stands_in_lane.ensures in
    let d = some_from (pick q.windows.times now (flat_of q)) (picks_some c.pick_is_one.ensures q now c.requires.queue (omega arith)) in
    let held = holds n c.unwrap-slot.result d.0
    (ap (entry_in n.arena) (sym c.unwrap-slot.ensures) ∙ (c.first_of.ensures.first (can_read n c.choose-lane.ensures.queue) ∙ (first ∙ d.1))) in
    subst (λ (o : Option Queued). Leaves q c.take.new.self o (selected q.windows.times now (flat_of q))) (sym d.1)
    (selects q x n now c.choose-lane.result e c.choose-lane.ensures c.take.new.self d.0 d.1 (c.take.ensures.taken d.0 held))
