use Rattle.std.proofs.Common.{◌≡◌, Option, Some, List, refl, ap, sym, ◌∙◌, subst}
use Rattle.flat_policy.specs.declared.setup.Times.{Times}
use Rattle.flat_policy.specs.Policy.ClusterSteps.{facts_of}
use Rattle.flat_policy.specs.Policy.Moves.{pick, selected}
use Rattle.flat_policy.specs.Policy.Queue.{Queued}
use Rattle.plain_cluster.specs.Entries.{entry_at}
use Rattle.plain_cluster.specs.Queues.{Leaves, flat_of}
use Rattle.plain_cluster.specs.declared.queue.Queue.{Queue}
use Rattle.plain_cluster.proofs.Picking.{expired_queue, first_found_there, no_pick, pick_is_first, selects, there_is}
use Rattle.plain_cluster.proofs.queue.Queue.select.Goals as goal

pub returns-then-len-eq0-clause-left : goal.returns-then-len-eq0-clause-left
returns-then-len-eq0-clause-left c =
    let q = c.args.self.now in
    let w = c.expire.new.self in
    let now = c.args.now in
    let x : Queue = record q { windows = w } in
    let n : Queue = record x { last = now } in
    let xq = expired_queue q w now c.requires.queue c.expire.ensures in
    let none = no_pick c.chooses_a_filled_lane.ensures q.groups x (flat_of q) now xq.1 xq.0 (sym c.len.ensures ∙ c.if-len-eq0.true) in
    subst (λ (ts : List Times). Leaves q n (pick ts now (flat_of q)) (selected ts now (flat_of q))) xq.2
    (subst (λ (o : Option Queued). Leaves q n o (selected w.times now (flat_of q))) (sym none.0)
    (record { flat = sym none.1; rows = refl; flags = xq.0.flags; times = xq.2; groups = refl }))

pub choose-lane-requires-clause-queue : goal.choose-lane-requires-clause-queue
choose-lane-requires-clause-queue c =
    let q = c.args.self.now in
    (expired_queue q c.expire.new.self c.args.now c.requires.queue c.expire.ensures).0

pub unwrap-place-requires : goal.unwrap-place-requires
unwrap-place-requires c =
    let q = c.args.self.now in
    let x : Queue = record q { windows = c.expire.new.self } in
    first_found_there c.choice_of_entries_is_one.ensures c.first_goes_by_keys.ensures x c.choose-lane.new.self c.args.now c.choose-lane.result c.first_of.result c.choose-lane.ensures c.first_of.ensures.first

pub returns-clause-picked : goal.returns-clause-picked
returns-clause-picked c =
    let q = c.args.self.now in
    let w = c.expire.new.self in
    let now = c.args.now in
    let x : Queue = record q { windows = w } in
    let n = c.choose-lane.new.self in
    let at = c.choose-lane.result in
    let xq = expired_queue q w now c.requires.queue c.expire.ensures in
    let e = there_is n.rows.rows c.unwrap-place.result (c.first_of.ensures.there c.unwrap-place.result c.unwrap-place.ensures) in
    let picked : pick w.times now (flat_of q) ≡ Some e.0 =
    pick_is_first c.pick_stands_in_lane.ensures q.groups x n (flat_of q) now at (Some e.0) xq.1 xq.0 c.choose-lane.ensures (sym e.1 ∙ (ap (entry_at n.rows.rows) (sym c.unwrap-place.ensures) ∙ c.first_of.ensures.first)) in
    ap Some (c.take_selected.ensures.thread e.0 e.1) ∙ sym (ap facts_of (ap (λ (ts : List Times). pick ts now (flat_of q)) (sym xq.2) ∙ picked))

pub returns-clause-left : goal.returns-clause-left
returns-clause-left c =
    let q = c.args.self.now in
    let w = c.expire.new.self in
    let now = c.args.now in
    let x : Queue = record q { windows = w } in
    let n = c.choose-lane.new.self in
    let at = c.choose-lane.result in
    let xq = expired_queue q w now c.requires.queue c.expire.ensures in
    let e = there_is n.rows.rows c.unwrap-place.result (c.first_of.ensures.there c.unwrap-place.result c.unwrap-place.ensures) in
    let picked : pick w.times now (flat_of q) ≡ Some e.0 =
    pick_is_first c.pick_stands_in_lane.ensures q.groups x n (flat_of q) now at (Some e.0) xq.1 xq.0 c.choose-lane.ensures (sym e.1 ∙ (ap (entry_at n.rows.rows) (sym c.unwrap-place.ensures) ∙ c.first_of.ensures.first)) in
    let m = c.take_selected.new.self in
    subst (λ (ts : List Times). Leaves q m (pick ts now (flat_of q)) (selected ts now (flat_of q))) xq.2
    (subst (λ (o : Option Queued). Leaves q m o (selected w.times now (flat_of q))) (sym picked)
    (selects q x n m now at e.0 xq.1 refl xq.2 refl c.choose-lane.ensures picked (c.take_selected.ensures.taken e.0 e.1)))
