use Rattle.std.proofs.Common.{refl}
use Rattle.cluster_queue.proofs.RefreshedQueue.{can_refresh, refreshed_queue}
use Rattle.cluster_queue.proofs.queue.Queue.refresh.Goals as goal

pub refresh_uncounted-changed-requires-clause-can : goal.refresh_uncounted-changed-requires-clause-can
refresh_uncounted-changed-requires-clause-can c = can_refresh c.args.self.now c.requires.queue

pub returns-clause-changed : goal.returns-clause-changed
returns-clause-changed c = c.refresh_uncounted-changed.ensures.count (can_refresh c.args.self.now c.requires.queue) refl

pub returns-clause-stays : goal.returns-clause-stays
returns-clause-stays c =
    let r = c.refresh_uncounted-changed in
    refreshed_queue c.args.self.now c.requires.queue r.new.arena r.new.self r.new.turns c.args.now r.result r.ensures c.windows_follow_steps.ensures
