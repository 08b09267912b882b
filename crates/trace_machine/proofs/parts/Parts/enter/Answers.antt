-- The thread leaves the hand, and enters the queue.
use Rattle.std.proofs.Common.{sym, ◌∙◌, subst}
use Rattle.std.proofs.lemmas.Option.{same_Some}
use Rattle.sched_base.specs.declared.Facts.{Facts}
use Rattle.flat_policy.specs.Policy.Clusters.{NameStands}
use Rattle.trace_machine.specs.Parts.{cluster_at}
use Rattle.trace_machine.proofs.Entering.{enters, fits_there, number_there, stands_entered}
use Rattle.trace_machine.proofs.parts.Parts.enter.Goals as goal

pub enter_at-requires-clause-fits : goal.enter_at-requires-clause-fits
enter_at-requires-clause-fits g c =
    fits_there c.args.self.now c.release-thread.new.self c.args.actor c.args.c c.args.now c.release-thread.result
    c.requires.ready c.requires.cluster c.release-thread.ensures.thread c.release-thread.ensures.parts

pub returns : goal.returns
returns g c =
    let old = c.args.self.now in
    let mid = c.release-thread.new.self in
    let new = c.enter_at.new.self in
    let t = c.release-thread.result in
    record {
      does = enters old mid new c.args.actor c.args.now c.args.c c.args.head t c.enter_at.result.slot c.enter_at.result.pri c.calls_keep_standing.ensures
          c.requires.ready c.requires.cluster c.requires.later c.release-thread.ensures.thread c.release-thread.ensures.parts c.enter_at.ensures.changes c.enter_at.ensures.pri;
      cluster = c.enter_at.ensures.cluster ∙ number_there old mid c.args.actor c.args.c c.args.now c.requires.ready c.requires.cluster c.release-thread.ensures.parts;
      stands = λ u held.
          subst (λ (w : Facts). NameStands (cluster_at new c.args.c) c.enter_at.result.slot c.enter_at.result.arrival w.name) (same_Some t u (sym c.release-thread.ensures.thread ∙ held))
          (stands_entered old mid new c.args.actor c.args.now c.args.c c.args.head t c.enter_at.result.slot c.enter_at.result.arrival c.calls_keep_standing.ensures
          c.requires.ready c.requires.cluster c.release-thread.ensures.parts c.enter_at.ensures.changes c.enter_at.ensures.slot c.enter_at.ensures.arrival);
    }
