-- The entry that the ticket names comes into the hand.
use Rattle.std.proofs.Common.{Option, sym, ap, ◌∙◌, subst}
use Rattle.std.proofs.lemmas.Option.{same_Some}
use Rattle.flat_policy.specs.Policy.ClusterSteps.{facts_of}
use Rattle.flat_policy.specs.Policy.Queue.{Queued}
use Rattle.trace_machine.specs.Parts.{IsQueuedAs, cluster_at}
use Rattle.trace_machine.proofs.Moving.{pulls}
use Rattle.trace_machine.proofs.parts.Parts.pull.Goals as goal

pub returns : goal.returns
returns g c =
    let old = c.args.self.now in
    let home = c.home-home.result in
    let queued : IsQueuedAs (cluster_at old home) c.args.name c.args.ticket =
    subst (λ k. IsQueuedAs (cluster_at old k) c.args.name c.args.ticket) (sym c.home-home.ensures.home) c.requires.queued in
    let is = sym c.in-Some.is ∙ c.pull_at.ensures.pulled ∙ ap (λ (o : Option Queued). facts_of o) queued.1 in
    pulls old c.pull_at.new.self c.fill.new.self c.args.actor c.args.now home c.args.name c.args.ticket queued.0 c.in-Some.thread c.calls_keep_standing.ensures
    c.requires.ready c.home-home.ensures.home c.home-home.ensures.below c.requires.later queued.1 queued.2 (same_Some c.in-Some.thread queued.0.facts is)
    c.pull_at.ensures.changes c.fill.ensures
