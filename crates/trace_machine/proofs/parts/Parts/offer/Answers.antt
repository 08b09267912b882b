-- What the cluster offers to the home comes into the hand.
use Rattle.std.proofs.Common.{◌≡◌, Option, sym, subst}
use Rattle.sched_base.specs.declared.Answer.{Answer}
use Rattle.sched_base.specs.declared.Facts.{Facts}
use Rattle.sched_base.specs.declared.Act.TheVariants as acts
use Rattle.flat_policy.specs.Policy.Clusters.{offer_of}
use Rattle.flat_policy.specs.Policy.Machine.{taking_hand}
use Rattle.trace_machine.specs.Parts.{Does, cluster_at, hand_of}
use Rattle.trace_machine.proofs.Moving.{offers}
use Rattle.trace_machine.proofs.Setting.{rehanded}
use Rattle.trace_machine.proofs.parts.Parts.offer.Goals as goal

pub returns : goal.returns
returns g c =
    let old = c.args.self.now in
    let mid = c.offer_at-offered.new.self in
    let offered = offer_of (cluster_at old c.args.from) c.home-home.result in
    subst (λ (answer : Answer). Does old c.take.new.self c.args.actor c.args.now (acts.Offer c.args.from) answer) (sym (c.take.ensures.answer offered c.offer_at-offered.ensures.offered))
    (offers old mid c.take.new.self c.args.actor c.args.now c.args.from c.home-home.result c.calls_keep_standing.ensures
    c.requires.ready c.home-home.ensures.home c.requires.cluster c.requires.later
    c.offer_at-offered.ensures.changes
    (subst (λ (given : Option Facts). c.take.new.self ≡ rehanded mid c.args.actor (taking_hand mid.setup (hand_of mid c.args.actor) given c.args.now)) c.offer_at-offered.ensures.offered c.take.ensures.parts))
