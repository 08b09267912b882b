-- The pick of a home that is on comes into the hand; a home that is off is touched alone.
use Rattle.std.proofs.Common.{◌≡◌, Option, sym, ◌∙◌, subst}
use Rattle.sched_base.specs.declared.Answer.{Answer}
use Rattle.sched_base.specs.declared.Facts.{Facts}
use Rattle.sched_base.specs.declared.Act.TheVariants as acts
use Rattle.flat_policy.specs.Policy.Clusters.{pick_of}
use Rattle.flat_policy.specs.Policy.Machine.{taking_hand}
use Rattle.trace_machine.specs.Parts.{Does, cluster_at, hand_of}
use Rattle.trace_machine.proofs.Moving.{selects, selects_off}
use Rattle.trace_machine.proofs.Setting.{rehanded}
use Rattle.trace_machine.proofs.parts.Parts.select.Goals as goal

pub returns-then-not-is_on : goal.returns-then-not-is_on
returns-then-not-is_on g c =
    selects_off c.args.self.now c.touch_at.new.self c.keep.new.self c.args.actor c.args.now c.home-home.result
    c.requires.ready c.home-home.ensures.home c.home-home.ensures.below c.requires.later (sym c.is_on.ensures ∙ c.if-not-is_on.true)
    c.touch_at.ensures c.keep.ensures

pub returns : goal.returns
returns g c =
    let old = c.args.self.now in
    let mid = c.select_at-picked.new.self in
    let picked = pick_of (cluster_at old c.home-home.result) c.args.now in
    subst (λ (answer : Answer). Does old c.take.new.self c.args.actor c.args.now acts.Select answer) (sym (c.take.ensures.answer picked c.select_at-picked.ensures.picked))
    (selects old mid c.take.new.self c.args.actor c.args.now c.home-home.result c.calls_keep_standing.ensures
    c.requires.ready c.home-home.ensures.home c.home-home.ensures.below c.requires.later (sym c.is_on.ensures ∙ c.if-not-is_on.false)
    c.select_at-picked.ensures.changes
    (subst (λ (given : Option Facts). c.take.new.self ≡ rehanded mid c.args.actor (taking_hand mid.setup (hand_of mid c.args.actor) given c.args.now)) c.select_at-picked.ensures.picked c.take.ensures.parts))
