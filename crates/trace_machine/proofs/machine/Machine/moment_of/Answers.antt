use Rattle.std.proofs.Common.{◌<◌, ap, sym, subst, ◌∙◌, length}
use Rattle.flat_policy.specs.Policy.Machine.{last_at, site_of, spot_from}
use Rattle.flat_policy.specs.Policy.Setup.{actor_count, cluster_count, home_of}
use Rattle.trace_machine.specs.Machines.{MachineView}
use Rattle.trace_machine.specs.Parts.{hand_of, state_of}
use Rattle.trace_machine.proofs.Moments.{clusters_there, hands_there, moment_is, spot_there, step_parts}
use Rattle.trace_machine.proofs.machine.Machine.moment_of.Goals as goal

pub home-requires : goal.home-requires
home-requires g c =
    subst (λ (w : MachineView). c.args.s.now.actor < actor_count w.parts.setup) (sym c.self.view_is) (step_parts c.args.self.now.parts.setup c.args.s.now c.requires.fits).actor

pub hand_last-requires : goal.hand_last-requires
hand_last-requires g c =
    let v : MachineView = c.args.self.now in
    let means = c.requires.machine.1 in
    subst (λ (w : MachineView). c.args.s.now.actor < length w.parts.hands) (sym c.self.view_is)
    (subst (λ n. c.args.s.now.actor < n) (sym (hands_there v means.0 (c.stays.ensures means.0 means.2))) (step_parts v.parts.setup c.args.s.now c.requires.fits).actor)

pub spot_last-requires : goal.spot_last-requires
spot_last-requires g c k is =
    let v : MachineView = c.args.self.now in
    let means = c.requires.machine.1 in
    subst (λ n. k < n) (sym (clusters_there v means.0 (c.stays.ensures means.0 means.2)))
    (spot_there v.parts.setup c.home.result c.args.s.now.act k
    (subst (λ (w : MachineView). c.home.result < cluster_count w.parts.setup) c.self.view_is c.home.ensures.below)
    (step_parts v.parts.setup c.args.s.now c.requires.fits).act (sym c.spot_from.ensures ∙ is))

pub returns : goal.returns
returns g c y means =
    let v : MachineView = c.args.self.now in
    let s = c.args.s.now in
    moment_is v y s c.hand_last.result c.max-own.result c.spot_last.result c.max.result
    (c.hand_last.ensures ∙ ap (λ (w : MachineView). (hand_of w.parts s.actor).last) c.self.view_is)
    c.max-own.ensures
    (c.spot_last.ensures y means.yard.last
    ∙ ap (last_at (state_of v.parts y)) (c.spot_from.ensures ∙ ap (λ home. spot_from home (site_of s.act)) (c.home.ensures.home ∙ ap (λ (w : MachineView). home_of w.parts.setup s.actor) c.self.view_is)))
    c.max.ensures
