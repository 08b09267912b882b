-- A slot comes into the unit of its item's thread, and an unbound thread's slot into a heap of foreign threads, too.
use Rattle.std.proofs.Common.{is_some, sym, ap, ◌∙◌}
use Rattle.sched_base.specs.Bucket.{index}
use Rattle.cluster_queue.proofs.Entered.{foreign_lacks, foreign_stands, unbound_enters}
use Rattle.cluster_queue.proofs.EnteredBound.{bound_enters}
use Rattle.cluster_queue.proofs.Fresh.{read_bound_room, read_lacks_bound, read_lacks_lane, read_lane_room}
use Rattle.cluster_queue.proofs.heaps.Heaps.enter.Goals as goal

pub push-requires-clause-lacks : goal.push-requires-clause-lacks
push-requires-clause-lacks g c =
    read_lacks_bound c.args.arena.now c.args.self.now c.args.slot c.requires.can c.get.result.now c.get.ensures c.index-at.result
    (c.index-at.ensures.index ∙ ap (λ f. index f.bucket) c.facts-facts.ensures.facts) c.index-self-at.result

pub push-requires-clause-room : goal.push-requires-clause-room
push-requires-clause-room g c =
    read_bound_room c.args.arena.now c.args.self.now c.args.slot c.requires.can c.get.result.now c.get.ensures c.index-at.result
    (c.index-at.ensures.index ∙ ap (λ f. index f.bucket) c.facts-facts.ensures.facts) c.index-self-at.result

pub enter-requires-clause-lacks : goal.enter-requires-clause-lacks
enter-requires-clause-lacks g c =
    read_lacks_lane c.args.arena.now c.args.self.now c.args.slot c.requires.can c.get.result.now c.get.ensures c.index-at.result
    (c.index-at.ensures.index ∙ ap (λ f. index f.bucket) c.facts-facts.ensures.facts) c.index-self-at-else-is_some.result

pub enter-requires-clause-room : goal.enter-requires-clause-room
enter-requires-clause-room g c =
    read_lane_room c.args.arena.now c.args.self.now c.args.slot c.requires.can c.get.result.now c.get.ensures c.index-at.result
    (c.index-at.ensures.index ∙ ap (λ f. index f.bucket) c.facts-facts.ensures.facts) c.index-self-at-else-is_some.result

pub push-requires-else-is_some-clause-stands : goal.push-requires-else-is_some-clause-stands
push-requires-else-is_some-clause-stands g c =
    foreign_stands c.enter_laws.ensures.foreign c.args.arena.now c.enter.new.arena c.args.self.now c.args.slot c.enter.ensures.arena c.requires.can

pub push-requires-else-is_some-clause-lacks : goal.push-requires-else-is_some-clause-lacks
push-requires-else-is_some-clause-lacks g c =
    foreign_lacks c.enter_laws.ensures.foreign c.enter_laws.ensures.lacks c.args.arena.now c.enter.new.arena c.args.self.now c.args.slot c.enter.ensures.arena c.requires.can

pub returns-then-is_some-clause-enters : goal.returns-then-is_some-clause-enters
returns-then-is_some-clause-enters g c =
    let laws = c.enter_laws.ensures in
    bound_enters laws.held laws.apart laws.live laws.stay laws.foreign laws.unbound c.args.arena.now c.push.new.arena c.args.self.now c.index-at.result c.args.slot c.args.ran c.args.blocked c.args.turns.now c.index-self-at.result _ c.get.result.now c.get.ensures
    (c.index-at.ensures.index ∙ ap (λ f. index f.bucket) c.facts-facts.ensures.facts)
    (ap (λ f. is_some f.bound) (sym c.facts-facts.ensures.facts) ∙ (sym c.is_some.ensures ∙ c.if-is_some.true))
    c.push.ensures.pushes

pub returns-else-is_some-clause-enters : goal.returns-else-is_some-clause-enters
returns-else-is_some-clause-enters g c =
    let laws = c.enter_laws.ensures in
    let enters = c.enter.ensures in
    unbound_enters laws.live laws.queues laws.stay laws.foreign c.args.arena.now c.enter.new.arena c.push-else-is_some.new.arena c.args.self.now c.index-at.result c.args.slot c.args.ran c.args.blocked c.args.turns.now c.enter.new.turns c.index-self-at-else-is_some.result _ c.push-else-is_some.new.self c.get.result.now c.get.ensures
    (c.index-at.ensures.index ∙ ap (λ f. index f.bucket) c.facts-facts.ensures.facts)
    (ap (λ f. is_some f.bound) (sym c.facts-facts.ensures.facts) ∙ (sym c.is_some.ensures ∙ c.if-is_some.false))
    enters.groups enters.arena enters.queues enters.follows c.push-else-is_some.ensures.pushes c.push-else-is_some.ensures.entries
