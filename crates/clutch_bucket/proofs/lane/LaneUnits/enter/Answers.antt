-- A slot comes into its group's queue, and the key of the group's unit is renewed.
use Rattle.std.proofs.Common.{◌≡◌, ℕ, ◌<◌, ap, sym, ◌∙◌, subst}
use Rattle.flat_policy.specs.Policy.Usage.{with_spans}
use Rattle.clutch_bucket.specs.Lane.{Lane, UnitsStand, groups, spans_at}
use Rattle.clutch_bucket.proofs.Entered.{enter_follows, enter_has, enter_queues, enter_stands, enters_from}
use Rattle.clutch_bucket.proofs.Entering.{entered_units, inside_later}
use Rattle.clutch_bucket.proofs.Units.{one_item}
use Rattle.clutch_bucket.proofs.lane.LaneUnits.enter.Goals as goal

pub add_slot-requires-clause-group : goal.add_slot-requires-clause-group
add_slot-requires-clause-group g c =
    let item = c.get.result.now in
    let is : c.facts-group.result.group ≡ item.thread.group = ap (λ f. f.group) c.facts-group.ensures.facts in
    subst (λ (i : ℕ). i < groups c.args.self.now) (sym is) (c.requires.may item c.get.ensures).group

pub renew-requires-clause-units : goal.renew-requires-clause-units
renew-requires-clause-units g c =
    let item = c.get.result.now in
    let is : c.facts-group.result.group ≡ item.thread.group = ap (λ f. f.group) c.facts-group.ensures.facts in
    let adds = c.add_slot.ensures.adds in
    let laws = c.queue_laws.ensures in
    let old = c.args.arena.now in
    let new = c.add_slot.new.arena in
    let e = enters_from laws.held laws.first laws.pushed old new c.args.self.now c.add_slot.new.self c.facts-group.result.group c.args.slot c.args.ran c.args.blocked item c.requires.stands c.get.ensures c.requires.lacks is (c.requires.may item c.get.ensures) adds in
    subst (UnitsStand new) (sym adds.is) (entered_units old new c.args.self.now c.facts-group.result.group c.args.slot item adds.queue _ e)

pub renew-requires-clause-group : goal.renew-requires-clause-group
renew-requires-clause-group g c =
    let item = c.get.result.now in
    let is : c.facts-group.result.group ≡ item.thread.group = ap (λ f. f.group) c.facts-group.ensures.facts in
    let adds = c.add_slot.ensures.adds in
    let laws = c.queue_laws.ensures in
    let old = c.args.arena.now in
    let new = c.add_slot.new.arena in
    let e = enters_from laws.held laws.first laws.pushed old new c.args.self.now c.add_slot.new.self c.facts-group.result.group c.args.slot c.args.ran c.args.blocked item c.requires.stands c.get.ensures c.requires.lacks is (c.requires.may item c.get.ensures) adds in
    subst (λ (l : Lane). c.facts-group.result.group < groups l) (sym adds.is) (inside_later old new c.args.self.now c.facts-group.result.group c.args.slot item adds.queue (with_spans (spans_at c.args.self.now c.facts-group.result.group) c.args.ran c.args.blocked) e)

pub returns-clause-stands : goal.returns-clause-stands
returns-clause-stands g c =
    let item = c.get.result.now in
    let is : c.facts-group.result.group ≡ item.thread.group = ap (λ f. f.group) c.facts-group.ensures.facts in
    let adds = c.add_slot.ensures.adds in
    let laws = c.queue_laws.ensures in
    let old = c.args.arena.now in
    let new = c.add_slot.new.arena in
    let e = enters_from laws.held laws.first laws.pushed old new c.args.self.now c.add_slot.new.self c.facts-group.result.group c.args.slot c.args.ran c.args.blocked item c.requires.stands c.get.ensures c.requires.lacks is (c.requires.may item c.get.ensures) adds in
    enter_stands old new c.args.self.now c.add_slot.new.self c.renew.new.self c.facts-group.result.group c.args.slot c.args.ran c.args.blocked c.args.turns.now item adds e c.renew.ensures.renewed

pub returns-clause-has : goal.returns-clause-has
returns-clause-has g c =
    let item = c.get.result.now in
    let is : c.facts-group.result.group ≡ item.thread.group = ap (λ f. f.group) c.facts-group.ensures.facts in
    let adds = c.add_slot.ensures.adds in
    let laws = c.queue_laws.ensures in
    let old = c.args.arena.now in
    let new = c.add_slot.new.arena in
    let e = enters_from laws.held laws.first laws.pushed old new c.args.self.now c.add_slot.new.self c.facts-group.result.group c.args.slot c.args.ran c.args.blocked item c.requires.stands c.get.ensures c.requires.lacks is (c.requires.may item c.get.ensures) adds in
    enter_has old new c.args.self.now c.add_slot.new.self c.renew.new.self c.facts-group.result.group c.args.slot c.args.ran c.args.blocked c.args.turns.now item adds e c.renew.ensures.renewed

pub returns-clause-queues : goal.returns-clause-queues
returns-clause-queues g c =
    let item = c.get.result.now in
    let is : c.facts-group.result.group ≡ item.thread.group = ap (λ f. f.group) c.facts-group.ensures.facts in
    let adds = c.add_slot.ensures.adds in
    let laws = c.queue_laws.ensures in
    let old = c.args.arena.now in
    let new = c.add_slot.new.arena in
    let e = enters_from laws.held laws.first laws.pushed old new c.args.self.now c.add_slot.new.self c.facts-group.result.group c.args.slot c.args.ran c.args.blocked item c.requires.stands c.get.ensures c.requires.lacks is (c.requires.may item c.get.ensures) adds in
    enter_queues old new c.args.self.now c.add_slot.new.self c.renew.new.self c.facts-group.result.group c.args.slot c.args.ran c.args.blocked c.args.turns.now item adds e c.renew.ensures.renewed

pub returns-clause-follows : goal.returns-clause-follows
returns-clause-follows g c = λ s item stored turn fresh f.
    let read = c.get.result.now in
    let same = one_item c.args.arena.now c.args.slot read item c.get.ensures stored in
    let is : c.facts-group.result.group ≡ item.thread.group = ap (λ f. f.group) c.facts-group.ensures.facts ∙ ap (λ i. i.thread.group) same in
    let adds = c.add_slot.ensures.adds in
    let laws = c.queue_laws.ensures in
    let old = c.args.arena.now in
    let new = c.add_slot.new.arena in
    let e = enters_from laws.held laws.first laws.pushed old new c.args.self.now c.add_slot.new.self c.facts-group.result.group c.args.slot c.args.ran c.args.blocked item c.requires.stands stored c.requires.lacks is (c.requires.may item stored) adds in
    enter_follows old new c.args.self.now c.add_slot.new.self c.renew.new.self c.facts-group.result.group c.args.slot c.args.ran c.args.blocked c.args.turns.now item adds e c.renew.ensures.renewed s c.renew.new.turns turn c.renew.ensures.turn fresh f
