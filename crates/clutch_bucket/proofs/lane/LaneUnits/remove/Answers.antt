-- A slot goes out of its group's queue, and the key of the group's unit is renewed.
use Rattle.std.proofs.Common.{ℕ, ◌<◌, ap, sym, subst}
use Rattle.thread_queue.specs.Queue.{HasSlot}
use Rattle.clutch_bucket.specs.Lane.{Lane, groups, queue_at}
use Rattle.clutch_bucket.proofs.Left.{group_of_slot, remove_arena, remove_follows, remove_groups, remove_lacks, remove_len, remove_queues, remove_stands, left_is, left_units_are}
use Rattle.clutch_bucket.proofs.Leaving.{Leaves, left_inside}
use Rattle.clutch_bucket.proofs.lane.LaneUnits.remove.Goals as goal

pub get-requires : goal.get-requires
get-requires g c =
    let has = c.requires.has in
    c.queue_laws.ensures.held c.args.arena.now (queue_at c.args.self.now has.0).root c.args.slot (c.requires.stands.units.each has.0 has.1.0).stands.heap has.1.1

pub take_slot-requires-clause-group : goal.take_slot-requires-clause-group
take_slot-requires-clause-group g c =
    let has = c.requires.has in
    let same = group_of_slot c.args.arena.now c.args.self.now c.args.slot c.facts-group.result.group c.get.result.now c.requires.stands c.get.ensures has (ap (λ f. f.group) c.facts-group.ensures.facts) in
    subst (λ (i : ℕ). i < groups c.args.self.now) same has.1.0

pub take_slot-requires-clause-has : goal.take_slot-requires-clause-has
take_slot-requires-clause-has g c =
    let has = c.requires.has in
    let same = group_of_slot c.args.arena.now c.args.self.now c.args.slot c.facts-group.result.group c.get.result.now c.requires.stands c.get.ensures has (ap (λ f. f.group) c.facts-group.ensures.facts) in
    subst (λ (i : ℕ). HasSlot c.args.arena.now (queue_at c.args.self.now i) c.args.slot) same has.1.1

pub renew-requires-clause-units : goal.renew-requires-clause-units
renew-requires-clause-units g c =
    let has = c.requires.has in
    let old = c.args.arena.now in
    let new = c.take_slot.new.arena in
    let before = c.args.self.now in
    let group = c.facts-group.result.group in
    let laws = c.queue_laws.ensures in
    let takes = c.take_slot.ensures.takes in
    let same = group_of_slot old before c.args.slot group c.get.result.now c.requires.stands c.get.ensures has (ap (λ f. f.group) c.facts-group.ensures.facts) in
    let e : Leaves old new before group c.args.slot takes.queue = record {
      held = laws.held;
      first = laws.first;
      law = laws.removed;
      gone = laws.gone;
      stands = c.requires.stands;
      within = subst (λ (i : ℕ). i < groups before) same has.1.0;
      has = subst (λ (i : ℕ). HasSlot old (queue_at before i) c.args.slot) same has.1.1;
      removes = takes.removes;
    } in
    left_units_are old new before c.take_slot.new.self group c.args.slot takes e

pub renew-requires-clause-group : goal.renew-requires-clause-group
renew-requires-clause-group g c =
    let has = c.requires.has in
    let old = c.args.arena.now in
    let new = c.take_slot.new.arena in
    let before = c.args.self.now in
    let group = c.facts-group.result.group in
    let laws = c.queue_laws.ensures in
    let takes = c.take_slot.ensures.takes in
    let same = group_of_slot old before c.args.slot group c.get.result.now c.requires.stands c.get.ensures has (ap (λ f. f.group) c.facts-group.ensures.facts) in
    let e : Leaves old new before group c.args.slot takes.queue = record {
      held = laws.held;
      first = laws.first;
      law = laws.removed;
      gone = laws.gone;
      stands = c.requires.stands;
      within = subst (λ (i : ℕ). i < groups before) same has.1.0;
      has = subst (λ (i : ℕ). HasSlot old (queue_at before i) c.args.slot) same has.1.1;
      removes = takes.removes;
    } in
    subst (λ (l : Lane). group < groups l) (sym (left_is old new before c.take_slot.new.self group c.args.slot takes)) (left_inside old new before group c.args.slot takes.queue c.take_slot.new.self.len e)

pub returns-clause-stands : goal.returns-clause-stands
returns-clause-stands g c =
    let has = c.requires.has in
    let old = c.args.arena.now in
    let new = c.take_slot.new.arena in
    let before = c.args.self.now in
    let group = c.facts-group.result.group in
    let laws = c.queue_laws.ensures in
    let takes = c.take_slot.ensures.takes in
    let same = group_of_slot old before c.args.slot group c.get.result.now c.requires.stands c.get.ensures has (ap (λ f. f.group) c.facts-group.ensures.facts) in
    let e : Leaves old new before group c.args.slot takes.queue = record {
      held = laws.held;
      first = laws.first;
      law = laws.removed;
      gone = laws.gone;
      stands = c.requires.stands;
      within = subst (λ (i : ℕ). i < groups before) same has.1.0;
      has = subst (λ (i : ℕ). HasSlot old (queue_at before i) c.args.slot) same has.1.1;
      removes = takes.removes;
    } in
    remove_stands old new before c.take_slot.new.self c.renew.new.self group c.args.slot c.args.picked c.args.turns.now takes e c.renew.ensures.renewed

pub returns-clause-lacks : goal.returns-clause-lacks
returns-clause-lacks g c =
    let has = c.requires.has in
    let old = c.args.arena.now in
    let new = c.take_slot.new.arena in
    let before = c.args.self.now in
    let group = c.facts-group.result.group in
    let laws = c.queue_laws.ensures in
    let takes = c.take_slot.ensures.takes in
    let same = group_of_slot old before c.args.slot group c.get.result.now c.requires.stands c.get.ensures has (ap (λ f. f.group) c.facts-group.ensures.facts) in
    let e : Leaves old new before group c.args.slot takes.queue = record {
      held = laws.held;
      first = laws.first;
      law = laws.removed;
      gone = laws.gone;
      stands = c.requires.stands;
      within = subst (λ (i : ℕ). i < groups before) same has.1.0;
      has = subst (λ (i : ℕ). HasSlot old (queue_at before i) c.args.slot) same has.1.1;
      removes = takes.removes;
    } in
    remove_lacks old new before c.take_slot.new.self c.renew.new.self group c.args.slot c.args.picked c.args.turns.now takes e c.renew.ensures.renewed

pub returns-clause-len : goal.returns-clause-len
returns-clause-len g c =
    let has = c.requires.has in
    let old = c.args.arena.now in
    let new = c.take_slot.new.arena in
    let before = c.args.self.now in
    let group = c.facts-group.result.group in
    let laws = c.queue_laws.ensures in
    let takes = c.take_slot.ensures.takes in
    let same = group_of_slot old before c.args.slot group c.get.result.now c.requires.stands c.get.ensures has (ap (λ f. f.group) c.facts-group.ensures.facts) in
    let e : Leaves old new before group c.args.slot takes.queue = record {
      held = laws.held;
      first = laws.first;
      law = laws.removed;
      gone = laws.gone;
      stands = c.requires.stands;
      within = subst (λ (i : ℕ). i < groups before) same has.1.0;
      has = subst (λ (i : ℕ). HasSlot old (queue_at before i) c.args.slot) same has.1.1;
      removes = takes.removes;
    } in
    remove_len old new before c.take_slot.new.self c.renew.new.self group c.args.slot c.args.picked c.args.turns.now takes e c.renew.ensures.renewed

pub returns-clause-groups : goal.returns-clause-groups
returns-clause-groups g c =
    let has = c.requires.has in
    let old = c.args.arena.now in
    let new = c.take_slot.new.arena in
    let before = c.args.self.now in
    let group = c.facts-group.result.group in
    let laws = c.queue_laws.ensures in
    let takes = c.take_slot.ensures.takes in
    let same = group_of_slot old before c.args.slot group c.get.result.now c.requires.stands c.get.ensures has (ap (λ f. f.group) c.facts-group.ensures.facts) in
    let e : Leaves old new before group c.args.slot takes.queue = record {
      held = laws.held;
      first = laws.first;
      law = laws.removed;
      gone = laws.gone;
      stands = c.requires.stands;
      within = subst (λ (i : ℕ). i < groups before) same has.1.0;
      has = subst (λ (i : ℕ). HasSlot old (queue_at before i) c.args.slot) same has.1.1;
      removes = takes.removes;
    } in
    remove_groups old new before c.take_slot.new.self c.renew.new.self group c.args.slot c.args.picked c.args.turns.now takes e c.renew.ensures.renewed

pub returns-clause-arena : goal.returns-clause-arena
returns-clause-arena g c =
    let has = c.requires.has in
    let old = c.args.arena.now in
    let new = c.take_slot.new.arena in
    let before = c.args.self.now in
    let group = c.facts-group.result.group in
    let laws = c.queue_laws.ensures in
    let takes = c.take_slot.ensures.takes in
    let same = group_of_slot old before c.args.slot group c.get.result.now c.requires.stands c.get.ensures has (ap (λ f. f.group) c.facts-group.ensures.facts) in
    let e : Leaves old new before group c.args.slot takes.queue = record {
      held = laws.held;
      first = laws.first;
      law = laws.removed;
      gone = laws.gone;
      stands = c.requires.stands;
      within = subst (λ (i : ℕ). i < groups before) same has.1.0;
      has = subst (λ (i : ℕ). HasSlot old (queue_at before i) c.args.slot) same has.1.1;
      removes = takes.removes;
    } in
    remove_arena old new before c.take_slot.new.self c.renew.new.self group c.args.slot c.args.picked c.args.turns.now takes e c.renew.ensures.renewed

pub returns-clause-queues : goal.returns-clause-queues
returns-clause-queues g c =
    let has = c.requires.has in
    let old = c.args.arena.now in
    let new = c.take_slot.new.arena in
    let before = c.args.self.now in
    let group = c.facts-group.result.group in
    let laws = c.queue_laws.ensures in
    let takes = c.take_slot.ensures.takes in
    let same = group_of_slot old before c.args.slot group c.get.result.now c.requires.stands c.get.ensures has (ap (λ f. f.group) c.facts-group.ensures.facts) in
    let e : Leaves old new before group c.args.slot takes.queue = record {
      held = laws.held;
      first = laws.first;
      law = laws.removed;
      gone = laws.gone;
      stands = c.requires.stands;
      within = subst (λ (i : ℕ). i < groups before) same has.1.0;
      has = subst (λ (i : ℕ). HasSlot old (queue_at before i) c.args.slot) same has.1.1;
      removes = takes.removes;
    } in
    remove_queues old new before c.take_slot.new.self c.renew.new.self group c.args.slot c.args.picked c.args.turns.now takes e c.renew.ensures.renewed

pub returns-clause-follows : goal.returns-clause-follows
returns-clause-follows g c = λ s item stored turn formed f.
    let has = c.requires.has in
    let old = c.args.arena.now in
    let new = c.take_slot.new.arena in
    let before = c.args.self.now in
    let group = c.facts-group.result.group in
    let laws = c.queue_laws.ensures in
    let takes = c.take_slot.ensures.takes in
    let same = group_of_slot old before c.args.slot group c.get.result.now c.requires.stands c.get.ensures has (ap (λ f. f.group) c.facts-group.ensures.facts) in
    let e : Leaves old new before group c.args.slot takes.queue = record {
      held = laws.held;
      first = laws.first;
      law = laws.removed;
      gone = laws.gone;
      stands = c.requires.stands;
      within = subst (λ (i : ℕ). i < groups before) same has.1.0;
      has = subst (λ (i : ℕ). HasSlot old (queue_at before i) c.args.slot) same has.1.1;
      removes = takes.removes;
    } in
    remove_follows old new before c.take_slot.new.self c.renew.new.self group c.args.slot c.args.picked c.args.turns.now takes e c.renew.ensures.renewed s item c.renew.new.turns stored turn c.renew.ensures.turn formed.arrivals_rise f

pub returns-clause-free : goal.returns-clause-free
returns-clause-free g c =
    let has = c.requires.has in
    let old = c.args.arena.now in
    let new = c.take_slot.new.arena in
    let before = c.args.self.now in
    let group = c.facts-group.result.group in
    let laws = c.queue_laws.ensures in
    let takes = c.take_slot.ensures.takes in
    let same = group_of_slot old before c.args.slot group c.get.result.now c.requires.stands c.get.ensures has (ap (λ f. f.group) c.facts-group.ensures.facts) in
    let e : Leaves old new before group c.args.slot takes.queue = record {
      held = laws.held;
      first = laws.first;
      law = laws.removed;
      gone = laws.gone;
      stands = c.requires.stands;
      within = subst (λ (i : ℕ). i < groups before) same has.1.0;
      has = subst (λ (i : ℕ). HasSlot old (queue_at before i) c.args.slot) same has.1.1;
      removes = takes.removes;
    } in
    takes.removes.takes.free
