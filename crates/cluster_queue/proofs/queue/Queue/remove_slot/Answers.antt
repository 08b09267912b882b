-- An item goes out of the heaps and then out of the arena.
use Rattle.std.proofs.Common.{◌∙◌, arith, sym}
use Rattle.cluster_queue.proofs.Removed.{ItemGoes, can_leave, flat_left, slots_left, some_entry, stored_left}
use Rattle.cluster_queue.proofs.queue.Queue.remove_slot.Goals as goal
use Rattle.cluster_queue.proofs.Slots.{item_at}

pub remove_uncounted-requires-clause-can : goal.remove_uncounted-requires-clause-can
remove_uncounted-requires-clause-can c =
    let q = c.args.self.now in
    let there = item_at q.arena c.args.slot c.requires.live in
    can_leave q c.args.slot there.0 (record { queue = c.requires.queue; stored = there.1 })

pub overflow_sub-self : goal.overflow_sub-self
overflow_sub-self c =
    let q = c.args.self.now in
    let out = c.remove_uncounted in
    let gone = c.remove-item in
    let h : ItemGoes q c.args.slot gone.result = record { queue = c.requires.queue; stored = sym (out.ensures.values c.args.slot) ∙ gone.ensures.value } in
    some_entry q c.args.slot gone.result h

pub overflow_add-self : goal.overflow_add-self
overflow_add-self c =
    let q = c.args.self.now in
    let out = c.remove_uncounted in
    let gone = c.remove-item in
    let h : ItemGoes q c.args.slot gone.result = record { queue = c.requires.queue; stored = sym (out.ensures.values c.args.slot) ∙ gone.ensures.value } in
    omega (arith, some_entry q c.args.slot gone.result h, c.requires.queue.nested.stored.room)

pub returns-clause-flat : goal.returns-clause-flat
returns-clause-flat c =
    let laws = c.arena_laws.ensures in
    let q = c.args.self.now in
    let out = c.remove_uncounted in
    let gone = c.remove-item in
    let h : ItemGoes q c.args.slot gone.result = record { queue = c.requires.queue; stored = sym (out.ensures.values c.args.slot) ∙ gone.ensures.value } in
    flat_left q c.args.slot gone.result h out.new.arena gone.new.self out.new.self c.args.picked out.new.turns out.ensures gone.ensures.removes laws.removed laws.foreign_removed laws.stay laws.live

pub returns-clause-slots : goal.returns-clause-slots
returns-clause-slots c =
    let q = c.args.self.now in
    let out = c.remove_uncounted in
    let gone = c.remove-item in
    let h : ItemGoes q c.args.slot gone.result = record { queue = c.requires.queue; stored = sym (out.ensures.values c.args.slot) ∙ gone.ensures.value } in
    slots_left q c.args.slot gone.result h out.new.arena gone.new.self out.new.self c.args.picked out.new.turns out.ensures gone.ensures.removes

pub returns-clause-stored : goal.returns-clause-stored
returns-clause-stored c =
    let laws = c.arena_laws.ensures in
    let q = c.args.self.now in
    let out = c.remove_uncounted in
    let gone = c.remove-item in
    let h : ItemGoes q c.args.slot gone.result = record { queue = c.requires.queue; stored = sym (out.ensures.values c.args.slot) ∙ gone.ensures.value } in
    stored_left q c.args.slot gone.result h out.new.arena gone.new.self out.new.self c.args.picked out.new.turns out.ensures gone.ensures.removes laws.removed laws.foreign_removed laws.stay laws.live gone.ensures.spare
