-- An item comes into the arena and then into the heaps.
use Rattle.std.proofs.Common.{arith}
use Rattle.cluster_queue.proofs.Inserted.{ItemComes, can_enter, flat_now, slot_new, slots_now, stored_now}
use Rattle.cluster_queue.proofs.queue.Queue.insert.Goals as goal

pub enter_uncounted-requires-clause-can : goal.enter_uncounted-requires-clause-can
enter_uncounted-requires-clause-can c =
    let laws = c.arena_laws.ensures in
    let new = c.insert_reserved-slot in
    let h : ItemComes c.args.self.now new.new.self new.result c.args.item = record { stored = c.requires.stored; room = c.requires.spare; few = c.requires.few; fits = c.requires.fits; arrival = c.requires.arrival; inserts = new.ensures.inserts; spare = new.ensures.spare; small = omega arith } in
    can_enter laws.inserted laws.foreign_inserted laws.stay c.args.self.now new.new.self new.result c.args.item h

pub returns-clause-flat : goal.returns-clause-flat
returns-clause-flat c =
    let laws = c.arena_laws.ensures in
    let new = c.insert_reserved-slot in
    let h : ItemComes c.args.self.now new.new.self new.result c.args.item = record { stored = c.requires.stored; room = c.requires.spare; few = c.requires.few; fits = c.requires.fits; arrival = c.requires.arrival; inserts = new.ensures.inserts; spare = new.ensures.spare; small = omega arith } in
    flat_now laws.inserted laws.foreign_inserted laws.stay c.args.self.now new.new.self new.result c.args.item h c.enter_uncounted.new.arena c.enter_uncounted.new.self c.args.ran c.args.blocked c.enter_uncounted.new.turns c.args.now c.enter_uncounted.ensures

pub returns-clause-slots : goal.returns-clause-slots
returns-clause-slots c =
    let laws = c.arena_laws.ensures in
    let new = c.insert_reserved-slot in
    let h : ItemComes c.args.self.now new.new.self new.result c.args.item = record { stored = c.requires.stored; room = c.requires.spare; few = c.requires.few; fits = c.requires.fits; arrival = c.requires.arrival; inserts = new.ensures.inserts; spare = new.ensures.spare; small = omega arith } in
    slots_now laws.inserted laws.foreign_inserted laws.stay c.args.self.now new.new.self new.result c.args.item h c.enter_uncounted.new.arena c.enter_uncounted.new.self c.args.ran c.args.blocked c.enter_uncounted.new.turns c.args.now c.enter_uncounted.ensures

pub returns-clause-slot : goal.returns-clause-slot
returns-clause-slot c =
    let laws = c.arena_laws.ensures in
    let new = c.insert_reserved-slot in
    let h : ItemComes c.args.self.now new.new.self new.result c.args.item = record { stored = c.requires.stored; room = c.requires.spare; few = c.requires.few; fits = c.requires.fits; arrival = c.requires.arrival; inserts = new.ensures.inserts; spare = new.ensures.spare; small = omega arith } in
    slot_new laws.inserted laws.foreign_inserted laws.stay c.args.self.now new.new.self new.result c.args.item h c.enter_uncounted.new.arena c.enter_uncounted.new.self c.args.ran c.args.blocked c.enter_uncounted.new.turns c.args.now c.enter_uncounted.ensures

pub returns-clause-stored : goal.returns-clause-stored
returns-clause-stored c =
    let laws = c.arena_laws.ensures in
    let new = c.insert_reserved-slot in
    let h : ItemComes c.args.self.now new.new.self new.result c.args.item = record { stored = c.requires.stored; room = c.requires.spare; few = c.requires.few; fits = c.requires.fits; arrival = c.requires.arrival; inserts = new.ensures.inserts; spare = new.ensures.spare; small = omega arith } in
    stored_now laws.inserted laws.foreign_inserted laws.stay c.args.self.now new.new.self new.result c.args.item h c.enter_uncounted.new.arena c.enter_uncounted.new.self c.args.ran c.args.blocked c.enter_uncounted.new.turns c.args.now c.enter_uncounted.ensures
