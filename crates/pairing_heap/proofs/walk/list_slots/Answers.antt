-- Each step puts the slot ahead into the list.
use Rattle.std.proofs.Common.{arith, Some, None, refl, ◌∙◌}
use Rattle.std.specs.Prelude.{vec_len}
use Rattle.pairing_heap.proofs.Listing.{Listed-start, Listed-step, Listed-end, Listed-at, ahead_of}
use Rattle.pairing_heap.proofs.walk.list_slots.Goals as goal

pub loop-at-init : goal.loop-at-init
loop-at-init g c = (Listed-start g.row.K g.V.Keyed.key_of g.V.Key.HeapKey.precedes c.args.arena.now c.args.root c.args.slots.now.items (vec_len c.args.slots.now) c.requires.stands, refl)

pub push_reserved-requires : goal.push_reserved-requires
push_reserved-requires g c =
    let listed = Listed-at g.row.K g.V.Keyed.key_of g.V.Key.HeapKey.precedes c.args.arena.now c.args.root c.args.slots.now.items c.loop-at.slots.items c.loop-at.at (Some c.in-Some.slot) (vec_len c.args.slots.now) (vec_len c.loop-at.slots) c.in-Some.is c.loop-at.invariant.0 in
    let there = ahead_of g.row.K g.V.Keyed.key_of g.V.Key.HeapKey.precedes c.args.arena.now c.args.root c.args.slots.now.items c.loop-at.slots.items c.in-Some.slot (vec_len c.args.slots.now) (vec_len c.loop-at.slots) listed in
    omega (arith, there.fits, c.loop-at.invariant.1, c.requires.room)

pub next_slot-at-requires-clause-held : goal.next_slot-at-requires-clause-held
next_slot-at-requires-clause-held g c =
    let listed = Listed-at g.row.K g.V.Keyed.key_of g.V.Key.HeapKey.precedes c.args.arena.now c.args.root c.args.slots.now.items c.loop-at.slots.items c.loop-at.at (Some c.in-Some.slot) (vec_len c.args.slots.now) (vec_len c.loop-at.slots) c.in-Some.is c.loop-at.invariant.0 in
    let there = ahead_of g.row.K g.V.Keyed.key_of g.V.Key.HeapKey.precedes c.args.arena.now c.args.root c.args.slots.now.items c.loop-at.slots.items c.in-Some.slot (vec_len c.args.slots.now) (vec_len c.loop-at.slots) listed in
    there.held

pub loop-at-preserved : goal.loop-at-preserved
loop-at-preserved g c =
    let listed = Listed-at g.row.K g.V.Keyed.key_of g.V.Key.HeapKey.precedes c.args.arena.now c.args.root c.args.slots.now.items c.loop-at.slots.items c.loop-at.at (Some c.in-Some.slot) (vec_len c.args.slots.now) (vec_len c.loop-at.slots) c.in-Some.is c.loop-at.invariant.0 in (
      Listed-step g.row.K g.V.Keyed.key_of g.V.Key.HeapKey.precedes c.args.arena.now c.args.root c.args.slots.now.items c.loop-at.slots.items c.push_reserved.new.self.items c.in-Some.slot c.next_slot-at.result (vec_len c.args.slots.now) (vec_len c.loop-at.slots) (vec_len c.push_reserved.new.self) listed c.push_reserved.ensures.items c.push_reserved.ensures.len c.next_slot-at.ensures,
      c.push_reserved.ensures.capacity ∙ c.loop-at.invariant.1,
    )

pub loop-at-smaller : goal.loop-at-smaller
loop-at-smaller g c =
    let listed = Listed-at g.row.K g.V.Keyed.key_of g.V.Key.HeapKey.precedes c.args.arena.now c.args.root c.args.slots.now.items c.loop-at.slots.items c.loop-at.at (Some c.in-Some.slot) (vec_len c.args.slots.now) (vec_len c.loop-at.slots) c.in-Some.is c.loop-at.invariant.0 in
    let there = ahead_of g.row.K g.V.Keyed.key_of g.V.Key.HeapKey.precedes c.args.arena.now c.args.root c.args.slots.now.items c.loop-at.slots.items c.in-Some.slot (vec_len c.args.slots.now) (vec_len c.loop-at.slots) listed in
    omega (arith, there.fits, c.push_reserved.ensures.len)

pub returns-clause-lists : goal.returns-clause-lists
returns-clause-lists g c =
    Listed-end g.row.K g.V.Keyed.key_of g.V.Key.HeapKey.precedes c.args.arena.now c.args.root c.args.slots.now.items c.loop-at.slots.items (vec_len c.args.slots.now) (vec_len c.loop-at.slots)
    (Listed-at g.row.K g.V.Keyed.key_of g.V.Key.HeapKey.precedes c.args.arena.now c.args.root c.args.slots.now.items c.loop-at.slots.items c.loop-at.at None (vec_len c.args.slots.now) (vec_len c.loop-at.slots) c.in_default.is c.loop-at.invariant.0)

pub returns-clause-room : goal.returns-clause-room
returns-clause-room g c = c.loop-at.invariant.1
