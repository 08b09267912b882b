-- The slot of the group goes out of the heap.
use Rattle.std.proofs.Common.{List, Option, ap, length, lit<, not, subst, sym, ◌<◌, ◌∙◌, ℕ}
use Rattle.pairing_heap.specs.Heap.{TakesPair}
use Rattle.clutch_bucket.specs.KeptRanks.{key_of_ranked}
use Rattle.clutch_bucket.specs.Ranks.{unit_key_precedes}
use Rattle.clutch_bucket.specs.declared.ranks.UnitKey.{UnitKey}
use Rattle.clutch_bucket.proofs.Keeping.{cleared, held_where_read, slot_read}
use Rattle.clutch_bucket.proofs.ranks.Ranks.clear.Goals as goal

pub remove-requires : goal.remove-requires
remove-requires g c =
    let within = subst (λ (keys : List (Option UnitKey)). c.args.group < length keys) (sym c.self.view_is) c.requires in
    let slot = slot_read c.self.inside.keys.items c.self.inside.slots.items c.self.inside.arena c.self.inside.heap c.args.group c.index-slot.result.now within c.self.invariant c.index-slot.ensures in
    let some = c.is_none.ensures ∙ ap not c.if-is_none.false in
    let held = held_where_read c.self.inside.keys.items c.self.inside.slots.items c.self.inside.arena c.self.inside.heap c.args.group c.index-slot.result.now c.index.result.now within c.self.invariant c.index.ensures some slot in
    (lit< tt, (c.self.invariant.stands, held))

pub invariant_of-self : goal.invariant_of-self
invariant_of-self g c =
    let within = subst (λ (keys : List (Option UnitKey)). c.args.group < length keys) (sym c.self.view_is) c.requires in
    let slot = slot_read c.self.inside.keys.items c.self.inside.slots.items c.self.inside.arena c.self.inside.heap c.args.group c.index-slot.result.now within c.self.invariant c.index-slot.ensures in
    let takes = subst (λ (s : ℕ). TakesPair 0 key_of_ranked unit_key_precedes c.self.inside.arena c.remove.new.arena c.self.inside.heap c.remove.new.self s) slot c.remove.ensures.takes in
    cleared c.heap_laws.ensures.takes c.heap_laws.ensures.lacked c.self.inside.keys.items c.self.inside.slots.items c.self.inside.arena c.remove.new.arena
    c.self.inside.heap c.remove.new.self c.args.group within c.self.invariant takes
