-- The heap is cleared, and the others stay.
use Rattle.std.proofs.Common.{Option, arith, lit<, subst, sym, ℕ}
use Rattle.std.specs.Prelude.{slice_set}
use Rattle.pairing_heap.specs.Heap.{ClearsSlots, Stands}
use Rattle.thread_queue.specs.Item.{foreign_key_of_item, foreign_precedes}
use Rattle.stealing.specs.Clearing.{ClearsOne}
use Rattle.stealing.specs.Foreign.{Roots}
use Rattle.stealing.proofs.Clearing.{clears_one}
use Rattle.stealing.proofs.Held.{root_of_index}
use Rattle.stealing.proofs.foreign.Foreign.clear_one.Goals as goal

pub clear-requires : goal.clear-requires
clear-requires c =
    let at = root_of_index c.args.self.now c.self.inside.heaps c.args.to c.index-self-to.result c.self.view_is c.requires.stands.eight c.requires.cluster in
    (lit< tt, subst (λ (r : Option ℕ). Stands 1 foreign_key_of_item foreign_precedes c.args.arena.now r) (sym at) (c.requires.stands.heaps c.args.to))

pub returns : goal.returns
returns c =
    let at = root_of_index c.args.self.now c.self.inside.heaps c.args.to c.index-self-to.result c.self.view_is c.requires.stands.eight c.requires.cluster in
    let clears = subst (λ (r : Option ℕ). ClearsSlots 1 foreign_key_of_item foreign_precedes c.args.arena.now c.clear.new.arena r) at c.clear.ensures.clears in
    let one = clears_one c.heap_laws.ensures.live c.heap_laws.ensures.first c.heap_laws.ensures.empty c.heap_laws.ensures.cleared c.args.arena.now c.clear.new.arena c.args.self.now c.args.to c.requires.stands (omega (arith, c.requires.cluster, c.requires.stands.eight)) clears in
    subst (λ (roots : Roots). ClearsOne c.args.arena.now c.clear.new.arena c.args.self.now (slice_set roots c.args.to c.clear.new.self) c.args.to) (sym c.self.view_is)
    (subst (λ (r : Option ℕ). ClearsOne c.args.arena.now c.clear.new.arena c.args.self.now (slice_set c.args.self.now c.args.to r) c.args.to) (sym c.clear.ensures.empty) one)
