-- The heap of the preferred cluster has one slot less.
use Rattle.std.proofs.Common.{Option, arith, length, lit<, subst, sym, ℕ, ◌<◌}
use Rattle.pairing_heap.specs.Heap.{Holds, Stands}
use Rattle.thread_queue.specs.Item.{foreign_key_of_item, foreign_precedes}
use Rattle.stealing.specs.Foreign.{Roots}
use Rattle.stealing.proofs.Held.{root_of_index}
use Rattle.stealing.proofs.Removing.{preferred_held, remove_goes, removed_entries, removes, within_held}
use Rattle.stealing.proofs.foreign.Foreign.remove.Goals as goal

pub listed : goal.listed
listed g c =
    let held = preferred_held c.args.arena.now c.args.self.now c.args.slot c.get.result.now c.facts-to.result c.requires.stands c.get.ensures c.facts-to.ensures.facts c.requires.held in
    subst (λ (roots : Roots). c.facts-to.result.prefer < length roots) (sym c.self.view_is)
    (within_held c.heap_laws.ensures.first c.heap_laws.ensures.empty c.args.arena.now c.args.self.now c.facts-to.result.prefer c.args.slot held)

pub bounds-self-inside-to : goal.bounds-self-inside-to
bounds-self-inside-to g c =
    let held = preferred_held c.args.arena.now c.args.self.now c.args.slot c.get.result.now c.facts-to.result c.requires.stands c.get.ensures c.facts-to.ensures.facts c.requires.held in
    let within = within_held c.heap_laws.ensures.first c.heap_laws.ensures.empty c.args.arena.now c.args.self.now c.facts-to.result.prefer c.args.slot held in
    omega (arith, within, c.requires.stands.eight)

pub remove-requires : goal.remove-requires
remove-requires g c =
    let held = preferred_held c.args.arena.now c.args.self.now c.args.slot c.get.result.now c.facts-to.result c.requires.stands c.get.ensures c.facts-to.ensures.facts c.requires.held in
    let within = within_held c.heap_laws.ensures.first c.heap_laws.ensures.empty c.args.arena.now c.args.self.now c.facts-to.result.prefer c.args.slot held in
    let at = root_of_index c.args.self.now c.self.inside.heaps c.facts-to.result.prefer c.index-self-to.result c.self.view_is c.requires.stands.eight (omega (arith, within, c.requires.stands.eight)) in (
      lit< tt,
      (
        subst (λ (r : Option ℕ). Stands 1 foreign_key_of_item foreign_precedes c.args.arena.now r) (sym at) (c.requires.stands.heaps c.facts-to.result.prefer),
        subst (λ (r : Option ℕ). Holds 1 foreign_key_of_item c.args.arena.now r c.args.slot) (sym at) held,
      ),
    )

pub returns-clause-removes : goal.returns-clause-removes
returns-clause-removes g c =
    let held = preferred_held c.args.arena.now c.args.self.now c.args.slot c.get.result.now c.facts-to.result c.requires.stands c.get.ensures c.facts-to.ensures.facts c.requires.held in
    let within = within_held c.heap_laws.ensures.first c.heap_laws.ensures.empty c.args.arena.now c.args.self.now c.facts-to.result.prefer c.args.slot held in
    removes c.args.arena.now c.remove.new.arena c.args.self.now _ c.args.slot c.get.result.now
    (remove_goes c.heap_laws.ensures.live c.heap_laws.ensures.takes c.heap_laws.ensures.taken c.heap_laws.ensures.lacked c.args.arena.now c.remove.new.arena c.args.self.now c.self.inside.heaps c.args.slot c.get.result.now c.facts-to.result c.index-self-to.result c.remove.new.self c.self.view_is c.facts-to.ensures.facts c.requires.stands c.get.ensures within held c.remove.ensures.takes)

pub returns-clause-entries : goal.returns-clause-entries
returns-clause-entries g c =
    let held = preferred_held c.args.arena.now c.args.self.now c.args.slot c.get.result.now c.facts-to.result c.requires.stands c.get.ensures c.facts-to.ensures.facts c.requires.held in
    let within = within_held c.heap_laws.ensures.first c.heap_laws.ensures.empty c.args.arena.now c.args.self.now c.facts-to.result.prefer c.args.slot held in
    removed_entries c.args.arena.now c.remove.new.arena c.args.self.now _ c.args.slot c.get.result.now
    (remove_goes c.heap_laws.ensures.live c.heap_laws.ensures.takes c.heap_laws.ensures.taken c.heap_laws.ensures.lacked c.args.arena.now c.remove.new.arena c.args.self.now c.self.inside.heaps c.args.slot c.get.result.now c.facts-to.result c.index-self-to.result c.remove.new.self c.self.view_is c.facts-to.ensures.facts c.requires.stands c.get.ensures within held c.remove.ensures.takes)
