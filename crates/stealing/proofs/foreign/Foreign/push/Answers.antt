-- The heap of the preferred cluster has one slot more.
use Rattle.std.proofs.Common.{Option, lit<, subst, sym, ℕ}
use Rattle.pairing_heap.specs.Heap.{Lacks, Stands}
use Rattle.thread_queue.specs.Item.{foreign_key_of_item, foreign_precedes}
use Rattle.stealing.proofs.Held.{root_of_index}
use Rattle.stealing.proofs.Pushing.{cluster_of, push_comes, pushed_entries, pushes}
use Rattle.stealing.proofs.foreign.Foreign.push.Goals as goal

pub push-requires : goal.push-requires
push-requires g c =
    let wants = c.requires.foreign c.get.result.now c.get.ensures in
    let lt = cluster_of c.facts-to.result c.get.result.now c.facts-to.ensures.facts wants in
    let at = root_of_index c.args.self.now c.self.inside.heaps c.facts-to.result.prefer c.index-self-to.result c.self.view_is c.requires.stands.eight lt in (
      lit< tt,
      (
        subst (λ (r : Option ℕ). Stands 1 foreign_key_of_item foreign_precedes c.args.arena.now r) (sym at) (c.requires.stands.heaps c.facts-to.result.prefer),
        (
          c.requires.live,
          subst (λ (r : Option ℕ). Lacks 1 foreign_key_of_item c.args.arena.now r c.args.slot) (sym at) (c.requires.lacks c.facts-to.result.prefer),
        ),
      ),
    )

pub returns-clause-pushes : goal.returns-clause-pushes
returns-clause-pushes g c =
    pushes c.args.arena.now c.push.new.arena c.args.self.now _ c.args.slot c.get.result.now
    (push_comes c.heap_laws.ensures.live c.heap_laws.ensures.adds c.heap_laws.ensures.added c.args.arena.now c.push.new.arena c.args.self.now c.self.inside.heaps c.args.slot c.get.result.now c.facts-to.result c.index-self-to.result c.push.new.self c.self.view_is c.facts-to.ensures.facts c.requires.stands c.requires.live c.get.ensures (c.requires.foreign c.get.result.now c.get.ensures) c.requires.lacks c.push.ensures.adds)

pub returns-clause-entries : goal.returns-clause-entries
returns-clause-entries g c =
    pushed_entries c.args.arena.now c.push.new.arena c.args.self.now _ c.args.slot c.get.result.now
    (push_comes c.heap_laws.ensures.live c.heap_laws.ensures.adds c.heap_laws.ensures.added c.args.arena.now c.push.new.arena c.args.self.now c.self.inside.heaps c.args.slot c.get.result.now c.facts-to.result c.index-self-to.result c.push.new.self c.self.view_is c.facts-to.ensures.facts c.requires.stands c.requires.live c.get.ensures (c.requires.foreign c.get.result.now c.get.ensures) c.requires.lacks c.push.ensures.adds)
