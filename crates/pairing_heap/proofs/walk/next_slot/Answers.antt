-- The first child comes after the slot, or what is next after it, or what is beyond.
use Rattle.std.proofs.Common.{None, Some, ap, sym, ◌∙◌}
use Rattle.link_arena.specs.Arena.{links_at}
use Rattle.pairing_heap.specs.Heap.{tree_at}
use Rattle.pairing_heap.specs.Walk.{beyond, or_else}
use Rattle.pairing_heap.proofs.Walking.{inside_held, live_inside, next_is}
use Rattle.pairing_heap.proofs.walk.next_slot.Goals as goal

pub links-links-requires-clause-live : goal.links-links-requires-clause-live
links-links-requires-clause-live g c =
    live_inside g.row.K g.V.Keyed.key_of g.V.Key.HeapKey.precedes c.args.arena.now c.args.root c.args.slot c.requires.stands
    (inside_held g.row.K g.V.Keyed.key_of g.V.Key.HeapKey.precedes c.args.arena.now c.args.root c.args.slot c.requires.held)

pub returns-in-Some : goal.returns-in-Some
returns-in-Some g c =
    let links = links_at c.args.arena.now g.row.K c.args.slot in
    let out = beyond c.args.slot (tree_at g.row.K g.V.Keyed.key_of c.args.arena.now c.args.root) None in
    let child = sym (ap (λ l. l.child) c.links-links.ensures) ∙ c.in-Some.is in
    next_is g.row.K g.V.Keyed.key_of g.V.Key.HeapKey.precedes c.args.arena.now c.args.root c.args.slot c.requires.stands c.requires.held (Some c.in-Some.child)
    (ap (λ o. or_else o (or_else links.next out)) (sym child))

pub returns-in-Some-next : goal.returns-in-Some-next
returns-in-Some-next g c =
    let links = links_at c.args.arena.now g.row.K c.args.slot in
    let out = beyond c.args.slot (tree_at g.row.K g.V.Keyed.key_of c.args.arena.now c.args.root) None in
    let child = sym (ap (λ l. l.child) c.links-links.ensures) ∙ c.in_default.is in
    let next = sym (ap (λ l. l.next) c.links-links.ensures) ∙ c.in-Some-next.is in
    next_is g.row.K g.V.Keyed.key_of g.V.Key.HeapKey.precedes c.args.arena.now c.args.root c.args.slot c.requires.stands c.requires.held (Some c.in-Some-next.next)
    (sym (ap (λ o. or_else o (or_else links.next out)) child ∙ ap (λ o. or_else o out) next))

pub returns : goal.returns
returns g c =
    let links = links_at c.args.arena.now g.row.K c.args.slot in
    let out = beyond c.args.slot (tree_at g.row.K g.V.Keyed.key_of c.args.arena.now c.args.root) None in
    let child = sym (ap (λ l. l.child) c.links-links.ensures) ∙ c.in_default.is in
    let next = sym (ap (λ l. l.next) c.links-links.ensures) ∙ c.in_default-next.is in
    next_is g.row.K g.V.Keyed.key_of g.V.Key.HeapKey.precedes c.args.arena.now c.args.root c.args.slot c.requires.stands c.requires.held c.climb.result
    (c.climb.ensures ∙ sym (ap (λ o. or_else o (or_else links.next out)) child ∙ ap (λ o. or_else o out) next))
