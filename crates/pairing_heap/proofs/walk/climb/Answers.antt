-- Each step goes to what is before the slot, and ends where something comes next.
use Rattle.std.proofs.Common.{ap}
use Rattle.pairing_heap.proofs.Walking.{inside_held, live_inside, Climbing-start, climbs_at, Past-read, Climbing-found, Climbing-step, Climbing-end}
use Rattle.pairing_heap.proofs.walk.climb.Goals as goal

pub links-before-requires-clause-live : goal.links-before-requires-clause-live
links-before-requires-clause-live g c =
    live_inside g.row.K g.V.Keyed.key_of g.V.Key.HeapKey.precedes c.args.arena.now c.args.root c.args.slot c.requires.stands
    (inside_held g.row.K g.V.Keyed.key_of g.V.Key.HeapKey.precedes c.args.arena.now c.args.root c.args.slot c.requires.held)

pub loop-before-init : goal.loop-before-init
loop-before-init g c = Climbing-start g.row.K g.V.Keyed.key_of g.V.Key.HeapKey.precedes c.args.arena.now c.args.root c.args.slot c.links-before.result.prev c.requires.held (ap (λ l. l.prev) c.links-before.ensures)

pub links-above-requires-clause-live : goal.links-above-requires-clause-live
links-above-requires-clause-live g c =
    let climbs = climbs_at g.row.K g.V.Keyed.key_of g.V.Key.HeapKey.precedes c.args.arena.now c.args.root c.args.slot c.loop-before.at c.in-Some.pred c.loop-before.before c.in-Some.is c.requires.stands c.loop-before.invariant in
    live_inside g.row.K g.V.Keyed.key_of g.V.Key.HeapKey.precedes c.args.arena.now c.args.root c.in-Some.pred c.requires.stands climbs.inside

pub returns-in-Some-past_child : goal.returns-in-Some-past_child
returns-in-Some-past_child g c =
    Climbing-found g.row.K g.V.Keyed.key_of g.V.Key.HeapKey.precedes c.args.arena.now c.args.root c.args.slot c.loop-before.at c.in-Some.pred c.loop-before.before c.past_child.result c.in-Some-past_child.next c.in-Some.is c.requires.stands c.loop-before.invariant
    (Past-read g.row.K g.V.Keyed.key_of g.V.Key.HeapKey.precedes c.args.arena.now c.loop-before.at c.in-Some.pred c.past_child.result c.links-above.result c.links-above.ensures c.past_child.ensures.child c.past_child.ensures.sibling)
    c.in-Some-past_child.is

pub loop-before-smaller : goal.loop-before-smaller
loop-before-smaller g c =
    let climbs = climbs_at g.row.K g.V.Keyed.key_of g.V.Key.HeapKey.precedes c.args.arena.now c.args.root c.args.slot c.loop-before.at c.in-Some.pred c.loop-before.before c.in-Some.is c.requires.stands c.loop-before.invariant in
    climbs.less

pub loop-before-preserved : goal.loop-before-preserved
loop-before-preserved g c =
    Climbing-step g.row.K g.V.Keyed.key_of g.V.Key.HeapKey.precedes c.args.arena.now c.args.root c.args.slot c.loop-before.at c.in-Some.pred c.loop-before.before c.links-above.result.prev c.past_child.result c.in-Some.is c.requires.stands c.loop-before.invariant
    (Past-read g.row.K g.V.Keyed.key_of g.V.Key.HeapKey.precedes c.args.arena.now c.loop-before.at c.in-Some.pred c.past_child.result c.links-above.result c.links-above.ensures c.past_child.ensures.child c.past_child.ensures.sibling)
    c.in_default-past_child.is (ap (λ l. l.prev) c.links-above.ensures)

pub returns : goal.returns
returns g c = Climbing-end g.row.K g.V.Keyed.key_of g.V.Key.HeapKey.precedes c.args.arena.now c.args.root c.args.slot c.loop-before.at c.loop-before.before c.in_default.is c.requires.stands c.loop-before.invariant
