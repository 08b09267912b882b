-- The root is melded with the first of the chain.
use Rattle.std.proofs.Common.{ap}
use Rattle.link_arena.specs.Arena.{value_at}
use Rattle.pairing_heap.proofs.Melding.{live_from_key}
use Rattle.pairing_heap.proofs.Passes.{CanMeld-next, Chained-left, Resplits-melds, split_chain}
use Rattle.pairing_heap.proofs.meld.meld_next.Goals as goal

pub links-rest-requires-clause-live : goal.links-rest-requires-clause-live
links-rest-requires-clause-live g c =
    let second = split_chain g.row.K g.V.Keyed.key_of g.V.Key.HeapKey.precedes c.args.arena.now c.args.other (Chained-left g.row.K g.V.Keyed.key_of g.V.Key.HeapKey.precedes c.args.arena.now c.args.top _ c.requires) in
    live_from_key g.V.Keyed.key_of (value_at c.args.arena.now c.args.other) second.0.key second.0.rooted.keyed

pub meld-requires : goal.meld-requires
meld-requires g c = CanMeld-next g.row.K g.V.Keyed.key_of g.V.Key.HeapKey.precedes c.args.arena.now c.args.top c.args.other c.requires

pub returns-clause-splits : goal.returns-clause-splits
returns-clause-splits g c was =
    rw (ap (λ l. l.next) c.links-rest.ensures) (Resplits-melds g.row.K g.V.Keyed.key_of g.V.Key.HeapKey.precedes c.args.arena.now c.meld.new.arena c.args.top c.args.other c.meld.result was (c.meld.ensures.melds (CanMeld-next g.row.K g.V.Keyed.key_of g.V.Key.HeapKey.precedes c.args.arena.now c.args.top c.args.other was)))
