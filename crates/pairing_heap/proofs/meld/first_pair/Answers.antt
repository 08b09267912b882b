-- One root is left alone, and two are melded.
use Rattle.std.proofs.Common.{sym, ap, ◌∙◌, arith}
use Rattle.pairing_heap.proofs.Pairing.{Pairs-alone, Pairs-two, split_before, live_first, siblings-alone, siblings-two}
use Rattle.pairing_heap.proofs.meld.first_pair.Goals as goal

pub links-requires-clause-live : goal.links-requires-clause-live
links-requires-clause-live g c = live_first g.row.K g.V.Keyed.key_of g.V.Key.HeapKey.precedes c.args.arena.now c.args.first c.requires

pub meld_next-requires : goal.meld_next-requires
meld_next-requires g c =
    let next = sym (ap (λ l. l.next) c.links.ensures) ∙ c.in-Some.is in
    (split_before g.row.K g.V.Keyed.key_of g.V.Key.HeapKey.precedes c.args.arena.now c.args.first _ c.requires next).0

pub returns-in-None-clause-pairs : goal.returns-in-None-clause-pairs
returns-in-None-clause-pairs g c was =
    let next = sym (ap (λ l. l.next) c.links.ensures) ∙ c.in-None.is in
    Pairs-alone g.row.K g.V.Keyed.key_of g.V.Key.HeapKey.precedes c.args.arena.now c.args.first was next

pub returns-in-Some-clause-pairs : goal.returns-in-Some-clause-pairs
returns-in-Some-clause-pairs g c was =
    let next = sym (ap (λ l. l.next) c.links.ensures) ∙ c.in-Some.is in
    Pairs-two g.row.K g.V.Keyed.key_of g.V.Key.HeapKey.precedes c.args.arena.now c.meld_next.new.arena c.args.first c.in-Some.second c.meld_next.result.0 c.meld_next.result.1 was next (c.meld_next.ensures.splits _)

pub returns-in-None-clause-ticks : goal.returns-in-None-clause-ticks
returns-in-None-clause-ticks g c was =
    let next = sym (ap (λ l. l.next) c.links.ensures) ∙ c.in-None.is in
    omega (arith, siblings-alone g.row.K g.V.Keyed.key_of g.V.Key.HeapKey.precedes c.args.arena.now c.args.first was next)

pub returns-in-Some-clause-ticks : goal.returns-in-Some-clause-ticks
returns-in-Some-clause-ticks g c was =
    let next = sym (ap (λ l. l.next) c.links.ensures) ∙ c.in-Some.is in
    omega (arith, c.meld_next.ensures.ticks, siblings-two g.row.K g.V.Keyed.key_of g.V.Key.HeapKey.precedes c.args.arena.now c.args.first c.in-Some.second was next)
