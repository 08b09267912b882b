-- The slot alone is the heap, or it is melded with the root.
use Rattle.std.proofs.Common.{sym, ap, subst, ◌∙◌, ℕ, Option, Some}
use Rattle.pairing_heap.specs.Tree.{leaf, node}
use Rattle.pairing_heap.specs.Melding.{melded}
use Rattle.pairing_heap.specs.Heap.{tree_at, Stands, Lacks, AddsPair}
use Rattle.pairing_heap.proofs.Adding.{Adds-first, Adds-first-tree, Adds-melded, Adds-melded-tree, CanMeld-push, Pushes-relinks}
use Rattle.pairing_heap.proofs.meld.add_root.Goals as goal

pub meld-requires : goal.meld-requires
meld-requires g c =
    let stands = subst (λ (h : Option ℕ). Stands g.row.K g.V.Keyed.key_of g.V.Key.HeapKey.precedes c.args.arena.now h) c.in-Some.is c.requires.stands in
    let lacks = subst (λ (h : Option ℕ). Lacks g.row.K g.V.Keyed.key_of c.args.arena.now h c.args.slot) c.in-Some.is c.requires.lacks in
    CanMeld-push g.row.K g.V.Keyed.key_of g.V.Key.HeapKey.precedes _ _ _ _ stands.set (Pushes-relinks g.row.K g.V.Keyed.key_of g.V.Key.HeapKey.precedes _ _ _ _ stands lacks c.requires.live c.set_links.ensures.relinks c.set_links.ensures.spare)

pub returns-in-None-clause-adds : goal.returns-in-None-clause-adds
returns-in-None-clause-adds g c = Adds-first g.row.K g.V.Keyed.key_of g.V.Key.HeapKey.precedes _ _ _ _ c.in-None.is c.requires.stands c.requires.live c.set_links.ensures.relinks c.set_links.ensures.spare

pub returns-in-Some-clause-adds : goal.returns-in-Some-clause-adds
returns-in-Some-clause-adds g c =
    let stands = subst (λ (h : Option ℕ). Stands g.row.K g.V.Keyed.key_of g.V.Key.HeapKey.precedes c.args.arena.now h) c.in-Some.is c.requires.stands in
    let lacks = subst (λ (h : Option ℕ). Lacks g.row.K g.V.Keyed.key_of c.args.arena.now h c.args.slot) c.in-Some.is c.requires.lacks in
    let pushes = Pushes-relinks g.row.K g.V.Keyed.key_of g.V.Key.HeapKey.precedes _ _ _ _ stands lacks c.requires.live c.set_links.ensures.relinks c.set_links.ensures.spare in
    let adds = Adds-melded g.row.K g.V.Keyed.key_of g.V.Key.HeapKey.precedes _ _ _ _ _ _ stands.set pushes c.set_links.ensures.relinks (c.meld.ensures.melds (CanMeld-push g.row.K g.V.Keyed.key_of g.V.Key.HeapKey.precedes _ _ _ _ stands.set pushes)) stands in
    subst (λ (h : Option ℕ). AddsPair g.row.K g.V.Keyed.key_of g.V.Key.HeapKey.precedes c.args.arena.now c.meld.new.arena h (Some c.meld.result) c.args.slot) (sym c.in-Some.is) adds

pub returns-in-None-clause-melds : goal.returns-in-None-clause-melds
returns-in-None-clause-melds g c = Adds-first-tree g.row.K g.V.Keyed.key_of g.V.Key.HeapKey.precedes _ _ _ _ c.in-None.is c.requires.stands c.set_links.ensures.relinks

pub returns-in-Some-clause-melds : goal.returns-in-Some-clause-melds
returns-in-Some-clause-melds g c key keyed =
    let stands = subst (λ (h : Option ℕ). Stands g.row.K g.V.Keyed.key_of g.V.Key.HeapKey.precedes c.args.arena.now h) c.in-Some.is c.requires.stands in
    let lacks = subst (λ (h : Option ℕ). Lacks g.row.K g.V.Keyed.key_of c.args.arena.now h c.args.slot) c.in-Some.is c.requires.lacks in
    let pushes = Pushes-relinks g.row.K g.V.Keyed.key_of g.V.Key.HeapKey.precedes _ _ _ _ stands lacks c.requires.live c.set_links.ensures.relinks c.set_links.ensures.spare in
    let becomes = Adds-melded-tree g.row.K g.V.Keyed.key_of g.V.Key.HeapKey.precedes _ _ _ _ _ _ stands.set pushes c.set_links.ensures.relinks (c.meld.ensures.melds (CanMeld-push g.row.K g.V.Keyed.key_of g.V.Key.HeapKey.precedes _ _ _ _ stands.set pushes)) key keyed in
    becomes ∙ ap (λ (h : Option ℕ). melded g.V.Key.HeapKey.precedes (tree_at g.row.K g.V.Keyed.key_of c.args.arena.now h) (node key c.args.slot leaf leaf)) (sym c.in-Some.is)
