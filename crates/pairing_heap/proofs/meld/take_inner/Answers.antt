-- The slot's children become one heap, which is melded with the rest.
use Rattle.std.proofs.Common.{sym, ap, is_some, ◌∙◌}
use Rattle.pairing_heap.proofs.Removing.{inner_held, some_before, before_inner, live_inner, CanUnhook-inner, Outside-written, Takes-inner-at, Takes-inner-paired-at, Spent-at, Split-at}
use Rattle.pairing_heap.proofs.meld.take_inner.Goals as goal

pub links-links-requires-clause-live : goal.links-links-requires-clause-live
links-links-requires-clause-live g c =
    live_inner g.row.K g.V.Keyed.key_of g.V.Key.HeapKey.precedes c.args.arena.now c.args.root c.args.slot (inner_held g.row.K g.V.Keyed.key_of g.V.Key.HeapKey.precedes c.args.arena.now c.args.root c.args.slot c.requires.stands c.requires.held c.requires.below)

pub unwrap-pred-requires : goal.unwrap-pred-requires
unwrap-pred-requires g c =
    let inner = inner_held g.row.K g.V.Keyed.key_of g.V.Key.HeapKey.precedes c.args.arena.now c.args.root c.args.slot c.requires.stands c.requires.held c.requires.below in
    let found = some_before g.row.K g.V.Keyed.key_of g.V.Key.HeapKey.precedes c.args.arena.now c.args.root c.args.slot inner in
    ap is_some (ap (λ l. l.prev) c.links-links.ensures ∙ found.1.prev_is)

pub unhook-requires : goal.unhook-requires
unhook-requires g c =
    let inner = inner_held g.row.K g.V.Keyed.key_of g.V.Key.HeapKey.precedes c.args.arena.now c.args.root c.args.slot c.requires.stands c.requires.held c.requires.below in
    CanUnhook-inner g.row.K g.V.Keyed.key_of g.V.Key.HeapKey.precedes c.args.arena.now c.args.root c.args.slot c.unwrap-pred.result inner
    (before_inner g.row.K g.V.Keyed.key_of g.V.Key.HeapKey.precedes c.args.arena.now c.args.root c.args.slot c.unwrap-pred.result inner (sym (ap (λ l. l.prev) c.links-links.ensures) ∙ c.unwrap-pred.ensures))

pub set_links-requires-clause-live : goal.set_links-requires-clause-live
set_links-requires-clause-live g c =
    let inner = inner_held g.row.K g.V.Keyed.key_of g.V.Key.HeapKey.precedes c.args.arena.now c.args.root c.args.slot c.requires.stands c.requires.held c.requires.below in
    ap is_some (c.unhook.ensures.rest.values c.args.slot) ∙ live_inner g.row.K g.V.Keyed.key_of g.V.Key.HeapKey.precedes c.args.arena.now c.args.root c.args.slot inner

pub join_children-requires : goal.join_children-requires
join_children-requires g c =
    let prev_is = sym (ap (λ l. l.prev) c.links-links.ensures) ∙ c.unwrap-pred.ensures in
    Split-at g.row.K g.V.Keyed.key_of g.V.Key.HeapKey.precedes c.args.arena.now c.set_links.new.self c.args.root c.args.slot c.links-links.result.child (sym (ap (λ l. l.child) c.links-links.ensures))
    (Outside-written g.row.K g.V.Keyed.key_of g.V.Key.HeapKey.precedes c.args.arena.now c.unhook.new.arena c.set_links.new.self c.args.root c.args.slot c.unwrap-pred.result c.requires.stands c.requires.held c.requires.below prev_is c.unhook.ensures.links c.unhook.ensures.rest c.set_links.ensures.relinks c.set_links.ensures.spare)

pub returns-clause-takes : goal.returns-clause-takes
returns-clause-takes g c =
    let prev_is = sym (ap (λ l. l.prev) c.links-links.ensures) ∙ c.unwrap-pred.ensures in
    Takes-inner-at g.row.K g.V.Keyed.key_of g.V.Key.HeapKey.precedes c.args.arena.now c.set_links.new.self c.join_children.new.arena c.args.root c.args.slot c.join_children.result c.links-links.result.child (sym (ap (λ l. l.child) c.links-links.ensures)) c.requires.stands
    (Outside-written g.row.K g.V.Keyed.key_of g.V.Key.HeapKey.precedes c.args.arena.now c.unhook.new.arena c.set_links.new.self c.args.root c.args.slot c.unwrap-pred.result c.requires.stands c.requires.held c.requires.below prev_is c.unhook.ensures.links c.unhook.ensures.rest c.set_links.ensures.relinks c.set_links.ensures.spare)
    c.join_children.ensures.joins

pub returns-clause-pairs : goal.returns-clause-pairs
returns-clause-pairs g c =
    let prev_is = sym (ap (λ l. l.prev) c.links-links.ensures) ∙ c.unwrap-pred.ensures in
    Takes-inner-paired-at g.row.K g.V.Keyed.key_of g.V.Key.HeapKey.precedes c.args.arena.now c.set_links.new.self c.join_children.new.arena c.args.root c.args.slot c.join_children.result c.links-links.result.child (sym (ap (λ l. l.child) c.links-links.ensures))
    (Outside-written g.row.K g.V.Keyed.key_of g.V.Key.HeapKey.precedes c.args.arena.now c.unhook.new.arena c.set_links.new.self c.args.root c.args.slot c.unwrap-pred.result c.requires.stands c.requires.held c.requires.below prev_is c.unhook.ensures.links c.unhook.ensures.rest c.set_links.ensures.relinks c.set_links.ensures.spare)
    c.join_children.ensures.joins

pub returns-clause-most : goal.returns-clause-most
returns-clause-most g c =
    let prev_is = sym (ap (λ l. l.prev) c.links-links.ensures) ∙ c.unwrap-pred.ensures in
    Spent-at g.row.K g.V.Keyed.key_of g.V.Key.HeapKey.precedes c.args.arena.now c.set_links.new.self c.args.root c.args.slot _ _ c.links-links.result.child (sym (ap (λ l. l.child) c.links-links.ensures))
    (Outside-written g.row.K g.V.Keyed.key_of g.V.Key.HeapKey.precedes c.args.arena.now c.unhook.new.arena c.set_links.new.self c.args.root c.args.slot c.unwrap-pred.result c.requires.stands c.requires.held c.requires.below prev_is c.unhook.ensures.links c.unhook.ensures.rest c.set_links.ensures.relinks c.set_links.ensures.spare)
    c.join_children.ensures.most
