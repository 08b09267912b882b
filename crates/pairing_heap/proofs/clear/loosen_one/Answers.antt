-- The root goes out, or its first child becomes a root.
use Rattle.std.proofs.Common.{ap, is_some, refl, sym, ◌∙◌}
use Rattle.pairing_heap.proofs.Clearing.{Loosens-child, Loosens-root, live_child, live_root}
use Rattle.pairing_heap.proofs.clear.loosen_one.Goals as goal

pub links-links-requires : goal.links-links-requires
links-links-requires g c = record { live = live_root g.row.K g.V.Keyed.key_of c.args.arena.now c.args.slot c.requires; set = c.requires.set }

pub set_links-requires-clause-live : goal.set_links-requires-clause-live
set_links-requires-clause-live g c = live_root g.row.K g.V.Keyed.key_of c.args.arena.now c.args.slot c.requires

pub links-below-requires-clause-live : goal.links-below-requires-clause-live
links-below-requires-clause-live g c = live_child g.row.K g.V.Keyed.key_of c.args.arena.now c.args.slot c.in-Some.child c.requires (sym (ap (λ l. l.child) c.links-links.ensures) ∙ c.in-Some.is)

pub set_links-requires-in-Some-clause-live : goal.set_links-requires-in-Some-clause-live
set_links-requires-in-Some-clause-live g c = live_root g.row.K g.V.Keyed.key_of c.args.arena.now c.args.slot c.requires

pub set_links-requires-in-Some-2-clause-live : goal.set_links-requires-in-Some-2-clause-live
set_links-requires-in-Some-2-clause-live g c =
    ap is_some (c.set_links-in-Some.ensures.relinks.values c.in-Some.child)
    ∙ live_child g.row.K g.V.Keyed.key_of c.args.arena.now c.args.slot c.in-Some.child c.requires (sym (ap (λ l. l.child) c.links-links.ensures) ∙ c.in-Some.is)

pub returns-in-None : goal.returns-in-None
returns-in-None g c was =
    Loosens-root g.row.K g.V.Keyed.key_of c.args.arena.now c.set_links.new.self c.args.slot c.links-links.result.next was
    (sym (ap (λ l. l.child) c.links-links.ensures) ∙ c.in-None.is) (ap (λ l. l.next) c.links-links.ensures) c.set_links.ensures.relinks c.set_links.ensures.spare

pub returns-in-Some : goal.returns-in-Some
returns-in-Some g c was =
    Loosens-child g.row.K g.V.Keyed.key_of c.args.arena.now c.set_links-in-Some.new.self c.set_links-in-Some-2.new.self c.args.slot c.in-Some.child was
    (sym (ap (λ l. l.child) c.links-links.ensures) ∙ c.in-Some.is) _ _
    (ap (λ l. l.next) c.links-below.ensures) (ap (λ l. l.next) c.links-links.ensures) (ap (λ l. l.child) c.links-below.ensures) refl
    c.set_links-in-Some.ensures.relinks c.set_links-in-Some.ensures.spare c.set_links-in-Some-2.ensures.relinks c.set_links-in-Some-2.ensures.spare
