-- The slot is the root, or it stands below the root.
use Rattle.std.proofs.Common.{sym, ap, subst, ◌∙◌, arith, length, ℕ, Option, Some}
use Rattle.pairing_heap.specs.Melding.{taken_out}
use Rattle.pairing_heap.specs.Heap.{Stands, Holds, TakesPair, tree_at, pairs_at}
use Rattle.pairing_heap.proofs.Removing.{some_held}
use Rattle.pairing_heap.proofs.meld.take_slot.Goals as goal

pub unwrap-root-requires : goal.unwrap-root-requires
unwrap-root-requires g c = some_held g.row.K g.V.Keyed.key_of g.V.Key.HeapKey.precedes c.args.arena.now c.args.heap c.args.slot c.requires.stands c.requires.held

pub take_root-requires : goal.take_root-requires
take_root-requires g c = subst (λ (h : Option ℕ). Stands g.row.K g.V.Keyed.key_of g.V.Key.HeapKey.precedes c.args.arena.now h) c.unwrap-root.ensures c.requires.stands

pub take_inner-requires-clause-stands : goal.take_inner-requires-clause-stands
take_inner-requires-clause-stands g c = subst (λ (h : Option ℕ). Stands g.row.K g.V.Keyed.key_of g.V.Key.HeapKey.precedes c.args.arena.now h) c.unwrap-root.ensures c.requires.stands

pub take_inner-requires-clause-held : goal.take_inner-requires-clause-held
take_inner-requires-clause-held g c = subst (λ (h : Option ℕ). Holds g.row.K g.V.Keyed.key_of c.args.arena.now h c.args.slot) c.unwrap-root.ensures c.requires.held

pub returns-then-root-slot-clause-takes : goal.returns-then-root-slot-clause-takes
returns-then-root-slot-clause-takes g c =
    let takes = subst (λ (s : ℕ). TakesPair g.row.K g.V.Keyed.key_of g.V.Key.HeapKey.precedes c.args.arena.now c.take_root.new.arena (Some c.unwrap-root.result) c.take_root.result s) c.if-root-slot.true c.take_root.ensures.takes in
    subst (λ (h : Option ℕ). TakesPair g.row.K g.V.Keyed.key_of g.V.Key.HeapKey.precedes c.args.arena.now c.take_root.new.arena h c.take_root.result c.args.slot) (sym c.unwrap-root.ensures) takes

pub returns-else-root-slot-clause-takes : goal.returns-else-root-slot-clause-takes
returns-else-root-slot-clause-takes g c =
    subst (λ (h : Option ℕ). TakesPair g.row.K g.V.Keyed.key_of g.V.Key.HeapKey.precedes c.args.arena.now c.take_inner.new.arena h (Some c.take_inner.result) c.args.slot) (sym c.unwrap-root.ensures) c.take_inner.ensures.takes

pub returns-then-root-slot-clause-pairs : goal.returns-then-root-slot-clause-pairs
returns-then-root-slot-clause-pairs g c =
    c.take_root.ensures.pairs
    ∙ ap (λ (s : ℕ). taken_out g.V.Key.HeapKey.precedes s (tree_at g.row.K g.V.Keyed.key_of c.args.arena.now (Some c.unwrap-root.result))) c.if-root-slot.true
    ∙ ap (λ (h : Option ℕ). taken_out g.V.Key.HeapKey.precedes c.args.slot (tree_at g.row.K g.V.Keyed.key_of c.args.arena.now h)) (sym c.unwrap-root.ensures)

pub returns-else-root-slot-clause-pairs : goal.returns-else-root-slot-clause-pairs
returns-else-root-slot-clause-pairs g c =
    c.take_inner.ensures.pairs
    ∙ ap (λ (h : Option ℕ). taken_out g.V.Key.HeapKey.precedes c.args.slot (tree_at g.row.K g.V.Keyed.key_of c.args.arena.now h)) (sym c.unwrap-root.ensures)

pub returns-then-root-slot-clause-most : goal.returns-then-root-slot-clause-most
returns-then-root-slot-clause-most g c =
    omega (arith, c.take_root.ensures.most, ap (λ (h : Option ℕ). length (pairs_at g.row.K g.V.Keyed.key_of c.args.arena.now h)) c.unwrap-root.ensures)

pub returns-else-root-slot-clause-most : goal.returns-else-root-slot-clause-most
returns-else-root-slot-clause-most g c =
    omega (arith, c.take_inner.ensures.most, ap (λ (h : Option ℕ). length (pairs_at g.row.K g.V.Keyed.key_of c.args.arena.now h)) c.unwrap-root.ensures)
