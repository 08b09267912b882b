use Rattle.std.proofs.Common.{◌≡◌, ◌≤◌, List, [], ◌∷◌, Option, None, Some, map, is_some, sym, subst, ap, ◌∙◌, arith}
use Rattle.cells.specs.Held.{HeldParts}
use Rattle.cells.specs.Making.{AreBut, AreIn, HasFewer, HasSpare, with_slot}
use Rattle.cells.proofs.Giving.{but_filled, eight_but, eight_filled, has_stock_of}
use Rattle.cells.proofs.clusters.Clusters.mint_slots.Goals as goal

pub mint_slot_in-at0-requires : goal.mint_slot_in-at0-requires
mint_slot_in-at0-requires g c =
    let room : (h : HeldParts) → c.self.inside.at0 ≡ Some h → HasSpare h = subst (AreIn HasSpare) (sym c.self.view_is) c.requires.room 0 in
    let few : (h : HeldParts) → c.self.inside.at0 ≡ Some h → HasFewer h = subst (AreIn HasFewer) (sym c.self.view_is) c.requires.few 0 in
    let some : c.self.inside.at0 ≡ None → 1 ≤ c.stock.inside.at0.amount = has_stock_of _ _ _ _ c.self.view_is c.stock.view_is c.requires.stock 0 (omega arith) in
    (omega arith, (c.requires.desks, (omega arith, (room, (few, (c.stock.invariant.at0, some))))))

pub mint_slot_in-at1-requires : goal.mint_slot_in-at1-requires
mint_slot_in-at1-requires g c =
    let room : (h : HeldParts) → c.self.inside.at1 ≡ Some h → HasSpare h = subst (AreIn HasSpare) (sym c.self.view_is) c.requires.room 1 in
    let few : (h : HeldParts) → c.self.inside.at1 ≡ Some h → HasFewer h = subst (AreIn HasFewer) (sym c.self.view_is) c.requires.few 1 in
    let some : c.self.inside.at1 ≡ None → 1 ≤ c.stock.inside.at1.amount = has_stock_of _ _ _ _ c.self.view_is c.stock.view_is c.requires.stock 1 (omega arith) in
    (omega arith, (c.requires.desks, (omega arith, (room, (few, (c.stock.invariant.at1, some))))))

pub mint_slot_in-at2-requires : goal.mint_slot_in-at2-requires
mint_slot_in-at2-requires g c =
    let room : (h : HeldParts) → c.self.inside.at2 ≡ Some h → HasSpare h = subst (AreIn HasSpare) (sym c.self.view_is) c.requires.room 2 in
    let few : (h : HeldParts) → c.self.inside.at2 ≡ Some h → HasFewer h = subst (AreIn HasFewer) (sym c.self.view_is) c.requires.few 2 in
    let some : c.self.inside.at2 ≡ None → 1 ≤ c.stock.inside.at2.amount = has_stock_of _ _ _ _ c.self.view_is c.stock.view_is c.requires.stock 2 (omega arith) in
    (omega arith, (c.requires.desks, (omega arith, (room, (few, (c.stock.invariant.at2, some))))))

pub mint_slot_in-at3-requires : goal.mint_slot_in-at3-requires
mint_slot_in-at3-requires g c =
    let room : (h : HeldParts) → c.self.inside.at3 ≡ Some h → HasSpare h = subst (AreIn HasSpare) (sym c.self.view_is) c.requires.room 3 in
    let few : (h : HeldParts) → c.self.inside.at3 ≡ Some h → HasFewer h = subst (AreIn HasFewer) (sym c.self.view_is) c.requires.few 3 in
    let some : c.self.inside.at3 ≡ None → 1 ≤ c.stock.inside.at3.amount = has_stock_of _ _ _ _ c.self.view_is c.stock.view_is c.requires.stock 3 (omega arith) in
    (omega arith, (c.requires.desks, (omega arith, (room, (few, (c.stock.invariant.at3, some))))))

pub mint_slot_in-at4-requires : goal.mint_slot_in-at4-requires
mint_slot_in-at4-requires g c =
    let room : (h : HeldParts) → c.self.inside.at4 ≡ Some h → HasSpare h = subst (AreIn HasSpare) (sym c.self.view_is) c.requires.room 4 in
    let few : (h : HeldParts) → c.self.inside.at4 ≡ Some h → HasFewer h = subst (AreIn HasFewer) (sym c.self.view_is) c.requires.few 4 in
    let some : c.self.inside.at4 ≡ None → 1 ≤ c.stock.inside.at4.amount = has_stock_of _ _ _ _ c.self.view_is c.stock.view_is c.requires.stock 4 (omega arith) in
    (omega arith, (c.requires.desks, (omega arith, (room, (few, (c.stock.invariant.at4, some))))))

pub mint_slot_in-at5-requires : goal.mint_slot_in-at5-requires
mint_slot_in-at5-requires g c =
    let room : (h : HeldParts) → c.self.inside.at5 ≡ Some h → HasSpare h = subst (AreIn HasSpare) (sym c.self.view_is) c.requires.room 5 in
    let few : (h : HeldParts) → c.self.inside.at5 ≡ Some h → HasFewer h = subst (AreIn HasFewer) (sym c.self.view_is) c.requires.few 5 in
    let some : c.self.inside.at5 ≡ None → 1 ≤ c.stock.inside.at5.amount = has_stock_of _ _ _ _ c.self.view_is c.stock.view_is c.requires.stock 5 (omega arith) in
    (omega arith, (c.requires.desks, (omega arith, (room, (few, (c.stock.invariant.at5, some))))))

pub mint_slot_in-at6-requires : goal.mint_slot_in-at6-requires
mint_slot_in-at6-requires g c =
    let room : (h : HeldParts) → c.self.inside.at6 ≡ Some h → HasSpare h = subst (AreIn HasSpare) (sym c.self.view_is) c.requires.room 6 in
    let few : (h : HeldParts) → c.self.inside.at6 ≡ Some h → HasFewer h = subst (AreIn HasFewer) (sym c.self.view_is) c.requires.few 6 in
    let some : c.self.inside.at6 ≡ None → 1 ≤ c.stock.inside.at6.amount = has_stock_of _ _ _ _ c.self.view_is c.stock.view_is c.requires.stock 6 (omega arith) in
    (omega arith, (c.requires.desks, (omega arith, (room, (few, (c.stock.invariant.at6, some))))))

pub mint_slot_in-at7-requires : goal.mint_slot_in-at7-requires
mint_slot_in-at7-requires g c =
    let room : (h : HeldParts) → c.self.inside.at7 ≡ Some h → HasSpare h = subst (AreIn HasSpare) (sym c.self.view_is) c.requires.room 7 in
    let few : (h : HeldParts) → c.self.inside.at7 ≡ Some h → HasFewer h = subst (AreIn HasFewer) (sym c.self.view_is) c.requires.few 7 in
    let some : c.self.inside.at7 ≡ None → 1 ≤ c.stock.inside.at7.amount = has_stock_of _ _ _ _ c.self.view_is c.stock.view_is c.requires.stock 7 (omega arith) in
    (omega arith, (c.requires.desks, (omega arith, (room, (few, (c.stock.invariant.at7, some))))))

pub returns-clause-but : goal.returns-clause-but
returns-clause-but g c =
    subst (λ (hs : List (Option HeldParts)). AreBut (λ _. with_slot) hs (c.mint_slot_in-at0.new.place ∷ c.mint_slot_in-at1.new.place ∷ c.mint_slot_in-at2.new.place ∷ c.mint_slot_in-at3.new.place ∷ c.mint_slot_in-at4.new.place ∷ c.mint_slot_in-at5.new.place ∷ c.mint_slot_in-at6.new.place ∷ c.mint_slot_in-at7.new.place ∷ [])) c.self.view_is
    (eight_but (λ _. with_slot) _ _ _ _ _ _ _ _ _ _ _ _ _ _ _ _ c.mint_slot_in-at0.ensures.but c.mint_slot_in-at1.ensures.but c.mint_slot_in-at2.ensures.but c.mint_slot_in-at3.ensures.but c.mint_slot_in-at4.ensures.but c.mint_slot_in-at5.ensures.but c.mint_slot_in-at6.ensures.but c.mint_slot_in-at7.ensures.but)

pub returns-clause-filled : goal.returns-clause-filled
returns-clause-filled g c =
    eight_filled _ _ _ _ _ _ _ _ _ _ _ _ _ _ _ _
    (but_filled (λ _. with_slot) _ _ c.mint_slot_in-at0.ensures.but)
    (but_filled (λ _. with_slot) _ _ c.mint_slot_in-at1.ensures.but)
    (but_filled (λ _. with_slot) _ _ c.mint_slot_in-at2.ensures.but)
    (but_filled (λ _. with_slot) _ _ c.mint_slot_in-at3.ensures.but)
    (but_filled (λ _. with_slot) _ _ c.mint_slot_in-at4.ensures.but)
    (but_filled (λ _. with_slot) _ _ c.mint_slot_in-at5.ensures.but)
    (but_filled (λ _. with_slot) _ _ c.mint_slot_in-at6.ensures.but)
    (but_filled (λ _. with_slot) _ _ c.mint_slot_in-at7.ensures.but)
    ∙ ap (map is_some) c.self.view_is
