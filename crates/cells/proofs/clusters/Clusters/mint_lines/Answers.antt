use Rattle.std.proofs.Common.{◌≡◌, List, [], ◌∷◌, Option, Some, map, is_some, sym, subst, ap, ◌∙◌, arith}
use Rattle.cells.specs.Held.{HeldParts}
use Rattle.cells.specs.Making.{AreBut, AreIn, HasFree, with_lines}
use Rattle.cells.proofs.Giving.{but_filled, eight_but, eight_filled}
use Rattle.cells.proofs.clusters.Clusters.mint_lines.Goals as goal

pub mint_lines_in-line0-requires : goal.mint_lines_in-line0-requires
mint_lines_in-line0-requires g c =
    let room : (h : HeldParts) → c.self.inside.at0 ≡ Some h → HasFree c.args.n h = subst (AreIn (HasFree c.args.n)) (sym c.self.view_is) c.requires.room 0 in
    (omega arith, (c.requires.desks, (omega arith, (room, c.none.invariant.at0))))

pub mint_lines_in-line1-requires : goal.mint_lines_in-line1-requires
mint_lines_in-line1-requires g c =
    let room : (h : HeldParts) → c.self.inside.at1 ≡ Some h → HasFree c.args.n h = subst (AreIn (HasFree c.args.n)) (sym c.self.view_is) c.requires.room 1 in
    (omega arith, (c.requires.desks, (omega arith, (room, c.none.invariant.at1))))

pub mint_lines_in-line2-requires : goal.mint_lines_in-line2-requires
mint_lines_in-line2-requires g c =
    let room : (h : HeldParts) → c.self.inside.at2 ≡ Some h → HasFree c.args.n h = subst (AreIn (HasFree c.args.n)) (sym c.self.view_is) c.requires.room 2 in
    (omega arith, (c.requires.desks, (omega arith, (room, c.none.invariant.at2))))

pub mint_lines_in-line3-requires : goal.mint_lines_in-line3-requires
mint_lines_in-line3-requires g c =
    let room : (h : HeldParts) → c.self.inside.at3 ≡ Some h → HasFree c.args.n h = subst (AreIn (HasFree c.args.n)) (sym c.self.view_is) c.requires.room 3 in
    (omega arith, (c.requires.desks, (omega arith, (room, c.none.invariant.at3))))

pub mint_lines_in-line4-requires : goal.mint_lines_in-line4-requires
mint_lines_in-line4-requires g c =
    let room : (h : HeldParts) → c.self.inside.at4 ≡ Some h → HasFree c.args.n h = subst (AreIn (HasFree c.args.n)) (sym c.self.view_is) c.requires.room 4 in
    (omega arith, (c.requires.desks, (omega arith, (room, c.none.invariant.at4))))

pub mint_lines_in-line5-requires : goal.mint_lines_in-line5-requires
mint_lines_in-line5-requires g c =
    let room : (h : HeldParts) → c.self.inside.at5 ≡ Some h → HasFree c.args.n h = subst (AreIn (HasFree c.args.n)) (sym c.self.view_is) c.requires.room 5 in
    (omega arith, (c.requires.desks, (omega arith, (room, c.none.invariant.at5))))

pub mint_lines_in-line6-requires : goal.mint_lines_in-line6-requires
mint_lines_in-line6-requires g c =
    let room : (h : HeldParts) → c.self.inside.at6 ≡ Some h → HasFree c.args.n h = subst (AreIn (HasFree c.args.n)) (sym c.self.view_is) c.requires.room 6 in
    (omega arith, (c.requires.desks, (omega arith, (room, c.none.invariant.at6))))

pub mint_lines_in-line7-requires : goal.mint_lines_in-line7-requires
mint_lines_in-line7-requires g c =
    let room : (h : HeldParts) → c.self.inside.at7 ≡ Some h → HasFree c.args.n h = subst (AreIn (HasFree c.args.n)) (sym c.self.view_is) c.requires.room 7 in
    (omega arith, (c.requires.desks, (omega arith, (room, c.none.invariant.at7))))

pub returns-clause-but : goal.returns-clause-but
returns-clause-but g c =
    subst (λ (hs : List (Option HeldParts)). AreBut (λ _. with_lines c.args.n) hs (c.mint_lines_in-line0.new.place ∷ c.mint_lines_in-line1.new.place ∷ c.mint_lines_in-line2.new.place ∷ c.mint_lines_in-line3.new.place ∷ c.mint_lines_in-line4.new.place ∷ c.mint_lines_in-line5.new.place ∷ c.mint_lines_in-line6.new.place ∷ c.mint_lines_in-line7.new.place ∷ [])) c.self.view_is
    (eight_but (λ _. with_lines c.args.n) _ _ _ _ _ _ _ _ _ _ _ _ _ _ _ _ c.mint_lines_in-line0.ensures.but c.mint_lines_in-line1.ensures.but c.mint_lines_in-line2.ensures.but c.mint_lines_in-line3.ensures.but c.mint_lines_in-line4.ensures.but c.mint_lines_in-line5.ensures.but c.mint_lines_in-line6.ensures.but c.mint_lines_in-line7.ensures.but)

pub returns-clause-filled : goal.returns-clause-filled
returns-clause-filled g c =
    eight_filled _ _ _ _ _ _ _ _ _ _ _ _ _ _ _ _
    (but_filled (λ _. with_lines c.args.n) _ _ c.mint_lines_in-line0.ensures.but)
    (but_filled (λ _. with_lines c.args.n) _ _ c.mint_lines_in-line1.ensures.but)
    (but_filled (λ _. with_lines c.args.n) _ _ c.mint_lines_in-line2.ensures.but)
    (but_filled (λ _. with_lines c.args.n) _ _ c.mint_lines_in-line3.ensures.but)
    (but_filled (λ _. with_lines c.args.n) _ _ c.mint_lines_in-line4.ensures.but)
    (but_filled (λ _. with_lines c.args.n) _ _ c.mint_lines_in-line5.ensures.but)
    (but_filled (λ _. with_lines c.args.n) _ _ c.mint_lines_in-line6.ensures.but)
    (but_filled (λ _. with_lines c.args.n) _ _ c.mint_lines_in-line7.ensures.but)
    ∙ ap (map is_some) c.self.view_is
