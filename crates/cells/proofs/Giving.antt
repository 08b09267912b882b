-- Held clusters that are the same but for a part of each.
use Rattle.std.proofs.Common.{◌≡◌, ℕ, zero, suc, Bool, if◌then◌else◌, nat_lt, List, [], ◌∷◌, map, is_some, Option, Some, None, refl, sym, ap, ◌∙◌, subst}
use Rattle.std.proofs.lemmas.Option.{none-some}
use Rattle.sched_base.specs.declared.Entry.{Entry}
use Rattle.sched_base.specs.declared.Facts.{Facts}
use Rattle.flat_policy.specs.Policy.Setup.{SetupParts}
use Rattle.flat_policy.specs.Runs.Worker.{Program}
use Rattle.cells.specs.Held.{HeldParts, unmarked}
use Rattle.cells.specs.Making.{AreBut, HasMinted, HasStock, IsBut, IsButFree, IsButSpare, Made, at_each, lines_in, lines_of, made_of, stock_after, stock_left, with_free, with_lines, with_slot, with_spare, yard_with_lines}
use Rattle.cells.specs.Packs.{Amounts}
use Rattle.cells.specs.Stills.{HoldBelow, StillParts, held_at}
use Rattle.cells.specs.Yards.{YardParts, enlisting, make_act, yard_entry, yard_moment, yard_stepped}
use Rattle.cells.proofs.Placing.{filled_is}

-- no places are the same
pub but_none : (change : ℕ → HeldParts → HeldParts) → AreBut change [] []
but_none change = record { each = λ c h at. absurd (none-some h at); none = λ c at. refl }

module _ (change : ℕ → HeldParts → HeldParts) (o n : Option HeldParts) (os ns : List (Option HeldParts)) (b : IsBut change o n) (bs : AreBut change os ns) where
  each_more : (c : ℕ) (h : HeldParts) → held_at (o ∷ os) c ≡ Some h → (k : ℕ) × (held_at (n ∷ ns) c ≡ Some (change k h))
  each_more zero h at = b.each h at
  each_more (suc c) h at = bs.each c h at

  none_more : (c : ℕ) → held_at (o ∷ os) c ≡ None → held_at (n ∷ ns) c ≡ None
  none_more zero at = b.none at
  none_more (suc c) at = bs.none c at

  -- a place more
  pub but_more : AreBut change (o ∷ os) (n ∷ ns)
  but_more = record { each = each_more; none = none_more }

-- places one after another
pub eight_but : (change : ℕ → HeldParts → HeldParts) (o0 o1 o2 o3 o4 o5 o6 o7 n0 n1 n2 n3 n4 n5 n6 n7 : Option HeldParts)
    → IsBut change o0 n0 → IsBut change o1 n1 → IsBut change o2 n2 → IsBut change o3 n3 → IsBut change o4 n4 → IsBut change o5 n5 → IsBut change o6 n6 → IsBut change o7 n7
    → AreBut change (o0 ∷ o1 ∷ o2 ∷ o3 ∷ o4 ∷ o5 ∷ o6 ∷ o7 ∷ []) (n0 ∷ n1 ∷ n2 ∷ n3 ∷ n4 ∷ n5 ∷ n6 ∷ n7 ∷ [])
eight_but change o0 o1 o2 o3 o4 o5 o6 o7 n0 n1 n2 n3 n4 n5 n6 n7 b0 b1 b2 b3 b4 b5 b6 b7 =
    but_more change o0 n0 _ _ b0 (but_more change o1 n1 _ _ b1 (but_more change o2 n2 _ _ b2 (but_more change o3 n3 _ _ b3
    (but_more change o4 n4 _ _ b4 (but_more change o5 n5 _ _ b5 (but_more change o6 n6 _ _ b6 (but_more change o7 n7 _ _ b7 (but_none change))))))))

-- a place that is the same but for a part is filled as before
pub but_filled : (change : ℕ → HeldParts → HeldParts) (o n : Option HeldParts) → IsBut change o n → is_some n ≡ is_some o
but_filled change None n b = ap is_some (b.none refl)
but_filled change (Some h) n b = ap is_some (b.each h refl).1

pub eight_filled : (o0 o1 o2 o3 o4 o5 o6 o7 n0 n1 n2 n3 n4 n5 n6 n7 : Option HeldParts)
    → is_some n0 ≡ is_some o0 → is_some n1 ≡ is_some o1 → is_some n2 ≡ is_some o2 → is_some n3 ≡ is_some o3 → is_some n4 ≡ is_some o4 → is_some n5 ≡ is_some o5 → is_some n6 ≡ is_some o6 → is_some n7 ≡ is_some o7
    → map is_some (n0 ∷ n1 ∷ n2 ∷ n3 ∷ n4 ∷ n5 ∷ n6 ∷ n7 ∷ []) ≡ map is_some (o0 ∷ o1 ∷ o2 ∷ o3 ∷ o4 ∷ o5 ∷ o6 ∷ o7 ∷ [])
eight_filled o0 o1 o2 o3 o4 o5 o6 o7 n0 n1 n2 n3 n4 n5 n6 n7 b0 b1 b2 b3 b4 b5 b6 b7 = λ i. b0 i ∷ b1 i ∷ b2 i ∷ b3 i ∷ b4 i ∷ b5 i ∷ b6 i ∷ b7 i ∷ []

-- one change after another
module _ (one : ℕ → HeldParts → HeldParts) (two : HeldParts → HeldParts) (old mid new : List (Option HeldParts)) (first : AreBut one old mid) (second : AreBut (λ _. two) mid new) where
  each_then : (c : ℕ) (h : HeldParts) → held_at old c ≡ Some h → (k : ℕ) × (held_at new c ≡ Some (two (one k h)))
  each_then c h at =
      let here = first.each c h at in
      (here.0, (second.each c (one here.0 h) here.1).1)

  pub but_then : AreBut (λ k h. two (one k h)) old new
  but_then = record { each = each_then; none = λ c at. second.none c (first.none c at) }

-- a place that is the same
pub but_same : (change : ℕ → HeldParts → HeldParts) (own : HeldParts → ℕ) → ((h : HeldParts) → change (own h) h ≡ h) → (o n : Option HeldParts) → n ≡ o → IsBut change o n
but_same change own same o n is = record {
  each = λ h at. (own h, is ∙ at ∙ ap Some (sym (same h)));
  none = λ at. is ∙ at;
}

-- the same of the held values before, where they are known by another name
pub still_but_free : (s old new : StillParts) → s ≡ old → IsButFree s new → IsButFree old new
still_but_free s old new is but = subst (λ (t : StillParts). IsButFree t new) is but

pub still_but_spare : (s old new : StillParts) → s ≡ old → IsButSpare s new → IsButSpare old new
still_but_spare s old new is but = subst (λ (t : StillParts). IsButSpare t new) is but

-- line rights that are minted after room was made
pub has_minted : (n k : ℕ) (old mid new : StillParts) → n ≡ k → IsButFree old mid → AreBut (λ _. with_lines n) mid.clusters new.clusters
    → new.yard ≡ yard_with_lines n mid.yard → new.stock ≡ mid.stock → new.turns ≡ mid.turns → HasMinted k old new
has_minted n k old mid new is free minted yard stock turns = subst (λ (m : ℕ). HasMinted m old new) is (record {
  clusters = but_then with_free (with_lines n) old.clusters mid.clusters new.clusters free.clusters minted;
  free = free.free;
  yard = yard ∙ ap (λ (y : YardParts). yard_with_lines n y) free.yard;
  stock = stock ∙ free.stock;
  turns_are = turns ∙ free.turns_are;
})

-- how many line rights are minted at a place, by whether it is filled
lines_where : (n : ℕ) (o : Option HeldParts) → lines_in n o ≡ (if is_some o then n else 0)
lines_where n None = refl
lines_where n (Some h) = refl

module _ (k n : ℕ) (hs : List (Option HeldParts)) (filled : HoldBelow k hs) where
  lines_at : (c : ℕ) → lines_in n (held_at hs c) ≡ (if nat_lt c k then n else 0)
  lines_at c = lines_where n (held_at hs c) ∙ ap (λ (b : Bool). if b then n else 0) (sym (filled_is hs c) ∙ filled.below c)

  -- the line rights that are minted are those of the places below the number of clusters
  pub lines_below : lines_of n hs ≡ at_each k n
  lines_below = λ i. record {
    at0 = lines_at 0 i;
    at1 = lines_at 1 i;
    at2 = lines_at 2 i;
    at3 = lines_at 3 i;
    at4 = lines_at 4 i;
    at5 = lines_at 5 i;
    at6 = lines_at 6 i;
    at7 = lines_at 7 i;
    yard = n;
  }

-- what lies ready, where the places and the amounts are known by other names
pub has_stock_of : (hs ks : List (Option HeldParts)) (a b : Amounts) → hs ≡ ks → a ≡ b → HasStock ks b → HasStock hs a
has_stock_of hs ks a b same alike have =
    subst (λ (x : Amounts). HasStock hs x) (sym alike) (subst (λ (js : List (Option HeldParts)). HasStock js b) (sym same) have)

-- what is left ready for a place goes by whether it is filled
module _ (change : ℕ → HeldParts → HeldParts) (os ns : List (Option HeldParts)) (but : AreBut change os ns) where
  stock_by : (c a : ℕ) (o : Option HeldParts) → held_at os c ≡ o → stock_left (held_at ns c) a ≡ stock_left o a
  stock_by c a None at = ap (λ (q : Option HeldParts). stock_left q a) (but.none c at)
  stock_by c a (Some h) at = ap (λ (q : Option HeldParts). stock_left q a) (but.each c h at).1

  stock_at : (c a : ℕ) → stock_left (held_at ns c) a ≡ stock_left (held_at os c) a
  stock_at c a = stock_by c a (held_at os c) refl

  pub stock_same : (a : Amounts) → stock_after ns a ≡ stock_after os a
  stock_same a = λ i. record {
    at0 = stock_at 0 a.at0 i;
    at1 = stock_at 1 a.at1 i;
    at2 = stock_at 2 a.at2 i;
    at3 = stock_at 3 a.at3 i;
    at4 = stock_at 4 a.at4 i;
    at5 = stock_at 5 a.at5 i;
    at6 = stock_at 6 a.at6 i;
    at7 = stock_at 7 a.at7 i;
    yard = a.yard;
  }

-- a thread that is made after room was made
pub made_from : (setup : SetupParts) (actor : ℕ) (p : Program) (now moment : ℕ) (old mid new : StillParts) (e : Entry) (t v : Facts)
    → IsButSpare old mid → t ≡ made_of setup p moment → moment ≡ yard_moment mid.yard.yard now → v ≡ t
    → e ≡ yard_entry (yard_moment mid.yard.yard now) actor (make_act t) (enlisting mid.yard.yard (yard_moment mid.yard.yard now) t)
    → new.yard ≡ yard_stepped (unmarked e) (enlisting mid.yard.yard (yard_moment mid.yard.yard now) t).yard mid.yard
    → AreBut (λ _. with_slot) mid.clusters new.clusters → new.stock ≡ stock_after mid.clusters mid.stock → new.turns ≡ mid.turns
    → Made setup actor p now old new e v
made_from setup actor p now moment old mid new e t v but thread at same entry yard slots stock turns =
    let facts =
    subst (λ (y : YardParts). (moment ≡ yard_moment y.yard now)
    × (e ≡ yard_entry (yard_moment y.yard now) actor (make_act t) (enlisting y.yard (yard_moment y.yard now) t))
    × (new.yard ≡ yard_stepped (unmarked e) (enlisting y.yard (yard_moment y.yard now) t).yard y)) but.yard (at, entry, yard) in
    subst (λ (f : Facts). Made setup actor p now old new e f) (sym same)
    (record {
      thread = thread ∙ ap (made_of setup p) facts.0;
      entry = facts.1;
      clusters = but_then with_spare with_slot old.clusters mid.clusters new.clusters but.clusters slots;
      room = but.room;
      yard = facts.2;
      stock = stock ∙ stock_same with_spare old.clusters mid.clusters but.clusters mid.stock ∙ ap (stock_after old.clusters) but.stock;
      turns_are = turns ∙ but.turns_are;
    })
