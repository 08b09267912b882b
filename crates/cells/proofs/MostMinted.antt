-- At most how many slot rights are minted after a thread was made, and after line rights were.
use Rattle.std.proofs.Common.{◌≡◌, ℕ, zero, suc, ◌+◌, ◌-◌, ◌<◌, ◌≤◌, Bool, false, is_some, if◌then◌else◌, nat_lt, List, length, Option, Some, None, unwrap_or, refl, sym, ap, ◌∙◌, arith}
use Rattle.std.proofs.lemmas.List.{length_push}
use Rattle.std.proofs.lemmas.Option.{none-some}
use Rattle.sched_base.specs.Limits.{most_threads}
use Rattle.flat_policy.specs.declared.journal.Line.{Line}
use Rattle.sched_base.specs.declared.Entry.{Entry}
use Rattle.sched_base.specs.declared.Facts.{Facts}
use Rattle.flat_policy.specs.Policy.Setup.{SetupParts, cluster_count}
use Rattle.flat_policy.specs.Runs.Worker.{Program}
use Rattle.cells.specs.Held.{HeldParts}
use Rattle.cells.specs.Lines.{left_in}
use Rattle.cells.specs.Making.{AreBut, AtMost, HasMinted, IsButSpare, IsNew, Made, past, stock_after, stock_left, with_free, with_lines, with_slot, with_spare}
use Rattle.cells.specs.Packs.{Amounts}
use Rattle.cells.specs.Stills.{HoldBelow, StillParts, held_at}
use Rattle.cells.specs.Yards.{YardParts, enlisting, yard_stepped}
use Rattle.cells.proofs.Placing.{filled_is}

-- each held cluster comes from one that was there, with so many more slot rights minted
module _ (change : ℕ → HeldParts → HeldParts) (more : ℕ) (rises : (n : ℕ) (h : HeldParts) → (change n h).slots.minted ≡ h.slots.minted + more) (os ns : List (Option HeldParts)) (but : AreBut change os ns) where
  came_from : (k c : ℕ) (h : HeldParts) (o : Option HeldParts) → ((g : HeldParts) → held_at os c ≡ Some g → g.slots.minted ≤ k) → held_at os c ≡ o → held_at ns c ≡ Some h → h.slots.minted ≤ k + more
  came_from k c h None few was is = absurd (none-some h (sym (but.none c was) ∙ is))
  came_from k c h (Some g) few was is =
      let there = but.each c g was in
      let same : h ≡ change there.0 g = ap (λ (o : Option HeldParts). unwrap_or o h) (sym is ∙ there.1) in
      omega (arith, ap (λ (x : HeldParts). x.slots.minted) same, rises there.0 g, few g was)

  most_then : (k : ℕ) → ((c : ℕ) (h : HeldParts) → held_at os c ≡ Some h → h.slots.minted ≤ k) → (c : ℕ) (h : HeldParts) → held_at ns c ≡ Some h → h.slots.minted ≤ k + more
  most_then k few c h is = came_from k c h (held_at os c) (few c) refl is

  -- a place that is not filled was not
  was_none : (c : ℕ) (o : Option HeldParts) → held_at os c ≡ o → held_at ns c ≡ None → held_at os c ≡ None
  was_none c None was is = was
  was_none c (Some g) was is = absurd (none-some _ (sym is ∙ (but.each c g was).1))

-- what is left ready for a place
left_then : (hs : List (Option HeldParts)) (a : Amounts) (c : ℕ) → c < 8 → left_in c (stock_after hs a) ≡ stock_left (held_at hs c) (left_in c a)
left_then hs a zero there = refl
left_then hs a (suc zero) there = refl
left_then hs a (suc (suc zero)) there = refl
left_then hs a (suc (suc (suc zero))) there = refl
left_then hs a (suc (suc (suc (suc zero)))) there = refl
left_then hs a (suc (suc (suc (suc (suc zero))))) there = refl
left_then hs a (suc (suc (suc (suc (suc (suc zero)))))) there = refl
left_then hs a (suc (suc (suc (suc (suc (suc (suc zero))))))) there = refl
left_then hs a (suc (suc (suc (suc (suc (suc (suc (suc c)))))))) there = absurd (omega (arith, there))

-- a thread that is made mints one of the yard's
pub more_minted : (old mid : StillParts) (new : YardParts) (l : Line) (moment : ℕ) (t : Facts) → IsButSpare old mid → mid.yard.slots.minted ≡ length mid.yard.yard.made
    → new ≡ yard_stepped l (enlisting mid.yard.yard moment t).yard mid.yard → new.slots.minted ≡ old.yard.slots.minted + 1
more_minted old mid new l moment t but minted stepped =
    omega (arith, ap (λ (y : YardParts). y.slots.minted) stepped, length_push mid.yard.yard.made t.name, minted, ap (λ (y : YardParts). y.slots.minted) but.yard)

module _ (setup : SetupParts) (actor : ℕ) (p : Program) (now : ℕ) (old new : StillParts) (e : Entry) (t : Facts) (made : Made setup actor p now old new e t) (minted : new.yard.slots.minted ≡ old.yard.slots.minted + 1) where
  -- one more after a thread was made
  pub most_made : (k : ℕ) → AtMost k old → AtMost (k + 1) new
  most_made k few = record {
    clusters = most_then (λ n h. with_slot (with_spare n h)) 1 (λ n h. refl) old.clusters new.clusters made.clusters k few.clusters;
    yard = omega (arith, minted, few.yard);
    stock = λ c there is.
        let was : held_at old.clusters c ≡ None = was_none (λ n h. with_slot (with_spare n h)) 1 (λ n h. refl) old.clusters new.clusters made.clusters c (held_at old.clusters c) refl is in
        let left : left_in c new.stock ≡ left_in c old.stock - 1 = ap (left_in c) made.stock ∙ left_then old.clusters old.stock c there ∙ ap (λ (o : Option HeldParts). stock_left o (left_in c old.stock)) was in
        omega (arith, left, few.stock c there was);
  }

-- as many after a change of another part
most_same : (change : ℕ → HeldParts → HeldParts) → ((n : ℕ) (h : HeldParts) → (change n h).slots.minted ≡ h.slots.minted + 0) → (old new : StillParts)
    → AreBut change old.clusters new.clusters → new.yard.slots.minted ≡ old.yard.slots.minted → new.stock ≡ old.stock → (k : ℕ) → AtMost k old → AtMost k new
most_same change rises old new but yard stock k few = record {
  clusters = λ c h is. omega (arith, most_then change 0 rises old.clusters new.clusters but k few.clusters c h is);
  yard = omega (arith, yard, few.yard);
  stock = λ c there is. omega (arith, ap (left_in c) stock, few.stock c there (was_none change 0 rises old.clusters new.clusters but c (held_at old.clusters c) refl is));
}

pub most_minted : (n : ℕ) (old new : StillParts) → HasMinted n old new → (k : ℕ) → AtMost k old → AtMost k new
most_minted n old new but = most_same (λ f h. with_lines n (with_free f h)) (λ f h. omega arith) old new but.clusters (ap (λ (y : YardParts). y.slots.minted) but.yard) but.stock

-- what is left ready for a place where nothing was given out
left_past : (n m c : ℕ) → c < 8 → left_in c (past n m) ≡ (if nat_lt c n then 0 else m)
left_past n m zero there = refl
left_past n m (suc zero) there = refl
left_past n m (suc (suc zero)) there = refl
left_past n m (suc (suc (suc zero))) there = refl
left_past n m (suc (suc (suc (suc zero)))) there = refl
left_past n m (suc (suc (suc (suc (suc zero))))) there = refl
left_past n m (suc (suc (suc (suc (suc (suc zero)))))) there = refl
left_past n m (suc (suc (suc (suc (suc (suc (suc zero))))))) there = refl
left_past n m (suc (suc (suc (suc (suc (suc (suc (suc c)))))))) there = absurd (omega (arith, there))

-- none is minted where all is new
pub most_new : (setup : SetupParts) (turns : ℕ) (s : StillParts) → HoldBelow (cluster_count setup) s.clusters → IsNew setup turns s → AtMost 0 s
most_new setup turns s filled new = record {
  clusters = λ c h at. omega (arith, ap (λ (x : HeldParts). x.slots.minted) (new.clusters c h at));
  yard = omega (arith, ap (λ (y : YardParts). y.slots.minted) new.yard);
  stock = λ c there none.
      let n : ℕ = cluster_count setup in
      let past_it : nat_lt c n ≡ false = sym (filled.below c) ∙ filled_is s.clusters c ∙ ap is_some none in
      let left : left_in c s.stock ≡ most_threads = ap (left_in c) new.stock ∙ left_past n most_threads c there ∙ ap (λ (b : Bool). if b then 0 else most_threads) past_it in
      omega (arith, left);
}
