-- The heaps stand for one entry less.
use Rattle.std.proofs.Common.{◌≡◌, ◌≢◌, ℕ, ◌==◌, true, not, Some, List, sym, ap, ◌∙◌, subst, inl, inr, arith, eqb-true, eq-eqb}
use Rattle.std.proofs.lemmas.Bool.{cases_Bool, false≢true}
use Rattle.flat_policy.specs.Policy.Moves.{without}
use Rattle.flat_policy.specs.Policy.Offer.{prefers}
use Rattle.flat_policy.specs.Policy.Queue.{Queued}
use Rattle.flat_policy.proofs.Members.{filter_has, member_of_filter}
use Rattle.link_arena.specs.Arena.{Arena, value_at}
use Rattle.thread_queue.specs.Item.{entry_of}
use Rattle.thread_queue.specs.declared.item.Item.{Item}
use Rattle.stealing.specs.Foreign.{HasSlot, OffersEntries, Roots}
use Rattle.stealing.proofs.Pushed.{some_is}
use Rattle.stealing.proofs.Removed.{Goes, held_on, held_still}

unlike_test : (a b : ℕ) → a ≢ b → not (a == b) ≡ true
unlike_test a b unlike = elim (cases_Bool (a == b)) [
  | inl same ↦ absurd (unlike (eqb-true a b same))
  | inr apart ↦ ap not apart
]

test_unlike : (a b : ℕ) → not (a == b) ≡ true → a ≢ b
test_unlike a b h = λ same. false≢true (sym (ap not (eq-eqb a b same)) ∙ h)

-- a slot that stays has another arrival
left_arrival : (old new : Arena Item) (foreign later : Roots) (slot : ℕ) (item : Item) → Goes old new foreign later slot item → (entries : List Queued) → OffersEntries old foreign entries → (to other : ℕ) (thing : Item) → HasSlot new later to other → value_at old other ≡ Some thing → thing.arrival ≢ item.arrival
left_arrival old new foreign later slot item goes entries offers to other thing held valued = λ same.
    let one = offers.once item.thread.prefer to slot other item thing goes.held (held_still old new foreign later slot item goes to other held) goes.stored valued same in
    let none = subst (λ (n : ℕ). HasSlot new later to n) one held in
    omega (arith, none, goes.lacks to)

pub offers_removed : (old new : Arena Item) (foreign later : Roots) (slot : ℕ) (item : Item) → Goes old new foreign later slot item → (entries : List Queued) → OffersEntries old foreign entries → OffersEntries new later (without item.arrival entries)
offers_removed old new foreign later slot item goes entries offers =
    let q = λ (e : Queued). not (e.arrival == item.arrival) in
    let was = λ (other : ℕ) (thing : Item) (h : value_at new other ≡ Some thing). sym (goes.kept.values other) ∙ h in
    record {
      stands = goes.stands;
      there = λ to other thing held stored.
          let p = λ (e : Queued). prefers to e.facts in
          let m = member_of_filter p entries (entry_of thing) (offers.there to other thing (held_still old new foreign later slot item goes to other held) (was other thing stored)) in
          filter_has p (without item.arrival entries) (entry_of thing)
          (filter_has q entries (entry_of thing) m.0
          (unlike_test thing.arrival item.arrival (left_arrival old new foreign later slot item goes entries offers to other thing held (was other thing stored))))
          m.1;
      back = λ to lt e c.
          let p = λ (x : Queued). prefers to x.facts in
          let m = member_of_filter p (without item.arrival entries) e c in
          let n = member_of_filter q entries e m.0 in
          let b = offers.back to lt e (filter_has p entries e n.0 m.1) in
          let unlike : b.0 ≢ slot = λ same.
          test_unlike e.arrival item.arrival n.1
          (ap (λ (x : Queued). x.arrival) (sym b.2.2)
          ∙ ap (λ (i : Item). i.arrival) (some_is b.1 item (sym b.2.1 ∙ (ap (λ (k : ℕ). value_at old k) same ∙ goes.stored)))) in
          (b.0, b.1, (held_on old new foreign later slot item goes to b.0 unlike b.2.0, goes.kept.values b.0 ∙ b.2.1, b.2.2));
      once = λ to from one other thing rival held there stored kept same.
          offers.once to from one other thing rival
          (held_still old new foreign later slot item goes to one held)
          (held_still old new foreign later slot item goes from other there)
          (was one thing stored) (was other rival kept) same;
    }
