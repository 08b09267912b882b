-- The heaps of foreign threads, filled slot by slot.
use Rattle.std.proofs.Common.{◌≡◌, ℕ, ◌+◌, ◌≤◌, ◌<◌, true, Contains, [], ◌∷◌, ◌++◌, Some, None, is_some, refl, sym, ap, ◌∙◌, subst, inl, inr, arith}
use Rattle.std.proofs.lemmas.Bool.{cases_eq, cases_lt, false≢true, not_from_true}
use Rattle.std.proofs.lemmas.List.Elements.{Contains-append_left, Contains-push, Contains-push_cases}
use Rattle.std.proofs.lemmas.Option.{none-some}
use Rattle.flat_policy.specs.Policy.Offer.{is_unbound}
use Rattle.flat_policy.specs.Policy.Queue.{Queued}
use Rattle.link_arena.specs.Arena.{Arena, links_at, unlinked, value_at}
use Rattle.thread_queue.specs.Item.{entry_of}
use Rattle.thread_queue.specs.declared.item.Item.{Item}
use Rattle.stealing.specs.Foreign.{IsNewArrival, LacksSlot, OffersEntries, Pushes, times_in}
use Rattle.cluster_queue.specs.Filling.{FilledBelow, LiesBelow}
use Rattle.cluster_queue.specs.declared.heaps.Heaps.{Heaps}
use Rattle.cluster_queue.proofs.Slots.{one_item}

-- the arrival of an item that is not added yet is that of no entry
pub item_is_new : (arena : Arena Item) (heaps : Heaps) (slot : ℕ) (item : Item) (f : FilledBelow arena heaps slot) → value_at arena slot ≡ Some item → IsNewArrival f.done item.arrival
item_is_new arena heaps slot item f stored = λ e c same.
    let b = f.there e c in
    let there = f.once slot b.slot item b.item stored b.stored (ap (λ (q : Queued). q.arrival) b.entry ∙ same) in
    omega (arith, there, b.below)

-- an entry that lies below a number lies below a greater one, and in each arena with the same values
pub lies_further : (old new : Arena Item) (from upto : ℕ) (e : Queued) → from ≤ upto → ((slot : ℕ) → value_at new slot ≡ value_at old slot) → LiesBelow old from e → LiesBelow new upto e
lies_further old new from upto e le values b = record { slot = b.slot; item = b.item; below = omega (arith, le, b.below); stored = values b.slot ∙ b.stored; entry = b.entry }

-- slots without items are passed over
pub filled_on : (arena : Arena Item) (heaps : Heaps) (from upto : ℕ) → from ≤ upto → ((other : ℕ) → from ≤ other → other < upto → value_at arena other ≡ None) → FilledBelow arena heaps from → FilledBelow arena heaps upto
filled_on arena heaps from upto le none f = record {
  done = f.done;
  offers = f.offers;
  there = λ e c. lies_further arena arena from upto e le (λ slot. refl) (f.there e c);
  back = λ slot item below stored unbound. elim (cases_lt slot from) [
    | inl lt ↦ f.back slot item lt stored unbound
    | inr ge ↦ absurd (none-some item (sym (none slot ge below) ∙ stored))
  ];
  loose = f.loose;
  once = f.once;
  small = f.small;
  prefer = f.prefer;
}

-- a bound thread's slot is passed over, too
pub filled_bound : (arena : Arena Item) (heaps : Heaps) (slot : ℕ) (item : Item) → value_at arena slot ≡ Some item → is_some item.thread.bound ≡ true → FilledBelow arena heaps slot → FilledBelow arena heaps (slot + 1)
filled_bound arena heaps slot item here bound f = record {
  done = f.done;
  offers = f.offers;
  there = λ e c. lies_further arena arena slot (slot + 1) e (omega arith) (λ other. refl) (f.there e c);
  back = λ other rival below stored unbound. elim (cases_eq other slot) [
    | inl e ↦ (
        let same = one_item arena slot item rival here (ap (value_at arena) (sym e) ∙ stored) in
        absurd (false≢true (sym (not_from_true (is_some item.thread.bound) bound) ∙ (ap (λ (i : Item). is_unbound i.thread) same ∙ unbound))))
    | inr n ↦ f.back other rival (omega (arith, n, below)) stored unbound
  ];
  loose = f.loose;
  once = f.once;
  small = f.small;
  prefer = f.prefer;
}

-- an unbound thread's slot comes into a heap
module _ (old new : Arena Item) (before later : Heaps) (slot : ℕ) (item : Item) (stored : value_at old slot ≡ Some item) (f : FilledBelow old before slot) (p : Pushes old new before.foreign later.foreign slot) where
  -- a slot that is in no heap then was in none, and its links stay
  was_lacking : (other : ℕ) → LacksSlot new later.foreign other → LacksSlot old before.foreign other
  was_lacking other lacks = λ to. elim (cases_eq to p.item.thread.prefer) [
    | inl e ↦ (let here = p.here other in let none = lacks p.item.thread.prefer in subst (λ (n : ℕ). times_in old before.foreign n other ≡ 0) (sym e) (omega (arith, here, none)))
    | inr n ↦ sym (p.others to n other) ∙ lacks to
  ]

  still_loose : (other : ℕ) → LacksSlot new later.foreign other → links_at new 1 other ≡ unlinked
  still_loose other lacks = p.kept.elsewhere other (lacks p.item.thread.prefer) ∙ f.loose other (was_lacking other lacks)

  pub filled_unbound : OffersEntries new later.foreign (f.done ++ entry_of item ∷ []) → FilledBelow new later (slot + 1)
  filled_unbound offers = record {
    done = f.done ++ entry_of item ∷ [];
    offers = offers;
    there = λ e c. elim (Contains-push_cases f.done (entry_of item) e c) [
      | inl d ↦ lies_further old new slot (slot + 1) e (omega arith) p.kept.values (f.there e d)
      | inr is ↦ record { slot = slot; item = item; below = omega arith; stored = p.kept.values slot ∙ stored; entry = is }
    ];
    back = λ other rival below there unbound. (
        let was : value_at old other ≡ Some rival = sym (p.kept.values other) ∙ there in
        elim (cases_eq other slot) [
          | inl e ↦ (
              let same = one_item old slot item rival stored (ap (value_at old) (sym e) ∙ was) in
              subst (λ (i : Item). Contains (f.done ++ entry_of item ∷ []) (entry_of i)) same (Contains-push f.done (entry_of item)))
          | inr n ↦ Contains-append_left f.done (entry_of item ∷ []) (entry_of rival) (f.back other rival (omega (arith, n, below)) was unbound)
        ]);
    loose = still_loose;
    once = λ a b x y here there alike. f.once a b x y (sym (p.kept.values a) ∙ here) (sym (p.kept.values b) ∙ there) alike;
    small = λ a x here. f.small a x (sym (p.kept.values a) ∙ here);
    prefer = λ a x here. f.prefer a x (sym (p.kept.values a) ∙ here);
  }
