-- The heaps stay where the arena changes elsewhere, and stand for each list with the same unbound entries.
use Rattle.std.proofs.Common.{◌≡◌, ◌≢◌, ℕ, ◌==◌, Some, None, refl, sym, ap, ◌∙◌, subst, inl, inr, arith, eq-eqb}
use Rattle.std.specs.Prelude.{if◌then◌else◌, ◌+◌}
use Rattle.std.proofs.lemmas.Bool.{and_parts}
use Rattle.flat_policy.specs.Policy.Offer.{is_unbound, prefers}
use Rattle.flat_policy.specs.Policy.Queue.{Queued}
use Rattle.flat_policy.proofs.Members.{contains_none, filter_has, member_of_filter}
use Rattle.link_arena.specs.Arena.{Arena, value_at}
use Rattle.pairing_heap.specs.Laws.{HeldAreLive, StaysWhereSlotsStay as HeapStaysWhere}
use Rattle.thread_queue.specs.Item.{entry_of, foreign_key_of_item, foreign_precedes}
use Rattle.thread_queue.specs.declared.item.Item.{Item}
use Rattle.stealing.specs.Foreign.{HasSlot, LacksSlot, Roots, StandsIn, times_in}
use Rattle.stealing.specs.Laws.{HasListedSlot, LacksNewArrival, LacksWhereNone, OffersByUnbound, PushedIsHeld, StaysWhereInserted, StaysWhereQueuesChange, StaysWhereRemoved, StaysWhereReserved, StaysWhereRevalued, StaysWhereSettled}
use Rattle.stealing.proofs.Held.{item_held, zero_or_some}
use Rattle.stealing.proofs.Stays.{stays}

one_is_not_zero : ◌≢◌ {A = ℕ} 1 0
one_is_not_zero h = absurd (omega (arith, h))

-- a slot that some heap has is not one that none has
held_unlike : (arena : Arena Item) (foreign : Roots) (slot to other : ℕ) → LacksSlot arena foreign slot → HasSlot arena foreign to other → other ≢ slot
held_unlike arena foreign slot to other lacks held = λ same.
    let here : HasSlot arena foreign to slot = subst (λ (n : ℕ). HasSlot arena foreign to n) same held in
    omega (arith, here, lacks to)

free_lacks : HeldAreLive 1 foreign_key_of_item foreign_precedes → (arena : Arena Item) (foreign : Roots) (slot : ℕ) → StandsIn arena foreign → value_at arena slot ≡ None → LacksSlot arena foreign slot
free_lacks live arena foreign slot stands free = λ to. elim (zero_or_some (times_in arena foreign to slot)) [
  | inl none ↦ none
  | inr some ↦ (let item = item_held live arena foreign stands to slot some in
      let clash : None ≡ Some item.0 = sym free ∙ item.1 in
      absurd (cc))
]

pub stays_inserted : HeldAreLive 1 foreign_key_of_item foreign_precedes → HeapStaysWhere 1 foreign_key_of_item foreign_precedes → StaysWhereInserted
stays_inserted live law old new slot item inserts foreign stands =
    let lacked = free_lacks live old foreign slot stands inserts.was_free in
    let still = stays law old new foreign stands record {
      values = λ to other held. inserts.elsewhere.values other (held_unlike old foreign slot to other lacked held);
      links = λ to other held. inserts.elsewhere.links 1 other (held_unlike old foreign slot to other lacked held);
    } in
    record { stays = still; lacks = λ to. still.slots to slot ∙ lacked to }

pub stays_removed : HeapStaysWhere 1 foreign_key_of_item foreign_precedes → StaysWhereRemoved
stays_removed law old new slot frees foreign stands lacked = stays law old new foreign stands record {
  values = λ to other held. frees.elsewhere.values other (held_unlike old foreign slot to other lacked held);
  links = λ to other held. frees.elsewhere.links 1 other (held_unlike old foreign slot to other lacked held);
}

pub stays_revalued : HeapStaysWhere 1 foreign_key_of_item foreign_precedes → StaysWhereRevalued
stays_revalued law old new slot item revalues foreign stands lacked =
    let still = stays law old new foreign stands record {
      values = λ to other held. revalues.elsewhere other (held_unlike old foreign slot to other lacked held);
      links = λ to other held. revalues.links 1 other;
    } in
    record { stays = still; lacks = λ to. still.slots to slot ∙ lacked to }

pub stays_settled : HeapStaysWhere 1 foreign_key_of_item foreign_precedes → StaysWhereSettled
stays_settled law old new queue later slot usage seen pri settles foreign stands lacked =
    let still = stays law old new foreign stands record {
      values = λ to other held. settles.rekeys.values other (held_unlike old foreign slot to other lacked held);
      links = λ to other held. settles.rekeys.other_set 1 other one_is_not_zero;
    } in
    record { stays = still; lacks = λ to. still.slots to slot ∙ lacked to }

pub stays_reserved : HeapStaysWhere 1 foreign_key_of_item foreign_precedes → StaysWhereReserved
stays_reserved law old new map foreign stands =
    stays law old new foreign stands record { values = λ to slot held. map.values slot; links = λ to slot held. map.links 1 slot }

pub stays_beside : HeapStaysWhere 1 foreign_key_of_item foreign_precedes → StaysWhereQueuesChange
stays_beside law old new times kept foreign stands =
    stays law old new foreign stands record { values = λ to slot held. kept.values slot; links = λ to slot held. kept.other_set 1 slot one_is_not_zero }

pub by_unbound : OffersByUnbound
by_unbound arena foreign entries later same offers = record {
  stands = offers.stands;
  there = λ to slot item held stored.
      let p = λ (e : Queued). prefers to e.facts in
      let m = member_of_filter p entries (entry_of item) (offers.there to slot item held stored) in
      filter_has p later (entry_of item) (same.there (entry_of item) (and_parts (is_unbound item.thread) (item.thread.prefer == to) m.1).0 m.0) m.1;
  back = λ to lt e c.
      let p = λ (x : Queued). prefers to x.facts in
      let m = member_of_filter p later e c in
      offers.back to lt e (filter_has p entries e (same.back e (and_parts (is_unbound e.facts) (e.facts.prefer == to) m.1).0 m.0) m.1);
  once = offers.once;
}

pub pushed_held : PushedIsHeld
pushed_held old new foreign later slot pushes =
    let here = pushes.here slot ∙ ap (λ b. (if b then 1 else 0) + times_in old foreign pushes.item.thread.prefer slot) (eq-eqb slot slot refl) in
    omega (arith, here)

pub lacks_none : HeldAreLive 1 foreign_key_of_item foreign_precedes → LacksWhereNone
lacks_none live arena foreign offers slot = λ to. elim (zero_or_some (times_in arena foreign to slot)) [
  | inl none ↦ none
  | inr some ↦ (let item = item_held live arena foreign offers.stands to slot some in
      absurd (contains_none (entry_of item.0) (offers.there to slot item.0 some item.1)))
]

pub lacks_new : LacksNewArrival
lacks_new arena foreign entries slot item offers stored fresh = λ to. elim (zero_or_some (times_in arena foreign to slot)) [
  | inl none ↦ none
  | inr some ↦ absurd (fresh (entry_of item)
      (member_of_filter (λ (e : Queued). prefers to e.facts) entries (entry_of item) (offers.there to slot item some stored)).0 refl)
]

pub has_listed : HasListedSlot
has_listed arena foreign entries to slot item offers lt wants stored listed alone =
    let b = offers.back to lt (entry_of item) (filter_has (λ (e : Queued). prefers to e.facts) entries (entry_of item) listed wants) in
    subst (λ (n : ℕ). HasSlot arena foreign to n) (alone b.0 b.1 b.2.1 (ap (λ (e : Queued). e.arrival) b.2.2)) b.2.0
