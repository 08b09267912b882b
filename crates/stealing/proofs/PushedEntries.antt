-- The heaps stand for one entry more.
use Rattle.std.proofs.Common.{◌≡◌, ℕ, ◌==◌, true, Some, List, [], ◌∷◌, ◌++◌, Contains, sym, ap, ◌∙◌, subst, inl, inr, eqb-true}
use Rattle.std.proofs.lemmas.Bool.{and_parts}
use Rattle.std.proofs.lemmas.List.Elements.{Contains-append_left, Contains-push, Contains-push_cases}
use Rattle.flat_policy.specs.Policy.Offer.{is_unbound, prefers}
use Rattle.flat_policy.specs.Policy.Queue.{Queued}
use Rattle.flat_policy.proofs.Members.{filter_has, member_of_filter}
use Rattle.link_arena.specs.Arena.{Arena, value_at}
use Rattle.thread_queue.specs.Item.{entry_of}
use Rattle.thread_queue.specs.declared.item.Item.{Item}
use Rattle.stealing.specs.Foreign.{HasSlot, IsNewArrival, OffersEntries, Roots}
use Rattle.stealing.proofs.Pushed.{Comes, held_after, held_before, held_itself, some_is}

-- what a slot holds after the push, by what the slot held before
item_of_slot : (old new : Arena Item) (foreign later : Roots) (slot : ℕ) (item : Item) → Comes old new foreign later slot item → (other : ℕ) (thing : Item) → other ≡ slot → value_at new other ≡ Some thing → item ≡ thing
item_of_slot old new foreign later slot item comes other thing is stored =
    some_is item thing (sym comes.stored ∙ (sym (comes.kept.values slot) ∙ (ap (λ (n : ℕ). value_at new n) (sym is) ∙ stored)))

-- a slot that was there before is no slot of the arrival
other_arrival : (arena : Arena Item) (foreign : Roots) (entries : List Queued) (item thing : Item) (to other : ℕ) → OffersEntries arena foreign entries → IsNewArrival entries item.arrival → HasSlot arena foreign to other → value_at arena other ≡ Some thing → thing.arrival ≡ item.arrival → ⊥
other_arrival arena foreign entries item thing to other offers fresh held stored same =
    fresh (entry_of thing) (member_of_filter (λ (e : Queued). prefers to e.facts) entries (entry_of thing) (offers.there to other thing held stored)).0 same

pub offers_pushed : (old new : Arena Item) (foreign later : Roots) (slot : ℕ) (item : Item) → Comes old new foreign later slot item → (entries : List Queued) → IsNewArrival entries item.arrival → OffersEntries old foreign entries → OffersEntries new later (entries ++ entry_of item ∷ [])
offers_pushed old new foreign later slot item comes entries fresh offers =
    let longer = entries ++ entry_of item ∷ [] in
    let was = λ (other : ℕ) (thing : Item) (h : value_at new other ≡ Some thing). sym (comes.kept.values other) ∙ h in
    record {
      stands = comes.stands;
      there = λ to other thing held stored.
          let p = λ (e : Queued). prefers to e.facts in
          elim (held_before old new foreign later slot item comes to other held) [
            | inl is ↦ filter_has p longer (entry_of thing)
                (subst (λ (i : Item). Contains longer (entry_of i)) (item_of_slot old new foreign later slot item comes other thing is stored) (Contains-push entries (entry_of item)))
                (comes.stands.at_preferred to other thing held stored)
            | inr before ↦ (let m = member_of_filter p entries (entry_of thing) (offers.there to other thing before (was other thing stored)) in
                filter_has p longer (entry_of thing) (Contains-append_left entries (entry_of item ∷ []) (entry_of thing) m.0) m.1)
          ];
      back = λ to lt e c.
          let p = λ (x : Queued). prefers to x.facts in
          let m = member_of_filter p longer e c in
          elim (Contains-push_cases entries (entry_of item) e m.0) [
            | inl d ↦ (let b = offers.back to lt e (filter_has p entries e d m.1) in
                (b.0, b.1, (held_after old new foreign later slot item comes to b.0 b.2.0, comes.kept.values b.0 ∙ b.2.1, b.2.2)))
            | inr is ↦ (let wants : prefers to item.thread ≡ true = subst (λ (x : Queued). prefers to x.facts ≡ true) (sym is) m.1 in
                let at = eqb-true item.thread.prefer to (and_parts (is_unbound item.thread) (item.thread.prefer == to) wants).1 in
                (slot, item, (subst (λ (n : ℕ). HasSlot new later n slot) at (held_itself old new foreign later slot item comes), comes.kept.values slot ∙ comes.stored, is)))
          ];
      once = λ to from one other thing rival held there stored kept same.
          elim (held_before old new foreign later slot item comes to one held) [
            | inl is ↦ elim (held_before old new foreign later slot item comes from other there) [
              | inl also ↦ also ∙ sym is
              | inr before ↦ absurd (other_arrival old foreign entries item rival from other offers fresh before (was other rival kept)
                  (same ∙ ap (λ (i : Item). i.arrival) (sym (item_of_slot old new foreign later slot item comes one thing is stored))))
            ]
            | inr before ↦ elim (held_before old new foreign later slot item comes from other there) [
              | inl also ↦ absurd (other_arrival old foreign entries item thing to one offers fresh before (was one thing stored)
                  (sym same ∙ ap (λ (i : Item). i.arrival) (sym (item_of_slot old new foreign later slot item comes other rival also kept))))
              | inr both ↦ offers.once to from one other thing rival before both (was one thing stored) (was other rival kept) same
            ]
          ];
    }
