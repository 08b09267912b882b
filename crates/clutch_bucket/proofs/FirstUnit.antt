-- The first slot of the heap is that of the unit that goes first.
use Rattle.std.proofs.Common.{◌≡◌, ℕ, List, Option, Some, None, length, slice_index, slice_index_or, refl, sym, ap, ◌∙◌, subst, inl, inr, arith}
use Rattle.link_arena.specs.Arena.{Arena, value_at}
use Rattle.pairing_heap.specs.Heap.{Holds, key_of_value, pairs_at, times_of}
use Rattle.pairing_heap.specs.Laws.{FirstIsLeast}
use Rattle.clutch_bucket.specs.KeptRanks.{AreKept, IsOwned, key_of_ranked}
use Rattle.clutch_bucket.specs.Ranks.{IsFirstUnit, unit_key_precedes}
use Rattle.clutch_bucket.specs.declared.ranks.Ranked.{Ranked}
use Rattle.clutch_bucket.specs.declared.ranks.UnitKey.{UnitKey}
use Rattle.clutch_bucket.proofs.Slots.{group_in, key_or_none}

-- the group of a slot that the heap holds has a key
pub owner_has_key : (keys : List (Option UnitKey)) (slots : List ℕ) (arena : Arena Ranked) (heap : Option ℕ) (slot : ℕ) → AreKept keys slots arena heap
    → Holds 0 key_of_ranked arena heap slot → (own : IsOwned slots (length keys) slot) → (key : UnitKey) × (slice_index_or keys own.group None ≡ Some key)
owner_has_key keys slots arena heap slot kept held own =
    elim (key_or_none (slice_index_or keys own.group None)) [
      | inl none ↦ (
          let often = ap (λ (s : ℕ). times_of (pairs_at 0 key_of_ranked arena heap) s) own.same in
          absurd (omega (arith, held, often, kept.bare own.group own.within none)))
      | inr some ↦ some
    ]

-- the group of the first slot goes first
pub first_unit : FirstIsLeast 0 key_of_ranked unit_key_precedes → (keys : List (Option UnitKey)) (slots : List ℕ) (arena : Arena Ranked) (slot : ℕ) (value : Ranked)
    → AreKept keys slots arena (Some slot) → value_at arena slot ≡ Some value → IsFirstUnit keys value.group
first_unit law keys slots arena slot value kept is =
    let first = law arena (Some slot) kept.stands in
    let own = kept.owned slot first.held in
    let keyed = owner_has_key keys slots arena (Some slot) slot kept first.held own in
    let stored = ap (λ (s : ℕ). value_at arena s) (sym own.same) ∙ (kept.entered own.group keyed.0 keyed.1).stored in
    let group : own.group ≡ value.group = sym (ap group_in stored) ∙ ap group_in is in
    subst (λ (g : ℕ). IsFirstUnit keys g) group (record {
      within = own.within;
      key = keyed.0;
      stands = keyed.1;
      unpreceded = λ other rival there. (
          let entry = kept.entered other rival there in
          first.least slot (slice_index slots other) keyed.0 rival refl (ap (λ (o : Option Ranked). key_of_value key_of_ranked o) stored) entry.held
          (ap (λ (o : Option Ranked). key_of_value key_of_ranked o) entry.stored));
    })
