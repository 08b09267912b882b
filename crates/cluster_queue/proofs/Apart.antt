-- No slot stands in two of the lanes: the item of each slot is of its lane.
use Rattle.std.proofs.Common.{◌≡◌, ◌≢◌, ℕ, ◌<◌, Bool, true, false, Some, sym, ◌∙◌, subst}
use Rattle.std.proofs.lemmas.Bool.{true≢false}
use Rattle.sched_base.specs.declared.Bucket.{Bucket}
use Rattle.flat_policy.specs.Policy.Queue.{Flat, in_lane, lane}
use Rattle.link_arena.specs.Arena.{Arena, value_at}
use Rattle.pairing_heap.specs.Laws.{HeldAreLive}
use Rattle.thread_queue.specs.Item.{entry_of, key_of_item, key_precedes}
use Rattle.thread_queue.specs.Queue.{HasSlot, LacksSlot, StandsIn}
use Rattle.thread_queue.specs.declared.item.Item.{Item}
use Rattle.clutch_bucket.specs.Lane.{HasLaneSlot, IsApartFrom, LacksLaneSlot, LaneStands, groups, queue_at, unit_of}
use Rattle.cluster_queue.specs.Heaps.{HeapsFollow, bound_at, lane_at}
use Rattle.cluster_queue.specs.declared.heaps.Heaps.{Heaps}
use Rattle.cluster_queue.proofs.Buckets.{lane_of_clutch, parts_of_lane}
use Rattle.cluster_queue.proofs.Slots.{item_at, lacks_where_not}
use Rattle.cluster_queue.proofs.Members.{kept_member}

-- lanes and bound queues stand, and each slot of them holds an item of its lane
pub record LanesHold (arena : Arena Item) (heaps : Heaps) : Type 0 where
  pub lanes : (b : Bucket) → LaneStands arena (lane_at heaps b)
  pub bound : (b : Bucket) → StandsIn arena (bound_at heaps b)
  pub in_unbound : (b : Bucket) (slot : ℕ) (item : Item) → HasLaneSlot arena (lane_at heaps b) slot → value_at arena slot ≡ Some item → in_lane (lane b false) (entry_of item) ≡ true
  pub in_bound : (b : Bucket) (slot : ℕ) (item : Item) → HasSlot arena (bound_at heaps b) slot → value_at arena slot ≡ Some item → in_lane (lane b true) (entry_of item) ≡ true

pub holds_follow : (arena : Arena Item) (heaps : Heaps) (count : ℕ) (s : Flat) → HeapsFollow arena heaps count s → LanesHold arena heaps
holds_follow arena heaps count s f = record {
  lanes = λ b. (f.lanes b).follows.stands;
  bound = λ b. (f.bound b).stands;
  in_unbound = λ b slot item has stored. (
      let at = lane_at heaps b in
      let unit = (f.lanes b).follows.stands.units.each has.0 has.1.0 in
      subst (λ (c : Bucket). in_lane (lane c false) (entry_of item) ≡ true) (f.lanes b).bucket
      (lane_of_clutch (unit_of at has.0) (entry_of item) (unit.each slot item has.1.1 stored).within));
  in_bound = λ b slot item has stored. (kept_member (in_lane (lane b true)) s.entries (entry_of item) ((f.bound b).entries.there slot item has stored)).1;
}

-- an item is of one lane only
one_lane : (b c : Bucket) (bound also : Bool) (item : Item) → in_lane (lane b bound) (entry_of item) ≡ true → in_lane (lane c also) (entry_of item) ≡ true → (b ≡ c) × (bound ≡ also)
one_lane b c bound also item here there =
    let one = parts_of_lane b bound (entry_of item) here in
    let two = parts_of_lane c also (entry_of item) there in
    (sym one.0 ∙ two.0, sym one.1 ∙ two.1)

module _ (live : HeldAreLive 0 key_of_item key_precedes) (arena : Arena Item) (heaps : Heaps) (h : LanesHold arena heaps) where
  item_in_lane : (b : Bucket) (slot : ℕ) → HasLaneSlot arena (lane_at heaps b) slot → (item : Item) × (value_at arena slot ≡ Some item)
  item_in_lane b slot has = item_at arena slot (live arena (queue_at (lane_at heaps b) has.0).root slot ((h.lanes b).units.each has.0 has.1.0).stands.heap has.1.1)

  item_in_bound : (b : Bucket) (slot : ℕ) → HasSlot arena (bound_at heaps b) slot → (item : Item) × (value_at arena slot ≡ Some item)
  item_in_bound b slot has = item_at arena slot (live arena (bound_at heaps b).root slot (h.bound b).heap has)

  -- a slot of one lane is none of another, nor of a bound queue, and the other way round
  pub lanes_apart : (b c : Bucket) (slot : ℕ) → b ≢ c → HasLaneSlot arena (lane_at heaps b) slot → LacksLaneSlot arena (lane_at heaps c) slot
  lanes_apart b c slot n has = λ g within. lacks_where_not arena (queue_at (lane_at heaps c) g) slot (λ also. (
      let valued = item_in_lane b slot has in
      n (one_lane b c false false valued.0 (h.in_unbound b slot valued.0 has valued.1) (h.in_unbound c slot valued.0 (g, (within, also)) valued.1)).0))

  pub lane_lacks_bound : (b c : Bucket) (slot : ℕ) → HasSlot arena (bound_at heaps b) slot → LacksLaneSlot arena (lane_at heaps c) slot
  lane_lacks_bound b c slot has = λ g within. lacks_where_not arena (queue_at (lane_at heaps c) g) slot (λ also. (
      let valued = item_in_bound b slot has in
      true≢false (one_lane b c true false valued.0 (h.in_bound b slot valued.0 has valued.1) (h.in_unbound c slot valued.0 (g, (within, also)) valued.1)).1))

  pub bounds_apart : (b c : Bucket) (slot : ℕ) → b ≢ c → HasSlot arena (bound_at heaps b) slot → LacksSlot arena (bound_at heaps c) slot
  bounds_apart b c slot n has = lacks_where_not arena (bound_at heaps c) slot (λ also. (
      let valued = item_in_bound b slot has in
      n (one_lane b c true true valued.0 (h.in_bound b slot valued.0 has valued.1) (h.in_bound c slot valued.0 also valued.1)).0))

  -- so the units of one lane are apart from another lane, and bound queues from all lanes
  pub units_apart : (b c : Bucket) (g : ℕ) → b ≢ c → g < groups (lane_at heaps c) → IsApartFrom arena (lane_at heaps b) (queue_at (lane_at heaps c) g)
  units_apart b c g n within = λ slot has. lanes_apart c b slot (λ e. n (sym e)) (g, (within, has))

  pub bound_apart : (b c : Bucket) → IsApartFrom arena (lane_at heaps b) (bound_at heaps c)
  bound_apart b c = λ slot has. lane_lacks_bound c b slot has
