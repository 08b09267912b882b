-- What stays of bound queues, lanes and heaps of foreign threads where their slots do.
use Rattle.std.proofs.Common.{◌≡◌, ℕ, ◌<◌, true, List, Some, refl, sym, ◌∙◌}
use Rattle.sched_base.specs.declared.Bucket.{Bucket}
use Rattle.flat_policy.specs.Policy.Queue.{Flat, Queued, lane, lane_entries}
use Rattle.link_arena.specs.Arena.{Arena, links_at, unlinked, value_at}
use Rattle.thread_queue.specs.Laws.{StaysIn}
use Rattle.thread_queue.specs.Queue.{HasSlot, Queue}
use Rattle.thread_queue.specs.declared.item.Item.{Item}
use Rattle.clutch_bucket.specs.Lane.{Lane, groups, queue_at}
use Rattle.clutch_bucket.specs.Laws.{LanesStay, SameClutches, SlotsStay}
use Rattle.stealing.specs.Foreign.{LacksSlot as LacksForeign}
use Rattle.stealing.specs.Laws.{StaysIn as ForeignStays}
use Rattle.cluster_queue.specs.Heaps.{BoundFollows, HeapsFollow, LaneFollows, bound_at, lane_at}
use Rattle.cluster_queue.specs.declared.heaps.Heaps.{Heaps}
use Rattle.cluster_queue.proofs.Slots.{has_after, has_before}

-- the queue stays, and so do the items at its slots
pub record KeepsItems (old new : Arena Item) (queue : Queue) : Type 0 where
  pub stays : StaysIn old new queue
  pub values : (slot : ℕ) → HasSlot old queue slot → value_at new slot ≡ value_at old slot

-- a bound queue that keeps its items follows the same entries
pub bound_kept : (old new : Arena Item) (queue : Queue) (es : List Queued) → KeepsItems old new queue → BoundFollows old queue es → BoundFollows new queue es
bound_kept old new queue es keeps f =
    let before = λ (slot : ℕ) (has : HasSlot new queue slot). has_before old new queue slot keeps.stays has in
    let value = λ (slot : ℕ) (item : Item) (has : HasSlot new queue slot) (stored : value_at new slot ≡ Some item). sym (keeps.values slot (before slot has)) ∙ stored in
    record {
      stands = keeps.stays.stands;
      entries = record {
        there = λ slot item has stored. f.entries.there slot item (before slot has) (value slot item has stored);
        back = λ entry c. (
            let from = f.entries.back entry c in
            (from.0, from.1, (has_after old new queue from.0 keeps.stays from.2.0, keeps.values from.0 from.2.0 ∙ from.2.1, from.2.2)));
      };
      count = f.count;
      apart = λ slot other item rival has rest here there alike.
          f.apart slot other item rival (before slot has) (before other rest) (value slot item has here) (value other rival rest there) alike;
    }

-- a lane has the same clutch buckets in a queue and itself
pub clutches_same : (at : Lane) (s : Flat) → SameClutches at s s
clutches_same at s = record { each = λ g within. record { entries = refl; spans = refl; turn = refl }; len = refl; span_places = refl; turn_places = refl }

-- a lane whose slots stay follows every queue with the same clutch buckets
pub lane_follows : LanesStay → (old new : Arena Item) (at : Lane) (count : ℕ) (b : Bucket) (s next : Flat) → SlotsStay old new at → SameClutches at s next → LaneFollows old at count b s → LaneFollows new at count b next
lane_follows law old new at count b s next slots same f = record { bucket = f.bucket; groups = f.groups; follows = law old new at s next f.follows slots same }

-- its slots stay where its queues keep their items
pub slots_stay : (old new : Arena Item) (at : Lane) → ((g : ℕ) → g < groups at → KeepsItems old new (queue_at at g)) → SlotsStay old new at
slots_stay old new at keeps = record { queues = λ g within. (keeps g within).stays; values = λ slot has. (keeps has.0 has.1.0).values slot has.1.1 }

-- what stays of the heaps' parts
pub record PartsStay (old new : Arena Item) (heaps : Heaps) : Type 0 where
  pub lanes : (b : Bucket) (g : ℕ) → g < groups (lane_at heaps b) → KeepsItems old new (queue_at (lane_at heaps b) g)
  pub bound : (b : Bucket) → KeepsItems old new (bound_at heaps b)
  pub foreign : ForeignStays old new heaps.foreign
  pub loose : (slot : ℕ) → LacksForeign old heaps.foreign slot → links_at old 1 slot ≡ unlinked → links_at new 1 slot ≡ unlinked

pub heaps_stay : LanesStay → (old new : Arena Item) (heaps : Heaps) (count : ℕ) (s : Flat) → PartsStay old new heaps → HeapsFollow old heaps count s → HeapsFollow new heaps count s
heaps_stay law old new heaps count s parts f = record {
  six = f.six;
  lanes = λ b. lane_follows law old new (lane_at heaps b) count b s s (slots_stay old new (lane_at heaps b) (parts.lanes b)) (clutches_same (lane_at heaps b) s) (f.lanes b);
  bound = λ b. bound_kept old new (bound_at heaps b) (lane_entries s (lane b true)) (parts.bound b) (f.bound b);
  foreign = parts.foreign.offers s.entries f.foreign;
  loose = λ slot lacks. (
      let lacked : LacksForeign old heaps.foreign slot = λ to. sym (parts.foreign.slots to slot) ∙ lacks to in
      parts.loose slot lacked (f.loose slot lacked));
}
