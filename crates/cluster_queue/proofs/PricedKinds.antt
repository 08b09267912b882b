-- Slots by the kind of their items, bound or not and of which bucket: where those of one kind change, queues of the other kinds stay.
use Rattle.std.proofs.Common.{◌≡◌, ℕ, ◌<◌, Bool, false, Some, is_some, sym, ◌∙◌}
use Rattle.sched_base.specs.declared.Bucket.{Bucket}
use Rattle.flat_policy.specs.Policy.Queue.{Flat}
use Rattle.link_arena.specs.Arena.{Arena, value_at}
use Rattle.pairing_heap.specs.Laws.{HeldAreLive}
use Rattle.thread_queue.specs.Item.{entry_of, key_of_item, key_precedes}
use Rattle.thread_queue.specs.Laws.{QueuesApart, StaysIn}
use Rattle.thread_queue.specs.Queue.{HasSlot, LacksSlot, Queue, StandsIn}
use Rattle.thread_queue.specs.declared.item.Item.{Item}
use Rattle.clutch_bucket.specs.Lane.{Lane, UnitsStand, groups, queue_at, unit_of}
use Rattle.clutch_bucket.specs.Laws.{LanesStay, SameClutches}
use Rattle.cluster_queue.specs.Heaps.{LaneFollows}
use Rattle.cluster_queue.proofs.Buckets.{lane_of_clutch, parts_of_lane}
use Rattle.cluster_queue.proofs.Slots.{item_at, lacks_where_not}
use Rattle.cluster_queue.proofs.Staying.{KeepsItems, lane_follows, slots_stay}

-- an item is bound or not, and of a bucket
abbrev pub IsKind : Item → Bool → Bucket → Type 0
IsKind item bound b = (item.thread.bucket ≡ b) × (is_some item.thread.bound ≡ bound)

-- the slot holds no item of the kind
abbrev pub HasNot : Arena Item → ℕ → Bool → Bucket → Type 0
HasNot arena slot bound b = (item : Item) → value_at arena slot ≡ Some item → IsKind item bound b → ⊥

-- a queue stands, and its slots hold items of one kind
pub record OfKind (arena : Arena Item) (queue : Queue) (bound : Bool) (b : Bucket) : Type 0 where
  pub stands : StandsIn arena queue
  pub each : (slot : ℕ) (item : Item) → HasSlot arena queue slot → value_at arena slot ≡ Some item → IsKind item bound b

-- such a queue lacks a slot without an item of the kind
pub kind_lacks : HeldAreLive 0 key_of_item key_precedes → (arena : Arena Item) (queue : Queue) (bound : Bool) (b : Bucket) (slot : ℕ) → OfKind arena queue bound b → HasNot arena slot bound b → LacksSlot arena queue slot
kind_lacks live arena queue bound b slot kind none =
    lacks_where_not arena queue slot (λ has. (let held = item_at arena slot (live arena queue.root slot kind.stands.heap has) in none held.0 held.1 (kind.each slot held.0 has held.1)))

-- the kinds differ
abbrev pub Unlike : Bool → Bucket → Bool → Bucket → Type 0
Unlike bound b flag c = bound ≡ flag → b ≡ c → ⊥

-- a slot of a queue of another kind has no item of the kind
pub kind_has_not : (arena : Arena Item) (queue : Queue) (bound flag : Bool) (b c : Bucket) (slot : ℕ) → OfKind arena queue bound b → Unlike bound b flag c → HasSlot arena queue slot → HasNot arena slot flag c
kind_has_not arena queue bound flag b c slot kind unlike has item stored is =
    let here = kind.each slot item has stored in
    unlike (sym here.1 ∙ is.1) (sym here.0 ∙ is.0)

pub kinds_apart : HeldAreLive 0 key_of_item key_precedes → (arena : Arena Item) (queue other : Queue) (bound flag : Bool) (b c : Bucket) → OfKind arena queue bound b → OfKind arena other flag c → Unlike bound b flag c → QueuesApart arena queue other
kinds_apart live arena queue other bound flag b c kind rival unlike = λ slot has. kind_lacks live arena other flag c slot rival (kind_has_not arena queue bound flag b c slot kind unlike has)

-- only slots of one kind change their items, and the queues of the other kinds stay
pub record ChangesKind (old new : Arena Item) (bound : Bool) (b : Bucket) : Type 0 where
  pub values : (slot : ℕ) → HasNot old slot bound b → value_at new slot ≡ value_at old slot
  pub queues : (queue : Queue) (flag : Bool) (c : Bucket) → OfKind old queue flag c → Unlike flag c bound b → StaysIn old new queue

pub kind_kept : (old new : Arena Item) (bound flag : Bool) (b c : Bucket) (queue : Queue) → ChangesKind old new bound b → OfKind old queue flag c → Unlike flag c bound b → KeepsItems old new queue
kind_kept old new bound flag b c queue changes kind unlike = record {
  stays = changes.queues queue flag c kind unlike;
  values = λ slot has. changes.values slot (kind_has_not old queue flag bound c b slot kind unlike has);
}

-- the units of a lane are of one kind
pub unit_kind : (arena : Arena Item) (at : Lane) (c : Bucket) (g : ℕ) → at.bucket ≡ c → UnitsStand arena at → g < groups at → OfKind arena (queue_at at g) false c
unit_kind arena at c g is stands within =
    let unit = stands.each g within in
    record {
      stands = unit.stands;
      each = λ slot item has stored. (let parts = parts_of_lane at.bucket false (entry_of item) (lane_of_clutch (unit_of at g) (entry_of item) (unit.each slot item has stored).within) in (parts.0 ∙ is, parts.1));
    }

-- a lane of another kind follows the queue still, and every queue with the same clutch buckets
pub lane_kept : LanesStay → (old new : Arena Item) (at : Lane) (count : ℕ) (bound : Bool) (b c : Bucket) (s next : Flat) → ChangesKind old new bound b → Unlike false c bound b → LaneFollows old at count c s → SameClutches at s next → LaneFollows new at count c next
lane_kept stay old new at count bound b c s next changes unlike f same =
    let stands = f.follows.stands.units in
    let kept = λ (g : ℕ) (within : g < groups at). kind_kept old new bound false b c (queue_at at g) changes (unit_kind old at c g f.bucket stands within) unlike in
    lane_follows stay old new at count c s next (slots_stay old new at kept) same f
