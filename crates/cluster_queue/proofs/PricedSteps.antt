-- The two steps in which a bucket is priced anew, its unbound lane and then its bound queue: each changes slots of one kind alone.
use Rattle.std.proofs.Common.{◌≡◌, ◌≢◌, ℕ, ◌<◌, Bool, true, false, Some, None, is_some, count_by, sym, ◌∙◌, subst}
use Rattle.std.proofs.lemmas.Bool.{true≢false}
use Rattle.std.proofs.lemmas.Option.{none-some}
use Rattle.sched_base.specs.declared.Bucket.{Bucket}
use Rattle.flat_policy.specs.Laws.Refreshing.{with_turns_of}
use Rattle.flat_policy.specs.Policy.Queue.{Flat, lane, lane_entries}
use Rattle.flat_policy.specs.Policy.WellFormed.{WellFormed}
use Rattle.link_arena.specs.Arena.{Arena, links_at, value_at}
use Rattle.pairing_heap.specs.Laws.{HeldAreLive}
use Rattle.thread_queue.specs.Item.{key_of_item, key_precedes}
use Rattle.thread_queue.specs.Queue.{Queue}
use Rattle.thread_queue.specs.declared.item.Item.{Item}
use Rattle.clutch_bucket.specs.Lane.{Follows, HasLaneSlot, HoldsRepriced, LacksLaneSlot, Lane, LanePriced, OtherQueuesStay, SameGroups, UnitsStand, groups, queue_at}
use Rattle.clutch_bucket.specs.Repricing.{Reprices}
use Rattle.cluster_queue.specs.Refreshing.{is_changed}
use Rattle.cluster_queue.proofs.PricedKinds.{ChangesKind, HasNot, IsKind, OfKind, kind_has_not, kind_lacks, kinds_apart, unit_kind}
use Rattle.cluster_queue.proofs.Slots.{one_item}

-- what a refresh of a lane's units ensures
pub record LaneStep (old new : Arena Item) (at later : Lane) (now turns turned told : ℕ) : Type 0 where
  pub follows : (s p : Flat) → Follows old at s → WellFormed (groups at) s → LanePriced (groups at) now s p at.bucket → turns ≡ p.next_turn
      → Follows new later (with_turns_of (groups at) s p at.bucket) × (turned ≡ (with_turns_of (groups at) s p at.bucket).next_turn)
  pub changed : (s : Flat) → Follows old at s → WellFormed (groups at) s → told ≡ count_by (is_changed s now) (lane_entries s (lane at.bucket false))
  pub repriced : (s : Flat) (slot : ℕ) (item : Item) → Follows old at s → WellFormed (groups at) s → HasLaneSlot old at slot → value_at old slot ≡ Some item → HoldsRepriced new s now slot item
  pub others : (slot : ℕ) → LacksLaneSlot old at slot → value_at new slot ≡ value_at old slot
  pub second : (slot : ℕ) → links_at new 1 slot ≡ links_at old 1 slot
  pub spare : new.spare ≡ old.spare
  pub groups : SameGroups at later
  pub queues : OtherQueuesStay old new at later

-- it changes slots of the lane's kind alone
pub lane_changes : HeldAreLive 0 key_of_item key_precedes → (old new : Arena Item) (at later : Lane) (now turns turned told : ℕ) (b : Bucket) → at.bucket ≡ b → UnitsStand old at → LaneStep old new at later now turns turned told → ChangesKind old new false b
lane_changes live old new at later now turns turned told b is stands step =
    let lacks = λ (slot : ℕ) (none : HasNot old slot false b) (g : ℕ) (within : g < groups at). kind_lacks live old (queue_at at g) false b slot (unit_kind old at b g is stands within) none in
    record {
      values = λ slot none. step.others slot (λ g within. lacks slot none g within);
      queues = λ queue flag c kind unlike. (step.queues queue kind.stands (λ slot has g within. lacks slot (kind_has_not old queue flag false c b slot kind unlike has) g within)).stays;
    }

-- and a refresh of a bound queue those of its kind
pub bound_changes : HeldAreLive 0 key_of_item key_precedes → (old new : Arena Item) (queue later : Queue) (now : ℕ) (b : Bucket) → OfKind old queue true b → Reprices old new queue later now → ChangesKind old new true b
bound_changes live old new queue later now b kind r = record {
  values = λ slot none. r.others slot (kind_lacks live old queue true b slot kind none);
  queues = λ other flag c rival unlike. (r.queues other rival.stands (kinds_apart live old queue other true flag b c kind rival (λ x y. unlike (sym x) (sym y)))).stays;
}

-- a slot whose item is of no such kind, and a free one
pub has_not_by : (arena : Arena Item) (slot : ℕ) (item : Item) (bound : Bool) (b : Bucket) → value_at arena slot ≡ Some item → (IsKind item bound b → ⊥) → HasNot arena slot bound b
has_not_by arena slot item bound b stored unlike other there is = unlike (subst (λ (i : Item). IsKind i bound b) (one_item arena slot other item there stored) is)

pub has_not_free : (arena : Arena Item) (slot : ℕ) (bound : Bool) (b : Bucket) → value_at arena slot ≡ None → HasNot arena slot bound b
has_not_free arena slot bound b free item stored is = none-some item (sym free ∙ stored)

-- a free slot stays free in both
pub free_through : (old mid new : Arena Item) (b : Bucket) (slot : ℕ) → ChangesKind old mid false b → ChangesKind mid new true b → value_at old slot ≡ None → value_at new slot ≡ None
free_through old mid new b slot one two free =
    let here = one.values slot (has_not_free old slot false b free) ∙ free in
    two.values slot (has_not_free mid slot true b here) ∙ here

-- an item of another bucket stays in both
pub item_through : (old mid new : Arena Item) (b : Bucket) (slot : ℕ) (item : Item) → ChangesKind old mid false b → ChangesKind mid new true b → item.thread.bucket ≢ b → value_at old slot ≡ Some item → value_at new slot ≡ Some item
item_through old mid new b slot item one two other stored =
    let here = one.values slot (has_not_by old slot item false b stored (λ is. other is.0)) ∙ stored in
    two.values slot (has_not_by mid slot item true b here (λ is. other is.0)) ∙ here

-- a bound item stays in the first, and an unbound one in the second
pub bound_through : (old mid : Arena Item) (b : Bucket) (slot : ℕ) (item : Item) → ChangesKind old mid false b → is_some item.thread.bound ≡ true → value_at old slot ≡ Some item → value_at mid slot ≡ Some item
bound_through old mid b slot item one bound stored = one.values slot (has_not_by old slot item false b stored (λ is. true≢false (sym bound ∙ is.1))) ∙ stored

pub unbound_through : (mid new : Arena Item) (b : Bucket) (slot : ℕ) (item : Item) → ChangesKind mid new true b → is_some item.thread.bound ≡ false → value_at mid slot ≡ Some item → value_at new slot ≡ Some item
unbound_through mid new b slot item two unbound stored = two.values slot (has_not_by mid slot item true b stored (λ is. true≢false (sym is.1 ∙ unbound))) ∙ stored
