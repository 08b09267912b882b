-- After both lanes of a bucket are priced anew: what each slot holds.
use Rattle.std.proofs.Common.{◌≡◌, ℕ, ◌+◌, true, false, Contains, [], Some, is_some, sym, ap, ◌∙◌, subst, inl, inr, arith}
use Rattle.std.proofs.lemmas.Bool.{cases_Bool}
use Rattle.sched_base.specs.Bucket.{index}
use Rattle.sched_base.specs.declared.Bucket.{Bucket}
use Rattle.flat_policy.specs.Policy.Queue.{Flat, Queued, in_lane, lane, lane_entries}
use Rattle.flat_policy.specs.Policy.Refresh.{repriced}
use Rattle.link_arena.specs.Arena.{Arena, value_at}
use Rattle.thread_queue.specs.Item.{entry_of}
use Rattle.thread_queue.specs.Queue.{Queue}
use Rattle.thread_queue.specs.declared.item.Item.{Item}
use Rattle.clutch_bucket.specs.Lane.{HoldsRepriced, Lane}
use Rattle.stealing.specs.Foreign.{OffersEntries}
use Rattle.stealing.specs.Laws.{LacksWhereNone, StaysWhereSlotsStay}
use Rattle.cluster_queue.specs.Heaps.{AreItems, bound_at, lane_at}
use Rattle.cluster_queue.specs.Refreshing.{AllOnce, HoldsPriced, is_done}
use Rattle.cluster_queue.specs.declared.heaps.Heaps.{Heaps}
use Rattle.cluster_queue.proofs.Buckets.{cases_bucket, in_lane_from}
use Rattle.cluster_queue.proofs.PricedEntries.{own_done, own_not_done, priced_not, priced_now, priced_same}
use Rattle.cluster_queue.proofs.PricedItems.{ItemsPriced, bound_has, fits_still, item_alike, item_repriced, lane_has, once_still}
use Rattle.cluster_queue.proofs.PricedKinds.{IsKind}
use Rattle.cluster_queue.proofs.PricedBucket.{BothSteps, bound_changed, bound_done}
use Rattle.cluster_queue.proofs.PricedLane.{bound_waits, formed_at, lane_kind, queue_kept, waits}
use Rattle.cluster_queue.proofs.PricedSteps.{bound_through, free_through, item_through, unbound_through}
use Rattle.cluster_queue.proofs.Slots.{has_after}
use Rattle.cluster_queue.proofs.Members.{filter_has}

module _ {start old mid new : Arena Item} {before : Heaps} {at : Lane} {queue : Queue} {b : Bucket} {count now turns turned told : ℕ} {s p : Flat} (o : BothSteps start old mid new before at queue b count now turns turned told s p) where
  items_before : ItemsPriced start old s now (index b)
  items_before = record { values = o.first.priced.values; free = o.first.priced.free }

  once_before : AllOnce old
  once_before = once_still start old s now (index b) items_before o.first.priced.once

  -- an item of the bucket, bound or not, gets its entry priced anew
  bound_holds : (slot : ℕ) (item : Item) → value_at old slot ≡ Some item → Contains s.entries (entry_of item) → IsKind item true b → HoldsRepriced new s now slot item
  bound_holds slot item stored listed kind =
      let member = filter_has (in_lane (lane b true)) s.entries (entry_of item) listed (in_lane_from b true (entry_of item) kind.0 kind.1) in
      let has = bound_has old (bound_at before b) (lane_entries s (lane b true)) slot item (bound_waits start old before b count now s p o.first.priced) once_before stored member in
      (bound_done o).holds slot item (has_after old mid (bound_at before b) slot (queue_kept o.first b).stays has) (bound_through old mid b slot item (lane_kind o.first) kind.1 stored)

  unbound_holds : (slot : ℕ) (item : Item) → value_at old slot ≡ Some item → Contains s.entries (entry_of item) → IsKind item false b → HoldsRepriced new s now slot item
  unbound_holds slot item stored listed kind =
      let has = lane_has old (lane_at before b) count slot b s item (waits o.first) once_before stored kind (o.first.priced.fits slot item stored).group listed in
      let later = o.first.step.repriced s slot item (waits o.first).follows (formed_at o.first) has stored in
      let unbound = ap is_some (item_repriced s now item later.0 later.1.1).bound ∙ kind.1 in
      (later.0, (unbound_through mid new b slot later.0 (bound_changed o) unbound later.1.0, later.1.1))

  bucket_holds : (slot : ℕ) (item : Item) → value_at old slot ≡ Some item → Contains s.entries (entry_of item) → item.thread.bucket ≡ b → HoldsRepriced new s now slot item
  bucket_holds slot item stored listed is =
      elim (cases_Bool (is_some item.thread.bound)) [
        | inl bound ↦ bound_holds slot item stored listed (is, bound)
        | inr unbound ↦ unbound_holds slot item stored listed (is, unbound)
      ]

  -- so each item's entry is priced anew where its bucket is done
  value_now : (slot : ℕ) (item : Item) → value_at start slot ≡ Some item → HoldsPriced new s now (index b + 1) slot item
  value_now slot item stored =
      let was = o.first.priced.values slot item stored in
      let alike = item_alike s now (index b) item was.0 was.1.1 in
      elim (cases_bucket item.thread.bucket b) [
        | inl is ↦ (
            let same : entry_of was.0 ≡ entry_of item = was.1.1 ∙ priced_not s now (index b) (entry_of item) (ap (is_done (index b)) is ∙ own_not_done b) in
            let later = bucket_holds slot was.0 was.1.0 (subst (λ (e : Queued). Contains s.entries e) (sym same) (o.first.priced.listed slot item stored)) (alike.bucket ∙ is) in
            (later.0, (later.1.0, later.1.1 ∙ (ap (repriced s now) same ∙ sym (priced_now s now (index b + 1) (entry_of item) (ap (is_done (index b + 1)) is ∙ own_done b o.ui))))))
        | inr n ↦ (was.0, (item_through old mid new b slot was.0 (lane_kind o.first) (bound_changed o) (λ e. n (sym alike.bucket ∙ e)) was.1.0, was.1.1 ∙ sym (priced_same s now b (entry_of item) n)))
      ]

  pub items_now : ItemsPriced start new s now (index b + 1)
  items_now = record { values = value_now; free = λ slot free. free_through old mid new b slot (lane_kind o.first) (bound_changed o) (o.first.priced.free slot free) }

  pub fits_now : AreItems new count
  fits_now = fits_still start old new count s now (index b) (index b + 1) o.first.formed o.first.priced.listed items_before o.first.priced.fits items_now

  -- no heap of foreign threads has a slot still
  pub foreign_now : LacksWhereNone → StaysWhereSlotsStay → OffersEntries new before.foreign []
  foreign_now none law =
      (law old new before.foreign o.first.priced.foreign.stands (record {
        values = λ to slot has. absurd (omega (arith, has, none old before.foreign o.first.priced.foreign slot to));
        links = λ to slot has. absurd (omega (arith, has, none old before.foreign o.first.priced.foreign slot to));
      })).offers [] o.first.priced.foreign
