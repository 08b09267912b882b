-- The laws by which a slot leaves the heaps.
use Rattle.pairing_heap.specs.Laws.{HeldAreLive}
use Rattle.flat_policy.specs.Laws.Clusters.{EntriesLeaveByPlace}
use Rattle.thread_queue.specs.Item.{key_of_item, key_precedes}
use Rattle.thread_queue.specs.Laws.{RemovedIsLacked, RemovedStaysApart, StaysWhereOtherSetChanges}
use Rattle.clutch_bucket.specs.Laws.{LanesStand, LanesStay}
use Rattle.stealing.specs.Laws.{HasListedSlot, OffersByUnbound, StaysWhereSlotsStay}

pub record LeaveLaws : Type 0 where
  pub live : HeldAreLive 0 key_of_item key_precedes
  pub place : EntriesLeaveByPlace
  pub unbound : OffersByUnbound
  pub listed : HasListedSlot
  pub foreign : StaysWhereSlotsStay
  pub gone : RemovedIsLacked
  pub apart : RemovedStaysApart
  pub queues : StaysWhereOtherSetChanges
  pub stand : LanesStand
  pub stay : LanesStay
