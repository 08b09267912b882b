-- The heaps follow the cluster's queue once all slots are added.
use Rattle.std.proofs.Common.{◌≡◌, Contains, true, sym, ap, ◌∙◌, subst}
use Rattle.sched_base.specs.declared.Bucket.{Bucket}
use Rattle.flat_policy.specs.Policy.Offer.{is_unbound}
use Rattle.flat_policy.specs.Policy.Queue.{Queued, lane, lane_entries}
use Rattle.link_arena.specs.Arena.{Arena}
use Rattle.stealing.specs.Laws.{OffersByUnbound}
use Rattle.thread_queue.specs.Laws.{StaysWhereOtherSetChanges}
use Rattle.thread_queue.specs.Queue.{Queue}
use Rattle.thread_queue.specs.declared.item.Item.{Item}
use Rattle.clutch_bucket.specs.Lane.{Lane}
use Rattle.clutch_bucket.specs.Laws.{LanesStay}
use Rattle.cluster_queue.specs.Filling.{FilledBelow, OnlyForeignChange}
use Rattle.cluster_queue.specs.Heaps.{AreSix, BoundFollows, HeapsFollow, LaneFollows, bound_at, lane_at}
use Rattle.cluster_queue.specs.Refreshing.{CanFill}
use Rattle.cluster_queue.specs.declared.heaps.Heaps.{Heaps}
use Rattle.cluster_queue.proofs.Beside.{bound_beside, lane_beside}
use Rattle.cluster_queue.proofs.LaneGroups.{unbound_stored}

-- the heaps but for those of foreign threads are these
abbrev pub SameLanes : Heaps → Heaps → Type 0
SameLanes before later = later ≡ record before { foreign = later.foreign }

pub lane_kept : (before later : Heaps) → SameLanes before later → (b : Bucket) → lane_at later b ≡ lane_at before b
lane_kept before later same b = ap (λ (heaps : Heaps). lane_at heaps b) same

pub bound_kept : (before later : Heaps) → SameLanes before later → (b : Bucket) → bound_at later b ≡ bound_at before b
bound_kept before later same b = ap (λ (heaps : Heaps). bound_at heaps b) same

pub six_kept : (before later : Heaps) → SameLanes before later → AreSix before → AreSix later
six_kept before later same six = subst AreSix (sym same) (record { lanes = six.lanes; bound = six.bound })

module _ (unbound : OffersByUnbound) (queues : StaysWhereOtherSetChanges) (stay : LanesStay) (old new : Arena Item) (before later : Heaps) (same : SameLanes before later) (kept : OnlyForeignChange old new) (f : FilledBelow new later 4294967296) where
  -- what is added are entries of the queue, and each unbound entry is added
  added_listed : (can : CanFill old before) (e : Queued) → Contains f.done e → Contains can.s.entries e
  added_listed can e c =
      let lies = f.there e c in
      subst (λ (q : Queued). Contains can.s.entries q) lies.entry (can.listed lies.slot lies.item (sym (kept.values lies.slot) ∙ lies.stored))

  unbound_added : (can : CanFill old before) (e : Queued) → is_unbound e.facts ≡ true → Contains can.s.entries e → Contains f.done e
  unbound_added can e free c =
      let b = e.facts.bucket in
      let at = can.lanes b in
      let from = unbound_stored old (lane_at before b) can.s at.follows e c free (sym at.bucket) in
      let stored = kept.values from.0 ∙ from.2.0 in
      subst (λ (q : Queued). Contains f.done q) from.2.1
      (f.back from.0 from.1 (f.small from.0 from.1 stored) stored (ap (λ (q : Queued). is_unbound q.facts) from.2.1 ∙ free))

  pub heaps_filled : (can : CanFill old before) → HeapsFollow new later can.count can.s
  heaps_filled can = record {
    six = six_kept before later same can.six;
    lanes = λ b. subst (λ (at : Lane). LaneFollows new at can.count b can.s) (sym (lane_kept before later same b)) (lane_beside queues old new kept stay (lane_at before b) can.count b can.s (can.lanes b));
    bound = λ b. subst (λ (at : Queue). BoundFollows new at (lane_entries can.s (lane b true))) (sym (bound_kept before later same b))
        (bound_beside queues old new kept (bound_at before b) (lane_entries can.s (lane b true)) (can.bound b));
    foreign = unbound new later.foreign f.done can.s.entries (record { there = λ e free c. added_listed can e c; back = λ e free c. unbound_added can e free c }) f.offers;
    loose = f.loose;
  }
