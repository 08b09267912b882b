-- The heaps refreshed: cleared of foreign threads, all buckets priced anew, and filled again.
use Rattle.std.proofs.Common.{◌≡◌, ℕ, ◌≤◌, [], vec_capacity, refl, sym, ap, ◌∙◌, subst}
use Rattle.sched_base.specs.declared.Bucket.TheVariants.{Fg}
use Rattle.flat_policy.specs.Laws.Refreshing.{RefreshesByBucket}
use Rattle.flat_policy.specs.Policy.Queue.{Flat}
use Rattle.flat_policy.specs.Policy.Refresh.{refreshed}
use Rattle.link_arena.specs.Arena.{Arena, value_at}
use Rattle.stealing.specs.Foreign.{Clears, OffersEntries, times_anywhere}
use Rattle.thread_queue.specs.Laws.{StaysWhereOtherSetChanges}
use Rattle.thread_queue.specs.declared.item.Item.{Item}
use Rattle.clutch_bucket.specs.Laws.{LanesStay}
use Rattle.cluster_queue.specs.Heaps.{HeapsFollow}
use Rattle.cluster_queue.specs.PricingAll.{PricesBuckets, with_all_turns}
use Rattle.cluster_queue.specs.Refreshing.{AreRepriced, CanFill, CanPrice, CanRefresh, PricedUpTo, RefreshesHeaps}
use Rattle.cluster_queue.specs.declared.heaps.Heaps.{Heaps}
use Rattle.cluster_queue.proofs.Beside.{foreign_links}
use Rattle.cluster_queue.proofs.ChangedByLane.{changed_by_lanes}
use Rattle.cluster_queue.proofs.Filled.{SameLanes}
use Rattle.cluster_queue.proofs.ForeignCleared.{all_unlinked}
use Rattle.cluster_queue.proofs.PricesBegin.{prices_begin, with_prices}
use Rattle.cluster_queue.proofs.PricesDone.{can_fill, items_done}

module _ (queues : StaysWhereOtherSetChanges) (stay : LanesStay) (old mid : Arena Item) (before cleared : Heaps) (now turns : ℕ) (same : SameLanes before cleared) (clears : Clears old mid before.foreign) (offers : OffersEntries mid cleared.foreign []) where
  cleared_begins : (can : CanRefresh old before) → PricedUpTo old mid cleared can.count now can.s (with_prices can.s now turns) 1
  cleared_begins can =
      prices_begin queues stay old mid before cleared now turns same (foreign_links old mid (times_anywhere old before.foreign) clears.kept) offers
      (all_unlinked old mid before.foreign can.follows.foreign.stands clears can.follows.loose) can

  -- then the first bucket can be priced
  pub can_begin : CanRefresh old before → CanPrice mid cleared Fg now
  can_begin can = record {
    count = can.count;
    start = old;
    s = can.s;
    p = with_prices can.s now turns;
    formed = can.formed;
    priced = cleared_begins can;
    room = subst (λ (h : Heaps). 4096 ≤ vec_capacity h.slots) (sym same) can.room;
  }

  -- all buckets are priced anew
  module _ (new : Arena Item) (priced : Heaps) (turned changed : ℕ) (prices : PricesBuckets mid new cleared priced now turns turned changed) where
    pub all_done : (can : CanRefresh old before) → PricedUpTo old new priced can.count now can.s (with_all_turns can.count can.s (with_prices can.s now turns)) 6
    all_done can = (prices old can.count can.s (with_prices can.s now turns) can.formed (cleared_begins can) refl).0

    abbrev pub can_fill_then : CanRefresh old before → CanFill new priced
    can_fill_then can = can_fill stay old new priced can.count can.next now can.s (with_all_turns can.count can.s (with_prices can.s now turns)) can.arrivals (all_done can)

    -- and the heaps of foreign threads are filled
    module _ (by_bucket : RefreshesByBucket) (last : Arena Item) (filled : Heaps) (again : SameLanes priced filled) (follows : (can : CanFill new priced) → HeapsFollow last filled can.count can.s) (values : (slot : ℕ) → value_at last slot ≡ value_at new slot) where
      queue_then : (can : CanRefresh old before) → turns ≡ can.s.next_turn → with_all_turns can.count can.s (with_prices can.s now turns) ≡ refreshed can.count can.s now
      queue_then can turn = ap (λ (t : ℕ). with_all_turns can.count can.s (with_prices can.s now t)) turn ∙ sym (by_bucket can.count can.s now)

      items_then : (can : CanRefresh old before) → AreRepriced old last can.s now
      items_then can =
          let items = items_done old new priced can.count now can.s (with_all_turns can.count can.s (with_prices can.s now turns)) (all_done can) in
          record {
            items = λ slot item stored. (let h = items.items slot item stored in (h.0, (values slot ∙ h.1.0, h.1.1)));
            free = λ slot none. values slot ∙ items.free slot none;
          }

      pub heaps_refreshed : CanRefresh old before → last.spare ≡ new.spare → vec_capacity priced.slots ≡ vec_capacity cleared.slots → RefreshesHeaps old last before filled now turns turned changed
      heaps_refreshed some spare room = record {
        follows = λ can turn. record {
          follows = subst (λ (q : Flat). HeapsFollow last filled can.count q) (queue_then can turn) (follows (can_fill_then can));
          items = items_then can;
          fits = λ slot item stored. (all_done can).fits slot item (sym (values slot) ∙ stored);
        };
        turn = λ can turn. (prices old can.count can.s (with_prices can.s now turns) can.formed (cleared_begins can) refl).1 ∙ ap (λ (q : Flat). q.next_turn) (queue_then can turn);
        count = λ can turn. (prices old can.count can.s (with_prices can.s now turns) can.formed (cleared_begins can) refl).2 ∙ changed_by_lanes can.s now;
        spare = spare ∙ (all_done some).spare;
        room = ap (λ (h : Heaps). vec_capacity h.slots) again ∙ (room ∙ ap (λ (h : Heaps). vec_capacity h.slots) same);
      }
