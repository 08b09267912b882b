-- The calls by which a bucket is priced anew, whose lane and bound queue are read at its index.
use Rattle.std.proofs.Common.{◌≡◌, ◌≢◌, ℕ, ◌+◌, ◌≤◌, sym, ap, ◌∙◌, subst, arith}
use Rattle.std.specs.Prelude.{slice_index_or, slice_set, vec_capacity}
use Rattle.sched_base.specs.Bucket.{index}
use Rattle.sched_base.specs.declared.Bucket.{Bucket}
use Rattle.sched_base.specs.declared.Bucket.TheVariants.{Ui}
use Rattle.link_arena.specs.Arena.{Arena}
use Rattle.pairing_heap.specs.Laws.{HeldAreLive}
use Rattle.thread_queue.specs.Item.{key_of_item, key_precedes}
use Rattle.thread_queue.specs.Queue.{Queue, StandsIn}
use Rattle.thread_queue.specs.declared.item.Item.{Item}
use Rattle.clutch_bucket.specs.Lane.{Lane}
use Rattle.clutch_bucket.specs.Repricing.{Reprices, changed_in}
use Rattle.cluster_queue.specs.Heaps.{bound_at, lane_at}
use Rattle.cluster_queue.specs.Refreshing.{CanPrice, PricesBucket}
use Rattle.cluster_queue.specs.declared.heaps.Heaps.{Heaps}
use Rattle.cluster_queue.proofs.Places.{bound_read, lane_read}
use Rattle.cluster_queue.proofs.PricedLane.{FirstStep, bound_few, bound_stands, lane_told_few}
use Rattle.cluster_queue.proofs.PricedNext.{PriceLaws, prices_bucket}
use Rattle.cluster_queue.proofs.PricedSteps.{LaneStep}

module _ (live : HeldAreLive 0 key_of_item key_precedes) (old mid : Arena Item) (before : Heaps) (at : Lane) (b : Bucket) (now turns turned told i : ℕ) (lane : Lane) (queue : Queue) (is : i ≡ index b) (can : CanPrice old before b now)
    (step : LaneStep old mid (slice_index_or before.lanes i lane) at now turns turned told) where
  lane_is : slice_index_or before.lanes i lane ≡ lane_at before b
  lane_is = lane_read before b i lane can.priced.six is

  queue_is : slice_index_or before.bound i queue ≡ bound_at before b
  queue_is = bound_read before b i queue can.priced.six is

  step_is : LaneStep old mid (lane_at before b) at now turns turned told
  step_is = subst (λ (l : Lane). LaneStep old mid l at now turns turned told) lane_is step

  first : FirstStep can.start old mid before at b can.count now turns turned told can.s can.p
  first = record { live = live; formed = can.formed; priced = can.priced; step = step_is }

  -- the bound queue stands after the lane's refresh
  pub queue_stands : StandsIn mid (slice_index_or before.bound i queue)
  queue_stands = subst (λ (q : Queue). StandsIn mid q) (sym queue_is) (bound_stands first).stands

  -- there are few entries, and so few priorities change
  few : (slice_index_or before.bound i queue).count ≤ 4096
  few = subst (λ (q : Queue). q.count ≤ 4096) (sym queue_is) (bound_few can.start old before b can.count now can.s can.p can.priced can.formed)

  pub told_few : (moved : ℕ) → moved ≤ (slice_index_or before.bound i queue).count → told + moved ≤ 8192
  told_few moved most = let less = lane_told_few first in omega (arith, most, few, less)

  -- both price the bucket anew
  pub prices : PriceLaws → (new : Arena Item) (later : Heaps) (done : Queue) (moved : ℕ) → b ≢ Ui → Reprices mid new (slice_index_or before.bound i queue) done now → moved ≡ changed_in mid (slice_index_or before.bound i queue) now
      → later.lanes ≡ slice_set before.lanes i at → later.bound ≡ slice_set before.bound i done → later.foreign ≡ before.foreign → PricesBucket old new before later b now turns turned (told + moved)
  prices laws new later done moved ui reprices changed lanes bound foreign =
      prices_bucket laws old mid new before later at done b now turns turned told moved ui step_is
      (subst (λ (q : Queue). Reprices mid new q done now) queue_is reprices)
      (changed ∙ ap (λ (q : Queue). changed_in mid q now) queue_is)
      (record {
        lanes = lanes ∙ ap (λ (j : ℕ). slice_set before.lanes j at) is;
        bound = bound ∙ ap (λ (j : ℕ). slice_set before.bound j done) is;
        foreign = foreign;
      })

-- there is room for a list of the bound queue's slots
pub queue_room : (old : Arena Item) (before : Heaps) (b : Bucket) (now i : ℕ) (queue : Queue) → i ≡ index b → CanPrice old before b now → (slice_index_or before.bound i queue).count ≤ vec_capacity before.slots
queue_room old before b now i queue is can =
    subst (λ (q : Queue). q.count ≤ vec_capacity before.slots) (sym (bound_read before b i queue can.priced.six is))
    (let few = bound_few can.start old before b can.count now can.s can.p can.priced can.formed in omega (arith, few, can.room))
