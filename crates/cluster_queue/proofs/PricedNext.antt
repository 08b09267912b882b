-- A bucket priced anew: all that is so of the heaps then, and how the code's calls say it.
use Rattle.std.proofs.Common.{◌≡◌, ◌≢◌, ℕ, ◌+◌, true, cond, List, [], length, map, sym, ap, ap₂, ◌∙◌, subst}
use Rattle.std.specs.Prelude.{slice_set}
use Rattle.std.proofs.lemmas.List.{length-set}
use Rattle.sched_base.specs.Bucket.{index}
use Rattle.sched_base.specs.declared.Bucket.{Bucket}
use Rattle.sched_base.specs.declared.Bucket.TheVariants.{Ui}
use Rattle.flat_policy.specs.Laws.Refreshing.{with_turns_of}
use Rattle.flat_policy.specs.Policy.Queue.{Flat, lane, lane_entries}
use Rattle.link_arena.specs.Arena.{Arena}
use Rattle.pairing_heap.specs.Laws.{HeldAreLive}
use Rattle.thread_queue.specs.Item.{key_of_item, key_precedes}
use Rattle.thread_queue.specs.Queue.{Queue}
use Rattle.thread_queue.specs.declared.item.Item.{Item}
use Rattle.clutch_bucket.specs.Lane.{Lane}
use Rattle.clutch_bucket.specs.Laws.{BoundLanesArePriced, LanesStay}
use Rattle.clutch_bucket.specs.Repricing.{Reprices, changed_in}
use Rattle.stealing.specs.Foreign.{OffersEntries, Roots}
use Rattle.stealing.specs.Laws.{LacksWhereNone, StaysWhereSlotsStay}
use Rattle.cluster_queue.specs.Heaps.{BoundFollows, LaneFollows, bound_at, lane_at}
use Rattle.cluster_queue.specs.Refreshing.{PricedUpTo, PricesBucket, is_done, priced_upto}
use Rattle.cluster_queue.specs.declared.heaps.Heaps.{Heaps}
use Rattle.cluster_queue.proofs.PricedBucket.{BothSteps, bound_done, lanes_now, queues_now}
use Rattle.cluster_queue.proofs.PricedLane.{FirstStep, lane_told, takes_turns}
use Rattle.cluster_queue.proofs.PricedSteps.{LaneStep}
use Rattle.cluster_queue.proofs.PricedTurns.{prices_next}
use Rattle.cluster_queue.proofs.PricedValues.{fits_now, foreign_now, items_now}

-- what the laws say that the proof stands on
pub record PriceLaws : Type 0 where
  pub live : HeldAreLive 0 key_of_item key_precedes
  pub bound : BoundLanesArePriced
  pub none : LacksWhereNone
  pub foreign : StaysWhereSlotsStay
  pub stay : LanesStay

-- the heaps with the lane and the bound queue of a bucket set
pub record SetsBucket (before later : Heaps) (b : Bucket) (at : Lane) (queue : Queue) : Type 0 where
  pub lanes : later.lanes ≡ slice_set before.lanes (index b) at
  pub bound : later.bound ≡ slice_set before.bound (index b) queue
  pub foreign : later.foreign ≡ before.foreign

-- the buckets up to this one are priced anew
pub priced_next : PriceLaws → {start old mid new : Arena Item} {before : Heaps} {at : Lane} {queue : Queue} {b : Bucket} {count now turns turned told : ℕ} {s p : Flat} → BothSteps start old mid new before at queue b count now turns turned told s p
    → (later : Heaps) → SetsBucket before later b at queue → turns ≡ p.next_turn → PricedUpTo start new later count now s (with_turns_of count s p b) (index b + 1)
priced_next laws {start} {old} {mid} {new} {before} {at} {queue} {b} {count} {now} {turns} {turned} {told} {s} {p} o later sets turn =
    let was = o.first.priced in
    let items = items_now o in
    record {
      listed = was.listed;
      once = was.once;
      prices = prices_next count now s p b o.ui was.prices;
      six = record {
        lanes = ap (λ (ls : List Lane). length ls) sets.lanes ∙ (length-set before.lanes (index b) at ∙ was.six.lanes);
        bound = ap (λ (qs : List Queue). length qs) sets.bound ∙ (length-set before.bound (index b) queue ∙ was.six.bound);
      };
      lanes = λ c. subst (λ (ls : List Lane). LaneFollows new (lane_at (record later { lanes = ls }) c) count c (cond (is_done (index b + 1) c) (with_turns_of count s p b) s)) (sym sets.lanes) (lanes_now o laws.stay turn c);
      bound = λ c. subst (λ (qs : List Queue). BoundFollows new (bound_at (record later { bound = qs }) c) (map (priced_upto s now (index b + 1)) (lane_entries s (lane c true)))) (sym sets.bound) (queues_now o c);
      foreign = subst (λ (roots : Roots). OffersEntries new roots []) (sym sets.foreign) (foreign_now o laws.none laws.foreign);
      values = items.values;
      free = items.free;
      fits = fits_now o;
      loose = λ slot. o.step.second slot ∙ (o.first.step.second slot ∙ was.loose slot);
      spare = o.step.spare ∙ (o.first.step.spare ∙ was.spare);
    }

-- so a refresh of its lane and then of its bound queue prices the bucket anew
pub prices_bucket : PriceLaws → (old mid new : Arena Item) (before later : Heaps) (at : Lane) (queue : Queue) (b : Bucket) (now turns turned told moved : ℕ) → b ≢ Ui
    → LaneStep old mid (lane_at before b) at now turns turned told → Reprices mid new (bound_at before b) queue now → moved ≡ changed_in mid (bound_at before b) now → SetsBucket before later b at queue
    → PricesBucket old new before later b now turns turned (told + moved)
prices_bucket laws old mid new before later at queue b now turns turned told moved ui one two changed sets = λ start count s p formed priced turn. (
    let first : FirstStep start old mid before at b count now turns turned told s p = record { live = laws.live; formed = formed; priced = priced; step = one } in
    let both : BothSteps start old mid new before at queue b count now turns turned told s p = record { first = first; bounds = laws.bound; ui = ui; step = two } in (
      priced_next laws both later sets turn,
      (takes_turns first turn).1,
      ap₂ (λ (m n : ℕ). m + n) (lane_told first) (changed ∙ (bound_done both).changed),
    ))
