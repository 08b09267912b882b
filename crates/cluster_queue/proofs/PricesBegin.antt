-- Before any bucket is priced anew.
use Rattle.std.proofs.Common.{◌≡◌, ℕ, Bool, true, false, cond, List, [], get_or, map, refl, sym, ◌∙◌, subst}
use Rattle.std.proofs.lemmas.List.Folds.{map_fixed}
use Rattle.sched_base.specs.declared.Bucket.{Bucket}
use Rattle.sched_base.specs.declared.Bucket.TheVariants.{Bg, Df, Fg, Ini, Ui, Ut}
use Rattle.flat_policy.specs.Policy.Queue.{Flat, Queued, lane, lane_entries}
use Rattle.flat_policy.specs.Policy.Refresh.{repriced}
use Rattle.link_arena.specs.Arena.{Arena, links_at, unlinked}
use Rattle.stealing.specs.Foreign.{OffersEntries}
use Rattle.thread_queue.specs.Item.{entry_of}
use Rattle.thread_queue.specs.Laws.{StaysWhereOtherSetChanges}
use Rattle.thread_queue.specs.Queue.{Queue}
use Rattle.thread_queue.specs.declared.item.Item.{Item}
use Rattle.clutch_bucket.specs.Lane.{Lane}
use Rattle.clutch_bucket.specs.Laws.{LanesStay}
use Rattle.cluster_queue.specs.Filling.{OnlyForeignChange}
use Rattle.cluster_queue.specs.Heaps.{BoundFollows, LaneFollows, bound_at, lane_at}
use Rattle.cluster_queue.specs.Refreshing.{CanRefresh, PricedUpTo, is_done, priced_upto}
use Rattle.cluster_queue.specs.declared.heaps.Heaps.{Heaps}
use Rattle.cluster_queue.proofs.Beside.{bound_beside, lane_beside}
use Rattle.cluster_queue.proofs.Filled.{SameLanes, bound_kept, lane_kept, six_kept}
use Rattle.cluster_queue.proofs.PricedEntries.{priced_not}

-- no bucket is below the first that is priced anew but UI, which isn't
pub none_done : (b : Bucket) → is_done 1 b ≡ false
none_done Ui = refl
none_done Fg = refl
none_done Ini = refl
none_done Df = refl
none_done Ut = refl
none_done Bg = refl

pub as_before : (s : Flat) (now : ℕ) (e : Queued) → priced_upto s now 1 e ≡ e
as_before s now e = priced_not s now 1 e (none_done e.facts.bucket)

-- the queue with new prices, and this turn next
abbrev pub with_prices : Flat → ℕ → ℕ → Flat
with_prices s now turn = record s { entries = map (repriced s now) s.entries; last = now; next_turn = turn }

-- no bucket is priced anew once the heaps of foreign threads are cleared
pub prices_begin : StaysWhereOtherSetChanges → LanesStay → (old new : Arena Item) (before later : Heaps) (now turn : ℕ) → SameLanes before later → OnlyForeignChange old new → OffersEntries new later.foreign [] → ((slot : ℕ) → links_at new 1 slot ≡ unlinked)
    → (can : CanRefresh old before) → PricedUpTo old new later can.count now can.s (with_prices can.s now turn) 1
prices_begin queues stay old new before later now turn same kept offers loose can =
    let s = can.s in
    let p = with_prices s now turn in
    record {
      listed = can.listed;
      once = can.arrivals.once;
      prices = record { entries = refl; spans = refl; turns = λ k h. refl; turn_places = refl };
      six = six_kept before later same can.follows.six;
      lanes = λ b. subst (λ (done : Bool). LaneFollows new (lane_at later b) can.count b (cond done p s)) (sym (none_done b))
          (subst (λ (at : Lane). LaneFollows new at can.count b s) (sym (lane_kept before later same b)) (lane_beside queues old new kept stay (lane_at before b) can.count b s (can.follows.lanes b)));
      bound = λ b. (
          let es = lane_entries s (lane b true) in
          let fixed = map_fixed (priced_upto s now 1) es (λ i d within. as_before s now (get_or es i d)) in
          subst (λ (xs : List Queued). BoundFollows new (bound_at later b) xs) (sym fixed)
          (subst (λ (at : Queue). BoundFollows new at es) (sym (bound_kept before later same b)) (bound_beside queues old new kept (bound_at before b) es (can.follows.bound b))));
      foreign = offers;
      values = λ slot item stored. (item, (kept.values slot ∙ stored, sym (as_before s now (entry_of item))));
      free = λ slot none. kept.values slot ∙ none;
      fits = λ slot item stored. can.items slot item (sym (kept.values slot) ∙ stored);
      loose = loose;
      spare = kept.spare;
    }

-- the next turn is free as long as no bucket is priced anew
pub with_turn : (start arena : Arena Item) (heaps : Heaps) (count now turn : ℕ) (s p : Flat) → PricedUpTo start arena heaps count now s p 1 → PricedUpTo start arena heaps count now s (record p { next_turn = turn }) 1
with_turn start arena heaps count now turn s p r =
    let q : Flat = record p { next_turn = turn } in
    record {
      listed = r.listed;
      once = r.once;
      prices = record { entries = r.prices.entries; spans = r.prices.spans; turns = r.prices.turns; turn_places = r.prices.turn_places };
      six = r.six;
      lanes = λ b. subst (λ (done : Bool). LaneFollows arena (lane_at heaps b) count b (cond done q s)) (sym (none_done b))
          (subst (λ (done : Bool). LaneFollows arena (lane_at heaps b) count b (cond done p s)) (none_done b) (r.lanes b));
      bound = r.bound;
      foreign = r.foreign;
      values = r.values;
      free = r.free;
      fits = r.fits;
      loose = r.loose;
      spare = r.spare;
    }
