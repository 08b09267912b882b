-- A bound slot leaves the heaps.
use Rattle.std.proofs.Common.{◌≡◌, ℕ, Bool, true, false, Contains, List, Some, is_some, length, refl, sym, ap, ◌∙◌, subst, inl, inr, arith}
use Rattle.std.specs.Prelude.{slice_set}
use Rattle.std.proofs.lemmas.Bool.{both_ways, cond-true, not_from_true, true≢false}
use Rattle.std.proofs.lemmas.List.{length-set}
use Rattle.sched_base.specs.Bucket.{index}
use Rattle.sched_base.specs.declared.Bucket.{Bucket}
use Rattle.flat_policy.specs.Policy.Moves.{without}
use Rattle.flat_policy.specs.Policy.Offer.{is_unbound}
use Rattle.flat_policy.specs.Policy.Queue.{Flat, Queued, in_clutch, in_lane, lane, lane_entries}
use Rattle.flat_policy.specs.Policy.WellFormed.{ArrivalsRise}
use Rattle.link_arena.specs.Arena.{Arena, value_at}
use Rattle.thread_queue.specs.Item.{entry_of}
use Rattle.thread_queue.specs.Laws.{QueuesApart, StaysIn}
use Rattle.thread_queue.specs.Queue.{Queue, Removes, StandsIn}
use Rattle.thread_queue.specs.declared.item.Item.{Item}
use Rattle.clutch_bucket.specs.Lane.{queue_at, unit_of, without_unit_entry}
use Rattle.clutch_bucket.specs.Laws.{SameClutches}
use Rattle.stealing.specs.Laws.{SameUnbound, StaysIn as ForeignStays}
use Rattle.cluster_queue.specs.Heaps.{BoundFollows, HeapsFollow, LaneFollows, bound_at, lane_at}
use Rattle.cluster_queue.specs.Moves.{CanLeave, Leaves, without_item}
use Rattle.cluster_queue.specs.declared.heaps.Heaps.{Heaps}
use Rattle.cluster_queue.proofs.Apart.{LanesHold, bounds_apart, holds_follow, lane_lacks_bound}
use Rattle.cluster_queue.proofs.BoundLeft.{bound_left}
use Rattle.cluster_queue.proofs.BoundHeld.{bound_lacks}
use Rattle.cluster_queue.proofs.BoundLanes.{bound_stays}
use Rattle.cluster_queue.proofs.Buckets.{cases_bucket, in_lane_from}
use Rattle.cluster_queue.proofs.ItemClutches.{no_clutch}
use Rattle.cluster_queue.proofs.LeaveLaws.{LeaveLaws}
use Rattle.cluster_queue.proofs.OtherLanes.{other_bucket, other_flag}
use Rattle.cluster_queue.proofs.Places.{bound_here, bound_there}
use Rattle.cluster_queue.proofs.Slots.{one_item}
use Rattle.cluster_queue.proofs.Splits.{Splits, left_member, member_stays, others_stay, splits}
use Rattle.cluster_queue.proofs.StillFollow.{lane_still}

module _ (laws : LeaveLaws) (old new : Arena Item) (before : Heaps) (slot : ℕ) (item : Item) (queue : Queue) (bound : is_some item.thread.bound ≡ true) (stored : value_at old slot ≡ Some item) (removes : Removes old new (bound_at before item.thread.bucket) queue slot) where
  abbrev later : Heaps
  later = record before { bound = slice_set before.bound (index item.thread.bucket) queue }

  abbrev shrunk : Flat → Flat
  shrunk s = record s { entries = without item.arrival s.entries }

  -- a queue that shares no slot with the bound queue stays
  others : (hold : LanesHold old before) (other : Queue) → StandsIn old other → QueuesApart old (bound_at before item.thread.bucket) other → StaysIn old new other
  others hold other stands free = (laws.apart old new (bound_at before item.thread.bucket) queue slot (hold.bound item.thread.bucket) removes other stands free).stays

  same_clutches : (s : Flat) (c : Bucket) → Splits s.entries (entry_of item) → SameClutches (lane_at before c) s (shrunk s)
  same_clutches s c at =
      let e = entry_of item in
      record {
        each = λ g inside. record {
          entries = others_stay s.entries e at (in_clutch (unit_of (lane_at before c) g)) (no_clutch e (unit_of (lane_at before c) g) bound);
          spans = refl;
          turn = refl;
        };
        len = ap (λ (es : List Queued). length es) (others_stay s.entries e at (in_lane (lane (lane_at before c).bucket false)) (other_flag (lane_at before c).bucket false e (λ is. true≢false (sym bound ∙ is))));
        span_places = refl;
        turn_places = refl;
      }

  same_unbound : (s : Flat) → Splits s.entries (entry_of item) → SameUnbound s.entries (without item.arrival s.entries)
  same_unbound s at = record {
    there = λ x free c. elim (member_stays s.entries (entry_of item) at x c) [
      | inl is ↦ absurd (both_ways (is_unbound item.thread) (not_from_true (is_some item.thread.bound) bound) (ap (λ (q : Queued). is_unbound q.facts) is ∙ free))
      | inr d ↦ d
    ];
    back = λ x free c. (left_member item.arrival s.entries x c).0;
  }

  module _ (count : ℕ) (s : Flat) (rise : ArrivalsRise s.entries) (f : HeapsFollow old before count s) (listed : Contains s.entries (entry_of item)) where
    at : Splits s.entries (entry_of item)
    at = splits laws.place s.entries (entry_of item) rise listed

    hold : LanesHold old before
    hold = holds_follow old before count s f

    lanes_left : (c : Bucket) → LaneFollows new (lane_at later c) count c (shrunk s)
    lanes_left c =
        lane_still old new removes.takes.kept.values laws.stay (lane_at before c) count c s (shrunk s)
        (λ g inside. others hold (queue_at (lane_at before c) g) ((hold.lanes c).units.each g inside).stands (λ t has. lane_lacks_bound laws.live old before hold item.thread.bucket c t has g inside))
        (same_clutches s c at) (f.lanes c)

    bounds_left : (c : Bucket) → BoundFollows new (bound_at later c) (lane_entries (shrunk s) (lane c true))
    bounds_left c =
        let e = entry_of item in
        let b = item.thread.bucket in
        elim (cases_bucket b c) [
          | inl is ↦ subst (λ (d : Bucket). BoundFollows new (bound_at later d) (lane_entries (shrunk s) (lane d true))) is
              (subst (λ (q : Queue). BoundFollows new q (lane_entries (shrunk s) (lane b true))) (sym (bound_here before b queue f.six))
              (bound_left old new (bound_at before b) queue slot removes item (in_lane (lane b true)) s.entries at (in_lane_from b true e refl bound)
              (laws.gone old new (bound_at before b) queue slot (hold.bound b) removes) stored (f.bound b)))
          | inr n ↦ subst (λ (q : Queue). BoundFollows new q (lane_entries (shrunk s) (lane c true))) (sym (bound_there before b c queue n))
              (subst (BoundFollows new (bound_at before c)) (sym (others_stay s.entries e at (in_lane (lane c true)) (other_bucket c true e n)))
              (bound_stays old new (bound_at before c) (lane_entries s (lane c true)) removes.takes.kept.values
              (others hold (bound_at before c) (hold.bound c) (λ t has. bounds_apart laws.live old before hold b c t n has)) (f.bound c)))
        ]

    foreign_stays : ForeignStays old new before.foreign
    foreign_stays = laws.foreign old new before.foreign f.foreign.stands (record {
      values = λ to t held. removes.takes.kept.values t;
      links = λ to t held. removes.takes.kept.other_set 1 t (λ same. omega (arith, same));
    })

    pub heaps_left : HeapsFollow new later count (shrunk s)
    heaps_left = record {
      six = record { lanes = f.six.lanes; bound = length-set before.bound (index item.thread.bucket) queue ∙ f.six.bound };
      lanes = lanes_left;
      bound = bounds_left;
      foreign = laws.unbound new before.foreign s.entries (without item.arrival s.entries) (same_unbound s at) (foreign_stays.offers s.entries f.foreign);
      loose = λ t lacks. removes.takes.kept.other_set 1 t (λ same. omega (arith, same)) ∙ f.loose t (λ to. sym (foreign_stays.slots to t) ∙ lacks to);
    }

pub leaves_bound : LeaveLaws → (old new : Arena Item) (before : Heaps) (slot : ℕ) (queue : Queue) (picked : Bool) (turns : ℕ) (can : CanLeave old before slot) → is_some can.item.thread.bound ≡ true → Removes old new (bound_at before can.item.thread.bucket) queue slot
    → Leaves old new before (record before { bound = slice_set before.bound (index can.item.thread.bucket) queue }) slot picked turns turns
leaves_bound laws old new before slot queue picked turns can bound removes =
    let item = can.item in
    let later : Heaps = record before { bound = slice_set before.bound (index item.thread.bucket) queue } in
    let left : (s : Flat) → record s { entries = without item.arrival s.entries } ≡ without_item picked item s
    = λ s. sym (cond-true (is_some item.thread.bound) (record s { entries = without item.arrival s.entries }) (without_unit_entry picked item s) bound) in
    let one : (other : CanLeave old before slot) → item ≡ other.item = λ other. one_item old slot item other.item can.stored other.stored in
    record {
      follows = λ other same.
          subst (λ (i : Item). HeapsFollow new later other.count (without_item picked i other.s)) (one other)
          (subst (HeapsFollow new later other.count) (left other.s)
          (heaps_left laws old new before slot item queue bound can.stored removes other.count other.s other.formed.arrivals_rise other.follows
          (subst (λ (i : Item). Contains other.s.entries (entry_of i)) (sym (one other)) other.listed)));
      turn = λ other same. same ∙ ap (λ (x : Flat). x.next_turn) (left other.s ∙ ap (λ (i : Item). without_item picked i other.s) (one other));
      first = removes.takes.free;
      second = removes.takes.kept.other_set 1 slot (λ same. omega (arith, same)) ∙ can.follows.loose slot (bound_lacks old before can.count can.s slot item can.follows can.stored bound);
      values = removes.takes.kept.values;
      spare = removes.takes.kept.spare;
      room = refl;
    }
