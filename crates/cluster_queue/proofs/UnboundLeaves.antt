-- An unbound slot leaves the heaps: first that of its preferred cluster, then its unit.
use Rattle.std.proofs.Common.{◌≡◌, ◌≢◌, ℕ, ◌==◌, Bool, true, false, Contains, List, Some, filter, is_some, length, sym, ap, ◌∙◌, subst, inl, inr, arith}
use Rattle.std.specs.Prelude.{slice_index_or, slice_set}
use Rattle.std.proofs.lemmas.Bool.{cases_eq, cond-false, false≢true, ne_eqb}
use Rattle.std.proofs.lemmas.List.{length-set}
use Rattle.sched_base.specs.Bucket.{index}
use Rattle.sched_base.specs.declared.Bucket.{Bucket}
use Rattle.flat_policy.specs.Policy.Moves.{without}
use Rattle.flat_policy.specs.Policy.Queue.{Flat, Queued, clutch_of, clutch_place, in_clutch, in_lane, lane, lane_entries, no_spans}
use Rattle.flat_policy.specs.Policy.Usage.{Spans}
use Rattle.flat_policy.specs.Policy.WellFormed.{WellFormed}
use Rattle.link_arena.specs.Arena.{Arena, links_at, unlinked, value_at}
use Rattle.thread_queue.specs.Item.{entry_of}
use Rattle.thread_queue.specs.declared.item.Item.{Item}
use Rattle.clutch_bucket.specs.Lane.{Follows, Lane, OnlyQueuesChange, OtherQueuesStay, SameGroups, groups, queue_at, unit_of, without_unit_entry}
use Rattle.clutch_bucket.specs.Laws.{SameClutches}
use Rattle.stealing.specs.Foreign.{LacksSlot, OffersEntries, Removes, Roots, times_in}
use Rattle.stealing.specs.Laws.{StaysIn as ForeignStays}
use Rattle.cluster_queue.specs.Heaps.{BoundFollows, HeapsFollow, IsLoose, LaneFollows, bound_at, lane_at}
use Rattle.cluster_queue.specs.declared.heaps.Heaps.{Heaps}
use Rattle.cluster_queue.proofs.Apart.{LanesHold, bound_apart, units_apart}
use Rattle.cluster_queue.proofs.BoundLanes.{bound_stays}
use Rattle.cluster_queue.proofs.Buckets.{cases_bucket}
use Rattle.cluster_queue.proofs.ItemClutches.{other_clutch, places_differ}
use Rattle.cluster_queue.proofs.LeaveLaws.{LeaveLaws}
use Rattle.cluster_queue.proofs.OnlyTurns.{turns_left}
use Rattle.cluster_queue.proofs.OtherLanes.{other_bucket, other_flag}
use Rattle.cluster_queue.proofs.Places.{lane_here, lane_there}
use Rattle.cluster_queue.proofs.SecondLinks.{second_bound, second_hold, second_lane}
use Rattle.cluster_queue.proofs.Splits.{Splits, others_stay, splits}
use Rattle.cluster_queue.proofs.StillFollow.{lane_still}

-- what the units of its lane promise
pub record LaneLeaves (old new : Arena Item) (at later : Lane) (slot : ℕ) (picked : Bool) (turns turned : ℕ) : Type 0 where
  pub free : links_at new 0 slot ≡ unlinked
  pub follows : (s : Flat) (item : Item) → value_at old slot ≡ Some item → turns ≡ s.next_turn → WellFormed (groups at) s → Follows old at s
      → Follows new later (without_unit_entry picked item s) × (turned ≡ (without_unit_entry picked item s).next_turn)
  pub groups : SameGroups at later
  pub arena : OnlyQueuesChange old new
  pub queues : OtherQueuesStay old new at later

module _ (laws : LeaveLaws) (old mid new : Arena Item) (before : Heaps) (foreign : Roots) (slot : ℕ) (item : Item) (at : Lane) (picked : Bool) (turns turned : ℕ) (free : is_some item.thread.bound ≡ false) (stored : value_at old slot ≡ Some item)
    (removes : Removes old mid before.foreign foreign slot) (leaves : LaneLeaves mid new (lane_at before item.thread.bucket) at slot picked turns turned) where
  abbrev later : Heaps
  later = record before { lanes = slice_set before.lanes (index item.thread.bucket) at; foreign = foreign }

  abbrev next : Flat → Flat
  next s = without_unit_entry picked item s

  -- entries that pass a test which the item fails stay
  entries_stay : (s : Flat) (p : Queued → Bool) → Splits s.entries (entry_of item) → p (entry_of item) ≡ false → filter p (next s).entries ≡ filter p s.entries
  entries_stay s p split fails = ap (filter p) (turns_left picked item s).entries ∙ others_stay s.entries (entry_of item) split p fails

  same_clutches : (s : Flat) (other : Lane) → Splits s.entries (entry_of item) → item.thread.bucket ≢ other.bucket → SameClutches other s (next s)
  same_clutches s other split n =
      let e = entry_of item in
      let t = turns_left picked item s in
      record {
        each = λ g inside. record {
          entries = entries_stay s (in_clutch (unit_of other g)) split (other_clutch e (unit_of other g) n);
          spans = ap (λ (us : List Spans). slice_index_or us (clutch_place (unit_of other g)) no_spans) t.spans;
          turn = t.others (unit_of other g) (places_differ (clutch_of item.thread) (unit_of other g) n);
        };
        len = ap (λ (es : List Queued). length es) (entries_stay s (in_lane (lane other.bucket false)) split (other_bucket other.bucket false e n));
        span_places = ap (λ (us : List Spans). length us) t.spans;
        turn_places = t.places;
      }

  foreign_stays : ForeignStays mid new foreign
  foreign_stays = laws.foreign mid new foreign removes.stands (record { values = λ to t held. leaves.arena.values t; links = λ to t held. leaves.arena.second t })

  -- a slot that the later heaps lack, and that is another, was lacked before
  lacked : (t : ℕ) → slot ≢ t → ((to : ℕ) → times_in mid foreign to t ≡ 0) → LacksSlot old before.foreign t
  lacked t n lacks to =
      elim (cases_eq to removes.item.thread.prefer) [
        | inl is ↦ (
            let none = cond-false {A = ℕ} (slot == t) 1 0 (ne_eqb slot t n) in
            let gone = lacks removes.item.thread.prefer in
            subst (λ (m : ℕ). times_in old before.foreign m t ≡ 0) (sym is) (omega (arith, removes.here t, none, gone)))
        | inr other ↦ sym (removes.others to other t) ∙ lacks to
      ]

  loose_left : IsLoose old before → IsLoose new later
  loose_left loose = λ t lacks.
      let mid_lacks : (to : ℕ) → times_in mid foreign to t ≡ 0 = λ to. sym (foreign_stays.slots to t) ∙ lacks to in
      leaves.arena.second t
      ∙ elim (cases_eq slot t) [
        | inl same ↦ subst (λ (m : ℕ). links_at mid 1 m ≡ unlinked) same removes.free
        | inr n ↦ (
            let old_lacks = lacked t n mid_lacks in
            removes.kept.elsewhere t (old_lacks removes.item.thread.prefer) ∙ loose t old_lacks)
      ]

  module _ (count : ℕ) (s : Flat) (formed : WellFormed count s) (f : HeapsFollow old before count s) (listed : Contains s.entries (entry_of item)) (same : turns ≡ s.next_turn) where
    split : Splits s.entries (entry_of item)
    split = splits laws.place s.entries (entry_of item) formed.arrivals_rise listed

    mid_hold : LanesHold mid before
    mid_hold = second_hold laws.queues old mid _ removes.kept before count s f laws.stand

    mid_lane : (b : Bucket) → LaneFollows mid (lane_at before b) count b s
    mid_lane = second_lane laws.queues old mid _ removes.kept before count s f laws.stay

    -- the item's lane
    pub own_left : Follows new at (next s) × (turned ≡ (next s).next_turn)
    own_left =
        let b = item.thread.bucket in
        leaves.follows s item (removes.kept.values slot ∙ stored) same (subst (λ (n : ℕ). WellFormed n s) (sym (mid_lane b).groups) formed) (mid_lane b).follows

    lanes_left : (c : Bucket) → LaneFollows new (lane_at later c) count c (next s)
    lanes_left c =
        let b = item.thread.bucket in
        elim (cases_bucket b c) [
          | inl is ↦ subst (λ (d : Bucket). LaneFollows new (lane_at later d) count d (next s)) is
              (subst (λ (l : Lane). LaneFollows new l count b (next s)) (sym (lane_here before b at f.six))
              (record { bucket = leaves.groups.bucket ∙ (mid_lane b).bucket; groups = leaves.groups.groups ∙ (mid_lane b).groups; follows = own_left.0 }))
          | inr n ↦ subst (λ (l : Lane). LaneFollows new l count c (next s)) (sym (lane_there before b c at n))
              (lane_still mid new leaves.arena.values laws.stay (lane_at before c) count c s (next s)
              (λ g inside. (leaves.queues (queue_at (lane_at before c) g) ((mid_hold.lanes c).units.each g inside).stands (units_apart laws.live mid before mid_hold b c g n inside)).stays)
              (same_clutches s (lane_at before c) split (λ alike. n (alike ∙ (f.lanes c).bucket))) (mid_lane c))
        ]

    bounds_left : (c : Bucket) → BoundFollows new (bound_at later c) (lane_entries (next s) (lane c true))
    bounds_left c =
        subst (BoundFollows new (bound_at before c)) (sym (entries_stay s (in_lane (lane c true)) split (other_flag c true (entry_of item) (λ is. false≢true (sym free ∙ is)))))
        (bound_stays mid new (bound_at before c) (lane_entries s (lane c true)) leaves.arena.values
        (leaves.queues (bound_at before c) (mid_hold.bound c) (bound_apart laws.live mid before mid_hold item.thread.bucket c)).stays
        (second_bound laws.queues old mid _ removes.kept before count s f c))

    pub heaps_left : OffersEntries mid foreign (without item.arrival s.entries) → HeapsFollow new later count (next s)
    heaps_left offers = record {
      six = record { lanes = length-set before.lanes (index item.thread.bucket) at ∙ f.six.lanes; bound = f.six.bound };
      lanes = lanes_left;
      bound = bounds_left;
      foreign = subst (λ (es : List Queued). OffersEntries new foreign es) (sym (turns_left picked item s).entries) (foreign_stays.offers (without item.arrival s.entries) offers);
      loose = loose_left f.loose;
    }
