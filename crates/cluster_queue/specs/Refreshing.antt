-- How the heaps are priced anew, bucket by bucket. It serves private calls only.
use Rattle.std.specs.Prelude.{Bool, Contains, None, Some, [], count_by, false, if◌then◌else◌, length, map, nat_lt, not, true, vec_capacity, ℕ, ◌&&◌, ◌+◌, ◌==◌, ◌≡◌, ◌≤◌}
use Rattle.sched_base.specs.Bucket.{index}
use Rattle.sched_base.specs.Limits.{most_threads}
use Rattle.sched_base.specs.declared.Bucket.{Bucket}
use Rattle.flat_policy.specs.Laws.Refreshing.{with_turns_of}
use Rattle.flat_policy.specs.Policy.Queue.{Clutch, Flat, Queued, lane, lane_entries, turn_of}
use Rattle.flat_policy.specs.Policy.Refresh.{refreshed, repriced, repriced_count}
use Rattle.flat_policy.specs.Policy.WellFormed.{WellFormed}
use Rattle.link_arena.specs.Arena.{Arena, links_at, unlinked, value_at}
use Rattle.thread_queue.specs.Item.{entry_of}
use Rattle.thread_queue.specs.declared.item.Item.{Item}
use Rattle.clutch_bucket.specs.Lane.{HoldsRepriced}
use Rattle.stealing.specs.Foreign.{OffersEntries}
use Rattle.cluster_queue.specs.Heaps.{AreItems, AreSix, BoundFollows, HeapsFollow, LaneFollows, bound_at, lane_at}
use Rattle.cluster_queue.specs.Rows.{ArrivalsApart}
use Rattle.cluster_queue.specs.declared.heaps.Heaps.{Heaps}

-- the entry of each item in the arena is one of the queue's
abbrev pub AllListed : Arena Item → Flat → Type 0
AllListed arena s = (slot : ℕ) (item : Item) → value_at arena slot ≡ Some item → Contains s.entries (entry_of item)

-- the heaps follow some well-formed queue, which has all items of the arena, each in range and with an arrival of its own, and there is room for a list of slots
pub record CanRefresh (arena : Arena Item) (heaps : Heaps) : Type 0 where
  pub count : ℕ
  pub next : ℕ
  pub s : Flat
  pub formed : WellFormed count s
  pub follows : HeapsFollow arena heaps count s
  pub items : AreItems arena count
  pub listed : AllListed arena s
  pub arrivals : ArrivalsApart arena next
  pub room : most_threads ≤ vec_capacity heaps.slots

-- each slot's item is the entry priced anew of the item that it held, and each free slot is free
pub record AreRepriced (old new : Arena Item) (s : Flat) (now : ℕ) : Type 0 where
  pub items : (slot : ℕ) (item : Item) → value_at old slot ≡ Some item → HoldsRepriced new s now slot item
  pub free : (slot : ℕ) → value_at old slot ≡ None → value_at new slot ≡ None

-- the heaps follow the queue after a refresh, whose entries' items were priced anew where they lay
pub record Refreshes (old new : Arena Item) (later : Heaps) (count now : ℕ) (s : Flat) : Type 0 where
  pub follows : HeapsFollow new later count (refreshed count s now)
  pub items : AreRepriced old new s now
  pub fits : AreItems new count

-- the heaps are refreshed at a moment, and so many priorities changed; spare slots and the room for a list stay
pub record RefreshesHeaps (old new : Arena Item) (before later : Heaps) (now turns turned changed : ℕ) : Type 0 where
  pub follows : (can : CanRefresh old before) → turns ≡ can.s.next_turn → Refreshes old new later can.count now can.s
  pub turn : (can : CanRefresh old before) → turns ≡ can.s.next_turn → turned ≡ (refreshed can.count can.s now).next_turn
  pub count : (can : CanRefresh old before) → turns ≡ can.s.next_turn → changed ≡ repriced_count can.s now
  pub spare : new.spare ≡ old.spare
  pub room : vec_capacity later.slots ≡ vec_capacity before.slots

-- whether the entries of a bucket are priced anew, once those of the buckets below an index are; those of UI never are
abbrev pub is_done : ℕ → Bucket → Bool
is_done upto b = nat_lt 0 (index b) && nat_lt (index b) upto

-- an entry then
abbrev pub priced_upto : Flat → ℕ → ℕ → Queued → Queued
priced_upto s now upto e = if is_done upto e.facts.bucket then repriced s now e else e

-- whether pricing anew changes an entry's priority
abbrev pub is_changed : Flat → ℕ → Queued → Bool
is_changed s now e = not ((repriced s now e).pri == e.pri)

-- how many priorities of a bucket's entries change
abbrev pub changed_in_bucket : Flat → ℕ → Bucket → ℕ
changed_in_bucket s now b =
    count_by (is_changed s now) (lane_entries s (lane b false)) + count_by (is_changed s now) (lane_entries s (lane b true))

-- the slot's item is then the entry of the item that it held
abbrev pub HoldsPriced : Arena Item → Flat → ℕ → ℕ → ℕ → Item → Type 0
HoldsPriced new s now upto slot item = (later : Item) × ((value_at new slot ≡ Some later) × (entry_of later ≡ priced_upto s now upto (entry_of item)))

-- a queue has the entries of another priced anew, and the turns of its clutch buckets but for those of the buckets below an index
pub record HasPrices (s p : Flat) (now upto : ℕ) : Type 0 where
  pub entries : p.entries ≡ map (repriced s now) s.entries
  pub spans : p.spans ≡ s.spans
  pub turns : (k : Clutch) → is_done upto k.bucket ≡ false → turn_of p k ≡ turn_of s k
  pub turn_places : length p.turns ≡ length s.turns

-- no two slots of the arena hold items of one arrival
abbrev pub AllOnce : Arena Item → Type 0
AllOnce arena = (slot other : ℕ) (item rival : Item) → value_at arena slot ≡ Some item → value_at arena other ≡ Some rival → rival.arrival ≡ item.arrival → other ≡ slot

-- the lanes of the buckets below an index are priced anew and follow a queue with their turns, the others follow the queue before, whose entries all items were, each in one slot; and no slot is in a heap of foreign threads
pub record PricedUpTo (old new : Arena Item) (heaps : Heaps) (count now : ℕ) (s p : Flat) (upto : ℕ) : Type 0 where
  pub listed : AllListed old s
  pub once : AllOnce old
  pub prices : HasPrices s p now upto
  pub six : AreSix heaps
  pub lanes : (b : Bucket) → LaneFollows new (lane_at heaps b) count b (if is_done upto b then p else s)
  pub bound : (b : Bucket) → BoundFollows new (bound_at heaps b) (map (priced_upto s now upto) (lane_entries s (lane b true)))
  pub foreign : OffersEntries new heaps.foreign []
  pub values : (slot : ℕ) (item : Item) → value_at old slot ≡ Some item → HoldsPriced new s now upto slot item
  pub free : (slot : ℕ) → value_at old slot ≡ None → value_at new slot ≡ None
  pub fits : AreItems new count
  pub loose : (slot : ℕ) → links_at new 1 slot ≡ unlinked
  pub spare : new.spare ≡ old.spare

-- the lanes of the buckets below this one are priced anew since some arena
pub record CanPrice (arena : Arena Item) (heaps : Heaps) (b : Bucket) (now : ℕ) : Type 0 where
  pub count : ℕ
  pub start : Arena Item
  pub s : Flat
  pub p : Flat
  pub formed : WellFormed count s
  pub priced : PricedUpTo start arena heaps count now s p (index b)
  pub room : most_threads ≤ vec_capacity heaps.slots

-- the heaps of a bucket's two lanes are priced anew, and the clutch buckets of its unbound lane take their turns
abbrev pub PricesBucket : Arena Item → Arena Item → Heaps → Heaps → Bucket → ℕ → ℕ → ℕ → ℕ → Type 0
PricesBucket old new before later b now turns turned changed =
    (start : Arena Item) (count : ℕ) (s p : Flat) → WellFormed count s → PricedUpTo start old before count now s p (index b) → turns ≡ p.next_turn
    → PricedUpTo start new later count now s (with_turns_of count s p b) (index b + 1) × (turned ≡ (with_turns_of count s p b).next_turn) × (changed ≡ changed_in_bucket s now b)

-- the lanes follow a queue, whose unbound entries are in no heap of foreign threads yet but in range, and whose items' entries are all in it
pub record CanFill (arena : Arena Item) (heaps : Heaps) : Type 0 where
  pub count : ℕ
  pub next : ℕ
  pub s : Flat
  pub six : AreSix heaps
  pub lanes : (b : Bucket) → LaneFollows arena (lane_at heaps b) count b s
  pub bound : (b : Bucket) → BoundFollows arena (bound_at heaps b) (lane_entries s (lane b true))
  pub foreign : OffersEntries arena heaps.foreign []
  pub loose : (slot : ℕ) → links_at arena 1 slot ≡ unlinked
  pub fits : AreItems arena count
  pub listed : AllListed arena s
  pub arrivals : ArrivalsApart arena next
