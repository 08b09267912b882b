-- The slot of a listed item stands in its queue, where no other slot has an item of its arrival.
use Rattle.std.proofs.Common.{◌≡◌, ℕ, ◌<◌, false, Contains, List, Some, is_some, refl, sym, ap, ◌∙◌, subst}
use Rattle.sched_base.specs.declared.Bucket.{Bucket}
use Rattle.flat_policy.specs.Policy.Queue.{Flat, Queued, in_clutch}
use Rattle.link_arena.specs.Arena.{Arena, value_at}
use Rattle.thread_queue.specs.Item.{entry_of}
use Rattle.thread_queue.specs.Laws.{AreEntries}
use Rattle.thread_queue.specs.Queue.{HasSlot, Queue}
use Rattle.thread_queue.specs.declared.item.Item.{Item}
use Rattle.clutch_bucket.specs.Lane.{HasLaneSlot, Lane, groups, queue_at, unit_of}
use Rattle.cluster_queue.specs.Heaps.{LaneFollows}
use Rattle.cluster_queue.proofs.ItemClutches.{in_clutch_from}
use Rattle.cluster_queue.proofs.Members.{filter_has}

-- no other slot has an item of the arrival
abbrev pub IsOnce : Arena Item → ℕ → Item → Type 0
IsOnce arena slot item = (other : ℕ) (rival : Item) → value_at arena other ≡ Some rival → rival.arrival ≡ item.arrival → other ≡ slot

pub queue_listed : (arena : Arena Item) (queue : Queue) (es : List Queued) (slot : ℕ) (item : Item) → AreEntries arena queue es → IsOnce arena slot item → Contains es (entry_of item) → HasSlot arena queue slot
queue_listed arena queue es slot item f once member =
    let from = f.back (entry_of item) member in
    subst (λ (n : ℕ). HasSlot arena queue n) (once from.0 from.1 from.2.1 (ap (λ (e : Queued). e.arrival) from.2.2)) from.2.0

pub lane_listed : (arena : Arena Item) (at : Lane) (count slot : ℕ) (b : Bucket) (s : Flat) (item : Item) → LaneFollows arena at count b s → IsOnce arena slot item → item.thread.bucket ≡ b → is_some item.thread.bound ≡ false → item.thread.group < count → Contains s.entries (entry_of item)
    → HasLaneSlot arena at slot
lane_listed arena at count slot b s item f once bucket free below listed =
    let g = item.thread.group in
    let within : g < groups at = subst (λ (n : ℕ). g < n) (sym f.groups) below in
    let member = filter_has (in_clutch (unit_of at g)) s.entries (entry_of item) listed (in_clutch_from (unit_of at g) (entry_of item) free refl (bucket ∙ sym f.bucket)) in
    (g, (within, queue_listed arena (queue_at at g) _ slot item (f.follows.units.each g within).entries once member))
