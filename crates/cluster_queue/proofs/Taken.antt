-- A queue that an entry left.
use Rattle.std.proofs.Common.{◌≡◌, ℕ, ◌+◌, Bool, true, false, not, ◌==◌, cond, List, Some, is_some, map, refl, sym, ap, ◌∙◌}
use Rattle.std.specs.List.{list_any}
use Rattle.bucket_tables.specs.declared.Lane.{Lane}
use Rattle.flat_policy.specs.Policy.Clusters.{slots_without}
use Rattle.flat_policy.specs.Policy.Moves.{clutch_has_entries, removed, turn_on_leaving, turn_on_selection, with_next_turn, without, without_turn}
use Rattle.flat_policy.specs.Policy.Precedence.{clutch_priority}
use Rattle.flat_policy.specs.Policy.Queue.{Clutch, Flat, LaneState, Queued, clutch_of, has_entries, in_lane, lane_of, same_lane}
use Rattle.link_arena.specs.Arena.{value_at}
use Rattle.windows.specs.Flags.{FillingFollows}
use Rattle.windows.specs.Steps.{EntriesFollowSteps}
use Rattle.windows.specs.WindowStates.{WindowState, with_flag}
use Rattle.thread_queue.specs.Item.{entry_of}
use Rattle.thread_queue.specs.declared.item.Item.{Item}
use Rattle.cluster_queue.specs.Moves.{without_item}
use Rattle.cluster_queue.specs.Queues.{HoldsEntry, IsQueue, IsStored, TakesOut, after_leaving, flat_of, slots_of}
use Rattle.cluster_queue.specs.declared.queue.Queue.{Queue}
use Rattle.cluster_queue.proofs.KeptRest.{without_item_keeps}
use Rattle.cluster_queue.proofs.LaneFlags.{entry_there, test_by_lane}
use Rattle.cluster_queue.proofs.Rows.{listed}
use Rattle.cluster_queue.proofs.Members.{map_alike}
use Rattle.cluster_queue.proofs.Windowed.{stored_elsewhere}

-- a turn goes alike before and after the moment is set
selection_after : (has : Bool) (k : Clutch) (s : Flat) (now : ℕ)
    → record (cond has (with_next_turn k s) (without_turn k s)) { last = now } ≡ cond has (with_next_turn k (record s { last = now })) (without_turn k (record s { last = now }))
selection_after true k s now = refl
selection_after false k s now = refl

leaving_after : (has same : Bool) (k : Clutch) (s : Flat) (now : ℕ)
    → record (cond (not has) (without_turn k s) (cond same s (with_next_turn k s))) { last = now }
    ≡ cond (not has) (without_turn k (record s { last = now })) (cond same (record s { last = now }) (with_next_turn k (record s { last = now })))
leaving_after true true k s now = refl
leaving_after true false k s now = refl
leaving_after false same k s now = refl

module _ (s : Flat) (item : Item) (now : ℕ) where
  abbrev left : Flat
  left = record s { entries = without item.arrival s.entries }

  abbrev left_then : Flat
  left_then = record left { last = now }

  picked_by : (bound : Bool) → record (cond bound left (turn_on_selection (clutch_of item.thread) left)) { last = now } ≡ cond bound left_then (turn_on_selection (clutch_of item.thread) left_then)
  picked_by true = refl
  picked_by false = selection_after (clutch_has_entries left (clutch_of item.thread)) (clutch_of item.thread) left now

  removed_by : (bound : Bool) → record (cond bound left (turn_on_leaving s (clutch_of item.thread) left)) { last = now } ≡ cond bound left_then (turn_on_leaving s (clutch_of item.thread) left_then)
  removed_by true = refl
  removed_by false =
      let k : Clutch = clutch_of item.thread in
      leaving_after (clutch_has_entries left k) (clutch_priority s k == clutch_priority left k) k left now

  -- the queue without the item is the queue that its entry left
  pub left_as : (picked : Bool) → record (without_item picked item s) { last = now } ≡ after_leaving picked (entry_of item) now s
  left_as true = picked_by (is_some item.thread.bound)
  left_as false = removed_by (is_some item.thread.bound)

  -- and has its entries, picked or not
  entries_left : (picked : Bool) → (record (without_item picked item s) { last = now }).entries ≡ (removed (entry_of item) now s).entries
  entries_left picked = (without_item_keeps picked item s).entries ∙ (sym (without_item_keeps false item s).entries ∙ ap (λ (v : Flat). v.entries) (left_as false))

-- an item went out of the heaps and the arena of a queue
pub record ItemGone (q m : Queue) (slot : ℕ) (picked : Bool) (item : Item) (at : Lane) : Type 0 where
  pub queue : IsQueue q
  pub stored : value_at q.arena slot ≡ Some item
  pub flat : flat_of m ≡ without_item picked item (flat_of q)
  pub slots : slots_of m ≡ slots_without item.arrival (flat_of q).entries (slots_of q)
  pub spare : m.spare ≡ q.spare + 1
  pub kept : IsStored m
  pub windows : m.windows ≡ q.windows
  pub groups : m.groups ≡ q.groups
  pub lane : at ≡ lane_of item.thread

module _ (q m : Queue) (slot : ℕ) (picked : Bool) (item : Item) (at : Lane) (now : ℕ) (h : ItemGone q m slot picked item at) where
  -- then its entry is taken out, with windows whose flags follow
  taken_with : (w : WindowState) → w.times ≡ q.windows.times → w.lanes ≡ m.windows.lanes → w.filled ≡ map (λ (l : LaneState). has_entries (flat_of m) l.lane) w.lanes
      → TakesOut q (record m { windows = w; last = now }) (entry_of item) (after_leaving picked (entry_of item) now (flat_of q))
  taken_with w times lanes filled = record {
    flat = ap (λ (ls : List LaneState). record (flat_of m) { lanes = ls; last = now }) lanes ∙ (ap (λ (v : Flat). record v { last = now }) h.flat ∙ left_as (flat_of q) item now picked);
    slots = h.slots;
    spare = h.spare;
    nested = record { stored = stored_elsewhere m w now h.kept; windows = record { times = refl; lanes = refl; filled = filled } };
    setting = record { groups = h.groups; times = times };
  }

  -- every other lane has entries where it had some
  has_by : EntriesFollowSteps → (l : Lane) → has_entries (flat_of m) l ≡ cond (same_lane l at) (has_entries (flat_of m) at) (has_entries (flat_of q) l)
  has_by law l =
      let s : Flat = flat_of q in
      let e : Queued = entry_of item in
      let there = listed q.arena q.next_arrival slot item h.queue.nested.stored.arrivals h.stored in
      test_by_lane (has_entries s) (has_entries (flat_of m)) at
      (λ k other. ap (list_any (in_lane k)) (ap (λ (v : Flat). v.entries) h.flat ∙ entries_left s item now picked)
      ∙ (law q.groups s h.queue.formed).leaving e now k there (ap (λ (a : Lane). same_lane a k) (sym h.lane) ∙ other)) l

  had_filled : m.windows.filled ≡ map (λ (l : LaneState). has_entries (flat_of q) l.lane) m.windows.lanes
  had_filled =
      ap (λ (w : WindowState). w.filled) h.windows ∙ (h.queue.nested.windows.filled ∙ ap (λ (w : WindowState). map (λ (l : LaneState). has_entries (flat_of q) l.lane) w.lanes) (sym h.windows))

  -- its lane is empty then
  pub taken_last : FillingFollows → EntriesFollowSteps → has_entries (flat_of m) at ≡ false
      → TakesOut q (record m { windows = record m.windows { filled = with_flag at false m.windows.lanes m.windows.filled }; last = now }) (entry_of item) (after_leaving picked (entry_of item) now (flat_of q))
  taken_last filling law none =
      let ls = m.windows.lanes in
      let had = λ (l : LaneState). cond (same_lane l.lane at) false (has_entries (flat_of q) l.lane) in
      let has = λ (l : LaneState). has_entries (flat_of m) l.lane in
      taken_with (record m.windows { filled = with_flag at false ls m.windows.filled }) (ap (λ (w : WindowState). w.times) h.windows) refl
      (ap (with_flag at false ls) had_filled
      ∙ (filling (has_entries (flat_of q)) at false ls
      ∙ map_alike had has ls (λ l. sym (has_by law l.lane ∙ ap (λ (b : Bool). cond (same_lane l.lane at) b (has_entries (flat_of q) l.lane)) none))))

  -- its lane has others still
  pub taken_more : EntriesFollowSteps → has_entries (flat_of m) at ≡ true → TakesOut q (record m { last = now }) (entry_of item) (after_leaving picked (entry_of item) now (flat_of q))
  taken_more law some =
      let s : Flat = flat_of q in
      let had = λ (l : LaneState). has_entries s l.lane in
      let has = λ (l : LaneState). has_entries (flat_of m) l.lane in
      let there = listed q.arena q.next_arrival slot item h.queue.nested.stored.arrivals h.stored in
      let before : has_entries s at ≡ true = ap (has_entries s) h.lane ∙ entry_there s.entries (entry_of item) there in
      taken_with m.windows (ap (λ (w : WindowState). w.times) h.windows) refl
      (had_filled ∙ map_alike had has m.windows.lanes
      (λ l. test_by_lane (has_entries s) (has_entries s) at (λ k other. refl) l.lane
      ∙ (ap (λ (b : Bool). cond (same_lane l.lane at) b (has_entries s l.lane)) (before ∙ sym some) ∙ sym (has_by law l.lane))))

-- the item of a slot is that of its entry
pub entry_is : (q : Queue) (slot : ℕ) (item : Item) (e : Queued) → value_at q.arena slot ≡ Some item → HoldsEntry q slot e → entry_of item ≡ e
entry_is q slot item e stored h =
    let same : item ≡ h.item = cc (stored, h.stored) in
    ap entry_of same ∙ h.entry
