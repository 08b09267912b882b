-- A queue that a thread entered.
use Rattle.std.proofs.Common.{◌≡◌, ℕ, ◌+◌, ◌≤◌, Bool, true, false, cond, List, ◌∷◌, ◌++◌, [], is_some, length, map, not, ◌||◌, ◌==◌, set, ℤ, refl, sym, ap, ◌∙◌}
use Rattle.std.proofs.lemmas.Bool.{cond_both}
use Rattle.sched_base.specs.declared.Facts.{Facts}
use Rattle.bucket_tables.specs.declared.Lane.{Lane}
use Rattle.flat_policy.specs.declared.setup.Times.{Times}
use Rattle.flat_policy.specs.Policy.Moves.{clutch_has_entries, entered, lanes_filled, new_entry, settled_thread, turn_on_entering, with_next_turn}
use Rattle.flat_policy.specs.Policy.Queue.{Clutch, Flat, LaneState, Queued, clutch_entries, clutch_of, clutch_place, has_entries, in_clutch, in_lane, lane, lane_entries, lane_of, order_number, same_lane, spans_of, unit_entries}
use Rattle.flat_policy.specs.Policy.Precedence.{clutch_priority}
use Rattle.flat_policy.specs.Policy.Usage.{priority, with_spans}
use Rattle.windows.specs.Flags.{AreWindowsOf}
use Rattle.windows.specs.WindowStates.{WindowState}
use Rattle.windows.specs.Steps.{EntriesFollowSteps}
use Rattle.flat_policy.specs.Policy.WellFormed.{WellFormed}
use Rattle.thread_queue.specs.declared.item.Item.{Item}
use Rattle.clutch_bucket.specs.Lane.{with_unit_entry}
use Rattle.cluster_queue.specs.Moves.{with_item}
use Rattle.cluster_queue.specs.Queues.{flat_of}
use Rattle.cluster_queue.specs.declared.queue.Queue.{Queue}
use Rattle.cluster_queue.proofs.KeptRest.{before_turn}
use Rattle.cluster_queue.proofs.LaneFlags.{lane_turned, or_as_cond}
use Rattle.cluster_queue.proofs.Members.{map_alike}
use Rattle.cluster_queue.proofs.Passing.{filter_most}

-- a unit has no more entries than the queue
pub unit_few : (s : Flat) (t : Facts) → length (unit_entries s t) ≤ length s.entries
unit_few s t =
    cond_both (is_some t.bound) (lane_entries s (lane t.bucket true)) (clutch_entries s (clutch_of t)) (λ (es : List Queued). length es ≤ length s.entries)
    (λ _. filter_most (in_lane (lane t.bucket true)) s.entries)
    (λ _. filter_most (in_clutch (clutch_of t)) s.entries)

-- the item of a thread that enters
abbrev pub item_for : Flat → Facts → Bool → Item
item_for s settled head = record { thread = settled; pri = (new_entry s settled head).pri; number = order_number head s.next_arrival; arrival = s.next_arrival }

-- a turn is taken alike before and after the moment is set
turn_after : (b : Bool) (k : Clutch) (s : Flat) (now next : ℕ)
    → record (cond b (with_next_turn k s) s) { last = now; next_arrival = next } ≡ cond b (with_next_turn k (record s { last = now; next_arrival = next })) (record s { last = now; next_arrival = next })
turn_after true k s now next = refl
turn_after false k s now next = refl

-- the queue with the lane filled
abbrev pub with_lane : List Times → Facts → ℕ → Flat → Flat
with_lane ts t now s = record s { lanes = lanes_filled ts now s (lane_of t) }

-- the queue with the entry, whose spans count unless it is bound
abbrev with_entry_by : Bool → List Times → Facts → Bool → ℕ → Flat → Flat
with_entry_by bound ts t head now s = record s {
  entries = s.entries ++ new_entry s (settled_thread now t) head ∷ [];
  spans = cond bound s.spans (set s.spans (clutch_place (clutch_of t)) (with_spans (spans_of s (clutch_of t)) t.pending_ran t.pending_blocked));
  lanes = lanes_filled ts now s (lane_of t);
  last = now;
  next_arrival = s.next_arrival + 1;
}

module _ (ts : List Times) (t : Facts) (head : Bool) (now : ℕ) (s : Flat) where
  by_bound : (bound : Bool)
      → record (cond bound (record (with_lane ts t now s) { entries = s.entries ++ new_entry s (settled_thread now t) head ∷ [] })
      (with_unit_entry t.pending_ran t.pending_blocked (item_for s (settled_thread now t) head) (with_lane ts t now s))) { last = now; next_arrival = s.next_arrival + 1 }
      ≡ cond bound (with_entry_by bound ts t head now s) (turn_on_entering s (clutch_of t) (with_entry_by bound ts t head now s))
  by_bound true = refl
  by_bound false =
      let k : Clutch = clutch_of t in
      let after : Flat = before_turn t.pending_ran t.pending_blocked (item_for s (settled_thread now t) head) (with_lane ts t now s) in
      turn_after (not (clutch_has_entries s k) || not (clutch_priority s k == clutch_priority after k)) k after now (s.next_arrival + 1)

  -- the queue with the thread's item is the queue that the thread entered
  pub entered_as : record (with_item t.pending_ran t.pending_blocked (item_for s (settled_thread now t) head) (with_lane ts t now s)) { last = now; next_arrival = s.next_arrival + 1 }
      ≡ entered ts t head now s
  entered_as = by_bound (is_some t.bound)

abbrev pub item_with : Flat → Facts → ℕ → ℤ → Item
item_with s thread pri number = record { thread = thread; pri = pri; number = number; arrival = s.next_arrival }

-- the item that is made is the thread's
pub item_is : (s : Flat) (settled thread : Facts) (head : Bool) (pri : ℕ) (number : ℤ) → thread ≡ settled → pri ≡ (new_entry s settled head).pri → number ≡ order_number head s.next_arrival
    → item_with s thread pri number ≡ item_for s settled head
item_is s settled thread head pri number same price order =
    let of_thread = λ (t : Facts). item_with s t pri number in
    let of_pri = λ (p : ℕ). item_with s settled p number in
    let of_number = λ (k : ℤ). item_with s settled (new_entry s settled head).pri k in
    ap of_thread same ∙ (ap of_pri price ∙ ap of_number order)

-- its priority, by what was counted
pub pri_is : (s : Flat) (t facts : Facts) (head : Bool) (now others usage pri : ℕ) → facts ≡ t → usage ≡ (settled_thread now t).usage → others ≡ length (unit_entries s facts)
    → pri ≡ priority facts.base facts.bucket usage (others + 1) → pri ≡ (new_entry s (settled_thread now t) head).pri
pri_is s t facts head now others usage pri same used counted price =
    price
    ∙ (ap (λ (f : Facts). priority f.base f.bucket usage (others + 1)) same
    ∙ (ap (λ (u : ℕ). priority t.base t.bucket u (others + 1)) used
    ∙ ap (λ (n : ℕ). priority t.base t.bucket (settled_thread now t).usage (n + 1)) (counted ∙ ap (λ (f : Facts). length (unit_entries s f)) same)))

module _ (q x n : Queue) (t : Facts) (head : Bool) (now : ℕ) (at : Lane) (ran blocked : ℕ) (item : Item) where
  -- its lane was filled, and its item came
  pub flat_entered : x ≡ record q { windows = x.windows } → x.windows.lanes ≡ lanes_filled q.windows.times now (flat_of q) at → at ≡ lane_of t → ran ≡ t.pending_ran → blocked ≡ t.pending_blocked
      → item ≡ item_for (flat_of q) (settled_thread now t) head → flat_of n ≡ record (with_item ran blocked item (flat_of x)) { last = now; next_arrival = x.next_arrival + 1 }
      → flat_of n ≡ entered q.windows.times t head now (flat_of q)
  flat_entered same lanes lane_is ran_is blocked_is item_is flat =
      let ts = q.windows.times in
      let s = flat_of q in
      let before : flat_of x ≡ with_lane ts t now s = ap flat_of same ∙ ap (λ (ls : List LaneState). record s { lanes = ls }) (lanes ∙ ap (lanes_filled ts now s) lane_is) in
      let comes = λ (r : ℕ) (b : ℕ) (i : Item) (v : Flat) (a : ℕ). record (with_item r b i v) { last = now; next_arrival = a } in
      flat
      ∙ (ap (λ (r : ℕ). comes r blocked item (flat_of x) (x.next_arrival + 1)) ran_is
      ∙ (ap (λ (b : ℕ). comes t.pending_ran b item (flat_of x) (x.next_arrival + 1)) blocked_is
      ∙ (ap (λ (i : Item). comes t.pending_ran t.pending_blocked i (flat_of x) (x.next_arrival + 1)) item_is
      ∙ (ap (λ (v : Flat). comes t.pending_ran t.pending_blocked (item_for s (settled_thread now t) head) v (x.next_arrival + 1)) before
      ∙ (ap (λ (v : Queue). comes t.pending_ran t.pending_blocked (item_for s (settled_thread now t) head) (with_lane ts t now s) (v.next_arrival + 1)) same
      ∙ entered_as ts t head now s)))))

-- and the flags follow
pub entered_windows : EntriesFollowSteps → (q x n : Queue) (t : Facts) (head : Bool) (now : ℕ) (at : Lane) → WellFormed q.groups (flat_of q) → at ≡ lane_of t
    → x.windows.filled ≡ map (λ (l : LaneState). cond (same_lane l.lane at) true (has_entries (flat_of q) l.lane)) x.windows.lanes
    → n.windows ≡ x.windows → flat_of n ≡ entered q.windows.times t head now (flat_of q) → AreWindowsOf n.windows.times (flat_of n) n.windows
entered_windows law q x n t head now at formed lane_is filled same flat =
    let s = flat_of q in
    let test = λ (l : LaneState). cond (same_lane l.lane at) true (has_entries s l.lane) in
    let has = λ (l : LaneState). has_entries (flat_of n) l.lane in
    let here = λ (l : LaneState). sym (ap (λ (v : Flat). has_entries v l.lane) flat
    ∙ ((law q.groups s formed).entering q.windows.times t head now l.lane
    ∙ (or_as_cond (has_entries s l.lane) (same_lane (lane_of t) l.lane)
    ∙ ap (λ (b : Bool). cond b true (has_entries s l.lane)) (lane_turned (lane_of t) l.lane ∙ ap (same_lane l.lane) (sym lane_is))))) in
    record {
      times = refl;
      lanes = refl;
      filled = ap (λ (w : WindowState). w.filled) same ∙ (filled ∙ (ap (λ (w : WindowState). map test w.lanes) (sym same) ∙ map_alike test has n.windows.lanes here));
    }
