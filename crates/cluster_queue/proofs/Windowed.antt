-- A queue whose windows or last moment alone change.
use Rattle.std.proofs.Common.{[], ◌≡◌, ℕ, List, ◌∷◌, cond, map, refl, sym, ap, ap₂, ◌∙◌, subst}
use Rattle.std.proofs.lemmas.Bool.{cond_both}
use Rattle.bucket_tables.specs.declared.Lane.{Lane}
use Rattle.flat_policy.specs.declared.lanes.Kind.{Kind}
use Rattle.flat_policy.specs.declared.lanes.Kind.TheVariants.{Natural, Pass, Starve}
use Rattle.flat_policy.specs.declared.setup.Times.{Times}
use Rattle.flat_policy.specs.Policy.Queue.{Flat, LaneState, has_entries, same_lane}
use Rattle.flat_policy.specs.Policy.Setup.{times_for}
use Rattle.flat_policy.specs.Policy.WellFormed.{WellFormed}
use Rattle.flat_policy.specs.Policy.Windows.{expired, expired_warp, expired_window, renewed_deadline, window_after, window_over}
use Rattle.windows.specs.WindowStates.{WindowState, expired_at}
use Rattle.cluster_queue.specs.Moves.{CanRead}
use Rattle.cluster_queue.specs.Queues.{IsNested, IsQueue, flat_of, IsStored}
use Rattle.cluster_queue.specs.declared.queue.Queue.{Queue}
use Rattle.cluster_queue.proofs.Frames.{follows_parts}

-- the heaps of a queue can be read
abbrev pub can_read : (q : Queue) → IsQueue q → CanRead q.arena q.heaps
can_read q k = record { count = q.groups; s = flat_of q; formed = k.formed; follows = k.nested.stored.heaps }

-- a change of lanes that keeps their names
pub names_stay : {Y : Type 0} (g : Lane → Y) (f : LaneState → LaneState) (lanes : List LaneState) → ((l : LaneState) → (f l).lane ≡ l.lane) → map (λ (l : LaneState). g l.lane) (map f lanes) ≡ map (λ (l : LaneState). g l.lane) lanes
names_stay g f [] same = refl
names_stay g f (l ∷ ls) same = ap₂ (λ y ys. y ∷ ys) (ap g (same l)) (names_stay g f ls same)

-- a queue with other states of the same lanes is as well-formed
pub with_lanes : (groups : ℕ) (s : Flat) (ls : List LaneState) → WellFormed groups s → map (λ (l : LaneState). l.lane) ls ≡ map (λ (l : LaneState). l.lane) s.lanes → WellFormed groups (record s { lanes = ls })
with_lanes groups s ls w same = record {
  few = w.few;
  arrivals_rise = w.arrivals_rise;
  arrivals_below = w.arrivals_below;
  order_numbers = w.order_numbers;
  groups_below = w.groups_below;
  bases_within = w.bases_within;
  priorities_within = w.priorities_within;
  turns_below = w.turns_below;
  turns_differ = w.turns_differ;
  turns_where_entries = w.turns_where_entries;
  spans_length = w.spans_length;
  spans_small = w.spans_small;
  turns_length = w.turns_length;
  ten_lanes = same ∙ w.ten_lanes;
}

-- other windows and another last moment leave the rest of a queue as it is
pub stored_elsewhere : (q : Queue) (w : WindowState) (last : ℕ) → IsStored q → IsStored (record q { windows = w; last = last })
stored_elsewhere q w last h =
    let next : Queue = record q { windows = w; last = last } in
    record {
      heaps = follows_parts q.arena q.heaps q.groups (flat_of q) (flat_of next) h.heaps refl refl refl;
      items = h.items;
      arrivals = h.arrivals;
      len = h.len;
      few_groups = h.few_groups;
      list_room = h.list_room;
      spare = h.spare;
      room = h.room;
    }

-- arena, heaps and counts are still those of the queue, and so are the windows
pub nested_with : (q : Queue) (f : LaneState → LaneState) → IsNested q → ((l : LaneState) → (f l).lane ≡ l.lane) → IsNested (record q { windows = record q.windows { lanes = map f q.windows.lanes } })
nested_with q f n same = record {
  stored = stored_elsewhere q (record q.windows { lanes = map f q.windows.lanes }) q.last n.stored;
  windows = record {
    times = refl;
    lanes = refl;
    filled = n.windows.filled ∙ sym (names_stay (λ m. has_entries (flat_of q) m) f q.windows.lanes same);
  };
}

pub queue_with : (q : Queue) (f : LaneState → LaneState) → IsQueue q → ((l : LaneState) → (f l).lane ≡ l.lane) → IsQueue (record q { windows = record q.windows { lanes = map f q.windows.lanes } })
queue_with q f k same = record {
  formed = with_lanes q.groups (flat_of q) (map f q.windows.lanes) k.formed (names_stay (λ m. m) f q.windows.lanes same);
  nested = nested_with q f k.nested same;
}

-- likewise where the last moment changes
pub nested_at : (q : Queue) (now : ℕ) → IsNested q → IsNested (record q { last = now })
nested_at q now n = record {
  stored = stored_elsewhere q q.windows now n.stored;
  windows = record { times = refl; lanes = n.windows.lanes; filled = n.windows.filled };
}

-- the lanes keep their names when windows expire, and when one is chosen
abbrev warped : ℕ → LaneState → LaneState
warped now l = record l { warp = expired_warp now l.warp }

pub expired_names : (ts : List Times) (now : ℕ) (l : LaneState) → (expired_window ts now l).lane ≡ l.lane
expired_names ts now l = cond_both (window_over (times_for ts l.lane.bucket).quantum now l.starved) (renewed_deadline ts now (warped now l)) (warped now l) (λ (k : LaneState). k.lane ≡ l.lane) (λ e. refl) (λ e. refl)

after_names : (ts : List Times) (now : ℕ) (kind : Kind) (l : LaneState) → (window_after ts now kind l).lane ≡ l.lane
after_names ts now Pass l = refl
after_names ts now Starve l = refl
after_names ts now Natural l = refl

pub chosen_names : (ts : List Times) (now : ℕ) (kind : Kind) (at : Lane) (l : LaneState) → (cond (same_lane l.lane at) (window_after ts now kind l) l).lane ≡ l.lane
chosen_names ts now kind at l = cond_both (same_lane l.lane at) (window_after ts now kind l) l (λ (k : LaneState). k.lane ≡ l.lane) (λ e. after_names ts now kind l) (λ e. refl)

-- the queue once its windows have expired
pub record IsExpired (q x : Queue) (now : ℕ) : Type 0 where
  pub queue : IsQueue x
  pub flat : flat_of x ≡ expired q.windows.times (flat_of q) now
  pub same : x ≡ record q { windows = x.windows }
  pub times : x.windows.times ≡ q.windows.times

pub expires : (q : Queue) (w : WindowState) (now : ℕ) → IsQueue q → w ≡ expired_at now q.windows → IsExpired q (record q { windows = w }) now
expires q w now k is =
    let ts = q.windows.times in
    subst (λ (v : WindowState). IsExpired q (record q { windows = v }) now) (sym is) (record {
      queue = queue_with q (expired_window ts now) k (expired_names ts now);
      flat = refl;
      same = refl;
      times = refl;
    })
