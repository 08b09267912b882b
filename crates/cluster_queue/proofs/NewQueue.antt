-- A queue as it is made.
use Rattle.std.proofs.Common.{◌≡◌, ℕ, ◌≤◌, true, false, List, [], Option, Some, None, map, replicate, refl, sym, ap, ◌∙◌, subst, arith, vec_capacity}
use Rattle.sched_base.specs.Limits.{most_groups, most_threads}
use Rattle.flat_policy.specs.declared.setup.Times.{Times}
use Rattle.flat_policy.specs.Policy.Queue.{empty_flat, new_lane, timeshare_lanes}
use Rattle.link_arena.specs.Arena.{Arena, value_at}
use Rattle.thread_queue.specs.declared.item.Item.{Item}
use Rattle.windows.specs.WindowStates.{WindowState}
use Rattle.cluster_queue.specs.Heaps.{HeapsFollow}
use Rattle.cluster_queue.specs.Queues.{IsNested, flat_of}
use Rattle.cluster_queue.specs.declared.heaps.Heaps.{Heaps}
use Rattle.cluster_queue.specs.declared.queue.Queue.{Queue}
use Rattle.cluster_queue.proofs.Frames.{flat_is}

abbrev pub no_items : Arena Item
no_items = record { nodes = []; spare = 0 }

-- the windows with no lane filled
abbrev pub no_windows : List Times → WindowState
no_windows times = record { times = times; lanes = map new_lane timeshare_lanes; filled = replicate 10 false }

-- the parts of a queue with no entry
abbrev pub queue_of : ℕ → Arena Item → Heaps → WindowState → Queue
queue_of groups arena heaps windows = record {
  groups = groups;
  arena = arena;
  heaps = heaps;
  windows = windows;
  len = 0;
  spare = 0;
  last = 0;
  next_arrival = 0;
  next_turn = 0;
  on = true;
}

module _ (groups : ℕ) (arena : Arena Item) (heaps : Heaps) (windows : WindowState) (times : List Times) (empty : arena ≡ no_items) (made : windows ≡ no_windows times) (follows : HeapsFollow arena heaps groups (empty_flat groups)) where
  pub flat_new : flat_of (queue_of groups arena heaps windows) ≡ empty_flat groups
  flat_new = flat_is (queue_of groups arena heaps windows) (empty_flat groups) follows refl (ap (λ (w : WindowState). w.lanes) made) refl refl refl refl

  none_stored : (slot : ℕ) (item : Item) → value_at arena slot ≡ Some item → ⊥
  none_stored slot item stored =
      let e : ◌≡◌ {A = Option Item} None (Some item) = sym (ap (λ (a : Arena Item). value_at a slot) empty) ∙ stored in
      absurd (cc e)

  pub nested_new : groups ≤ most_groups → most_threads ≤ vec_capacity heaps.slots → IsNested (queue_of groups arena heaps windows)
  nested_new few room = record {
    stored = record {
      heaps = subst (HeapsFollow arena heaps groups) (sym flat_new) follows;
      items = λ slot item stored. absurd (none_stored slot item stored);
      arrivals = record {
        once = λ slot other item rival stored. absurd (none_stored slot item stored);
        below = λ slot item stored. absurd (none_stored slot item stored);
        small = λ slot item stored. absurd (none_stored slot item stored);
      };
      len = refl;
      few_groups = few;
      list_room = room;
      spare = omega arith;
      room = omega arith;
    };
    windows = record {
      times = refl;
      lanes = refl;
      filled = ap (λ (w : WindowState). w.filled) made ∙ ap (λ (w : WindowState). map (λ l. false) w.lanes) (sym made);
    };
  }
