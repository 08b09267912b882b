-- The queue stands where its arena gets room.
use Rattle.std.proofs.Common.{◌≡◌, ◌≢◌, ◌+◌, ◌<◌, List, length, sym, ap, ◌∙◌, subst, arith}
use Rattle.flat_policy.specs.Policy.Queue.{Flat, Queued}
use Rattle.link_arena.specs.Arena.{Arena, SameMap}
use Rattle.thread_queue.specs.Laws.{StaysWhereReserved}
use Rattle.thread_queue.specs.declared.item.Item.{Item}
use Rattle.clutch_bucket.specs.Laws.{LanesStay}
use Rattle.stealing.specs.Laws.{StaysWhereReserved as ForeignWhereReserved}
use Rattle.windows.specs.Flags.{AreWindowsOf}
use Rattle.cluster_queue.specs.Heaps.{HeapsFollow}
use Rattle.cluster_queue.specs.Queues.{IsNested, flat_of, slots_of}
use Rattle.cluster_queue.specs.declared.queue.Queue.{Queue}
use Rattle.cluster_queue.proofs.Frames.{follows_reserved}
use Rattle.cluster_queue.proofs.Rows.{arrivals_same, entries_same, slots_same}

-- the queue with another arena, and room for one thread more
abbrev pub with_room : Queue → Arena Item → Queue
with_room q arena = record q { arena = arena; spare = q.spare + 1 }

module _ (q : Queue) (arena : Arena Item) (nested : IsNested q) (same : SameMap q.arena arena) where
  pub flat_reserved : flat_of (with_room q arena) ≡ flat_of q
  flat_reserved = ap (λ (es : List Queued). record (flat_of q) { entries = es }) (entries_same q.arena arena q.next_arrival nested.stored.arrivals same.values)

  pub slots_reserved : slots_of (with_room q arena) ≡ slots_of q
  slots_reserved = slots_same q.arena arena q.next_arrival nested.stored.arrivals same.values

  pub nested_reserved : StaysWhereReserved → ForeignWhereReserved → LanesStay → q.arena.spare < arena.spare → q.spare + q.len ≢ 4294967295 → IsNested (with_room q arena)
  nested_reserved queues foreign stay more n = record {
    stored = record {
      heaps = subst (HeapsFollow arena q.heaps q.groups) (sym flat_reserved) (follows_reserved queues foreign stay q.arena arena q.heaps q.groups (flat_of q) nested.stored.heaps same);
      items = λ slot item stored. nested.stored.items slot item (sym (same.values slot) ∙ stored);
      arrivals = arrivals_same q.arena arena q.next_arrival nested.stored.arrivals same.values;
      len = nested.stored.len ∙ ap (λ (s : Flat). length s.entries) (sym flat_reserved);
      few_groups = nested.stored.few_groups;
      list_room = nested.stored.list_room;
      spare = omega (arith, nested.stored.spare, more);
      room = omega (arith, nested.stored.room, n);
    };
    windows = subst (λ (s : Flat). AreWindowsOf q.windows.times s q.windows) (sym flat_reserved) nested.windows;
  }
