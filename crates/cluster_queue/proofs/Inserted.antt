-- A queue into whose arena and heaps an item came.
use Rattle.std.proofs.Common.{◌≡◌, ℕ, ◌+◌, ◌-◌, ◌<◌, ◌≤◌, Contains, List, [], ◌∷◌, ◌++◌, length, length-append, refl, sym, ap, ◌∙◌, subst, arith}
use Rattle.sched_base.specs.Limits.{most_threads}
use Rattle.flat_policy.specs.Policy.Queue.{Flat, Queued}
use Rattle.link_arena.specs.Arena.{Arena, Inserts}
use Rattle.thread_queue.specs.Item.{entry_of}
use Rattle.thread_queue.specs.Laws.{StaysWhereInserted}
use Rattle.thread_queue.specs.declared.item.Item.{Item}
use Rattle.clutch_bucket.specs.Laws.{LanesStay}
use Rattle.stealing.specs.Laws.{StaysWhereInserted as ForeignWhereInserted}
use Rattle.cluster_queue.specs.Heaps.{HeapsFollow, ItemFits}
use Rattle.cluster_queue.specs.Moves.{CanEnter, Enters, with_item}
use Rattle.cluster_queue.specs.Queues.{IsStored, flat_of, slots_of}
use Rattle.cluster_queue.specs.Rows.{ArrivalsApart, entries_in, slots_in}
use Rattle.cluster_queue.specs.declared.heaps.Heaps.{Heaps}
use Rattle.cluster_queue.specs.declared.queue.Queue.{Queue}
use Rattle.cluster_queue.proofs.Frames.{flat_is, follows_inserted, follows_parts, items_inserted}
use Rattle.cluster_queue.proofs.KeptRest.{with_item_keeps}
use Rattle.cluster_queue.proofs.Rows.{arrivals_inserted, arrivals_same, entries_below, entries_inserted, entries_same, slot_fresh, slots_inserted, slots_same}

-- the queue with other heaps in another arena, the next arrival and one entry more, at a moment
abbrev pub with_slot : Queue → Arena Item → Heaps → ℕ → ℕ → Queue
with_slot q new later now turned =
    record q { arena = new; heaps = later; len = q.len + 1; spare = q.spare - 1; last = now; next_arrival = q.next_arrival + 1; next_turn = turned }

-- an item in range, whose arrival is the next, came into the arena of a queue in which there is room
pub record ItemComes (q : Queue) (mid : Arena Item) (slot : ℕ) (item : Item) : Type 0 where
  pub stored : IsStored q
  pub room : 1 ≤ q.spare
  pub few : q.len < most_threads
  pub fits : ItemFits q.groups item
  pub arrival : item.arrival ≡ q.next_arrival
  pub inserts : Inserts q.arena mid slot item
  pub spare : mid.spare + 1 ≡ q.arena.spare
  pub small : slot < 4294967296

module _ (queues : StaysWhereInserted) (foreign : ForeignWhereInserted) (stay : LanesStay) (q : Queue) (mid : Arena Item) (slot : ℕ) (item : Item) (h : ItemComes q mid slot item) where
  -- then it may enter the heaps
  abbrev pub can_enter : CanEnter mid q.heaps slot
  can_enter = record {
    count = q.groups;
    s = flat_of q;
    follows = follows_inserted queues foreign stay q.arena mid q.heaps q.groups slot item (flat_of q) h.stored.heaps h.inserts;
    item = item;
    stored = h.inserts.stored;
    fits = h.fits;
    fresh = λ e c same. omega (arith, same, h.arrival, entries_below q.arena q.next_arrival e h.stored.arrivals c);
    few = omega (arith, h.few, h.stored.len);
  }

module _ (queues : StaysWhereInserted) (foreign : ForeignWhereInserted) (stay : LanesStay) (q : Queue) (mid : Arena Item) (slot : ℕ) (item : Item) (h : ItemComes q mid slot item)
    (new : Arena Item) (later : Heaps) (ran blocked turned now : ℕ) (enters : Enters mid new q.heaps later slot ran blocked q.next_turn turned) where
  mid_arrivals : ArrivalsApart mid (q.next_arrival + 1)
  mid_arrivals = arrivals_inserted q.arena mid q.next_arrival slot item h.stored.arrivals h.inserts h.arrival h.small

  entries_now : entries_in new (q.next_arrival + 1) ≡ (flat_of q).entries ++ entry_of item ∷ []
  entries_now =
      entries_same mid new (q.next_arrival + 1) mid_arrivals enters.values
      ∙ entries_inserted q.arena mid q.next_arrival slot item h.stored.arrivals h.inserts h.arrival

  pub slots_now : slots_in new (q.next_arrival + 1) ≡ slots_of q ++ slot ∷ []
  slots_now =
      slots_same mid new (q.next_arrival + 1) mid_arrivals enters.values
      ∙ slots_inserted q.arena mid q.next_arrival slot item h.stored.arrivals h.inserts h.arrival

  pub slot_new : ¬ Contains (slots_of q) slot
  slot_new = slot_fresh q.arena mid q.next_arrival slot item h.stored.arrivals h.inserts h.arrival

  -- the queue is the one with the item
  follows_now : HeapsFollow new later q.groups (record (with_item ran blocked item (flat_of q)) { last = now; next_arrival = q.next_arrival + 1 })
  follows_now =
      let s : Flat = with_item ran blocked item (flat_of q) in
      follows_parts new later q.groups s (record s { last = now; next_arrival = q.next_arrival + 1 })
      (enters.follows (can_enter queues foreign stay q mid slot item h) refl) refl refl refl

  pub flat_now : flat_of (with_slot q new later now turned) ≡ record (with_item ran blocked item (flat_of q)) { last = now; next_arrival = q.next_arrival + 1 }
  flat_now =
      let s : Flat = with_item ran blocked item (flat_of q) in
      let keeps = with_item_keeps ran blocked item (flat_of q) in
      flat_is (with_slot q new later now turned) (record s { last = now; next_arrival = q.next_arrival + 1 }) follows_now (entries_now ∙ sym keeps.entries) (sym keeps.lanes) refl refl
      (enters.turn (can_enter queues foreign stay q mid slot item h) refl) (sym keeps.on)

  -- and its parts are still those of it
  pub stored_now : IsStored (with_slot q new later now turned)
  stored_now =
      let long = ap (λ (es : List Queued). length es) entries_now in
      record {
        heaps = subst (HeapsFollow new later q.groups) (sym flat_now) follows_now;
        items = λ other held at. items_inserted q.arena mid q.groups slot item h.stored.items h.fits h.inserts other held (sym (enters.values other) ∙ at);
        arrivals = arrivals_same mid new (q.next_arrival + 1) mid_arrivals enters.values;
        len = omega (arith, long, h.stored.len, length-append (flat_of q).entries (entry_of item ∷ []));
        few_groups = h.stored.few_groups;
        list_room = omega (arith, enters.room, h.stored.list_room);
        spare = omega (arith, enters.spare, h.spare, h.stored.spare);
        room = omega (arith, h.stored.room, h.room);
      }
