-- A queue out of whose heaps and arena an item went.
use Rattle.std.proofs.Common.{◌≡◌, ℕ, ◌+◌, ◌-◌, ◌<◌, ◌==◌, Bool, true, not, Contains, List, Some, length, refl, sym, ap, ap₂, ◌∙◌, subst, arith, eq-eqb}
use Rattle.std.proofs.lemmas.Bool.{both_ways, not-true}
use Rattle.std.proofs.lemmas.List.Elements.{All-contains, filter_passes}
use Rattle.flat_policy.specs.Policy.Clusters.{slots_without}
use Rattle.flat_policy.specs.Policy.Moves.{without}
use Rattle.flat_policy.specs.Policy.Queue.{Queued}
use Rattle.link_arena.specs.Arena.{Arena, Removes, value_at}
use Rattle.pairing_heap.specs.Laws.{HeldAreLive}
use Rattle.thread_queue.specs.Item.{entry_of, key_of_item, key_precedes}
use Rattle.thread_queue.specs.Laws.{StaysWhereRemoved}
use Rattle.thread_queue.specs.declared.item.Item.{Item}
use Rattle.clutch_bucket.specs.Laws.{LanesStay}
use Rattle.stealing.specs.Laws.{StaysWhereRemoved as ForeignWhereRemoved}
use Rattle.cluster_queue.specs.Heaps.{HeapsFollow}
use Rattle.cluster_queue.specs.Moves.{CanLeave, Leaves, without_item}
use Rattle.cluster_queue.specs.Queues.{IsQueue, IsStored, flat_of, slots_of}
use Rattle.cluster_queue.specs.Rows.{ArrivalsApart, entries_in, slots_in}
use Rattle.cluster_queue.specs.declared.heaps.Heaps.{Heaps}
use Rattle.cluster_queue.specs.declared.queue.Queue.{Queue}
use Rattle.cluster_queue.proofs.Frames.{flat_is, follows_removed, items_removed}
use Rattle.cluster_queue.proofs.KeptRest.{without_item_keeps}
use Rattle.cluster_queue.proofs.Rows.{arrivals_removed, arrivals_same, entries_removed, entries_same, length_removed, listed, slots_removed, slots_same}

-- no entry of an arrival is left without that arrival
without_lacks : (es : List Queued) (e : Queued) → ¬ Contains (without e.arrival es) e
without_lacks es e c =
    let test = λ (f : Queued). not (f.arrival == e.arrival) in
    both_ways (e.arrival == e.arrival) (not-true (e.arrival == e.arrival) (All-contains (λ (f : Queued). test f ≡ true) (without e.arrival es) e (filter_passes test es) c))
    (eq-eqb e.arrival e.arrival refl)

-- a slot of a queue holds an item
pub record ItemGoes (q : Queue) (slot : ℕ) (item : Item) : Type 0 where
  pub queue : IsQueue q
  pub stored : value_at q.arena slot ≡ Some item

module _ (q : Queue) (slot : ℕ) (item : Item) (h : ItemGoes q slot item) where
  -- then it may leave the heaps
  abbrev pub can_leave : CanLeave q.arena q.heaps slot
  can_leave =
      let has : IsStored q = h.queue.nested.stored in
      record {
        count = q.groups;
        s = flat_of q;
        formed = h.queue.formed;
        follows = has.heaps;
        item = item;
        stored = h.stored;
        listed = listed q.arena q.next_arrival slot item has.arrivals h.stored;
        prefer = (has.items slot item h.stored).prefer;
        once = λ other rival at same. has.arrivals.once slot other item rival h.stored at same;
      }

  -- and there is an entry
  pub some_entry : 0 < q.len
  some_entry =
      let c = listed q.arena q.next_arrival slot item h.queue.nested.stored.arrivals h.stored in
      omega (arith, c.1, h.queue.nested.stored.len)

-- the queue with other heaps in another arena and one entry less
abbrev pub without_slot : Queue → Arena Item → Heaps → ℕ → Queue
without_slot q new later turned = record q { arena = new; heaps = later; len = q.len - 1; spare = q.spare + 1; next_turn = turned }

module _ (q : Queue) (slot : ℕ) (item : Item) (h : ItemGoes q slot item) (mid new : Arena Item) (later : Heaps) (picked : Bool) (turned : ℕ)
    (leaves : Leaves q.arena mid q.heaps later slot picked q.next_turn turned) (removes : Removes mid new slot) where
  stored_mid : value_at mid slot ≡ Some item
  stored_mid = leaves.values slot ∙ h.stored

  mid_arrivals : ArrivalsApart mid q.next_arrival
  mid_arrivals = arrivals_same q.arena mid q.next_arrival h.queue.nested.stored.arrivals leaves.values

  mid_entries : entries_in mid q.next_arrival ≡ (flat_of q).entries
  mid_entries = entries_same q.arena mid q.next_arrival h.queue.nested.stored.arrivals leaves.values

  mid_slots : slots_in mid q.next_arrival ≡ slots_of q
  mid_slots = slots_same q.arena mid q.next_arrival h.queue.nested.stored.arrivals leaves.values

  entries_left : entries_in new q.next_arrival ≡ without item.arrival (flat_of q).entries
  entries_left = entries_removed mid new q.next_arrival slot item mid_arrivals removes stored_mid ∙ ap (without item.arrival) mid_entries

  pub slots_left : slots_in new q.next_arrival ≡ slots_without item.arrival (flat_of q).entries (slots_of q)
  slots_left = slots_removed mid new q.next_arrival slot item mid_arrivals removes stored_mid ∙ ap₂ (slots_without item.arrival) mid_entries mid_slots

  -- the queue is the one without the item
  follows_left : StaysWhereRemoved → ForeignWhereRemoved → LanesStay → HeldAreLive 0 key_of_item key_precedes → HeapsFollow new later q.groups (without_item picked item (flat_of q))
  follows_left queues foreign stay live =
      let keeps = without_item_keeps picked item (flat_of q) in
      follows_removed queues foreign stay live mid new later q.groups slot item (without_item picked item (flat_of q)) (leaves.follows (can_leave q slot item h) refl) removes stored_mid
      (subst (λ (es : List Queued). ¬ Contains es (entry_of item)) (sym keeps.entries) (without_lacks (flat_of q).entries (entry_of item)))

  pub flat_left : StaysWhereRemoved → ForeignWhereRemoved → LanesStay → HeldAreLive 0 key_of_item key_precedes → flat_of (without_slot q new later turned) ≡ without_item picked item (flat_of q)
  flat_left queues foreign stay live =
      let keeps = without_item_keeps picked item (flat_of q) in
      flat_is (without_slot q new later turned) (without_item picked item (flat_of q)) (follows_left queues foreign stay live) (entries_left ∙ sym keeps.entries) (sym keeps.lanes) (sym keeps.last)
      (sym keeps.next_arrival) (leaves.turn (can_leave q slot item h) refl) (sym keeps.on)

  -- and its parts are still those of it
  pub stored_left : StaysWhereRemoved → ForeignWhereRemoved → LanesStay → HeldAreLive 0 key_of_item key_precedes → new.spare ≡ mid.spare + 1 → IsStored (without_slot q new later turned)
  stored_left queues foreign stay live more =
      let has : IsStored q = h.queue.nested.stored in
      let less = length_removed mid new q.next_arrival slot item mid_arrivals removes stored_mid in
      let long = ap (λ (es : List Queued). length es) mid_entries in
      let some = some_entry q slot item h in
      record {
        heaps = subst (HeapsFollow new later q.groups) (sym (flat_left queues foreign stay live)) (follows_left queues foreign stay live);
        items = items_removed mid new q.groups slot (λ other held at. has.items other held (sym (leaves.values other) ∙ at)) removes;
        arrivals = arrivals_removed mid new q.next_arrival slot item mid_arrivals removes stored_mid;
        len = omega (arith, less, long, has.len);
        few_groups = has.few_groups;
        list_room = omega (arith, leaves.room, has.list_room);
        spare = omega (arith, more, leaves.spare, has.spare);
        room = omega (arith, some, has.room);
      }
