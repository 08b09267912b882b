-- The queue after its heaps are refreshed.
use Rattle.std.proofs.Common.{◌≡◌, ℕ, List, [], ◌∷◌, fold, length, refl, sym, ap, ◌∙◌, subst, arith}
use Rattle.std.specs.Prelude.{◌==◌}
use Rattle.std.proofs.lemmas.Bool.{cond_both}
use Rattle.std.proofs.lemmas.List.{length-map}
use Rattle.flat_policy.specs.Policy.Moves.{with_next_turn}
use Rattle.flat_policy.specs.Policy.Precedence.{clutch_priority}
use Rattle.flat_policy.specs.Policy.Queue.{Clutch, Flat, Queued}
use Rattle.flat_policy.specs.Policy.Refresh.{all_clutches, refreshed, repriced, turn_on_refresh, with_new_prices}
use Rattle.link_arena.specs.Arena.{Arena}
use Rattle.thread_queue.specs.declared.item.Item.{Item}
use Rattle.windows.specs.Flags.{AreWindowsOf}
use Rattle.windows.specs.Steps.{WindowsFollowSteps}
use Rattle.cluster_queue.specs.Heaps.{HeapsFollow}
use Rattle.cluster_queue.specs.Queues.{IsQueue, StaysWith, flat_of}
use Rattle.cluster_queue.specs.Refreshing.{CanRefresh, Refreshes, RefreshesHeaps}
use Rattle.cluster_queue.specs.declared.heaps.Heaps.{Heaps}
use Rattle.cluster_queue.specs.declared.queue.Queue.{Queue}
use Rattle.cluster_queue.proofs.Frames.{flat_is}
use Rattle.cluster_queue.proofs.Rows.{arrivals_repriced, entries_repriced, listed, slots_repriced}

-- the turns of a refresh change nothing else
module _ {Y : Type 0} (part : Flat → Y) (stays : (k : Clutch) (x : Flat) → part (with_next_turn k x) ≡ part x) where
  turn_keeps : (before x : Flat) (k : Clutch) → part (turn_on_refresh before x k) ≡ part x
  turn_keeps before x k = cond_both (clutch_priority before k == clutch_priority x k) x (with_next_turn k x) (λ (y : Flat). part y ≡ part x) (λ e. refl) (λ e. stays k x)

  turns_keep : (before x : Flat) (ks : List Clutch) → part (fold (turn_on_refresh before) x ks) ≡ part x
  turns_keep before x [] = refl
  turns_keep before x (k ∷ ks) = turns_keep before (turn_on_refresh before x k) ks ∙ turn_keeps before x k

  pub refresh_keeps : (groups : ℕ) (s : Flat) (now : ℕ) → part (refreshed groups s now) ≡ part (with_new_prices s now)
  refresh_keeps groups s now = turns_keep s (with_new_prices s now) (all_clutches groups)

abbrev pub can_refresh : (q : Queue) → IsQueue q → CanRefresh q.arena q.heaps
can_refresh q h =
    let stored = h.nested.stored in
    record {
      count = q.groups;
      next = q.next_arrival;
      s = flat_of q;
      formed = h.formed;
      follows = stored.heaps;
      items = stored.items;
      listed = λ slot item there. listed q.arena q.next_arrival slot item stored.arrivals there;
      arrivals = stored.arrivals;
      room = stored.list_room;
    }

-- the queue with its arena and its heaps refreshed, at a moment, and another next turn
abbrev pub with_refreshed : Queue → Arena Item → Heaps → ℕ → ℕ → Queue
with_refreshed q arena heaps turn now = record q { arena = arena; heaps = heaps; next_turn = turn; last = now }

module _ (q : Queue) (h : IsQueue q) (arena : Arena Item) (heaps : Heaps) (turn now changed : ℕ) (r : RefreshesHeaps q.arena arena q.heaps heaps now q.next_turn turn changed) where
  pub refreshes : Refreshes q.arena arena heaps q.groups now (flat_of q)
  refreshes = r.follows (can_refresh q h) refl

  flat_refreshed : flat_of (with_refreshed q arena heaps turn now) ≡ refreshed q.groups (flat_of q) now
  flat_refreshed =
      let s : Flat = flat_of q in
      flat_is (with_refreshed q arena heaps turn now) (refreshed q.groups s now) refreshes.follows
      (entries_repriced q.arena arena q.next_arrival now s h.nested.stored.arrivals refreshes.items ∙ sym (refresh_keeps (λ (x : Flat). x.entries) (λ k x. refl) q.groups s now))
      (sym (refresh_keeps (λ (x : Flat). x.lanes) (λ k x. refl) q.groups s now))
      (sym (refresh_keeps (λ (x : Flat). x.last) (λ k x. refl) q.groups s now))
      (sym (refresh_keeps (λ (x : Flat). x.next_arrival) (λ k x. refl) q.groups s now))
      (r.turn (can_refresh q h) refl)
      (sym (refresh_keeps (λ (x : Flat). x.on) (λ k x. refl) q.groups s now))

  pub refreshed_queue : WindowsFollowSteps → StaysWith q (with_refreshed q arena heaps turn now) (refreshed q.groups (flat_of q) now)
  refreshed_queue law =
      let s : Flat = flat_of q in
      let stored = h.nested.stored in
      let priced = entries_repriced q.arena arena q.next_arrival now s stored.arrivals refreshes.items in
      record {
        flat = flat_refreshed;
        slots = slots_repriced q.arena arena q.next_arrival now s stored.arrivals refreshes.items;
        spare = refl;
        nested = record {
          stored = record {
            heaps = subst (HeapsFollow arena heaps q.groups) (sym flat_refreshed) refreshes.follows;
            items = refreshes.fits;
            arrivals = arrivals_repriced q.arena arena q.next_arrival now s stored.arrivals refreshes.items;
            len = stored.len ∙ (sym (length-map s.entries (repriced s now)) ∙ ap (λ (es : List Queued). length es) (sym priced));
            few_groups = stored.few_groups;
            list_room = omega (arith, stored.list_room, r.room);
            spare = omega (arith, stored.spare, r.spare);
            room = stored.room;
          };
          windows = subst (λ (x : Flat). AreWindowsOf q.windows.times x q.windows) (sym flat_refreshed)
              ((law q.groups q.windows.times s q.windows h.formed h.nested.windows).refreshing q.groups now);
        };
        setting = record { groups = refl; times = refl };
      }
