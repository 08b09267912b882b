-- Once all buckets but UI are priced anew, all entries are.
use Rattle.std.proofs.Common.{◌≡◌, ◌⊎◌, ℕ, true, false, cond, Contains, List, filter, length, map, slice_index_or, refl, sym, ap, ◌∙◌, subst, inl, inr}
use Rattle.std.proofs.lemmas.Bool.{cond-true}
use Rattle.std.proofs.lemmas.List.{map-id}
use Rattle.sched_base.specs.declared.Bucket.{Bucket}
use Rattle.sched_base.specs.declared.Bucket.TheVariants.{Bg, Df, Fg, Ini, Ui, Ut}
use Rattle.flat_policy.specs.Policy.Queue.{Clutch, Flat, Queued, clutch_entries, clutch_place, in_clutch, in_lane, lane, lane_entries, no_spans}
use Rattle.flat_policy.specs.Policy.Refresh.{is_ui, repriced}
use Rattle.flat_policy.specs.Policy.Usage.{Spans}
use Rattle.link_arena.specs.Arena.{Arena}
use Rattle.thread_queue.specs.Item.{entry_of}
use Rattle.thread_queue.specs.declared.item.Item.{Item}
use Rattle.clutch_bucket.specs.Lane.{Lane, unit_of}
use Rattle.clutch_bucket.specs.Laws.{LanesStay, SameClutches}
use Rattle.cluster_queue.specs.Heaps.{BoundFollows, LaneFollows, bound_at, lane_at}
use Rattle.cluster_queue.specs.Refreshing.{AllListed, AreRepriced, CanFill, HasPrices, PricedUpTo, is_done, priced_upto}
use Rattle.cluster_queue.specs.Rows.{ArrivalsApart}
use Rattle.cluster_queue.specs.declared.heaps.Heaps.{Heaps}
use Rattle.cluster_queue.proofs.Buckets.{lane_of_clutch, parts_of_lane}
use Rattle.cluster_queue.proofs.PricedEntries.{clutch_stays, lane_stays, priced_not, priced_now, with_price}
use Rattle.cluster_queue.proofs.PricedLists.{lane_length}
use Rattle.cluster_queue.proofs.Rows.{arrivals_repriced}
use Rattle.cluster_queue.proofs.Members.{filter_of_map, map_filter_agree, map_has}
use Rattle.cluster_queue.proofs.Slots.{item_before}

-- an entry of UI stays
pub ui_stays : (s : Flat) (now : ℕ) (e : Queued) → e.facts.bucket ≡ Ui → repriced s now e ≡ e
ui_stays s now e h = cond-true (is_ui e.facts.bucket) e (with_price s now e) (ap is_ui h)

done_or_ui : (b : Bucket) → (is_done 6 b ≡ true) ⊎ (b ≡ Ui)
done_or_ui Ui = inr refl
done_or_ui Fg = inl refl
done_or_ui Ini = inl refl
done_or_ui Df = inl refl
done_or_ui Ut = inl refl
done_or_ui Bg = inl refl

pub all_priced : (s : Flat) (now : ℕ) (e : Queued) → priced_upto s now 6 e ≡ repriced s now e
all_priced s now e = elim (done_or_ui e.facts.bucket) [
  | inl h ↦ priced_now s now 6 e h
  | inr u ↦ priced_not s now 6 e (ap (is_done 6) u) ∙ sym (ui_stays s now e u)
]

module _ (s p : Flat) (now : ℕ) (prices : HasPrices s p now 6) where
  -- the clutch buckets of UI are those before
  ui_clutch : (k : Clutch) → k.bucket ≡ Ui → clutch_entries p k ≡ clutch_entries s k
  ui_clutch k ui =
      ap (λ (es : List Queued). filter (in_clutch k) es) prices.entries
      ∙ (filter_of_map (in_clutch k) (repriced s now) (clutch_stays s now k) s.entries
      ∙ (map_filter_agree (in_clutch k) (repriced s now) (λ e. e) (λ e h. ui_stays s now e ((parts_of_lane k.bucket false e (lane_of_clutch k e h)).0 ∙ ui)) s.entries
      ∙ map-id (clutch_entries s k)))

  same_in_ui : (at : Lane) → at.bucket ≡ Ui → SameClutches at s p
  same_in_ui at ui = record {
    each = λ group within. record {
      entries = ui_clutch (unit_of at group) ui;
      spans = ap (λ (ss : List Spans). slice_index_or ss (clutch_place (unit_of at group)) no_spans) prices.spans;
      turn = prices.turns (unit_of at group) (ap (is_done 6) ui);
    };
    len = lane_length s p now at.bucket false prices.entries;
    span_places = ap (λ (ss : List Spans). length ss) prices.spans;
    turn_places = prices.turn_places;
  }

  -- so each lane follows the queue with new prices, that of UI as the others
  pub lanes_done : LanesStay → (arena : Arena Item) (at : Lane) (count : ℕ) (b : Bucket) → LaneFollows arena at count b (cond (is_done 6 b) p s) → LaneFollows arena at count b p
  lanes_done stay arena at count Ui f = record {
    bucket = f.bucket;
    groups = f.groups;
    follows = stay arena arena at s p f.follows
        (record { queues = λ group within. record { stands = (f.follows.stands.units.each group within).stands; same = refl }; values = λ slot has. refl })
        (same_in_ui at f.bucket);
  }
  lanes_done stay arena at count Fg f = f
  lanes_done stay arena at count Ini f = f
  lanes_done stay arena at count Df f = f
  lanes_done stay arena at count Ut f = f
  lanes_done stay arena at count Bg f = f

  -- and each bound queue has its entries
  pub bound_done : (b : Bucket) → map (priced_upto s now 6) (lane_entries s (lane b true)) ≡ lane_entries p (lane b true)
  bound_done b =
      map_filter_agree (in_lane (lane b true)) (priced_upto s now 6) (repriced s now) (λ e h. all_priced s now e) s.entries
      ∙ (sym (filter_of_map (in_lane (lane b true)) (repriced s now) (lane_stays s now b true) s.entries)
      ∙ sym (ap (λ (es : List Queued). filter (in_lane (lane b true)) es) prices.entries))

-- each item is priced anew where it lies
pub items_done : (start arena : Arena Item) (heaps : Heaps) (count now : ℕ) (s p : Flat) → PricedUpTo start arena heaps count now s p 6 → AreRepriced start arena s now
items_done start arena heaps count now s p r = record {
  items = λ slot item stored. (let h = r.values slot item stored in (h.0, (h.1.0, h.1.1 ∙ all_priced s now (entry_of item))));
  free = r.free;
}

-- the entries of all items are those of the queue with new prices
pub listed_done : (start arena : Arena Item) (s p : Flat) (now : ℕ) → AreRepriced start arena s now → p.entries ≡ map (repriced s now) s.entries → AllListed start s → AllListed arena p
listed_done start arena s p now priced entries listed = λ slot item stored.
    let was = item_before start arena (λ was later. entry_of later ≡ repriced s now (entry_of was)) slot item (priced.items slot) (priced.free slot) stored in
    subst (λ (es : List Queued). Contains es (entry_of item)) (sym entries)
    (subst (λ (e : Queued). Contains (map (repriced s now) s.entries) e) (sym was.1.1) (map_has (repriced s now) s.entries (entry_of was.0) (listed slot was.0 was.1.0)))

-- so the heaps of foreign threads can be filled
abbrev pub can_fill : LanesStay → (start arena : Arena Item) (heaps : Heaps) (count next now : ℕ) (s p : Flat) → ArrivalsApart start next → PricedUpTo start arena heaps count now s p 6 → CanFill arena heaps
can_fill stay start arena heaps count next now s p arrivals r =
    let priced = items_done start arena heaps count now s p r in
    record {
      count = count;
      next = next;
      s = p;
      six = r.six;
      lanes = λ b. lanes_done s p now r.prices stay arena (lane_at heaps b) count b (r.lanes b);
      bound = λ b. subst (λ (es : List Queued). BoundFollows arena (bound_at heaps b) es) (bound_done s p now r.prices b) (r.bound b);
      foreign = r.foreign;
      loose = r.loose;
      fits = r.fits;
      listed = listed_done start arena s p now priced r.prices.entries r.listed;
      arrivals = arrivals_repriced start arena next now s arrivals priced;
    }
