-- A bound lane whose queue is priced anew holds the lane's entries priced anew.
use Rattle.std.proofs.Common.{◌≡◌, ◌≢◌, ℕ, Bool, true, false, List, is_some, length, refl, sym, ap, ◌∙◌}
use Rattle.std.proofs.lemmas.Bool.{and_parts, cond-true}
use Rattle.std.proofs.lemmas.List.{length-map}
use Rattle.sched_base.specs.declared.Bucket.{Bucket}
use Rattle.sched_base.specs.declared.Bucket.TheVariants.{Ui}
use Rattle.flat_policy.specs.Policy.Queue.{Flat, Queued, in_lane, lane, lane_entries, same_bucket, same_flag}
use Rattle.flat_policy.specs.Policy.Refresh.{repriced}
use Rattle.link_arena.specs.Arena.{Arena}
use Rattle.pairing_heap.specs.Laws.{HeldAreLive}
use Rattle.thread_queue.specs.Item.{entry_of, key_of_item, key_precedes}
use Rattle.thread_queue.specs.Laws.{SlotsStandOnce, WalkCountsSlots}
use Rattle.thread_queue.specs.Queue.{Queue}
use Rattle.thread_queue.specs.declared.item.Item.{Item}
use Rattle.clutch_bucket.specs.Laws.{BoundLanesArePriced, BoundStands}
use Rattle.clutch_bucket.specs.Repricing.{IsPriced, repriced_item}
use Rattle.clutch_bucket.proofs.ChangedSlots.{queue_changed}
use Rattle.clutch_bucket.proofs.Clutches.{bucket_is}
use Rattle.clutch_bucket.proofs.Members.{filter_member}
use Rattle.clutch_bucket.proofs.Repriced.{PricedAsEntries, apart_priced, entries_priced, entry_priced}

flagged : (a : Bool) → same_flag a true ≡ true → a ≡ true
flagged true h = refl
flagged false h = h

-- an entry of a bound lane: its parts
parts_of_bound : (b : Bucket) (e : Queued) → in_lane (lane b true) e ≡ true → (is_some e.facts.bound ≡ true) × (e.facts.bucket ≡ b)
parts_of_bound b e h =
    let parts = and_parts (same_bucket e.facts.bucket b) (same_flag (is_some e.facts.bound) true) h in
    (flagged (is_some e.facts.bound) parts.1, bucket_is e.facts.bucket b parts.0)

bound_as_entries : (arena : Arena Item) (queue : Queue) (now : ℕ) (s : Flat) (b : Bucket) → b ≢ Ui → BoundStands arena queue s b → PricedAsEntries arena queue now s
bound_as_entries arena queue now s b bucket bound = λ slot item has stored. (
    let member = filter_member (in_lane (lane b true)) s.entries (entry_of item) (bound.entries.there slot item has stored) in
    let parts = parts_of_bound b (entry_of item) member.1 in
    entry_priced s queue.count now item (λ same. bucket (sym parts.1 ∙ same)) (bound.ran slot item has stored) (bound.blocked slot item has stored)
    (bound.count ∙ (ap (λ (c : Bucket). length (lane_entries s (lane c true))) (sym parts.1)
    ∙ sym (ap (λ (es : List Queued). length es) (cond-true (is_some item.thread.bound) (lane_entries s (lane item.thread.bucket true)) _ parts.0)))))

pub bound_priced : HeldAreLive 0 key_of_item key_precedes → SlotsStandOnce → WalkCountsSlots → BoundLanesArePriced
bound_priced live single walk = λ old new queue later now s b bucket rise bound r. (
    let es : List Queued = lane_entries s (lane b true) in
    let as_entries = bound_as_entries old queue now s b bucket bound in
    let priced : IsPriced old new queue later now = record { count = r.count; slots = r.slots; values = r.values } in
    record {
      entries = entries_priced live old new queue later now s es bound.stands bound.entries as_entries priced;
      count = r.count ∙ (bound.count ∙ sym (length-map es (repriced s now)));
      apart = apart_priced live old new queue later now s es bound.stands bound.entries as_entries priced bound.apart;
      holds = λ slot item has stored. (repriced_item queue.count now item, (r.values slot item has stored, as_entries slot item has stored));
      changed = queue_changed walk single old queue now s (in_lane (lane b true)) bound.stands bound.entries bound.apart as_entries rise;
    })
