-- How the buckets are priced anew, one after the other. No public clause cites this module.
use Rattle.std.specs.List.{sum_by}
use Rattle.std.specs.Prelude.{List, [], fold, ℕ, ◌∷◌, ◌≡◌}
use Rattle.sched_base.specs.declared.Bucket.{Bucket}
use Rattle.sched_base.specs.declared.Bucket.TheVariants.{Bg, Df, Fg, Ini, Ut}
use Rattle.flat_policy.specs.Laws.Refreshing.{with_turns_of}
use Rattle.flat_policy.specs.Policy.Queue.{Flat}
use Rattle.flat_policy.specs.Policy.WellFormed.{WellFormed}
use Rattle.link_arena.specs.Arena.{Arena}
use Rattle.thread_queue.specs.declared.item.Item.{Item}
use Rattle.cluster_queue.specs.Refreshing.{PricedUpTo, changed_in_bucket}
use Rattle.cluster_queue.specs.declared.heaps.Heaps.{Heaps}

-- the buckets that are priced anew, in order
abbrev pub priced_buckets : List Bucket
priced_buckets = Fg ∷ Ini ∷ Df ∷ Ut ∷ Bg ∷ []

-- the queue after the clutch buckets of these buckets took their turns
abbrev pub with_all_turns : ℕ → Flat → Flat → Flat
with_all_turns count s p = fold (with_turns_of count s) p priced_buckets

-- the lanes of all these buckets are priced anew, and their clutch buckets take their turns
abbrev pub PricesBuckets : Arena Item → Arena Item → Heaps → Heaps → ℕ → ℕ → ℕ → ℕ → Type 0
PricesBuckets old new before later now turns turned changed =
    (start : Arena Item) (count : ℕ) (s p : Flat) → WellFormed count s → PricedUpTo start old before count now s p 1 → turns ≡ p.next_turn
    → PricedUpTo start new later count now s (with_all_turns count s p) 6 × (turned ≡ (with_all_turns count s p).next_turn) × (changed ≡ sum_by (changed_in_bucket s now) priced_buckets)
