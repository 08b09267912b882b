-- What a push does, by the fields that it changes.
use Rattle.std.proofs.Common.{◌≡◌, ℕ, ◌<◌, Option, Some, List, [], ◌∷◌, ◌++◌, sym, ◌∙◌, subst}
use Rattle.std.specs.Prelude.{slice_index_or, slice_set}
use Rattle.sched_base.specs.Limits.{most_clusters}
use Rattle.sched_base.specs.declared.Facts.{Facts}
use Rattle.flat_policy.specs.Policy.Queue.{Queued}
use Rattle.link_arena.specs.Arena.{Arena, IsLive, value_at}
use Rattle.pairing_heap.specs.Heap.{AddsPair}
use Rattle.pairing_heap.specs.Laws.{AddedStaysApart, AddsOneSlot, HeldAreLive}
use Rattle.thread_queue.specs.Item.{entry_of, foreign_key_of_item, foreign_precedes}
use Rattle.thread_queue.specs.declared.item.Item.{Item}
use Rattle.stealing.specs.Foreign.{IsForeign, IsNewArrival, LacksSlot, OffersEntries, Pushes, Roots, StandsIn, heap_of}
use Rattle.stealing.proofs.Held.{root_of_index}
use Rattle.stealing.proofs.Pushed.{Comes, comes, some_is}
use Rattle.stealing.proofs.PushedEntries.{offers_pushed}

pub cluster_of : (t : Facts) (item : Item) → t ≡ item.thread → IsForeign item.thread → t.prefer < most_clusters
cluster_of t item is wants = subst (λ (f : Facts). f.prefer < most_clusters) (sym is) wants.cluster

pub push_comes : HeldAreLive 1 foreign_key_of_item foreign_precedes → AddsOneSlot 1 foreign_key_of_item foreign_precedes → AddedStaysApart 1 foreign_key_of_item foreign_precedes → (old new : Arena Item) (foreign heaps : Roots) (slot : ℕ) (item : Item) (t : Facts) (other root : Option ℕ) → heaps ≡ foreign → t ≡ item.thread → StandsIn old foreign → IsLive old slot → value_at old slot ≡ Some item → IsForeign item.thread → LacksSlot old foreign slot → AddsPair 1 foreign_key_of_item foreign_precedes old new (slice_index_or heaps t.prefer other) root slot → Comes old new foreign (slice_set heaps t.prefer root) slot item
push_comes live one stay old new foreign heaps slot item t other root view is stands is_live stored wants lacks adds =
    let at = root_of_index foreign heaps t.prefer other view stands.eight (cluster_of t item is wants) in
    let there = subst (λ (r : Option ℕ). AddsPair 1 foreign_key_of_item foreign_precedes old new r root slot) at adds in
    let here = subst (λ (f : Facts). AddsPair 1 foreign_key_of_item foreign_precedes old new (heap_of foreign f.prefer) root slot) is there in
    let come = comes live one stay old new foreign slot item root stands is_live stored wants lacks here in
    subst (λ (roots : Roots). Comes old new foreign (slice_set roots t.prefer root) slot item) (sym view)
    (subst (λ (f : Facts). Comes old new foreign (slice_set foreign f.prefer root) slot item) (sym is) come)

pub pushes : (old new : Arena Item) (foreign later : Roots) (slot : ℕ) (item : Item) → Comes old new foreign later slot item → Pushes old new foreign later slot
pushes old new foreign later slot item come =
    record { item = item; stored = come.stored; stands = come.stands; here = come.here; others = come.others; kept = come.kept }

pub pushed_entries : (old new : Arena Item) (foreign later : Roots) (slot : ℕ) (item : Item) → Comes old new foreign later slot item → (entries : List Queued) (thing : Item) → value_at old slot ≡ Some thing → IsNewArrival entries thing.arrival → OffersEntries old foreign entries → OffersEntries new later (entries ++ entry_of thing ∷ [])
pushed_entries old new foreign later slot item come entries thing stored fresh offers =
    offers_pushed old new foreign later slot thing
    (subst (λ (i : Item). Comes old new foreign later slot i) (some_is item thing (sym come.stored ∙ stored)) come) entries fresh offers
