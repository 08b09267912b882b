-- What the slots of a queue tell of its entries.
use Rattle.std.proofs.Common.{◌≡◌, ℕ, ◌==◌, ◌&&◌, Bool, true, false, List, [], ◌∷◌, Option, Some, None, length, refl, sym, ap, ap₂, ◌∙◌, inl, inr, arith}
use Rattle.std.specs.List.{list_any}
use Rattle.std.specs.Prelude.{IfNone, IfSome, IsTrue, is_some, ◌↔◌}
use Rattle.std.proofs.lemmas.Bool.{cases_Bool, cond-false, cond-true, false≢true, or_left}
use Rattle.std.proofs.lemmas.Option.{none-some, same_Some}
use Rattle.flat_policy.specs.Policy.Clusters.{standing_among}
use Rattle.sched_base.specs.Bucket.{index}
use Rattle.sched_base.specs.declared.Bucket.{Bucket}
use Rattle.bucket_tables.specs.declared.Lane.{Lane}
use Rattle.flat_policy.specs.Policy.Queue.{Queued, has_entries, in_lane, lane, lane_of, same_flag, same_lane}
use Rattle.link_arena.specs.Arena.{Arena, IsLive, value_at}
use Rattle.thread_queue.specs.Item.{entry_of}
use Rattle.thread_queue.specs.declared.item.Item.{Item}
use Rattle.cluster_queue.specs.Queues.{HoldsEntry, IsSomeSlot, flat_of}
use Rattle.cluster_queue.specs.Rows.{ArrivalsApart, entries_in, slots_in}
use Rattle.cluster_queue.specs.declared.queue.Queue.{Queue}
use Rattle.cluster_queue.proofs.ArrivalSlots.{none_or_some}
use Rattle.cluster_queue.proofs.Rows.{listed, standing_is, standing_item}

item_tells : (arrival : ℕ) (item : Item) → is_some (standing_item arrival (Some item)) ≡ (item.arrival == arrival)
item_tells arrival item = elim (cases_Bool (item.arrival == arrival)) [
  | inl like ↦ ap is_some (cond-true (item.arrival == arrival) (Some (entry_of item)) None like) ∙ sym like
  | inr unlike ↦ ap is_some (cond-false (item.arrival == arrival) (Some (entry_of item)) None unlike) ∙ sym unlike
]

-- an entry stands in a slot with the arrival of the item there
pub stands_by_item : (arena : Arena Item) (next slot arrival : ℕ) (item : Item) → ArrivalsApart arena next → value_at arena slot ≡ Some item → (item.arrival == arrival) ≡ is_some (standing_among slot arrival (entries_in arena next) (slots_in arena next))
stands_by_item arena next slot arrival item apart stored =
    sym (ap is_some (standing_is arena next slot arrival apart ∙ ap (standing_item arrival) stored) ∙ item_tells arrival item)

-- none stands in a free slot
pub none_stands : (arena : Arena Item) (next slot arrival : ℕ) → ArrivalsApart arena next → value_at arena slot ≡ None → is_some (standing_among slot arrival (entries_in arena next) (slots_in arena next)) ≡ false
none_stands arena next slot arrival apart free = ap is_some (standing_is arena next slot arrival apart ∙ ap (standing_item arrival) free)

item_stands : (arrival : ℕ) (o : Option Item) (e : Queued) → standing_item arrival o ≡ Some e → (item : Item) × ((o ≡ Some item) × (entry_of item ≡ e))
item_stands arrival None e stands = absurd (none-some e stands)
item_stands arrival (Some item) e stands = elim (cases_Bool (item.arrival == arrival)) [
  | inl like ↦ (item, (refl, same_Some (entry_of item) e (sym (cond-true (item.arrival == arrival) (Some (entry_of item)) None like) ∙ stands)))
  | inr unlike ↦ absurd (none-some e (sym (cond-false (item.arrival == arrival) (Some (entry_of item)) None unlike) ∙ stands))
]

-- a slot holds the entry that stands in it
pub standing_held : (q : Queue) (slot arrival : ℕ) (e : Queued) → ArrivalsApart q.arena q.next_arrival → standing_among slot arrival (entries_in q.arena q.next_arrival) (slots_in q.arena q.next_arrival) ≡ Some e → HoldsEntry q slot e
standing_held q slot arrival e apart stands =
    let held = item_stands arrival (value_at q.arena slot) e (sym (standing_is q.arena q.next_arrival slot arrival apart) ∙ stands) in
    record { item = held.0; stored = held.1.0; entry = held.1.1 }

none_live : {o : Option Item} → o ≡ None → ◌≡◌ {A = Bool} (is_some o) true → ⊥
none_live {o} free live = false≢true (sym (ap is_some free) ∙ live)

same_flag_self : (b : Bool) → same_flag b b ≡ true
same_flag_self true = refl
same_flag_self false = refl

-- each lane is the same as itself
same_lane_self : (at : Lane) → same_lane at at ≡ true
same_lane_self at =
    let same : (index at.bucket == index at.bucket) ≡ true = grind arith in
    ap₂ (λ x y. x && y) same (same_flag_self at.bound)

-- where no lane has entries there is none
none_queued : (es : List Queued) → ((b : Bucket) (bound : Bool) → list_any (in_lane (lane b bound)) es ≡ false) → length es ≡ 0
none_queued [] none = refl
none_queued (e ∷ es) none =
    let at = lane_of e.facts in
    absurd (false≢true (sym (none at.bucket at.bound) ∙ or_left (same_lane at at) (list_any (in_lane at) es) (same_lane_self at)))

-- a live slot holds an entry, and where no lane has entries there is none
pub some_first : (q : Queue) (place : Option ℕ) → ArrivalsApart q.arena q.next_arrival → IfSome place (λ slot. IsLive q.arena slot) → IfNone place ((b : Bucket) (bound : Bool) → has_entries (flat_of q) (lane b bound) ≡ false) → IsSomeSlot q place
some_first q None apart live none = none_queued (flat_of q).entries none
some_first q (Some slot) apart live none = elim (none_or_some (value_at q.arena slot)) [
  | inl free ↦ absurd (none_live free live)
  | inr (item, stored) ↦ (entry_of item, (record { item = item; stored = stored; entry = refl }, listed q.arena q.next_arrival slot item apart stored))
]

-- a slot is free where the test says that it is not live
pub free_from_test : (arena : Arena Item) (slot : ℕ) (live : Bool) → IsTrue live ↔ IsLive arena slot → live ≡ false → value_at arena slot ≡ None
free_from_test arena slot live tells not_live = elim (none_or_some (value_at arena slot)) [
  | inl free ↦ free
  | inr (item, stored) ↦ absurd (false≢true (sym not_live ∙ tells.1 (ap is_some stored)))
]
