-- The priority of a clutch bucket is that of its queue's first item, with the score.
use Rattle.std.proofs.Common.{◌≡◌, ℕ, ◌+◌, ◌≤◌, ◌==◌, max, true, false, Contains, List, [], ◌∷◌, Option, Some, None, IsSome, fold, map, refl, sym, ap, ap₂, ◌∙◌, subst, inl, inr, arith}
use Rattle.std.specs.Prelude.{IfSome, is_some, nat_lt, int_lt, ◌&&◌}
use Rattle.std.proofs.lemmas.Bool.{cond-true, cond-false, ltb-false, or_parts}
use Rattle.flat_policy.specs.Policy.Moves.{clutch_has_entries}
use Rattle.flat_policy.specs.Policy.Precedence.{clutch_priority, greatest_pri}
use Rattle.flat_policy.specs.Policy.Queue.{Clutch, Flat, Queued, clutch_entries, spans_of}
use Rattle.flat_policy.specs.Policy.Usage.{Spans, score}
use Rattle.link_arena.specs.Arena.{Arena, value_at}
use Rattle.pairing_heap.specs.Heap.{key_of_value, times_of}
use Rattle.pairing_heap.specs.Laws.{FirstIsLeast, HeldAreLive}
use Rattle.thread_queue.specs.Item.{entry_of, key_of_item, key_precedes}
use Rattle.thread_queue.specs.Laws.{AreEntries}
use Rattle.thread_queue.specs.Queue.{HasSlot, Queue, StandsIn, members}
use Rattle.thread_queue.specs.declared.item.Item.{Item}
use Rattle.thread_queue.specs.declared.item.ItemKey.{ItemKey}
use Rattle.clutch_bucket.specs.Lane.{item_top, slot_top}
use Rattle.clutch_bucket.specs.Renewing.{top_of}
use Rattle.clutch_bucket.proofs.Members.{first_member, later_member, member_cases, no_member, none_passes, some_passes}

max_rises : (a : ℕ) (xs : List ℕ) → a ≤ fold max a xs
max_rises a [] = omega arith
max_rises a (x ∷ xs) = omega (arith, max_rises (max a x) xs)

max_reaches : (a : ℕ) (es : List Queued) (e : Queued) → Contains es e → e.pri ≤ fold max a (map (λ (x : Queued). x.pri) es)
max_reaches a [] e c = absurd (no_member e c)
max_reaches a (y ∷ ys) e c =
    elim (member_cases y ys e c) [
      | inl is ↦ (let rest = max_rises (max a y.pri) (map (λ (x : Queued). x.pri) ys) in let same = ap (λ (x : Queued). x.pri) is in omega (arith, rest, same))
      | inr d ↦ max_reaches (max a y.pri) ys e d
    ]

max_keeps : (a m : ℕ) (es : List Queued) → a ≤ m → ((e : Queued) → Contains es e → e.pri ≤ m) → fold max a (map (λ (x : Queued). x.pri) es) ≤ m
max_keeps a m [] h each = h
max_keeps a m (y ∷ ys) h each =
    max_keeps (max a y.pri) m ys (let here = each y (first_member y ys) in omega (arith, h, here)) (λ e c. each e (later_member y ys e c))

-- a member that none exceeds has the greatest priority
pub greatest_is : (es : List Queued) (e : Queued) → Contains es e → ((f : Queued) → Contains es f → f.pri ≤ e.pri) → greatest_pri es ≡ e.pri
greatest_is es e c each =
    let low = max_reaches 0 es e c in
    let high = max_keeps 0 e.pri es (omega arith) each in
    omega (arith, low, high)

pub item_from : (o : Option Item) → IsSome o → (item : Item) × (o ≡ Some item)
item_from None live = absurd (cc)
item_from (Some item) live = (item, refl)

-- an item that isn't preceded has the greater priority
pub not_above : (x y : Item) → key_precedes (key_of_item x) (key_of_item y) ≡ false → x.pri ≤ y.pri
not_above x y h = ltb-false y.pri x.pri (or_parts (nat_lt y.pri x.pri) ((x.pri == y.pri) && int_lt x.number y.number) h).0

-- an empty queue has no entries
empty_top : (arena : Arena Item) (queue : Queue) (s : Flat) (k : Clutch) (spans : Spans) → members arena queue ≡ [] → AreEntries arena queue (clutch_entries s k) → top_of s k ≡ None
empty_top arena queue s k spans none are =
    cond-false (clutch_has_entries s k) (Some (clutch_priority s k)) None
    (none_passes (λ (e : Queued). true) (clutch_entries s k) (λ e c.
    let from = are.back e c in
    let zero = ap (λ (xs : List (ItemKey × ℕ)). times_of xs from.0) none in
    absurd (let held = from.2.0 in omega (arith, zero, held))))

pub filled_top : (s : Flat) (k : Clutch) (e : Queued) → Contains (clutch_entries s k) e → top_of s k ≡ Some (clutch_priority s k)
filled_top s k e c = cond-true (clutch_has_entries s k) (Some (clutch_priority s k)) None (some_passes (λ (e : Queued). true) (clutch_entries s k) e c refl)

-- the first item's
first_top : HeldAreLive 0 key_of_item key_precedes → FirstIsLeast 0 key_of_item key_precedes → (arena : Arena Item) (queue : Queue) (slot : ℕ) (s : Flat) (k : Clutch) (spans : Spans) → queue.root ≡ Some slot → StandsIn arena queue → AreEntries arena queue (clutch_entries s k) → spans_of s k ≡ spans → item_top k.bucket spans (value_at arena slot) ≡ top_of s k
first_top live least arena queue slot s k spans is stands are same =
    let first = least arena queue.root stands.heap in
    let held : HasSlot arena queue slot = subst (λ (r : Option ℕ). IfSome r (λ x. HasSlot arena queue x)) is first.held in
    let valued = item_from (value_at arena slot) (live arena queue.root slot stands.heap held) in
    let member = are.there slot valued.0 held valued.1 in
    let each : (f : Queued) → Contains (clutch_entries s k) f → f.pri ≤ valued.0.pri = λ f c. (
    let from = are.back f c in
    let below = first.least slot from.0 (key_of_item valued.0) (key_of_item from.1) is
    (ap (λ (o : Option Item). key_of_value key_of_item o) valued.1) from.2.0
    (ap (λ (o : Option Item). key_of_value key_of_item o) from.2.1) in
    subst (λ (e : Queued). e.pri ≤ valued.0.pri) from.2.2 (not_above from.1 valued.0 below)) in
    let greatest = greatest_is (clutch_entries s k) (entry_of valued.0) member each in
    ap (item_top k.bucket spans) valued.1
    ∙ (ap₂ (λ (g : ℕ) (sp : Spans). Some (g + score sp.used sp.blocked k.bucket)) (sym greatest) (sym same)
    ∙ sym (filled_top s k (entry_of valued.0) member))

top_by : HeldAreLive 0 key_of_item key_precedes → FirstIsLeast 0 key_of_item key_precedes → (arena : Arena Item) (queue : Queue) (root : Option ℕ) (s : Flat) (k : Clutch) (spans : Spans) → queue.root ≡ root → StandsIn arena queue → AreEntries arena queue (clutch_entries s k) → spans_of s k ≡ spans → slot_top arena k.bucket spans root ≡ top_of s k
top_by live least arena queue None s k spans is stands are same =
    let first = least arena queue.root stands.heap in
    sym (empty_top arena queue s k spans (first.none.0 (ap is_some is)) are)
top_by live least arena queue (Some slot) s k spans is stands are same = first_top live least arena queue slot s k spans is stands are same

-- the priority that a unit shows is that of the clutch bucket that it follows
pub unit_top : HeldAreLive 0 key_of_item key_precedes → FirstIsLeast 0 key_of_item key_precedes → (arena : Arena Item) (queue : Queue) (s : Flat) (k : Clutch) (spans : Spans) → StandsIn arena queue → AreEntries arena queue (clutch_entries s k) → spans_of s k ≡ spans → slot_top arena k.bucket spans queue.root ≡ top_of s k
unit_top live least arena queue s k spans stands are same = top_by live least arena queue queue.root s k spans refl stands are same
