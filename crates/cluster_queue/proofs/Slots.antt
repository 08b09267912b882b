-- Slots of queues, and the items that they hold.
use Rattle.std.proofs.Common.{◌≡◌, ℕ, ◌<◌, List, Option, Some, None, refl, sym, ◌∙◌, subst, inl, inr, arith}
use Rattle.std.proofs.lemmas.Bool.{cases_eq}
use Rattle.std.proofs.lemmas.Option.{same_Some, none-some}
use Rattle.link_arena.specs.Arena.{Arena, IsLive, value_at}
use Rattle.pairing_heap.specs.Heap.{times_of}
use Rattle.thread_queue.specs.Laws.{StaysIn}
use Rattle.thread_queue.specs.Queue.{HasSlot, LacksSlot, Queue, times_in}
use Rattle.thread_queue.specs.declared.item.Item.{Item}
use Rattle.thread_queue.specs.declared.item.ItemKey.{ItemKey}
use Rattle.cluster_queue.proofs.Held.{some_from}

-- the item at a live slot, which is the only one there
pub item_at : (arena : Arena Item) (slot : ℕ) → IsLive arena slot → (item : Item) × (value_at arena slot ≡ Some item)
item_at arena slot live = some_from (value_at arena slot) live

pub one_item : (arena : Arena Item) (slot : ℕ) (x y : Item) → value_at arena slot ≡ Some x → value_at arena slot ≡ Some y → x ≡ y
one_item arena slot x y here there = same_Some x y (sym here ∙ there)

-- what a slot held before, where its item became one that relates to it, and it stays free if it was
before_by : (old new : Arena Item) (R : Item → Item → Type 0) (slot : ℕ) (later : Item) → ((item : Item) → value_at old slot ≡ Some item → (x : Item) × ((value_at new slot ≡ Some x) × R item x))
    → (value_at old slot ≡ None → value_at new slot ≡ None) → value_at new slot ≡ Some later → (v : Option Item) → value_at old slot ≡ v → (item : Item) × ((value_at old slot ≡ Some item) × R item later)
before_by old new R slot later becomes free stored None is = absurd (none-some later (sym (free is) ∙ stored))
before_by old new R slot later becomes free stored (Some item) is =
    let x = becomes item is in
    (item, (is, subst (R item) (one_item new slot x.0 later x.1.0 stored) x.1.1))

pub item_before : (old new : Arena Item) (R : Item → Item → Type 0) (slot : ℕ) (later : Item) → ((item : Item) → value_at old slot ≡ Some item → (x : Item) × ((value_at new slot ≡ Some x) × R item x))
    → (value_at old slot ≡ None → value_at new slot ≡ None) → value_at new slot ≡ Some later → (item : Item) × ((value_at old slot ≡ Some item) × R item later)
item_before old new R slot later becomes free stored = before_by old new R slot later becomes free stored (value_at old slot) refl

-- a queue lacks a slot that it cannot have
pub lacks_where_not : (arena : Arena Item) (queue : Queue) (slot : ℕ) → (HasSlot arena queue slot → ⊥) → LacksSlot arena queue slot
lacks_where_not arena queue slot without = elim (cases_eq (times_in arena queue slot) 0) [
  | inl none ↦ none
  | inr some ↦ absurd (without (omega (arith, some)))
]

-- a queue that stays has the slots that it had
pub has_before : (old new : Arena Item) (queue : Queue) (slot : ℕ) → StaysIn old new queue → HasSlot new queue slot → HasSlot old queue slot
has_before old new queue slot stays has = subst (λ (ms : List (ItemKey × ℕ)). 0 < times_of ms slot) stays.same has

pub has_after : (old new : Arena Item) (queue : Queue) (slot : ℕ) → StaysIn old new queue → HasSlot old queue slot → HasSlot new queue slot
has_after old new queue slot stays has = subst (λ (ms : List (ItemKey × ℕ)). 0 < times_of ms slot) (sym stays.same) has
