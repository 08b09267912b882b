-- The first slot of a queue is one whose entry no other precedes.
use Rattle.std.proofs.Common.{◌≡◌, ℕ, Option, Some, None, IfSome, refl, sym, ap, subst}
use Rattle.link_arena.specs.Arena.{Arena}
use Rattle.pairing_heap.specs.Heap.{Stands, key_of_value}
use Rattle.pairing_heap.specs.Laws.{FirstIsLeast, HeldAreLive}
use Rattle.thread_queue.specs.Item.{key_of_item, key_precedes}
use Rattle.thread_queue.specs.Queue.{IsFirst, Queue, StandsIn}
use Rattle.thread_queue.specs.declared.item.Item.{Item}
use Rattle.thread_queue.proofs.Members.{item_at}

first_at : HeldAreLive 0 key_of_item key_precedes → FirstIsLeast 0 key_of_item key_precedes → (arena : Arena Item) (root count : ℕ) → Stands 0 key_of_item key_precedes arena (Some root) → IsFirst arena (record { root = Some root; count = count }) root
first_at live least arena root count stands =
    let first = least arena (Some root) stands in
    let valued = item_at arena root (live arena (Some root) root stands first.held) in
    record {
      held = first.held;
      item = valued.0;
      stored = valued.1;
      unpreceded = λ other rival holds stored.
          first.least root other (key_of_item valued.0) (key_of_item rival) refl
          (ap (λ (o : Option Item). key_of_value key_of_item o) valued.1) holds
          (ap (λ (o : Option Item). key_of_value key_of_item o) stored);
    }

pub first_is : HeldAreLive 0 key_of_item key_precedes → FirstIsLeast 0 key_of_item key_precedes → (arena : Arena Item) (queue : Queue) (first : Option ℕ) → first ≡ queue.root → StandsIn arena queue → IfSome first (λ slot. IsFirst arena queue slot)
first_is live least arena queue None is stands = tt
first_is live least arena queue (Some slot) is stands =
    let heap = subst (λ (root : Option ℕ). Stands 0 key_of_item key_precedes arena root) (sym is) stands.heap in
    subst (λ (root : Option ℕ). IsFirst arena (record { root = root; count = queue.count }) slot) is (first_at live least arena slot queue.count heap)
