-- The first entry of a queue is the one that no other of its entries precedes.
use Rattle.std.proofs.Common.{◌≡◌, ℕ, false, List, sym, ap, ◌∙◌}
use Rattle.flat_policy.specs.Policy.Precedence.{precedes}
use Rattle.flat_policy.specs.Policy.Queue.{Queued}
use Rattle.flat_policy.specs.Policy.Unpreceded.{IsUnpreceded}
use Rattle.flat_policy.proofs.Choice.{chosen_is}
use Rattle.flat_policy.proofs.Members.{all_from_members}
use Rattle.link_arena.specs.Arena.{Arena}
use Rattle.thread_queue.specs.Item.{entry_of}
use Rattle.thread_queue.specs.Laws.{AreEntries, IsChosen}
use Rattle.thread_queue.specs.Queue.{IsFirst, Queue}
use Rattle.thread_queue.specs.declared.item.Item.{Item}

pub first_chosen : (arena : Arena Item) (queue : Queue) (entries : List Queued) (slot : ℕ) → AreEntries arena queue entries → (first : IsFirst arena queue slot) → IsChosen entries (entry_of first.item)
first_chosen arena queue entries slot are first =
    let top = entry_of first.item in
    let unpreceded : IsUnpreceded precedes entries top = record {
      member = are.there slot first.item first.held first.stored;
      first = all_from_members (λ (y : Queued). precedes y top ≡ false) entries (λ y member.
          let from = are.back y member in
          ap (λ (z : Queued). precedes z top) (sym from.2.2)
          ∙ first.unpreceded from.0 from.1 from.2.0 from.2.1);
    } in
    record { first = unpreceded; chosen = λ order. chosen_is precedes entries order top unpreceded }
