use Rattle.std.proofs.Common.{Option, Some, ap, sym, ◌∙◌}
use Rattle.pairing_heap.specs.Heap.{key_of_value}
use Rattle.thread_queue.specs.Item.{key_of_item}
use Rattle.thread_queue.specs.declared.item.Item.{Item}
use Rattle.thread_queue.specs.declared.item.ItemKey.{ItemKey}
use Rattle.thread_queue.proofs.Stays.{stays}
use Rattle.thread_queue.proofs.laws.stays_where_key_stays.Goals as goal

pub returns : goal.returns
returns c = λ old new slot item later was revalues same queue stands.
    stays old new queue stands (c.stays_where_key_stays.ensures old new slot later revalues (ap (λ (o : Option Item). key_of_value key_of_item o) was ∙ ap (λ (k : ItemKey). Some k) (sym same)) queue.root stands.heap)
