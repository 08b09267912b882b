use Rattle.thread_queue.specs.Item.{settled_item}
use Rattle.thread_queue.proofs.Stays.{stays_apart}
use Rattle.thread_queue.proofs.laws.settled_stays_apart.Goals as goal

pub returns : goal.returns
returns c = λ old new queue later slot usage seen pri live stands settles other there apart.
    stays_apart old new later other there (c.rekeyed_stays_apart.ensures old new queue.root later.root slot (settled_item usage seen pri settles.item) live stands.heap settles.rekeys other.root there.heap apart)
