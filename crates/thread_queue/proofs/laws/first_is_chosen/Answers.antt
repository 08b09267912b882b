use Rattle.thread_queue.proofs.Chosen.{first_chosen}
use Rattle.thread_queue.proofs.laws.first_is_chosen.Goals as goal

pub returns : goal.returns
returns c = first_chosen
