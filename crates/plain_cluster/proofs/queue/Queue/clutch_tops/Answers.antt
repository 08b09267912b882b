use Rattle.std.proofs.Common.{List, filter, sym, ap, ◌∙◌, subst}
use Rattle.flat_policy.specs.Policy.Precedence.{greatest_pri}
use Rattle.flat_policy.specs.Policy.Queue.{in_clutch}
use Rattle.plain_cluster.specs.Entries.{Slotted, entries_of}
use Rattle.plain_cluster.specs.Repricing.{HaveGroups}
use Rattle.plain_cluster.proofs.queue.Queue.clutch_tops.Goals as goal

pub clutch_tops-requires : goal.clutch_tops-requires
clutch_tops-requires c = subst (λ (rs : List Slotted). HaveGroups (entries_of rs)) (sym c.as_slice.ensures) c.requires

pub returns : goal.returns
returns c = λ k. c.clutch_tops.ensures k ∙ ap (λ (rs : List Slotted). greatest_pri (filter (in_clutch k) (entries_of rs))) c.as_slice.ensures
