use Rattle.std.proofs.Common.{List, filter, length, sym, ap, ◌∙◌, subst}
use Rattle.plain_cluster.specs.Entries.{Slotted, entries_of}
use Rattle.plain_cluster.specs.Queues.{flat_of}
use Rattle.plain_cluster.specs.Repricing.{HaveGroups, in_unit}
use Rattle.plain_cluster.proofs.Tables.{unit_is}
use Rattle.plain_cluster.proofs.queue.Queue.counts.Goals as goal

pub of_rows-requires-clause-groups : goal.of_rows-requires-clause-groups
of_rows-requires-clause-groups c = subst (λ (rs : List Slotted). HaveGroups (entries_of rs)) (sym c.as_slice.ensures) c.requires.groups

pub returns : goal.returns
returns c = λ t. c.of_rows.ensures t ∙ (ap (λ (rs : List Slotted). length (filter (in_unit t) (entries_of rs))) c.as_slice.ensures ∙ unit_is (flat_of c.args.self.now) t)
