use Rattle.std.proofs.Common.{ℕ, ◌+◌, ◌<◌, List, cond, filter, length, take, sym, ap, ◌∙◌, arith}
use Rattle.sched_base.specs.Limits.{most_groups}
use Rattle.flat_policy.specs.Policy.Queue.{Queued}
use Rattle.plain_cluster.specs.Entries.{Slotted, entries_of}
use Rattle.plain_cluster.specs.Repricing.{in_unit}
use Rattle.plain_cluster.proofs.Counted.{each_at, few_pass}
use Rattle.plain_cluster.proofs.Scanned.{counted_more, taken_all}
use Rattle.plain_cluster.proofs.counts.Counts.of_rows.Goals as goal

pub add-requires-clause-group : goal.add-requires-clause-group
add-requires-clause-group c =
    each_at (λ (e : Queued). e.facts.group < most_groups) c.args.rows.now c.loop-row.row-index c.row-item.result c.requires.groups (omega arith) c.row-item.is

pub add-requires-clause-few : goal.add-requires-clause-few
add-requires-clause-few c =
    let t = c.row-item.result.entry.facts in
    omega (arith, c.loop-row.invariant t, few_pass (in_unit t) c.args.rows.now c.loop-row.row-index, c.requires.few)

pub loop-row-preserved : goal.loop-row-preserved
loop-row-preserved c =
    let x = c.row-item.result in
    λ t. c.add.ensures t
    ∙ (ap (λ (n : ℕ). n + cond (in_unit t x.entry) 1 0) (c.loop-row.invariant t)
    ∙ sym (counted_more (in_unit t) c.args.rows.now c.loop-row.row-index x (omega arith) c.row-item.is))

pub returns : goal.returns
returns c =
    λ t. c.loop-row.invariant t ∙ ap (λ (rs : List Slotted). length (filter (in_unit t) (entries_of rs))) (taken_all c.args.rows.now c.loop-row.row-index (omega arith))
