use Rattle.std.proofs.Common.{ℕ, List, cond, filter, max, take, sym, ap, ◌∙◌, arith, ◌<◌}
use Rattle.flat_policy.specs.Policy.Precedence.{greatest_pri}
use Rattle.flat_policy.specs.Policy.Queue.{Queued, in_clutch}
use Rattle.sched_base.specs.Limits.{most_groups}
use Rattle.plain_cluster.specs.Entries.{Slotted, entries_of}
use Rattle.plain_cluster.specs.Repricing.{cell}
use Rattle.plain_cluster.proofs.Counted.{each_at}
use Rattle.plain_cluster.proofs.Scanned.{greatest_more, taken_all}
use Rattle.plain_cluster.proofs.Tables.{cell_of_zeros}
use Rattle.plain_cluster.proofs.scans.clutch_tops.Goals as goal

pub loop-row-init : goal.loop-row-init
loop-row-init c = λ k. ap (λ t. cell t k) c.filled-tops.ensures ∙ cell_of_zeros 64 6 k

pub raise_top-requires : goal.raise_top-requires
raise_top-requires c =
    each_at (λ (e : Queued). e.facts.group < most_groups) c.args.rows.now c.loop-row.row-index c.row-item.result c.requires (omega arith) c.row-item.is

pub loop-row-preserved : goal.loop-row-preserved
loop-row-preserved c =
    let x = c.row-item.result in
    λ k. c.raise_top.ensures k
    ∙ (ap (λ (n : ℕ). cond (in_clutch k x.entry) (max n x.entry.pri) n) (c.loop-row.invariant k)
    ∙ sym (greatest_more (in_clutch k) c.args.rows.now c.loop-row.row-index x (omega arith) c.row-item.is))

pub returns : goal.returns
returns c =
    λ k. c.loop-row.invariant k ∙ ap (λ (rs : List Slotted). greatest_pri (filter (in_clutch k) (entries_of rs))) (taken_all c.args.rows.now c.loop-row.row-index (omega arith))
