use Rattle.std.proofs.Common.{arith, sym, ◌∙◌}
use Rattle.plain_cluster.specs.Entries.{is_unbound_to}
use Rattle.plain_cluster.proofs.Scanned.{counted_no, counted_yes}
use Rattle.plain_cluster.proofs.scans.count_unbound.Goals as goal
use Rattle.plain_cluster.proofs.scans.count_unbound.Goals.{then-is_unbound_to, else-is_unbound_to}

pub loop-row-preserved : goal.loop-row-preserved
loop-row-preserved c =
    elim c.if-is_unbound_to.branch [
      | then-is_unbound_to w ↦ (let more = counted_yes (is_unbound_to c.args.bucket) c.args.rows.now c.loop-row.row-index c.row-item.result (omega arith) c.row-item.is (sym c.is_unbound_to.ensures ∙ w.if-is_unbound_to.true) in
          record { count = omega (arith, more); most = omega arith })
      | else-is_unbound_to w ↦ (let more = counted_no (is_unbound_to c.args.bucket) c.args.rows.now c.loop-row.row-index c.row-item.result (omega arith) c.row-item.is (sym c.is_unbound_to.ensures ∙ w.if-is_unbound_to.false) in
          record { count = omega (arith, more); most = omega arith })
    ]
