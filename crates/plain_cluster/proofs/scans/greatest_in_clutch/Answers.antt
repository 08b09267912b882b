use Rattle.std.proofs.Common.{arith, sym, ◌∙◌}
use Rattle.flat_policy.specs.Policy.Queue.{in_clutch}
use Rattle.plain_cluster.specs.Entries.{clutch}
use Rattle.plain_cluster.proofs.Scanned.{greatest_no, greatest_yes}
use Rattle.plain_cluster.proofs.scans.greatest_in_clutch.Goals as goal
use Rattle.plain_cluster.proofs.scans.greatest_in_clutch.Goals.{then-in_clutch, else-in_clutch}

pub loop-row-preserved : goal.loop-row-preserved
loop-row-preserved c =
    elim c.if-in_clutch.branch [
      | then-in_clutch w ↦ (let more = greatest_yes (in_clutch (clutch c.args.group c.args.bucket)) c.args.rows.now c.loop-row.row-index c.row-item.result (omega arith) c.row-item.is (sym c.in_clutch.ensures ∙ w.if-in_clutch.true) in
          record { greatest = omega (arith, more); most = omega arith })
      | else-in_clutch w ↦ (let more = greatest_no (in_clutch (clutch c.args.group c.args.bucket)) c.args.rows.now c.loop-row.row-index c.row-item.result (omega arith) c.row-item.is (sym c.in_clutch.ensures ∙ w.if-in_clutch.false) in
          record { greatest = omega (arith, more); most = omega arith })
    ]
