use Rattle.std.proofs.Common.{◌≡◌, drop}
use Rattle.plain_cluster.proofs.Standing.{standing_in}
use Rattle.plain_cluster.proofs.scans.place_of.Given as goal

abbrev pub invariant-loop-place : goal.invariant-loop-place
invariant-loop-place l = standing_in l.slot l.arrival (drop l.place l.rows) ≡ standing_in l.slot l.arrival l.rows
