use Rattle.std.proofs.Common.{◌≡◌, length, map, take}
use Rattle.cells.specs.Frames.{AreByTurn}
use Rattle.cells.proofs.frame.by_turn.Given as goal

abbrev pub invariant-loop-power : goal.invariant-loop-power
invariant-loop-power l = record {
  turns : length l.rows.items ≡ l.turns;
  each : AreByTurn (take l.power-index l.powers) (map (λ row. row.items) l.rows.items);
}
