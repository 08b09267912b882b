use Rattle.std.proofs.Common.{List, get_or, length, map, take, ℕ, ◌<◌, ◌≡◌}
use Rattle.flat_policy.specs.Representation.SetupInside.{HasSixes, row_times, times_of_cluster}
use Rattle.flat_policy.proofs.setup.lists.time_table.Given as goal

abbrev pub invariant-loop-c : goal.invariant-loop-c
invariant-loop-c l = record {
  rows : map row_times (take l.c l.table) ≡ map times_of_cluster (take l.c l.times);
  len : length l.table ≡ 8;
  sixes : (k : ℕ) (d : List (List ℕ)) → k < l.c → HasSixes (get_or l.times k d);
}
