use Rattle.std.proofs.Common.{◌≡◌, ◌<◌, ℕ, if◌then◌else◌, length, slice_index, take}
use Rattle.flat_policy.specs.Runs.Interleaving.{is_home_journal}
use Rattle.stitch.proofs.homes.mark_homes.Given as goal

abbrev pub invariant-loop-i : goal.invariant-loop-i
invariant-loop-i l = record {
  sixteen : length l.homes ≡ 16;
  marked : (a : ℕ) → a < 16 → slice_index l.homes a ≡ (if is_home_journal a (take l.i l.journal.lines) then l.cluster else slice_index l.fn.homes a);
}
