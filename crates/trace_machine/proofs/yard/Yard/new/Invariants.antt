-- The sleepers so far: no slot has a value or links, and there is room for each turn.
use Rattle.std.proofs.Common.{◌≡◌, ◌≤◌, None, ℕ}
use Rattle.link_arena.specs.Arena.{links_at, live_count, unlinked, value_at}
use Rattle.trace_machine.proofs.yard.Yard.new.Given as goal

abbrev pub invariant-loop : goal.invariant-loop
invariant-loop l = record {
  room : l.counter ≤ l.sleepers.spare;
  none : (slot : ℕ) → value_at l.sleepers slot ≡ None;
  count : live_count l.sleepers ≡ 0;
  links : (k slot : ℕ) → links_at l.sleepers k slot ≡ unlinked;
}
