-- No slot has links, and none before the place has a value. Each turn takes a value out.
use Rattle.std.proofs.Common.{◌≡◌, ◌<◌, None, ℕ}
use Rattle.link_arena.specs.Arena.{links_at, live_count, unlinked, value_at}
use Rattle.trace_machine.proofs.yard.Yard.end.Given as goal

abbrev pub invariant-loop-slot : goal.invariant-loop-slot
invariant-loop-slot l = record {
  links : (k slot : ℕ) → links_at l.sleepers k slot ≡ unlinked;
  none : (slot : ℕ) → slot < l.from → value_at l.sleepers slot ≡ None;
}

abbrev pub decreases-loop-slot : goal.decreases-loop-slot
decreases-loop-slot l = live_count l.sleepers
