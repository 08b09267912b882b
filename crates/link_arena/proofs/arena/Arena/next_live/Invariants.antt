-- No slot from `from` up to the key is live.
use Rattle.std.proofs.Common.{◌≡◌, ℕ, ◌<◌, ◌≤◌, None}
use Rattle.link_arena.specs.Arena.{value_at}
use Rattle.link_arena.proofs.arena.Arena.next_live.Given as goal

abbrev pub invariant-loop-key : goal.invariant-loop-key
invariant-loop-key g l = (other : ℕ) → l.from ≤ other → other < l.key → value_at l.self other ≡ None
