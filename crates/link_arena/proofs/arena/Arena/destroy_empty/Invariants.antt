-- None of the places that are left has a value.
use Rattle.std.proofs.Common.{◌≡◌, ℕ, None, get_or}
use Rattle.link_arena.proofs.arena.Arena.destroy_empty.Given as goal

abbrev pub invariant-loop-value : goal.invariant-loop-value
invariant-loop-value g l = (k : ℕ) → get_or l.values.items k None ≡ None

abbrev pub decreases-loop-value : goal.decreases-loop-value
decreases-loop-value g l = goal.left-loop-value g l
