-- Nothing but places with no value comes to the list.
use Rattle.std.proofs.Common.{◌≡◌, ◌≤◌, ℕ, None, get_or, vec_len, vec_capacity}
use Rattle.link_arena.proofs.arena.lengthen.Given as goal

abbrev pub invariant-loop-place : goal.invariant-loop-place
invariant-loop-place g l =
    (vec_len l.values ≡ l.place) × (vec_capacity l.values ≡ vec_capacity l.fn.values) × (vec_len l.fn.values ≤ vec_len l.values)
    × ((k : ℕ) → get_or l.values.items k None ≡ get_or l.fn.values.items k None)
