-- Which blocked thread is woken.
use Rattle.std.specs.List.{remove}
use Rattle.std.specs.Prelude.{Bool, List, Some, length, not, slice_index_or, ℕ, ◌<◌, ◌≡◌, ◌≤◌}
use Rattle.flat_policy.specs.Policy.Unpreceded.{is_preceded, unpreceded}
use Rattle.flat_policy.specs.Runs.Histories.{DueSleeper, wakes_before, without_first}

-- whether no blocked thread is woken before this one
abbrev pub is_foremost : List DueSleeper → DueSleeper → Bool
is_foremost ws w = not (is_preceded wakes_before ws w)

-- the thread at a place is the one to be woken first, and without it the others are left
pub record IsFirstAt (ws : List DueSleeper) (i : ℕ) : Type 0 where
  pub within : i < length ws
  pub first : (d : DueSleeper) → unpreceded wakes_before ws ≡ Some (slice_index_or ws i d)
  pub others : remove ws i ≡ without_first (is_foremost ws) ws

-- and it is due at a moment
pub record IsDueAt (ws : List DueSleeper) (i moment : ℕ) : Type 0 where
  pub at : IsFirstAt ws i
  pub due : (d : DueSleeper) → (slice_index_or ws i d).due ≤ moment
