-- The held values of a run together, without locks.
use Rattle.std.specs.Prelude.{Bool, List, None, Option, Some, false, is_some, length, map, nat_lt, slice_index_or, slice_set, ℕ, ◌≡◌}
use Rattle.rights.specs.Values.{DeskId}
use Rattle.flat_policy.specs.Policy.Setup.{SetupParts, cluster_count}
use Rattle.flat_policy.specs.Runs.Worker.{Program}
use Rattle.cells.specs.Held.{HeldParts, Keeps}
use Rattle.cells.specs.Packs.{Amounts}
use Rattle.cells.specs.Yards.{KeepsYard, YardParts}

-- the held clusters at eight places, filled as far as there are clusters; the yard; the slot rights of the places that are not filled, from
-- which each thread gets one; and for how many numbered turns powers are told
pub record StillParts : Type 0 where
  pub clusters : List (Option HeldParts)
  pub yard : YardParts
  pub stock : Amounts
  pub turns : ℕ

-- the held cluster of a number, where there is one
abbrev pub held_at : List (Option HeldParts) → ℕ → Option HeldParts
held_at hs c = slice_index_or hs c None

-- the places with another held cluster at a number
abbrev pub with_held : ℕ → HeldParts → List (Option HeldParts) → List (Option HeldParts)
with_held c h hs = slice_set hs c (Some h)

-- there are eight places, and exactly those below a number are filled
pub record AreFilled (n : ℕ) (places : List Bool) : Type 0 where
  pub eight : length places ≡ 8
  pub below : (c : ℕ) → slice_index_or places c false ≡ nat_lt c n

-- the same of places by what they hold
abbrev pub HoldBelow : ℕ → List (Option HeldParts) → Type 0
HoldBelow n hs = AreFilled n (map is_some hs)

-- a step at a place that is filled: what it tells of the held cluster that it finds, and the held cluster that it leaves
pub record StepsIn (old new : Option HeldParts) (Told : HeldParts → Type 0) (after : HeldParts → HeldParts) : Type 0 where
  pub tells : (h : HeldParts) → old ≡ Some h → Told h
  pub leaves : (h : HeldParts) → old ≡ Some h → new ≡ Some (after h)

-- a step at the place of a number, which leaves the other places as they are
pub record StepsAt (c : ℕ) (old new : List (Option HeldParts)) (Told : HeldParts → Type 0) (after : HeldParts → HeldParts) : Type 0 where
  pub tells : (h : HeldParts) → held_at old c ≡ Some h → Told h
  pub leaves : (h : HeldParts) → held_at old c ≡ Some h → new ≡ with_held c (after h) old

-- the same held values but for those of the clusters, and but for that of the yard
abbrev pub with_clusters : List (Option HeldParts) → StillParts → StillParts
with_clusters hs s = record s { clusters = hs }

abbrev pub with_yard : YardParts → StillParts → StillParts
with_yard y s = record s { yard = y }

-- what all held values of a run keep: the places below the number of clusters are filled, and each held value keeps what its type says
pub record KeepAll (setup : SetupParts) (programs : List Program) (desks : List DeskId) (s : StillParts) : Type 0 where
  pub filled : HoldBelow (cluster_count setup) s.clusters
  pub each : (c : ℕ) (h : HeldParts) → held_at s.clusters c ≡ Some h → Keeps setup programs desks c h
  pub yard : KeepsYard setup programs desks s.yard
