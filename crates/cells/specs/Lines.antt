-- Line rights of each cluster and of the yard, carried together.
use Rattle.std.specs.Prelude.{if◌then◌else◌, ⊤, ℕ, ◌+◌, ◌-◌, ◌<◌, ◌==◌}
use Rattle.sched_base.specs.declared.Spot.{Spot}
use Rattle.sched_base.specs.declared.Spot.TheVariants.{Cluster, Yard}
use Rattle.cells.specs.Desks.{line_desk}
use Rattle.cells.specs.Packs.{Amounts, beside}

-- a place: one of the eight clusters, or the yard
abbrev pub IsPlace : Spot → Type 0
IsPlace (Cluster c) = c < 8
IsPlace Yard = ⊤

-- the number of the desk of a place's lines; that of the yard's is the one of 8
abbrev pub line_desk_of : Spot → ℕ
line_desk_of (Cluster c) = line_desk c
line_desk_of Yard = 17

-- how many are left at a cluster, and 0 past the eight
abbrev pub left_in : ℕ → Amounts → ℕ
left_in c a =
    if c == 0 then a.at0
    else if c == 1 then a.at1
    else if c == 2 then a.at2
    else if c == 3 then a.at3
    else if c == 4 then a.at4
    else if c == 5 then a.at5
    else if c == 6 then a.at6
    else if c == 7 then a.at7
    else 0

-- how many are left at a place
abbrev pub left_at : Spot → Amounts → ℕ
left_at (Cluster c) a = left_in c a
left_at Yard a = a.yard

-- the amounts with another number at one place
abbrev pub with_at : Spot → ℕ → Amounts → Amounts
with_at (Cluster c) n a = record a {
  at0 = beside c 0 n a.at0;
  at1 = beside c 1 n a.at1;
  at2 = beside c 2 n a.at2;
  at3 = beside c 3 n a.at3;
  at4 = beside c 4 n a.at4;
  at5 = beside c 5 n a.at5;
  at6 = beside c 6 n a.at6;
  at7 = beside c 7 n a.at7;
}
with_at Yard n a = record a { yard = n }

-- one fewer at one place
abbrev pub fewer_at : Spot → Amounts → Amounts
fewer_at spot a = with_at spot (left_at spot a - 1) a

-- n more at one place
abbrev pub more_at : Spot → ℕ → Amounts → Amounts
more_at spot n a = with_at spot (left_at spot a + n) a
