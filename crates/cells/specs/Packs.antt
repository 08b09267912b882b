-- Rights of each cluster and of the yard, carried together.
use Rattle.std.specs.Prelude.{List, if◌then◌else◌, ℕ, ◌+◌, ◌==◌, ◌≡◌}
use Rattle.rights.specs.Values.{DeskId}
use Rattle.cells.specs.Desks.{StandsAt}

-- how many rights of each cluster, and of the yard
pub record Amounts : Type 0 where
  pub at0 : ℕ
  pub at1 : ℕ
  pub at2 : ℕ
  pub at3 : ℕ
  pub at4 : ℕ
  pub at5 : ℕ
  pub at6 : ℕ
  pub at7 : ℕ
  pub yard : ℕ

-- as many at one place, and as many at another
abbrev pub beside : ℕ → ℕ → ℕ → ℕ → ℕ
beside c k own n = if k == c then own else n

-- so many at each place, but at one place another number
abbrev pub amounts_but : ℕ → ℕ → ℕ → Amounts
amounts_but c own n = record {
  at0 = beside c 0 own n;
  at1 = beside c 1 own n;
  at2 = beside c 2 own n;
  at3 = beside c 3 own n;
  at4 = beside c 4 own n;
  at5 = beside c 5 own n;
  at6 = beside c 6 own n;
  at7 = beside c 7 own n;
  yard = n;
}

-- so many rights of each cluster, and so many of the yard
abbrev pub yard_amounts : ℕ → ℕ → Amounts
yard_amounts each own = record { at0 = each; at1 = each; at2 = each; at3 = each; at4 = each; at5 = each; at6 = each; at7 = each; yard = own }

-- one right of each
abbrev pub one_each : Amounts
one_each = record { at0 = 1; at1 = 1; at2 = 1; at3 = 1; at4 = 1; at5 = 1; at6 = 1; at7 = 1; yard = 1 }

-- the rights of both
abbrev pub joined : Amounts → Amounts → Amounts
joined x y = record {
  at0 = x.at0 + y.at0;
  at1 = x.at1 + y.at1;
  at2 = x.at2 + y.at2;
  at3 = x.at3 + y.at3;
  at4 = x.at4 + y.at4;
  at5 = x.at5 + y.at5;
  at6 = x.at6 + y.at6;
  at7 = x.at7 + y.at7;
  yard = x.yard + y.yard;
}

-- desks stand at every other number from one on: those of the clusters in order, and last the yard's
pub record AreFrom (desks : List DeskId) (first : ℕ) (d0 d1 d2 d3 d4 d5 d6 d7 last : DeskId) : Type 0 where
  pub at0 : StandsAt desks first d0
  pub at1 : StandsAt desks (first + 2) d1
  pub at2 : StandsAt desks (first + 4) d2
  pub at3 : StandsAt desks (first + 6) d3
  pub at4 : StandsAt desks (first + 8) d4
  pub at5 : StandsAt desks (first + 10) d5
  pub at6 : StandsAt desks (first + 12) d6
  pub at7 : StandsAt desks (first + 14) d7
  pub yard : StandsAt desks (first + 16) last

-- desks stand at the numbers of slots
abbrev pub AreOf : List DeskId → DeskId → DeskId → DeskId → DeskId → DeskId → DeskId → DeskId → DeskId → DeskId → Type 0
AreOf desks d0 d1 d2 d3 d4 d5 d6 d7 last = AreFrom desks 0 d0 d1 d2 d3 d4 d5 d6 d7 last

-- desks stand at the numbers of lines
abbrev pub AreLinesOf : List DeskId → DeskId → DeskId → DeskId → DeskId → DeskId → DeskId → DeskId → DeskId → DeskId → Type 0
AreLinesOf desks d0 d1 d2 d3 d4 d5 d6 d7 last = AreFrom desks 1 d0 d1 d2 d3 d4 d5 d6 d7 last

-- one right of each cluster, and none of the yard
abbrev pub each_cluster : Amounts
each_cluster = record { at0 = 1; at1 = 1; at2 = 1; at3 = 1; at4 = 1; at5 = 1; at6 = 1; at7 = 1; yard = 0 }

-- there is at least one right of each place but a cluster
abbrev pub AtLeastBut : ℕ → Amounts → Type 0
AtLeastBut c p = (n : ℕ) × (p ≡ amounts_but c 0 (n + 1))
