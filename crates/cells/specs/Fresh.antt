-- Books before anything is minted, and places that are new.
use Rattle.std.specs.Prelude.{List, Option, Some, if◌then◌else◌, is_some, nat_lt, ℕ, ◌+◌, ◌≡◌}
use Rattle.rights.specs.Values.{Account, DeskId, Holding}
use Rattle.flat_policy.specs.Policy.Setup.{SetupParts, cluster_count}
use Rattle.sched_base.specs.Limits.{most_threads}
use Rattle.cells.specs.Desks.{StandsAt, fresh_book, line_desk, slot_desk}
use Rattle.cells.specs.Held.{HeldParts}
use Rattle.cells.specs.Making.{IsNewHeld}
use Rattle.cells.specs.Packs.{Amounts, beside}
use Rattle.cells.specs.Stills.{HoldBelow, held_at}

-- two books are those of a cluster, or of the yard for 8, before anything is minted
pub record AreTwo (desks : List DeskId) (c : ℕ) (slots lines : Account) : Type 0 where
  pub slots_of : StandsAt desks (slot_desk c) slots.desk
  pub slots_fresh : slots ≡ fresh_book slots.desk
  pub lines_of : StandsAt desks (line_desk c) lines.desk
  pub lines_fresh : lines ≡ fresh_book lines.desk

-- a share is one of so many rights of a desk
pub record IsShare (desks : List DeskId) (k n : ℕ) (s : Holding) : Type 0 where
  pub desk : StandsAt desks k s.desk
  pub amount : s.amount ≡ n

-- how many slot rights lie ready for a place: none where there is a cluster
abbrev pub ready_at : ℕ → ℕ → ℕ
ready_at c n = if nat_lt c n then 0 else most_threads

-- a place is filled where there is a cluster of its number, and then its held cluster is new
pub record IsNewPlace (setup : SetupParts) (c : ℕ) (place : Option HeldParts) : Type 0 where
  pub filled : is_some place ≡ nat_lt c (cluster_count setup)
  pub held : (h : HeldParts) → place ≡ Some h → IsNewHeld setup c h

-- all places are filled as far as there are clusters, and their held clusters are new
pub record AreNewPlaces (setup : SetupParts) (places : List (Option HeldParts)) : Type 0 where
  pub below : HoldBelow (cluster_count setup) places
  pub held : (c : ℕ) (h : HeldParts) → held_at places c ≡ Some h → IsNewHeld setup c h

-- more rights at one place
abbrev pub with_more : ℕ → ℕ → Amounts → Amounts
with_more c n a = record {
  at0 = beside c 0 (a.at0 + n) a.at0;
  at1 = beside c 1 (a.at1 + n) a.at1;
  at2 = beside c 2 (a.at2 + n) a.at2;
  at3 = beside c 3 (a.at3 + n) a.at3;
  at4 = beside c 4 (a.at4 + n) a.at4;
  at5 = beside c 5 (a.at5 + n) a.at5;
  at6 = beside c 6 (a.at6 + n) a.at6;
  at7 = beside c 7 (a.at7 + n) a.at7;
  yard = a.yard;
}

-- and as many as lie ready for the place, where there are so many clusters
abbrev pub ready_one : ℕ → ℕ → Amounts → Amounts
ready_one c count a = with_more c (ready_at c count) a

-- and at each place
abbrev pub readied : ℕ → Amounts → Amounts
readied count a = record {
  at0 = a.at0 + ready_at 0 count;
  at1 = a.at1 + ready_at 1 count;
  at2 = a.at2 + ready_at 2 count;
  at3 = a.at3 + ready_at 3 count;
  at4 = a.at4 + ready_at 4 count;
  at5 = a.at5 + ready_at 5 count;
  at6 = a.at6 + ready_at 6 count;
  at7 = a.at7 + ready_at 7 count;
  yard = a.yard;
}
