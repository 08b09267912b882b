-- Held values that are new, what making a thread and minting line rights leaves, and what the end tells.
use Rattle.std.specs.Prelude.{List, None, Option, Some, [], flat_map, if◌then◌else◌, length, nat_lt, sum_by, ℕ, ◌++◌, ◌+◌, ◌-◌, ◌<◌, ◌≡◌, ◌≤◌, ◌∷◌}
use Rattle.sched_base.specs.Limits.{most_threads}
use Rattle.sched_base.specs.declared.Entry.{Entry}
use Rattle.sched_base.specs.declared.Facts.{Facts}
use Rattle.flat_policy.specs.Policy.Clusters.{new_cluster}
use Rattle.flat_policy.specs.Policy.Setup.{SetupParts, cluster_count}
use Rattle.flat_policy.specs.Policy.Threads.{made_thread}
use Rattle.flat_policy.specs.Runs.Histories.{empty_run_yard}
use Rattle.flat_policy.specs.Runs.Journals.{JournalParts, empty_journal}
use Rattle.flat_policy.specs.Runs.Worker.{Program}
use Rattle.cells.specs.Desks.{fresh_book}
use Rattle.cells.specs.Held.{HeldParts, unmarked}
use Rattle.cells.specs.Lines.{left_in}
use Rattle.cells.specs.Packs.{Amounts, amounts_but, yard_amounts}
use Rattle.cells.specs.Stills.{StillParts, held_at}
use Rattle.cells.specs.Yards.{YardParts, enlisting, make_act, spare_in, yard_entry, yard_moment, yard_stepped}

-- a number at each place that is not filled, where the first n are, and none elsewhere
abbrev pub past : ℕ → ℕ → Amounts
past n m = record {
  at0 = if nat_lt 0 n then 0 else m;
  at1 = if nat_lt 1 n then 0 else m;
  at2 = if nat_lt 2 n then 0 else m;
  at3 = if nat_lt 3 n then 0 else m;
  at4 = if nat_lt 4 n then 0 else m;
  at5 = if nat_lt 5 n then 0 else m;
  at6 = if nat_lt 6 n then 0 else m;
  at7 = if nat_lt 7 n then 0 else m;
  yard = 0;
}

-- a number at each of the first n places and at the yard, and none elsewhere
abbrev pub at_each : ℕ → ℕ → Amounts
at_each n m = record {
  at0 = if nat_lt 0 n then m else 0;
  at1 = if nat_lt 1 n then m else 0;
  at2 = if nat_lt 2 n then m else 0;
  at3 = if nat_lt 3 n then m else 0;
  at4 = if nat_lt 4 n then m else 0;
  at5 = if nat_lt 5 n then m else 0;
  at6 = if nat_lt 6 n then m else 0;
  at7 = if nat_lt 7 n then m else 0;
  yard = m;
}

-- a held cluster is new: empty, with nothing minted
abbrev pub IsNewHeld : SetupParts → ℕ → HeldParts → Type 0
IsNewHeld setup c h =
    h ≡ record { cluster = new_cluster setup c; journal = empty_journal; slots = fresh_book h.slots.desk; lines = fresh_book h.lines.desk; others = amounts_but c 0 0 }

-- a held yard is new: empty, with nothing minted
abbrev pub IsNewYard : YardParts → Type 0
IsNewYard h = h ≡ record {
  yard = empty_run_yard;
  room = 0;
  made_room = most_threads;
  ended_room = most_threads;
  journal = empty_journal;
  slots = fresh_book h.slots.desk;
  lines = fresh_book h.lines.desk;
  others = yard_amounts 0 0;
}

-- all held values of a run are new, 4096 slot rights lie ready at each place that is not filled, and powers are told for so many turns
pub record IsNew (setup : SetupParts) (turns : ℕ) (s : StillParts) : Type 0 where
  pub clusters : (c : ℕ) (h : HeldParts) → held_at s.clusters c ≡ Some h → IsNewHeld setup c h
  pub yard : IsNewYard s.yard
  pub stock : s.stock ≡ past (cluster_count setup) most_threads
  pub turns_are : s.turns ≡ turns

-- a held cluster with another spare
abbrev pub with_spare : ℕ → HeldParts → HeldParts
with_spare n h = record h { cluster = record h.cluster { spare = n } }

-- with one slot right more minted
abbrev pub with_slot : HeldParts → HeldParts
with_slot h = record h { slots = record h.slots { minted = h.slots.minted + 1 } }

-- a held cluster with another free room, and with more line rights minted
abbrev pub with_free : ℕ → HeldParts → HeldParts
with_free n h = record h { journal = record h.journal { free = n } }

abbrev pub with_lines : ℕ → HeldParts → HeldParts
with_lines n h = record h { lines = record h.lines { minted = h.lines.minted + n } }

-- the held cluster of a place is the same but for a part
pub record IsBut (change : ℕ → HeldParts → HeldParts) (old new : Option HeldParts) : Type 0 where
  pub each : (h : HeldParts) → old ≡ Some h → (n : ℕ) × (new ≡ Some (change n h))
  pub none : old ≡ None → new ≡ None

-- the held clusters are the same but for a part of each
pub record AreBut (change : ℕ → HeldParts → HeldParts) (old new : List (Option HeldParts)) : Type 0 where
  pub each : (c : ℕ) (h : HeldParts) → held_at old c ≡ Some h → (n : ℕ) × (held_at new c ≡ Some (change n h))
  pub none : (c : ℕ) → held_at old c ≡ None → held_at new c ≡ None

-- the held yard with another room for blocked threads, with another free room, and with more line rights minted
abbrev pub yard_with_room : ℕ → YardParts → YardParts
yard_with_room n h = record h { room = n }

abbrev pub yard_with_free : ℕ → YardParts → YardParts
yard_with_free n h = record h { journal = record h.journal { free = n } }

abbrev pub yard_with_lines : ℕ → YardParts → YardParts
yard_with_lines n h = record h { lines = record h.lines { minted = h.lines.minted + n } }

-- at most so many slot rights are minted at each cluster and in the yard, and as many fewer than 4096 lie ready at each place that is not filled
pub record AtMost (k : ℕ) (s : StillParts) : Type 0 where
  pub clusters : (c : ℕ) (h : HeldParts) → held_at s.clusters c ≡ Some h → h.slots.minted ≤ k
  pub yard : s.yard.slots.minted ≤ k
  pub stock : (c : ℕ) → c < 8 → held_at s.clusters c ≡ None → most_threads ≤ k + left_in c s.stock

-- a right of each place may be given out: fewer than 4096 are minted at each cluster and in the yard, and one lies ready at each place that is not filled
pub record HasRights (s : StillParts) : Type 0 where
  pub clusters : (c : ℕ) (h : HeldParts) → held_at s.clusters c ≡ Some h → h.slots.minted < most_threads
  pub yard : s.yard.slots.minted < most_threads
  pub stock : (c : ℕ) → c < 8 → held_at s.clusters c ≡ None → 1 ≤ left_in c s.stock

-- how many rights lie ready for a place after one was given out, which was minted where the place is filled
abbrev pub stock_left : Option HeldParts → ℕ → ℕ
stock_left None n = n - 1
stock_left (Some h) n = n

-- and for all places
abbrev pub stock_after : List (Option HeldParts) → Amounts → Amounts
stock_after hs a = record {
  at0 = stock_left (held_at hs 0) a.at0;
  at1 = stock_left (held_at hs 1) a.at1;
  at2 = stock_left (held_at hs 2) a.at2;
  at3 = stock_left (held_at hs 3) a.at3;
  at4 = stock_left (held_at hs 4) a.at4;
  at5 = stock_left (held_at hs 5) a.at5;
  at6 = stock_left (held_at hs 6) a.at6;
  at7 = stock_left (held_at hs 7) a.at7;
  yard = a.yard;
}

-- the thread of a program, made in a yard
abbrev pub made_of : SetupParts → Program → ℕ → Facts
made_of setup p moment = made_thread setup p.name p.group p.bucket p.base p.bound moment

-- a thread of a program was made
pub record Made (setup : SetupParts) (actor : ℕ) (p : Program) (now : ℕ) (old new : StillParts) (e : Entry) (t : Facts) : Type 0 where
  pub thread : t ≡ made_of setup p (yard_moment old.yard.yard now)
  pub entry : e ≡ yard_entry (yard_moment old.yard.yard now) actor (make_act t) (enlisting old.yard.yard (yard_moment old.yard.yard now) t)
  pub clusters : AreBut (λ n h. with_slot (with_spare n h)) old.clusters new.clusters
  pub room : ℕ
  pub yard : new.yard ≡ yard_stepped (unmarked e) (enlisting old.yard.yard (yard_moment old.yard.yard now) t).yard (yard_with_room room old.yard)
  pub stock : new.stock ≡ stock_after old.clusters old.stock
  pub turns_are : new.turns ≡ old.turns

-- nothing but spare changed
pub record IsButSpare (old new : StillParts) : Type 0 where
  pub clusters : AreBut with_spare old.clusters new.clusters
  pub room : ℕ
  pub yard : new.yard ≡ yard_with_room room old.yard
  pub stock : new.stock ≡ old.stock
  pub turns_are : new.turns ≡ old.turns

-- nothing but free room changed
pub record IsButFree (old new : StillParts) : Type 0 where
  pub clusters : AreBut with_free old.clusters new.clusters
  pub free : ℕ
  pub yard : new.yard ≡ yard_with_free free old.yard
  pub stock : new.stock ≡ old.stock
  pub turns_are : new.turns ≡ old.turns

-- so many line rights were minted at each place, and nothing else but free room changed
pub record HasMinted (n : ℕ) (old new : StillParts) : Type 0 where
  pub clusters : AreBut (λ f h. with_lines n (with_free f h)) old.clusters new.clusters
  pub free : ℕ
  pub yard : new.yard ≡ yard_with_lines n (yard_with_free free old.yard)
  pub stock : new.stock ≡ old.stock
  pub turns_are : new.turns ≡ old.turns

-- what is told of the held cluster of a place, where there is one, and the same of each place
abbrev pub IsIn : (HeldParts → Type 0) → Option HeldParts → Type 0
IsIn Told o = (h : HeldParts) → o ≡ Some h → Told h

abbrev pub AreIn : (HeldParts → Type 0) → List (Option HeldParts) → Type 0
AreIn Told hs = (c : ℕ) (h : HeldParts) → held_at hs c ≡ Some h → Told h

-- so many line rights more may be minted at a held cluster
abbrev pub HasFree : ℕ → HeldParts → Type 0
HasFree n h = h.lines.minted + n ≤ h.journal.free

-- and at each place
pub record HasFreeAll (n : ℕ) (s : StillParts) : Type 0 where
  pub clusters : AreIn (HasFree n) s.clusters
  pub yard : s.yard.lines.minted + n ≤ s.yard.journal.free

-- a slot right may be minted at a held cluster: there is room, and fewer than 4096 are minted
abbrev pub HasSpare : HeldParts → Type 0
HasSpare h = h.slots.minted < h.slots.parked + h.cluster.spare

abbrev pub HasFewer : HeldParts → Type 0
HasFewer h = h.slots.minted < most_threads

-- there is room at each place
pub record HasSpareAll (s : StillParts) : Type 0 where
  pub clusters : AreIn HasSpare s.clusters
  pub yard : s.yard.slots.minted < s.yard.slots.parked + spare_in s.yard

-- a right lies ready at each place that is not filled
abbrev pub HasStock : List (Option HeldParts) → Amounts → Type 0
HasStock hs a = (c : ℕ) → c < 8 → held_at hs c ≡ None → 1 ≤ left_in c a

-- how many line rights are minted at a place: none where it isn't filled
abbrev pub lines_in : ℕ → Option HeldParts → ℕ
lines_in n None = 0
lines_in n (Some h) = n

-- and at all places
abbrev pub lines_of : ℕ → List (Option HeldParts) → Amounts
lines_of n hs = record {
  at0 = lines_in n (held_at hs 0);
  at1 = lines_in n (held_at hs 1);
  at2 = lines_in n (held_at hs 2);
  at3 = lines_in n (held_at hs 3);
  at4 = lines_in n (held_at hs 4);
  at5 = lines_in n (held_at hs 5);
  at6 = lines_in n (held_at hs 6);
  at7 = lines_in n (held_at hs 7);
  yard = n;
}

-- the journal of a place, where it is filled
abbrev pub journal_in : Option HeldParts → List JournalParts
journal_in None = []
journal_in (Some h) = h.journal ∷ []

-- how many threads are queued at a place
abbrev pub queued_at : Option HeldParts → ℕ
queued_at None = 0
queued_at (Some h) = length h.cluster.flat.entries

-- all journals, those of the clusters in order and last the yard's
abbrev pub all_journals : StillParts → List JournalParts
all_journals s = flat_map journal_in s.clusters ++ s.yard.journal ∷ []

-- how many threads are queued at all places
abbrev pub all_queued : StillParts → ℕ
all_queued s = sum_by queued_at s.clusters
