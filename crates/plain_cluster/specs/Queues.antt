-- What the queue in code means. The view of a cluster stands on the first two definitions; the others serve private calls only.
use Rattle.std.specs.Prelude.{List, None, Option, Some, true, map, ℕ, ◌+◌, ◌≡◌}
use Rattle.bucket_tables.specs.declared.Lane.{Lane}
use Rattle.flat_policy.specs.Policy.Clusters.{slots_without}
use Rattle.flat_policy.specs.Policy.Queue.{Flat, LaneState, Queued, has_entries, timeshare_lanes}
use Rattle.flat_policy.specs.Policy.Windows.{Choice, chosen, windows_after}
use Rattle.flat_policy.specs.Policy.WellFormed.{WellFormed}
use Rattle.plain_cluster.specs.Entries.{entries_of, slots_of}
use Rattle.plain_cluster.specs.declared.queue.Queue.{Queue}

-- the queue as the policy defines it
abbrev pub flat_of : Queue → Flat
flat_of q = record {
  entries = entries_of q.rows.rows;
  spans = q.units.spans;
  turns = q.units.turns;
  lanes = q.windows.lanes;
  last = q.last;
  next_arrival = q.next_arrival;
  next_turn = q.units.next_turn;
  on = q.on;
}

-- the flags of the windows say which lanes have entries
abbrev pub FlagsFollow : Queue → Type 0
FlagsFollow q = q.windows.filled ≡ map (λ (l : LaneState). has_entries (flat_of q) l.lane) q.windows.lanes

-- what every call of a queue asks: it is well-formed, and its flags follow
pub record IsQueue (groups : ℕ) (q : Queue) : Type 0 where
  pub formed : WellFormed groups (flat_of q)
  pub flags : FlagsFollow q

-- an entry left, and the queue is then this one
pub record TakesOut (q next : Queue) (e : Queued) (s : Flat) : Type 0 where
  pub flat : flat_of next ≡ s
  pub slots : slots_of next.rows.rows ≡ slots_without e.arrival (flat_of q).entries (slots_of q.rows.rows)
  pub spare : next.rows.spare ≡ q.rows.spare + 1
  pub flags : FlagsFollow next
  pub times : next.windows.times ≡ q.windows.times
  pub groups : next.groups ≡ q.groups

-- no entry left, and the queue is then this one
pub record StaysWith (q next : Queue) (s : Flat) : Type 0 where
  pub flat : flat_of next ≡ s
  pub rows : next.rows ≡ q.rows
  pub flags : FlagsFollow next
  pub times : next.windows.times ≡ q.windows.times
  pub groups : next.groups ≡ q.groups

-- an entry left, where there is one
abbrev pub Leaves : Queue → Queue → Option Queued → Flat → Type 0
Leaves q next None s = StaysWith q next s
Leaves q next (Some e) s = TakesOut q next e s

-- the ten timeshare lanes, in their order
abbrev pub AreTen : List LaneState → Type 0
AreTen lanes = map (λ (l : LaneState). l.lane) lanes ≡ timeshare_lanes

-- a lane with entries is chosen, and its windows change with it
pub record IsChosen (q next : Queue) (now : ℕ) (at : Lane) : Type 0 where
  pub choice : Choice
  pub chosen : chosen q.windows.times (flat_of q) ≡ Some choice
  pub lane : choice.lane ≡ at
  pub filled : has_entries (flat_of q) at ≡ true
  pub flat : flat_of next ≡ windows_after q.windows.times now choice.kind choice.lane (flat_of q)
  pub rows : next.rows ≡ q.rows
  pub units : next.units ≡ q.units
  pub queue : IsQueue q.groups next
  pub times : next.windows.times ≡ q.windows.times
  pub groups : next.groups ≡ q.groups
