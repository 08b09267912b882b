-- How the keys of a lane are renewed, and what its private calls do to its queues; for private calls only.
use Rattle.std.specs.Prelude.{Bool, None, Option, Some, false, if◌then◌else◌, not, slice_set, ℕ, ◌+◌, ◌<◌, ◌==◌, ◌||◌, ◌≡◌}
use Rattle.flat_policy.specs.Policy.Moves.{clutch_has_entries, with_next_turn, without_turn}
use Rattle.flat_policy.specs.Policy.Precedence.{clutch_priority}
use Rattle.flat_policy.specs.Policy.Queue.{Clutch, Flat, turn_of}
use Rattle.flat_policy.specs.Policy.Usage.{with_spans}
use Rattle.link_arena.specs.Arena.{Arena}
use Rattle.thread_queue.specs.Queue.{Pushes, Queue, Removes}
use Rattle.thread_queue.specs.declared.item.Item.{Item}
use Rattle.clutch_bucket.specs.Lane.{Lane, UnitsFollow, groups, queue_at, rank_at, rank_pri, rank_turn, spans_at, top_at, unit_of}
use Rattle.clutch_bucket.specs.declared.ranks.UnitKey.{UnitKey}

-- whether a key has this priority
abbrev pub is_pri : Option UnitKey → ℕ → Bool
is_pri None pri = false
is_pri (Some key) pri = key.pri == pri

-- whether a unit of this priority takes the next turn: where it was picked from, had no key, or had another priority
abbrev pub takes_turn : Bool → Option UnitKey → Option ℕ → Bool
takes_turn picked rank None = false
takes_turn picked rank (Some pri) = picked || not (is_pri rank pri)

-- the key of a unit of this priority, with the next turn where it takes that
abbrev pub renewed_rank : Bool → ℕ → Option UnitKey → Option ℕ → Option UnitKey
renewed_rank picked turn rank None = None
renewed_rank picked turn rank (Some pri) = if takes_turn picked rank (Some pri) then Some (record { pri = pri; turn = turn }) else rank

-- the next turn after that
abbrev pub renewed_turn : Bool → ℕ → Option UnitKey → Option ℕ → ℕ
renewed_turn picked turn rank top = if takes_turn picked rank top then turn + 1 else turn

-- the lane with the key of a group's unit renewed
abbrev pub with_renewed : Arena Item → Bool → ℕ → ℕ → Lane → Lane
with_renewed arena picked turn group lane = record lane { ranks = slice_set lane.ranks group (renewed_rank picked turn (rank_at lane group) (top_at arena lane group)) }

-- the priority of a clutch bucket; none where it has no entries
abbrev pub top_of : Flat → Clutch → Option ℕ
top_of s k = if clutch_has_entries s k then Some (clutch_priority s k) else None

-- the cluster's queue where a clutch bucket of this priority, with this key, loses its turn or takes the next one by the rule
abbrev pub turned : Bool → Option UnitKey → Option ℕ → Clutch → Flat → Flat
turned picked rank None k s = without_turn k s
turned picked rank (Some pri) k s = if takes_turn picked rank (Some pri) then with_next_turn k s else s

-- a slot came into a group's queue, and spans were added to the group's
pub record AddsSlot (old new : Arena Item) (before later : Lane) (group slot ran blocked : ℕ) : Type 0 where
  pub queue : Queue
  pub pushes : Pushes old new (queue_at before group) queue slot
  pub is : later ≡ record before {
    queues = slice_set before.queues group queue;
    spans = slice_set before.spans group (with_spans (spans_at before group) ran blocked);
    len = before.len + 1;
  }

-- a slot went out of a group's queue
pub record TakesSlot (old new : Arena Item) (before later : Lane) (group slot : ℕ) : Type 0 where
  pub queue : Queue
  pub removes : Removes old new (queue_at before group) queue slot
  pub same : record later { len = before.len } ≡ record before { queues = slice_set before.queues group queue }
  pub len : later.len + 1 ≡ before.len

-- the keys are those of a cluster's queue before its entries were priced anew, whose clutch buckets are filled as before, and turns are as before
pub record KeysAreOf (arena : Arena Item) (at : Lane) (s priced : Flat) : Type 0 where
  pub follow : UnitsFollow arena at priced
  pub ranks : (group : ℕ) → group < groups at → rank_pri (rank_at at group) ≡ top_of s (unit_of at group)
  pub turns : (group : ℕ) → group < groups at → turn_of priced (unit_of at group) ≡ rank_turn (rank_at at group)
  pub kept : (group : ℕ) → group < groups at → clutch_has_entries priced (unit_of at group) ≡ clutch_has_entries s (unit_of at group)
  pub empty : (group : ℕ) → group < groups at → clutch_has_entries s (unit_of at group) ≡ false → clutch_priority s (unit_of at group) ≡ clutch_priority priced (unit_of at group)
