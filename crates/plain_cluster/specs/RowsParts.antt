-- What the fields of the rows keep; for private calls only.
use Rattle.std.specs.Prelude.{length, ◌+◌, ◌<◌, ◌^◌, ◌≤◌}
use Rattle.std.specs.Vec.{vec_capacity}
use Rattle.plain_cluster.specs.Entries.{EachSlotOnce, slots_of}
use Rattle.plain_cluster.specs.declared.rows.Rows.TheInside.{Inside}

-- each slot is taken or free, and both lists have room for all slots, of which there are fewer than 2^32
pub record IsRows (r : Inside) : Type 0 where
  pub slots : EachSlotOnce (slots_of r.rows.items) r.free.items
  pub rows_room : length r.rows.items + length r.free.items ≤ vec_capacity r.rows
  pub free_room : length r.rows.items + length r.free.items ≤ vec_capacity r.free
  pub few : length r.rows.items + length r.free.items < 2 ^ 32
