-- What the fields of a row keep.
use Rattle.std.specs.Prelude.{◌≡◌, ◌≤◌}
use Rattle.sched_base.specs.Limits.{most_base}
use Rattle.plain_cluster.specs.declared.row.Row.TheInside.{Inside}

-- a queued thread has no pending spans, and its priority is at most 127
pub record IsRow (row : Inside) : Type 0 where
  pub pri : row.pri ≤ most_base
  pub ran : row.thread.pending_ran ≡ 0
  pub blocked : row.thread.pending_blocked ≡ 0
