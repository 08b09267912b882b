-- The greatest unit priorities of the UI and the FG lanes, and what they say of the choice.
use Rattle.std.specs.Prelude.{Bool, None, Option, Some, false, if◌then◌else◌, max, nat_le, true, ℕ}
use Rattle.sched_base.specs.declared.buckets.Bucket.TheVariants.{Fg, Ui}
use Rattle.bucket_tables.specs.declared.Lane.{Lane}
use Rattle.flat_policy.specs.Policy.Queue.{Flat, has_entries, lane}
use Rattle.flat_policy.specs.Policy.Windows.{lane_priority}
use Rattle.bound_buckets.specs.declared.Tops.{Tops}

-- the greatest unit priority of a lane; none where it has no entries
abbrev pub top_of : Flat → Lane → Option ℕ
top_of s l = if has_entries s l then Some (lane_priority s l) else None

-- those of the lanes of UI and FG
abbrev pub tops_of : Flat → Tops
tops_of s = record {
  ui = top_of s (lane Ui false);
  ui_bound = top_of s (lane Ui true);
  fg = top_of s (lane Fg false);
  fg_bound = top_of s (lane Fg true);
}

-- the greater of two priorities, each of which may be missing
abbrev pub greater_of : Option ℕ → Option ℕ → Option ℕ
greater_of (Some x) (Some y) = Some (max x y)
greater_of (Some x) None = Some x
greater_of None y = y

-- whether a priority is there, and the other is missing or not greater
abbrev pub at_least : Option ℕ → Option ℕ → Bool
at_least (Some x) (Some y) = nat_le y x
at_least (Some x) None = true
at_least None y = false

-- whether the bound UI lane goes first, where a UI lane does: some UI unit is there, and no FG unit has a greater priority
abbrev pub above_ui_of : Tops → Option Bool
above_ui_of t =
    if at_least (greater_of t.ui_bound t.ui) (greater_of t.fg_bound t.fg) then Some (at_least t.ui_bound t.ui) else None
