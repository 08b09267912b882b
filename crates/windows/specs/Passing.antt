-- Which lane of some may pass an earlier deadline. No public clause cites this module.
use Rattle.std.specs.Prelude.{Bool, List, None, Option, Some, false, if◌then◌else◌, true}
use Rattle.bucket_tables.specs.declared.Lane.{Lane}
use Rattle.flat_policy.specs.declared.setup.Times.{Times}
use Rattle.flat_policy.specs.Policy.Queue.{LaneState}
use Rattle.flat_policy.specs.Policy.Windows.{may_pass}

-- the lane found so far, else one more, where that counts and may pass
abbrev pub passing_with : Bool → List Times → Option Lane → LaneState → Option Lane
passing_with counts ts (Some l) w = Some l
passing_with true ts None w = if may_pass ts w then Some w.lane else None
passing_with false ts None w = None
