-- Two wrong ways to let windows expire, which the starvation law refuses.
use Rattle.std.specs.Prelude.{List, map, ℕ}
use Rattle.flat_policy.specs.declared.setup.Times.{Times}
use Rattle.flat_policy.specs.Laws.Windows.{Expiring, StarvationLawOf}
use Rattle.flat_policy.specs.Policy.Queue.{LaneState}
use Rattle.flat_policy.specs.Policy.Windows.{expired_warp, expired_window}

-- warps expire, and no starvation window ends
abbrev pub never_ending : Expiring
never_ending ts s now = record s { lanes = map (λ (l : LaneState). record l { warp = expired_warp now l.warp }) s.lanes }

-- a lane whose windows expire as they should, but which keeps its deadline
abbrev pub kept_deadline : List Times → ℕ → LaneState → LaneState
kept_deadline ts now l = record (expired_window ts now l) { deadline = l.deadline }

-- no lane gets a new deadline where its window ends
abbrev pub keeping_deadlines : Expiring
keeping_deadlines ts s now = record s { lanes = map (kept_deadline ts now) s.lanes }

-- the starvation law does not hold where no window ends
abbrev pub NeverEndingIsRefused : Type 0
NeverEndingIsRefused = StarvationLawOf never_ending → ⊥

-- nor where a window ends without a new deadline
abbrev pub KeepingDeadlinesIsRefused : Type 0
KeepingDeadlinesIsRefused = StarvationLawOf keeping_deadlines → ⊥
