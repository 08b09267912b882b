-- How a thread's use of a processor lowers its priority, decays, and scores its group.
use Rattle.std.specs.Prelude.{if◌then◌else◌, min, nat_lt, suc, zero, ℕ, ◌&&◌, ◌*◌, ◌+◌, ◌-◌, ◌/◌, ◌==◌}
use Rattle.sched_base.specs.Limits.{tick}
use Rattle.sched_base.specs.declared.Bucket.{Bucket}
use Rattle.sched_base.specs.declared.Bucket.TheVariants.{Bg, Df, Fg, Ini, Ui, Ut}

-- the ticks of 125000 microseconds between two moments; none backwards
abbrev pub ticks : ℕ → ℕ → ℕ
ticks from to = to / tick - from / tick

-- usage after a number of ticks: each leaves five eighths of it
abbrev pub decayed_by : ℕ → ℕ → ℕ
decayed_by zero usage = usage
decayed_by (suc count) usage = decayed_by count (usage * 5 / 8)

-- usage, decayed from one moment to another
abbrev pub decay : ℕ → ℕ → ℕ → ℕ
decay usage from to = decayed_by (ticks from to) usage

-- how much usage costs one step of priority, among n entries of one unit
abbrev pub usage_step : ℕ → ℕ
usage_step n = 16000 / min n 8

-- a base, lowered by usage among n entries of one unit
abbrev pub lowered : ℕ → ℕ → ℕ → ℕ
lowered base usage n = base - min base (usage / usage_step n)

-- the priority of a thread among n entries of its unit: its base, which usage lowers except for UI
abbrev pub priority : ℕ → Bucket → ℕ → ℕ → ℕ
priority base Ui usage n = base
priority base Fg usage n = lowered base usage n
priority base Ini usage n = lowered base usage n
priority base Df usage n = lowered base usage n
priority base Ut usage n = lowered base usage n
priority base Bg usage n = lowered base usage n

-- what a group's threads of one bucket used and for how long they were blocked, in microseconds
pub record Spans : Type 0 where
  pub used : ℕ
  pub blocked : ℕ

-- both numbers, divided by 10, once, where their sum exceeds 500000
abbrev pub scaled : Spans → Spans
scaled s = if nat_lt 500000 (s.used + s.blocked) then record { used = s.used / 10; blocked = s.blocked / 10 } else s

-- the numbers after a thread's pending run span and blocked span are added
abbrev pub with_spans : Spans → ℕ → ℕ → Spans
with_spans s ran blocked = scaled (record { used = s.used + ran; blocked = s.blocked + blocked })

-- the score: high for a group that waits more than it runs
abbrev pub interactivity : ℕ → ℕ → ℕ
interactivity used blocked =
    if (used == 0) && (blocked == 0) then 16
    else (if nat_lt used blocked then 8 + 8 * (blocked - used) / blocked else 8 * blocked / used)

-- the score of a clutch bucket; that of UI is always 16
abbrev pub score : ℕ → ℕ → Bucket → ℕ
score used blocked Ui = 16
score used blocked Fg = interactivity used blocked
score used blocked Ini = interactivity used blocked
score used blocked Df = interactivity used blocked
score used blocked Ut = interactivity used blocked
score used blocked Bg = interactivity used blocked

-- the score of a bound unit
abbrev pub bound_score : Bucket → ℕ
bound_score Ui = 16
bound_score Fg = 8
bound_score Ini = 8
bound_score Df = 8
bound_score Ut = 8
bound_score Bg = 8
