-- How a thread's facts begin and change.
use Rattle.std.specs.Prelude.{ℕ, Option, ◌+◌, ◌-◌, ◌*◌, ◌/◌, ◌^◌, min}
use Rattle.sched_base.specs.declared.buckets.Bucket.{Bucket}
use Rattle.sched_base.specs.declared.facts.Facts.{Facts}
use Rattle.sched_base.specs.Limits.{most_rate}

-- a sum that stays at the greatest number of 32 bits
abbrev pub sum_within_32 : ℕ → ℕ → ℕ
sum_within_32 a b = min (a + b) (2 ^ 32 - 1)

-- a sum that stays at the greatest number of 64 bits
abbrev pub sum_within_64 : ℕ → ℕ → ℕ
sum_within_64 a b = min (a + b) (2 ^ 64 - 1)

-- a thread made now: seen now, and usage, pending spans and work 0
abbrev pub fresh : ℕ → ℕ → Bucket → ℕ → Option ℕ → ℕ → ℕ → Facts
fresh name group bucket base bound prefer now = record {
  name = name;
  group = group;
  bucket = bucket;
  base = base;
  bound = bound;
  prefer = prefer;
  usage = 0;
  seen = now;
  pending_ran = 0;
  pending_blocked = 0;
  work = 0;
}

-- charged for us microseconds of running at a rate in thousandths
abbrev pub charged : ℕ → ℕ → Facts → Facts
charged us rate facts = record facts {
  usage = sum_within_32 facts.usage us;
  pending_ran = sum_within_32 facts.pending_ran us;
  work = sum_within_64 facts.work (us * rate / most_rate);
}

-- with a blocked span to be counted
abbrev pub rested : ℕ → Facts → Facts
rested span facts = record facts { pending_blocked = sum_within_32 facts.pending_blocked span }

-- with this usage as of this moment, and no pending span
abbrev pub settled : ℕ → ℕ → Facts → Facts
settled usage seen facts = record facts { usage = usage; seen = seen; pending_ran = 0; pending_blocked = 0 }
