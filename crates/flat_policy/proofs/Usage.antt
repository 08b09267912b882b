-- Bounds on prices, on usage that decays, and on the numbers of use of a clutch bucket.
use Rattle.std.proofs.Common.{ℕ, suc, zero, ◌+◌, ◌-◌, ◌*◌, ◌/◌, ◌<◌, ◌≤◌, ◌^◌, min, nat_lt, arith}
use Rattle.std.proofs.lemmas.Bool.{cond_both, ltb-false}
use Rattle.sched_base.specs.declared.Bucket.{Bucket}
use Rattle.sched_base.specs.declared.Bucket.TheVariants.{Bg, Df, Fg, Ini, Ui, Ut}
use Rattle.flat_policy.specs.Policy.Usage.{Spans, decay, decayed_by, priority, ticks, usage_step, with_spans}
use Rattle.flat_policy.specs.Policy.WellFormed.{SmallSpans}

less_below : (base loss : ℕ) → base - min base loss ≤ base
less_below base loss = omega arith

-- a priority is no higher than its base
pub priority_within : (base : ℕ) (b : Bucket) (usage n : ℕ) → priority base b usage n ≤ base
priority_within base Ui usage n = omega arith
priority_within base Fg usage n = less_below base (usage / usage_step n)
priority_within base Ini usage n = less_below base (usage / usage_step n)
priority_within base Df usage n = less_below base (usage / usage_step n)
priority_within base Ut usage n = less_below base (usage / usage_step n)
priority_within base Bg usage n = less_below base (usage / usage_step n)

-- usage doesn't grow as it decays
decayed_within : (count usage : ℕ) → decayed_by count usage ≤ usage
decayed_within zero usage = omega arith
decayed_within (suc count) usage = omega (arith, decayed_within count (usage * 5 / 8))

pub decay_within : (usage from to : ℕ) → decay usage from to ≤ usage
decay_within usage from to = decayed_within (ticks from to) usage

-- numbers of use stay small as pending spans are added
pub with_spans_small : (s : Spans) (ran blocked : ℕ) → SmallSpans s → ran < 2 ^ 32 → blocked < 2 ^ 32 → SmallSpans (with_spans s ran blocked)
with_spans_small s ran blocked small ran_fits blocked_fits =
    let used : ℕ = s.used + ran in
    let waited : ℕ = s.blocked + blocked in
    cond_both (nat_lt 500000 (used + waited)) (record { used = used / 10; blocked = waited / 10 }) (record { used = used; blocked = waited }) SmallSpans
    (λ h. record { used = omega (arith, small.used, ran_fits); blocked = omega (arith, small.blocked, blocked_fits) })
    (λ h. let few = ltb-false 500000 (used + waited) h in record { used = omega (arith, few); blocked = omega (arith, few) })
