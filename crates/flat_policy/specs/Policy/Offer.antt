-- Which thread a cluster offers to another along an edge.
use Rattle.std.specs.Prelude.{Bool, IsTrue, None, Option, Some, filter, if◌then◌else◌, is_some, nat_lt, not, ℕ, ◌&&◌, ◌-◌, ◌==◌, ◌||◌}
use Rattle.sched_base.specs.Limits.{steal_masks}
use Rattle.sched_base.specs.Bucket.{index}
use Rattle.sched_base.specs.declared.Facts.{Facts}
use Rattle.flat_policy.specs.Policy.Precedence.{precedes, precedes_in_lane}
use Rattle.flat_policy.specs.Policy.Queue.{Flat, Queued}
use Rattle.flat_policy.specs.Policy.Setup.{SetupParts, mask_has, migrates, steal_mask}
use Rattle.flat_policy.specs.Policy.Unpreceded.{unpreceded}

-- the bucket indices that may be taken along an edge, as bits: all six where the first cluster is off and threads move along it, otherwise the edge's
abbrev pub mask_between : SetupParts → ℕ → ℕ → Bool → ℕ
mask_between setup from to on = if not on && migrates setup from to then steal_masks - 1 else steal_mask setup from to

-- whether a thread is unbound
abbrev pub is_unbound : Facts → Bool
is_unbound t = not (is_some t.bound)

-- whether an unbound thread prefers a cluster
abbrev pub prefers : ℕ → Facts → Bool
prefers to t = is_unbound t && (t.prefer == to)

-- whether an unbound thread's bucket is in a mask
abbrev pub is_masked : ℕ → Facts → Bool
is_masked mask t = is_unbound t && mask_has mask t.bucket

-- whether a cluster may take a thread over an edge that moves threads or not, with that mask
abbrev pub may_take : ℕ → Bool → ℕ → Facts → Bool
may_take to migrate mask t = (migrate && prefers to t) || is_masked mask t

-- among the threads that prefer the other cluster: the lower bucket index, then as in one unit
abbrev pub foreign_before : Queued → Queued → Bool
foreign_before x y =
    nat_lt (index x.facts.bucket) (index y.facts.bucket)
    || ((index x.facts.bucket == index y.facts.bucket) && precedes x y)

-- among the threads of the mask: the lower bucket index, then as in one lane
abbrev pub masked_before : Flat → Queued → Queued → Bool
masked_before s x y =
    nat_lt (index x.facts.bucket) (index y.facts.bucket)
    || ((index x.facts.bucket == index y.facts.bucket) && precedes_in_lane s x y)

-- the first of two that is there
abbrev pub first_there : {X : Type 0} → Option X → Option X → Option X
first_there (Some x) other = Some x
first_there None other = other

-- the entry offered of those that prefer the other cluster
abbrev pub offered_foreign : ℕ → Flat → Option Queued
offered_foreign to s = unpreceded foreign_before (filter (λ (e : Queued). prefers to e.facts) s.entries)

-- the entry offered of those in the mask
abbrev pub offered_masked : ℕ → Flat → Option Queued
offered_masked mask s = unpreceded (masked_before s) (filter (λ (e : Queued). is_masked mask e.facts) s.entries)

-- the entry offered: along an edge that moves threads one that prefers the other cluster, where there is one; otherwise one in the mask
abbrev pub offered : ℕ → Bool → ℕ → Flat → Option Queued
offered to migrate mask s = first_there (if migrate then offered_foreign to s else None) (offered_masked mask s)

-- the same by the setup's edge
abbrev pub offered_between : SetupParts → ℕ → ℕ → Flat → Option Queued
offered_between setup from to s = offered to (migrates setup from to) (mask_between setup from to s.on) s

-- whether a cluster may take a thread that is queued at another
abbrev pub MayTake : SetupParts → ℕ → ℕ → Flat → Facts → Type 0
MayTake setup from to s t = IsTrue (may_take to (migrates setup from to) (mask_between setup from to s.on) t)
