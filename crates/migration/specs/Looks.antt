-- Looks, and how an aim follows from them.
use Rattle.std.specs.Prelude.{Bool, true, Err, List, None, Ok, Option, Result, Some, fold, if◌then◌else◌, is_none, nat_lt, take, ◌&&◌, ◌||◌, ◌==◌, ◌≡◌, ℕ}
use Rattle.sched_base.specs.declared.Facts.{Facts}
use Rattle.flat_policy.specs.Policy.Aim.{Look, Target, aim, off, lighter, loaded, look_at, not_looked, target_at}
use Rattle.flat_policy.specs.Laws.Choice.{better}
use Rattle.flat_policy.specs.Policy.Setup.{SetupParts, cluster_count, migrates}
use Rattle.migration.specs.declared.looks.Note.{Note}
use Rattle.migration.specs.declared.looks.Note.TheVariants.{Load, Off}
use Rattle.migration.specs.declared.looks.Candidate.{Candidate}
use Rattle.migration.specs.declared.LookFirst.{LookFirst}

-- what a note says that a look saw
abbrev pub seen : Note → Look
seen (Load l) = loaded l
seen Off = off

-- a look that was noted, where one was
abbrev pub noted : Option Note → Option Look
noted None = None
noted (Some n) = Some (seen n)

-- the looks at the clusters of a setup, of which a hand of the machine keeps as many
abbrev pub looks_among : SetupParts → List (Option Look) → List (Option Look)
looks_among setup looks = take (cluster_count setup) looks

-- an answer as the aim's
abbrev pub aimed : Result ℕ LookFirst → Result ℕ ℕ
aimed (Ok c) = Ok c
aimed (Err e) = Err e.cluster

-- the cluster that has to be looked at first, where an answer names one
abbrev pub asked : Result ℕ LookFirst → Option ℕ
asked (Ok c) = None
asked (Err e) = Some e.cluster

-- an answer is the aim by some looks: a cluster, or the lowest one that has to be looked at first
pub record IsAim (setup : SetupParts) (looks : List (Option Look)) (t : Facts) (answer : Result ℕ LookFirst) : Type 0 where
  pub aim : aimed answer ≡ aim setup looks t
  pub look_first : asked answer ≡ not_looked setup looks t

-- whether the preferred cluster, or one that a thread may move to from there, was not looked at
abbrev pub lacks_look : SetupParts → List (Option Look) → ℕ → ℕ → Bool
lacks_look setup looks prefer c = ((c == prefer) || migrates setup prefer c) && is_none (look_at looks c)

-- a candidate as a target
abbrev pub target_of : Candidate → Target
target_of x = record { cluster = x.cluster; weighed = x.weighed }

-- a candidate as a target, where there is one
abbrev pub targeted : Option Candidate → Option Target
targeted None = None
targeted (Some x) = Some (target_of x)

-- whether a number is below another, where there is one to be below
abbrev pub is_below : Option ℕ → ℕ → Bool
is_below None n = true
is_below (Some most) n = nat_lt n most

-- a target that is lighter than a load, where there is one to be lighter than
abbrev pub within : Option ℕ → Option Target → Option Target
within most None = None
within most (Some x) = if is_below most x.weighed then Some x else None

-- the target at a cluster
abbrev pub candidate_at : SetupParts → List (Option Look) → ℕ → Option ℕ → ℕ → Option Target
candidate_at setup looks prefer most c =
    if migrates setup prefer c then within most (target_at setup prefer c (look_at looks c)) else None

-- the better of the best so far and one more, where there is one
abbrev pub with_candidate : Option Target → Option Target → Option Target
with_candidate best None = best
with_candidate best (Some x) = better lighter best x

-- the best by one pass over clusters
abbrev pub best_among : SetupParts → List (Option Look) → ℕ → Option ℕ → Option Target → List ℕ → Option Target
best_among setup looks prefer most best cs = fold (λ b c. with_candidate b (candidate_at setup looks prefer most c)) best cs
