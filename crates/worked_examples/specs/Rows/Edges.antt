-- Worked runs along edges: bound threads, aims, offers, clusters that are off, and moments.
use Rattle.std.specs.Prelude.{List, None, Some, [], false, ℕ, ◌∷◌}
use Rattle.sched_base.specs.declared.Act.{Act}
use Rattle.sched_base.specs.declared.Bucket.TheVariants.{Fg, Ut}
use Rattle.sched_base.specs.declared.Step.{Step}
use Rattle.worked_examples.specs.Rows.Run.{Replies, RepliesTo, Said, one_cluster, row_line, two_clusters, two_clusters_apart}
use Rattle.sched_base.specs.declared.Act.TheVariants as acts
use Rattle.sched_base.specs.declared.Answer.TheVariants as answers

-- a bound thread enters its cluster alone, is not offered, and goes first at one deadline
abbrev pub bound_threads_lines : List Said
bound_threads_lines =
    row_line 0 0 (acts.Make 2 0 Ut 31 (Some 0)) answers.Yes
    ∷ row_line 0 0 (acts.Enter 1 false) answers.NotAllowed
    ∷ row_line 0 0 (acts.Aim) (answers.To 0)
    ∷ row_line 0 0 (acts.Enter 0 false) (answers.Pri 31)
    ∷ row_line 0 1 (acts.Offer 0) answers.Empty
    ∷ row_line 0 0 (acts.Make 1 0 Ut 31 None) answers.Yes
    ∷ row_line 0 0 (acts.Enter 0 false) (answers.Pri 31)
    ∷ row_line 0 0 (acts.Select) (answers.Got 2)
    ∷ row_line 0 1 (acts.Offer 0) (answers.Got 1)
    ∷ row_line 5000 1 (acts.Ran 5000) (answers.Work 2000)
    ∷ []

-- what the machine replies to these steps
abbrev pub BoundThreads : Type 0
BoundThreads = Replies two_clusters bound_threads_lines

-- an aim needs its looks, and goes where the load is less by more than the weight
abbrev pub aim_needs_looks_lines : List Said
aim_needs_looks_lines =
    row_line 0 0 (acts.Make 1 0 Fg 31 None) answers.Yes
    ∷ row_line 0 0 (acts.Enter 0 false) (answers.Pri 31)
    ∷ row_line 0 0 (acts.Make 2 0 Fg 31 None) answers.Yes
    ∷ row_line 0 0 (acts.Enter 0 false) (answers.Pri 31)
    ∷ row_line 0 0 (acts.Make 3 0 Fg 31 None) answers.Yes
    ∷ row_line 0 0 (acts.Aim) (answers.LookFirst 0)
    ∷ row_line 0 0 (acts.Look 0) (answers.Load 20000)
    ∷ row_line 0 0 (acts.Aim) (answers.LookFirst 1)
    ∷ row_line 0 0 (acts.Look 1) (answers.Load 0)
    ∷ row_line 0 0 (acts.Aim) (answers.To 1)
    ∷ row_line 0 0 (acts.Enter 1 false) (answers.Pri 31)
    ∷ []

-- what the machine replies to these steps
abbrev pub AimNeedsLooks : Type 0
AimNeedsLooks = Replies two_clusters aim_needs_looks_lines

-- with a weight of 20000 the thread stays
abbrev pub aim_stays_lines : List Said
aim_stays_lines =
    row_line 0 0 (acts.Make 1 0 Fg 31 None) answers.Yes
    ∷ row_line 0 0 (acts.Enter 0 false) (answers.Pri 31)
    ∷ row_line 0 0 (acts.Make 2 0 Fg 31 None) answers.Yes
    ∷ row_line 0 0 (acts.Enter 0 false) (answers.Pri 31)
    ∷ row_line 0 0 (acts.Make 3 0 Fg 31 None) answers.Yes
    ∷ row_line 0 0 (acts.Aim) (answers.LookFirst 0)
    ∷ row_line 0 0 (acts.Look 0) (answers.Load 20000)
    ∷ row_line 0 0 (acts.Aim) (answers.LookFirst 1)
    ∷ row_line 0 0 (acts.Look 1) (answers.Load 0)
    ∷ row_line 0 0 (acts.Aim) (answers.To 0)
    ∷ row_line 0 0 (acts.Enter 0 false) (answers.Pri 31)
    ∷ []

-- what the machine replies to these steps
abbrev pub AimStays : Type 0
AimStays = Replies two_clusters_apart aim_stays_lines

-- a thread that prefers the asking cluster is offered first, then one of the mask
abbrev pub offers_lines : List Said
offers_lines =
    row_line 0 0 (acts.Make 1 0 Fg 31 None) answers.Yes
    ∷ row_line 0 0 (acts.Enter 0 false) (answers.Pri 31)
    ∷ row_line 0 0 (acts.Make 2 0 Ut 31 None) answers.Yes
    ∷ row_line 0 0 (acts.Enter 0 false) (answers.Pri 31)
    ∷ row_line 0 0 (acts.Make 3 1 Fg 20 None) answers.Yes
    ∷ row_line 0 0 (acts.Enter 0 false) (answers.Pri 20)
    ∷ row_line 0 1 (acts.Offer 0) (answers.Got 3)
    ∷ row_line 0 1 (acts.Enter 1 false) (answers.Pri 20)
    ∷ row_line 0 1 (acts.Offer 0) (answers.Got 2)
    ∷ row_line 0 1 (acts.End) answers.Yes
    ∷ row_line 0 1 (acts.Offer 0) answers.Empty
    ∷ row_line 0 0 (acts.Offer 1) answers.Empty
    ∷ row_line 0 0 (acts.Offer 0) answers.OwnCluster
    ∷ []

-- what the machine replies to these steps
abbrev pub Offers : Type 0
Offers = Replies two_clusters offers_lines

-- a thread in the middle is pulled out, and the others are offered in order
abbrev pub pulled_from_the_middle_lines : List Said
pulled_from_the_middle_lines =
    row_line 0 0 (acts.Make 1 1 Fg 31 None) answers.Yes
    ∷ row_line 0 0 (acts.Enter 0 false) (answers.Pri 31)
    ∷ row_line 0 0 (acts.Make 2 1 Fg 30 None) answers.Yes
    ∷ row_line 0 0 (acts.Enter 0 false) (answers.Pri 30)
    ∷ row_line 0 0 (acts.Make 3 1 Fg 29 None) answers.Yes
    ∷ row_line 0 0 (acts.Enter 0 false) (answers.Pri 29)
    ∷ row_line 0 0 (acts.Pull 2) answers.Yes
    ∷ row_line 0 0 (acts.End) answers.Yes
    ∷ row_line 0 1 (acts.Offer 0) (answers.Got 1)
    ∷ row_line 0 1 (acts.End) answers.Yes
    ∷ row_line 0 1 (acts.Offer 0) (answers.Got 3)
    ∷ []

-- what the machine replies to these steps
abbrev pub PulledFromTheMiddle : Type 0
PulledFromTheMiddle = Replies two_clusters pulled_from_the_middle_lines

-- a cluster that is off selects nothing, gives its threads away, and is avoided
abbrev pub off_and_on_lines : List Said
off_and_on_lines =
    row_line 0 0 (acts.Make 1 0 Fg 31 None) answers.Yes
    ∷ row_line 0 0 (acts.Enter 0 false) (answers.Pri 31)
    ∷ row_line 0 1 (acts.Offer 0) answers.Empty
    ∷ row_line 0 0 (acts.Off 0) answers.Yes
    ∷ row_line 0 0 (acts.Select) answers.Off
    ∷ row_line 0 1 (acts.Offer 0) (answers.Got 1)
    ∷ row_line 0 1 (acts.Look 0) answers.Off
    ∷ row_line 0 1 (acts.Look 1) (answers.Load 0)
    ∷ row_line 0 1 (acts.Aim) (answers.To 1)
    ∷ row_line 0 1 (acts.Enter 1 false) (answers.Pri 31)
    ∷ row_line 0 0 (acts.On 0) answers.Yes
    ∷ row_line 0 0 (acts.Offer 1) (answers.Got 1)
    ∷ []

-- what the machine replies to these steps
abbrev pub OffAndOn : Type 0
OffAndOn = Replies two_clusters off_and_on_lines

-- a cluster that is off still takes threads in
abbrev pub off_alone_lines : List Said
off_alone_lines =
    row_line 0 0 (acts.Off 0) answers.Yes
    ∷ row_line 0 0 (acts.Make 1 0 Fg 31 None) answers.Yes
    ∷ row_line 0 0 (acts.Aim) (answers.To 0)
    ∷ row_line 0 0 (acts.Enter 0 false) (answers.Pri 31)
    ∷ row_line 0 0 (acts.Select) answers.Off
    ∷ row_line 0 0 (acts.On 0) answers.Yes
    ∷ row_line 0 0 (acts.Select) (answers.Got 1)
    ∷ []

-- what the machine replies to these steps
abbrev pub OffAlone : Type 0
OffAlone = Replies one_cluster off_alone_lines

-- a step as it is handed in
abbrev pub step_at : ℕ → ℕ → Act → Step
step_at moment actor act = record { moment = moment; actor = actor; act = act }

-- four steps, two of which are handed in at a moment that is past
abbrev pub moments_steps : List Step
moments_steps = step_at 100 0 acts.Select ∷ step_at 200 0 acts.End ∷ step_at 50 0 acts.Select ∷ step_at 50 1 (acts.Offer 0) ∷ []

-- moments are raised to the last ones of actor and cluster; a refused step leaves these as they were
abbrev pub moments_lines : List Said
moments_lines =
    row_line 100 0 (acts.Select) answers.Empty
    ∷ row_line 200 0 (acts.End) answers.HandEmpty
    ∷ row_line 100 0 (acts.Select) answers.Empty
    ∷ row_line 100 1 (acts.Offer 0) answers.Empty
    ∷ []

-- what the machine replies to these steps
abbrev pub Moments : Type 0
Moments = RepliesTo two_clusters moments_steps moments_lines
