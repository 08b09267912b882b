-- Which cluster a thread may enter, how loaded a cluster is, and which one a thread should enter.
use Rattle.std.specs.Prelude.{Bool, Err, IsTrue, List, None, Ok, Option, Result, Some, [], count_by, filter, filter_map, find, if◌then◌else◌, is_none, is_some, nat_le, nat_lt, slice_index_or, ℕ, ◌&&◌, ◌*◌, ◌+◌, ◌/◌, ◌==◌, ◌||◌, ◌∷◌}
use Rattle.sched_base.specs.Bucket.{index}
use Rattle.sched_base.specs.declared.Bucket.{Bucket}
use Rattle.sched_base.specs.declared.Facts.{Facts}
use Rattle.flat_policy.specs.declared.setup.Times.{Times}
use Rattle.flat_policy.specs.Policy.Offer.{is_unbound}
use Rattle.flat_policy.specs.Policy.Queue.{Flat, Queued}
use Rattle.flat_policy.specs.Policy.Setup.{SetupParts, cluster_count, edge_weight, migrates, numbers_below}
use Rattle.flat_policy.specs.Policy.Unpreceded.{unpreceded}

-- whether a thread may enter a cluster: the one that it is bound to, or the preferred one and those that it may move to from there
abbrev pub may_enter_by : SetupParts → Option ℕ → ℕ → ℕ → Bool
may_enter_by setup (Some bound) prefer c = c == bound
may_enter_by setup None prefer c = (c == prefer) || migrates setup prefer c

-- whether a thread may enter a cluster, by its facts
abbrev pub may_enter : SetupParts → Facts → ℕ → Bool
may_enter setup t c = may_enter_by setup t.bound t.prefer c

-- a thread may enter a cluster
abbrev pub MayEnter : SetupParts → Facts → ℕ → Type 0
MayEnter setup t c = IsTrue (may_enter setup t c)

-- the load of a queue for a bucket: the unbound entries at most that low, in quanta for each processor
abbrev pub load : Times → ℕ → Flat → Bucket → ℕ
load times cpus s b =
    count_by (λ (e : Queued). is_unbound e.facts && nat_le (index e.facts.bucket) (index b)) s.entries * times.quantum / cpus

-- what a look at a cluster saw
pub data Look : Type 0 where
  loaded : ℕ → Look
  off : Look

-- the looks of a hand, by cluster
abbrev pub look_at : List (Option Look) → ℕ → Option Look
look_at looks c = slice_index_or looks c None

-- the clusters that a thread may move to from one
abbrev pub movable : SetupParts → ℕ → List ℕ
movable setup prefer = filter (migrates setup prefer) (numbers_below (cluster_count setup))

-- the clusters that the aim of an unbound thread needs to have been looked at: none where it may move to none, otherwise the preferred one and those
abbrev pub needed_by : SetupParts → ℕ → List ℕ → List ℕ
needed_by setup prefer [] = []
needed_by setup prefer (j ∷ js) = filter (λ c. (c == prefer) || migrates setup prefer c) (numbers_below (cluster_count setup))

-- the clusters that an aim needs to have been looked at; a bound thread needs none
abbrev pub needed : SetupParts → Facts → List ℕ
needed setup t = if is_some t.bound then [] else needed_by setup t.prefer (movable setup t.prefer)

-- the lowest needed cluster that was not looked at
abbrev pub not_looked : SetupParts → List (Option Look) → Facts → Option ℕ
not_looked setup looks t = find (λ c. is_none (look_at looks c)) (needed setup t)

-- a cluster that a thread may move to, with its load as seen and the weight of the edge to it
pub record Target : Type 0 where
  pub cluster : ℕ
  pub weighed : ℕ

-- the target that a look at a cluster makes: one where the look is a load
abbrev pub target_at : SetupParts → ℕ → ℕ → Option Look → Option Target
target_at setup prefer c (Some (loaded l)) = Some (record { cluster = c; weighed = l + edge_weight setup prefer c })
target_at setup prefer c (Some off) = None
target_at setup prefer c None = None

-- the clusters that a thread may move to and whose look is a load
abbrev pub targets : SetupParts → List (Option Look) → ℕ → List Target
targets setup looks prefer = filter_map (λ c. target_at setup prefer c (look_at looks c)) (movable setup prefer)

-- the least load with its edge's weight goes first, and at one sum the lower cluster. Against one preferred load that is the greatest difference
abbrev pub lighter : Target → Target → Bool
lighter x y = nat_lt x.weighed y.weighed || ((x.weighed == y.weighed) && nat_lt x.cluster y.cluster)

-- a target's cluster, or the preferred one where there is no target
abbrev pub cluster_or : ℕ → Option Target → ℕ
cluster_or prefer None = prefer
cluster_or prefer (Some x) = x.cluster

-- the aim by the look at the preferred cluster: the best target that weighs less, or the best of all where it is off; where there is none, the preferred one
abbrev pub aim_among : ℕ → Option Look → List Target → ℕ
aim_among prefer (Some (loaded l)) xs = cluster_or prefer (unpreceded lighter (filter (λ (x : Target). nat_lt x.weighed l) xs))
aim_among prefer (Some off) xs = cluster_or prefer (unpreceded lighter xs)
aim_among prefer None xs = prefer

-- the aim by the cluster that a thread is bound to, if it is, and by the lowest that has to be looked at first, if there is one
abbrev pub aim_by : SetupParts → List (Option Look) → ℕ → Option ℕ → Option ℕ → Result ℕ ℕ
aim_by setup looks prefer (Some bound) missing = Ok bound
aim_by setup looks prefer None (Some c) = Err c
aim_by setup looks prefer None None = Ok (aim_among prefer (look_at looks prefer) (targets setup looks prefer))

-- the aim of a thread: a cluster, or the lowest cluster that has to be looked at first
abbrev pub aim : SetupParts → List (Option Look) → Facts → Result ℕ ℕ
aim setup looks t = aim_by setup looks t.prefer t.bound (not_looked setup looks t)
