-- How a worked run is written: the setups, and the lines with their answers.
use Rattle.std.specs.Prelude.{Bool, List, [], map, replicate, slice_set, true, ℕ, ◌∷◌, ◌≡◌}
use Rattle.sched_base.specs.declared.Act.{Act}
use Rattle.sched_base.specs.declared.Answer.{Answer}
use Rattle.sched_base.specs.declared.Entry.{Entry}
use Rattle.sched_base.specs.declared.Step.{Step}
use Rattle.flat_policy.specs.declared.setup.EdgeSpec.{EdgeSpec}
use Rattle.flat_policy.specs.declared.setup.Times.{Times}
use Rattle.flat_policy.specs.Policy.Machine.{empty_machine, replies}
use Rattle.flat_policy.specs.Policy.Setup.{ClusterParts, SetupParts, all_buckets, times_of_version_one}

-- a line: a step, and its answer
pub record Said : Type 0 where
  pub step : Step
  pub answer : Answer

-- a line by its parts
abbrev pub row_line : ℕ → ℕ → Act → Answer → Said
row_line moment actor act answer = record { step = record { moment = moment; actor = actor; act = act }; answer = answer }

-- what a reply says, without the thread
abbrev pub said : Entry → Said
said e = record { step = e.step; answer = e.answer }

-- the machine, from the empty one, replies to some steps by these lines
abbrev pub RepliesTo : SetupParts → List Step → List Said → Type 0
RepliesTo setup steps lines = map said (replies setup (empty_machine setup) steps) ≡ lines

-- it replies to the steps of the lines by these lines
abbrev pub Replies : SetupParts → List Said → Type 0
Replies setup lines = RepliesTo setup (map (λ (l : Said). l.step) lines) lines

-- the times of version 1, by bucket index
abbrev pub times_of_version_one_all : List Times
times_of_version_one_all = map times_of_version_one all_buckets

-- a group that prefers one cluster for every bucket
abbrev pub prefers_always : ℕ → List ℕ
prefers_always c = c ∷ c ∷ c ∷ c ∷ c ∷ c ∷ []

-- a cluster of so many processors, and its rate
abbrev pub cluster_parts : ℕ → ℕ → ClusterParts
cluster_parts cpus rate = record { cpus = cpus; rate = rate }

-- an edge by its parts
abbrev pub edge : ℕ → ℕ → ℕ → Bool → ℕ → EdgeSpec
edge from to weight migrate steal = record { from = from; to = to; weight = weight; migrate = migrate; steal = steal }

-- one cluster of one processor, so many groups, room for so many threads
abbrev pub single : ℕ → ℕ → SetupParts
single groups threads = record {
  clusters = cluster_parts 1 1000 ∷ [];
  edges = [];
  groups = replicate groups (prefers_always 0);
  threads = threads;
  times = times_of_version_one_all ∷ [];
  version = 1;
}

-- one group, and room for eight threads
abbrev pub one_cluster : SetupParts
one_cluster = single 1 8

-- one group, and room for one thread
abbrev pub one_thread : SetupParts
one_thread = single 1 1

-- two groups
abbrev pub two_groups : SetupParts
two_groups = single 2 8

-- two clusters, the second slower; threads move both ways, and those of UT may be stolen from the first
abbrev pub two_clusters_at : ℕ → SetupParts
two_clusters_at weight = record {
  clusters = cluster_parts 1 1000 ∷ cluster_parts 1 400 ∷ [];
  edges = edge 0 1 weight true 16 ∷ edge 1 0 0 true 0 ∷ [];
  groups = prefers_always 0 ∷ prefers_always 1 ∷ [];
  threads = 8;
  times = times_of_version_one_all ∷ times_of_version_one_all ∷ [];
  version = 1;
}

-- the edge from the first weighs 8000
abbrev pub two_clusters : SetupParts
two_clusters = two_clusters_at 8000

-- the same with the weight 20000
abbrev pub two_clusters_apart : SetupParts
two_clusters_apart = two_clusters_at 20000

-- the times of version 1 with another WARP for FG
abbrev pub times_with_warp : ℕ → List Times
times_with_warp warp = slice_set times_of_version_one_all 1 (record { wcel = 0; warp = warp; quantum = 10000 })

-- one cluster with such times
abbrev pub timed : ℕ → SetupParts
timed warp = record one_cluster { times = times_with_warp warp ∷ []; version = 2 }

-- FG may pass nothing
abbrev pub without_warp : SetupParts
without_warp = timed 0

-- FG has its WARP of version 1
abbrev pub timed_warp : SetupParts
timed_warp = timed 8000
