-- The limits of the policy and of its texts.
use Rattle.std.specs.Prelude.{ℕ, ◌^◌}

-- the number of buckets
abbrev pub bucket_count : ℕ
bucket_count = 6

-- the number of timeshare lanes: a bound and an unbound one for each bucket but UI
abbrev pub lane_count : ℕ
lane_count = 10

-- the most clusters of a setup
abbrev pub most_clusters : ℕ
most_clusters = 8

-- the most actors, through all clusters
abbrev pub most_actors : ℕ
most_actors = 16

-- the most thread groups
abbrev pub most_groups : ℕ
most_groups = 64

-- the most threads that may live at once, and so the most entries of a queue
abbrev pub most_threads : ℕ
most_threads = 4096

-- the most edges: one for each pair of unlike clusters
abbrev pub most_edges : ℕ
most_edges = 56

-- the most spans of a program
abbrev pub most_spans : ℕ
most_spans = 15

-- the highest base, and the highest priority
abbrev pub most_base : ℕ
most_base = 127

-- the first number that no line may give a cluster
abbrev pub clusters_of_lines : ℕ
clusters_of_lines = 16

-- the lowest rate of a cluster, in thousandths of a unit of work for each microsecond
abbrev pub least_rate : ℕ
least_rate = 100

-- the highest rate of a cluster: a unit of work for each microsecond
abbrev pub most_rate : ℕ
most_rate = 1000

-- the greatest weight of an edge, in microseconds of load for each processor
abbrev pub most_weight : ℕ
most_weight = 10000000

-- the first number that is no steal mask, which has a bit for each bucket
abbrev pub steal_masks : ℕ
steal_masks = 64

-- the longest WCEL that a setup may state, in microseconds
abbrev pub most_wcel : ℕ
most_wcel = 10000000

-- the longest WARP that a setup may state, in microseconds
abbrev pub most_warp : ℕ
most_warp = 1000000

-- the shortest QUANTUM that a setup may state, in microseconds
abbrev pub least_quantum : ℕ
least_quantum = 1000

-- the longest QUANTUM that a setup may state, in microseconds
abbrev pub most_quantum : ℕ
most_quantum = 100000

-- the first moment that is too late, in microseconds
abbrev pub moment_limit : ℕ
moment_limit = 2 ^ 40

-- how often usage decays, in microseconds
abbrev pub tick : ℕ
tick = 125000

-- the longest span of a program: units of work of a run span, microseconds of a sleep span
abbrev pub most_span : ℕ
most_span = 10000000

-- the most units of work of all run spans of an input
abbrev pub most_run_work : ℕ
most_run_work = 10000000

-- the most turns of an actor
abbrev pub most_turns : ℕ
most_turns = 5000

-- the most bytes of a setup line, without its newline
abbrev pub setup_bytes : ℕ
setup_bytes = 65536

-- the most bytes of any other line, without its newline
abbrev pub line_bytes : ℕ
line_bytes = 256

-- the most bytes of an input that count
abbrev pub input_bytes : ℕ
input_bytes = 67108864

-- the most bytes that are taken from a source at once
abbrev pub piece_bytes : ℕ
piece_bytes = 4096
