-- How many threads are queued in clusters.
use Rattle.std.proofs.Common.{◌≡◌, ℕ, ◌+◌, ◌*◌, ◌<◌, ◌≤◌, ◌^◌, List, [], ◌∷◌, length, map, sum_by, take, get_or, refl, sym, arith}
use Rattle.std.proofs.lemmas.List.Sums.{sum_by-cons, sum_by_more}
use Rattle.flat_policy.specs.Policy.Clusters.{ClusterView}
use Rattle.flat_policy.specs.Policy.Queue.{Flat}
use Rattle.flat_policy.specs.Runs.LoadTrace.{queued_count}
use Rattle.trace_machine.specs.Acting.{KeepsOn}
use Rattle.trace_machine.specs.Machines.{IsMachine, MachineView, MeansOver}
use Rattle.trace_machine.specs.Parts.{queued_in, state_of}
use Rattle.trace_machine.proofs.Beginning.{ends_with}
use Rattle.flat_policy.specs.Policy.Machine.{Yard}

-- a sum over what is made of each
pub sum_over : {X Y : Type 0} (f : Y → ℕ) (h : X → Y) (xs : List X) → sum_by f (map h xs) ≡ sum_by (λ x. f (h x)) xs
sum_over f h [] = refl
sum_over f h (x ∷ xs) = omega (arith, sum_by-cons f (h x) (map h xs), sum_by-cons (λ y. f (h y)) x xs, sum_over f h xs)

-- the threads queued in the first few clusters, each of which counts its own: their number is below so many times 2 ^ 32
pub record CountedSoFar {X : Type 0} (view : X → ClusterView) (xs : List X) (i count : ℕ) : Type 0 where
  pub few : count ≤ i * 2 ^ 32
  pub is : count ≡ sum_by (λ (x : X). length (view x).flat.entries) (take i xs)

pub counted_more : {X : Type 0} (view : X → ClusterView) (xs : List X) (i count more : ℕ) (d : X) → i < length xs → CountedSoFar view xs i count → more < 2 ^ 32
    → more ≡ length (view (get_or xs i d)).flat.entries → CountedSoFar view xs (i + 1) (count + more)
counted_more {X = X} view xs i count more d within so small is = record {
  few = omega (arith, so.few, small);
  is = omega (arith, so.is, is, sum_by_more (λ (x : X). length (view x).flat.entries) xs i d within);
}

-- few clusters
pub clusters_few : (v : MachineView) → IsMachine v → ((y : Yard) → MeansOver v y → KeepsOn v y) → length v.parts.clusters ≤ 8
clusters_few v machine stays = omega (arith, ends_with v machine stays, machine.1.2.setup.clusters_most)

-- the threads queued in the clusters are those of the state
pub queued_is : (v : MachineView) (y : Yard) → queued_in v.parts.clusters ≡ queued_count (state_of v.parts y)
queued_is v y = sym (sum_over (λ (s : Flat). length s.entries) (λ (w : ClusterView). w.flat) v.parts.clusters)
