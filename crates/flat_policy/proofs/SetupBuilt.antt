-- The fields of a setup that is built from rows.
use Rattle.std.proofs.Common.{List, ap, length, map, refl, subst, sum_by, sym, take, ℕ, ◌∙◌, ◌≡◌}
use Rattle.std.proofs.lemmas.List.{length-map}
use Rattle.std.proofs.lemmas.Simd.{map-map}
use Rattle.flat_policy.proofs.SetupRows.{sum_cpus}
use Rattle.flat_policy.specs.Policy.BuiltSetups.{IsSetup}
use Rattle.flat_policy.specs.Policy.Ranges.{cluster_of_row, edge_of_row, nth}
use Rattle.flat_policy.specs.Representation.RowParts.{parts_of_rows}
use Rattle.flat_policy.specs.Policy.Setup.{ClusterParts, SetupParts, actor_count}
use Rattle.flat_policy.specs.Representation.SetupInside.{IsInside, inside_parts, parts_of_size, row_times, size_of_row, times_of_cluster}
use Rattle.flat_policy.specs.declared.setup.EdgeSpec.{EdgeSpec}
use Rattle.flat_policy.specs.declared.setup.Setup.TheInside.{Inside}
use Rattle.flat_policy.specs.declared.setup.Times.{Times}

-- setups of equal parts are equal
same_parts : (clusters clusters' : List ClusterParts) (edges edges' : List EdgeSpec) (groups groups' : List (List ℕ))
    (threads : ℕ) (times times' : List (List Times)) (version : ℕ) →
    clusters ≡ clusters' → edges ≡ edges' → groups ≡ groups' → times ≡ times' →
    ◌≡◌ {A = SetupParts}
    record { clusters = clusters; edges = edges; groups = groups; threads = threads; times = times; version = version }
    record { clusters = clusters'; edges = edges'; groups = groups'; threads = threads; times = times'; version = version }
same_parts clusters clusters' edges edges' groups groups' threads times times' version k e g t = rw (k, e, g, t) refl

-- what building puts into the fields
pub record Filled (s : Inside) (clusters edges groups : List (List ℕ)) (times : List (List (List ℕ))) : Type 0 where
  pub sizes : s.clusters.items ≡ map size_of_row clusters
  pub actors : s.actors ≡ sum_by (λ row. nth row 0) clusters
  pub specs : s.edges.items ≡ map edge_of_row edges
  pub rows : s.groups.items ≡ groups
  pub table : map row_times (take (length times) s.times) ≡ map times_of_cluster times
  pub places : length s.times ≡ 8

-- the parts are those of the rows
pub parts_built : (s : Inside) (clusters edges groups : List (List ℕ)) (times : List (List (List ℕ))) →
    Filled s clusters edges groups times → length times ≡ length clusters →
    inside_parts s ≡ parts_of_rows clusters edges groups s.threads times s.version
parts_built s clusters edges groups times filled same =
    let count : length s.clusters.items ≡ length times =
    ap length filled.sizes ∙ length-map clusters size_of_row ∙ sym same in
    same_parts
    (map parts_of_size s.clusters.items) (map cluster_of_row clusters) s.edges.items (map edge_of_row edges) s.groups.items groups
    s.threads (map row_times (take (length s.clusters.items) s.times)) (map times_of_cluster times) s.version
    (ap (map parts_of_size) filled.sizes ∙ map-map parts_of_size size_of_row clusters) filled.specs filled.rows
    (ap (λ n. map row_times (take n s.times)) count ∙ filled.table)

-- the fields keep what they should
pub inside_built : (s : Inside) (clusters edges groups : List (List ℕ)) (times : List (List (List ℕ))) →
    Filled s clusters edges groups times → length times ≡ length clusters →
    IsSetup (parts_of_rows clusters edges groups s.threads times s.version) → IsInside s
inside_built s clusters edges groups times filled same is =
    let parts = parts_built s clusters edges groups times filled same in
    record {
      setup = subst IsSetup (sym parts) is;
      actors = filled.actors ∙ sym (sum_cpus clusters) ∙ sym (ap actor_count parts);
      rows = filled.places;
    }
