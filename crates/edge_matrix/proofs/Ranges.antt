-- The numbers of a setup's edges are in their ranges.
use Rattle.std.proofs.Common.{◌≡◌, ◌≤◌, ◌<◌, ◌^◌, ℕ, suc, Bool, cond, All, List, [], ◌∷◌, Some, find, ap, arith, inl, inr, subst, sym}
use Rattle.std.specs.Option.{option_map_or}
use Rattle.std.proofs.lemmas.Bool.{cases_Bool}
use Rattle.flat_policy.specs.declared.setup.EdgeSpec.{EdgeSpec}
use Rattle.flat_policy.specs.Policy.BuiltSetups.{IsEdge}
use Rattle.flat_policy.specs.Policy.Setup.{SetupParts, cluster_count, edge_weight, steal_mask}
use Rattle.edge_matrix.specs.EdgeTables.{AreEdges, EdgeTables, number_at}
use Rattle.edge_matrix.proofs.EdgeByEdge.{leads}
use Rattle.edge_matrix.proofs.Tables.{number_at-table}

-- what the first edge of a pair carries is within a range that each edge keeps
carried_within : (carried : EdgeSpec → ℕ) (most count i j : ℕ) → ((e : EdgeSpec) → IsEdge count e → carried e ≤ most)
    → (es : List EdgeSpec) → All (IsEdge count) es → option_map_or carried (find (leads i j) es) 0 ≤ most
carried_within carried most count i j each [] all = omega arith
carried_within carried most count i j each (e ∷ es) all =
    let later = carried_within carried most count i j each es (λ k d lt. all (suc k) d (omega arith)) in
    elim (cases_Bool (leads i j e)) [
      | inl is ↦ subst (λ (b : Bool). option_map_or carried (cond b (Some e) (find (leads i j) es)) 0 ≤ most) (sym is) (each e (all 0 e (omega arith)))
      | inr is ↦ subst (λ (b : Bool). option_map_or carried (cond b (Some e) (find (leads i j) es)) 0 ≤ most) (sym is) later
    ]

-- a weight has 32 bits, and a mask the six bits of the buckets
pub weight_below : (t : EdgeTables) → AreEdges t → (i j : ℕ) → i < 8 → j < 8 → number_at t.weights i j < 2 ^ 32
weight_below t is i j row column =
    let setup : SetupParts = is.setup in
    let number : number_at t.weights i j ≡ edge_weight setup i j = number_at-table t.weights (edge_weight setup) i j (ap (λ (t : EdgeTables). t.weights) is.same) row column in
    let most : edge_weight setup i j ≤ 10000000 = carried_within (λ (e : EdgeSpec). e.weight) 10000000 (cluster_count setup) i j (λ e edge. edge.weight_most) setup.edges is.built.edges in
    omega arith

pub mask_below : (t : EdgeTables) → AreEdges t → (i j : ℕ) → i < 8 → j < 8 → number_at t.steals i j < 64
mask_below t is i j row column =
    let setup : SetupParts = is.setup in
    let number : number_at t.steals i j ≡ steal_mask setup i j = number_at-table t.steals (steal_mask setup) i j (ap (λ (t : EdgeTables). t.steals) is.same) row column in
    let most : steal_mask setup i j ≤ 63 =
    carried_within (λ (e : EdgeSpec). e.steal) 63 (cluster_count setup) i j (λ e edge. let below = edge.mask_below in omega arith) setup.edges is.built.edges in
    omega arith
