-- The tables of a setup, edge by edge.
use Rattle.std.proofs.Common.{sym, drop, slice_get, zero, suc, ◌+◌, ◌≡◌, ◌≢◌, ◌<◌, ◌&&◌, ◌==◌, Bool, true, false, ℕ, List, [], ◌∷◌, cond, replicate, refl, ap, arith, ◌∙◌, Option, Some, find}
use Rattle.std.specs.Option.{option_map_or}
use Rattle.std.proofs.lemmas.Bool.Decides.{nat_tests}
use Rattle.flat_policy.specs.declared.setup.EdgeSpec.{EdgeSpec}
use Rattle.flat_policy.specs.Policy.Setup.{SetupParts}
use Rattle.edge_matrix.specs.EdgeTables.{EdgeTables, edges_of, table_of}
use Rattle.edge_matrix.proofs.Tables.{table_of-but_one, table_of-zero, with_number}

-- the tables with one edge more, or another one in its place
abbrev pub with_edge : EdgeSpec → EdgeTables → EdgeTables
with_edge e t = record {
  weights = with_number e.from e.to e.weight t.weights;
  migrates = with_number e.from e.to (cond e.migrate 1 0) t.migrates;
  steals = with_number e.from e.to e.steal t.steals;
}

-- the tables with no edge
abbrev pub no_edges : EdgeTables
no_edges = record {
  weights = replicate 8 (replicate 8 0);
  migrates = replicate 8 (replicate 8 0);
  steals = replicate 8 (replicate 8 0);
}

-- whether an edge leads from one cluster to another
abbrev pub leads : ℕ → ℕ → EdgeSpec → Bool
leads i j e = (e.from == i) && (e.to == j)

pub leads-own : (e : EdgeSpec) → leads e.from e.to e ≡ true
leads-own e = grind (arith, nat_tests)

pub leads-other : (e : EdgeSpec) (i j : ℕ) → i ≢ e.from → leads i j e ≡ false
leads-other e i j other = grind (arith, nat_tests)

pub leads-other_to : (e : EdgeSpec) (i j : ℕ) → j ≢ e.to → leads i j e ≡ false
leads-other_to e i j other = grind (arith, nat_tests)

-- the table of what the first edge of a pair carries, with one more edge before the others
pub table_of-first : (carried : Option EdgeSpec → ℕ) (e : EdgeSpec) (es : List EdgeSpec) → e.from < 8 → e.to < 8
    → table_of (λ i j. carried (find (leads i j) (e ∷ es)))
    ≡ with_number e.from e.to (carried (Some e)) (table_of (λ i j. carried (find (leads i j) es)))
table_of-first carried e es row column =
    table_of-but_one (λ i j. carried (find (leads i j) es)) (λ i j. carried (find (leads i j) (e ∷ es))) e.from e.to (carried (Some e)) row column
    (ap (λ (b : Bool). carried (cond b (Some e) (find (leads e.from e.to) es))) (leads-own e))
    (λ j other. ap (λ (b : Bool). carried (cond b (Some e) (find (leads e.from j) es))) (leads-other_to e e.from j other))
    (λ i j other. ap (λ (b : Bool). carried (cond b (Some e) (find (leads i j) es))) (leads-other e i j other))

-- the tables of a setup with one edge before its others
pub edges_of-first : (setup : SetupParts) (e : EdgeSpec) (es : List EdgeSpec) → e.from < 8 → e.to < 8
    → edges_of (record setup { edges = e ∷ es }) ≡ with_edge e (edges_of (record setup { edges = es }))
edges_of-first setup e es row column =
    let w = table_of-first (λ (o : Option EdgeSpec). option_map_or (λ (x : EdgeSpec). x.weight) o 0) e es row column in
    let m = table_of-first (λ (o : Option EdgeSpec). cond (option_map_or (λ (x : EdgeSpec). x.migrate) o false) 1 0) e es row column in
    let s = table_of-first (λ (o : Option EdgeSpec). option_map_or (λ (x : EdgeSpec). x.steal) o 0) e es row column in
    rw (w, m, s) refl

-- the tables of a setup with no edge
pub edges_of-none : (setup : SetupParts) → edges_of (record setup { edges = [] }) ≡ no_edges
edges_of-none setup = rw table_of-zero refl

-- an element and what follows it
pub drop-get : (xs : List EdgeSpec) (k : ℕ) (x : EdgeSpec) → slice_get xs k ≡ Some x → drop k xs ≡ x ∷ drop (k + 1) xs
drop-get [] k x at = absurd (cc)
drop-get (y ∷ ys) zero x at = let same : y ≡ x = cc in cc
drop-get (y ∷ ys) (suc k) x at = drop-get ys k x at ∙ (let next : suc (k + 1) ≡ suc k + 1 = omega arith in ap (λ (n : ℕ). x ∷ drop n (y ∷ ys)) next)

-- one edge more, taken from the last to the first
pub edges_of-more : (setup : SetupParts) (k : ℕ) (e : EdgeSpec) → slice_get setup.edges k ≡ Some e → e.from < 8 → e.to < 8
    → with_edge e (edges_of (record setup { edges = drop (k + 1) setup.edges })) ≡ edges_of (record setup { edges = drop k setup.edges })
edges_of-more setup k e at row column =
    sym (edges_of-first setup e (drop (k + 1) setup.edges) row column)
    ∙ ap (λ (es : List EdgeSpec). edges_of (record setup { edges = es })) (sym (drop-get setup.edges k e at))

-- three tables that each have the number of an edge put in
pub put_edge : (e : EdgeSpec) (w m s w' m' s' : List (List ℕ)) → w' ≡ with_number e.from e.to e.weight w
    → m' ≡ with_number e.from e.to (cond e.migrate 1 0) m → s' ≡ with_number e.from e.to e.steal s
    → ◌≡◌ {A = EdgeTables} (record { weights = w'; migrates = m'; steals = s' }) (with_edge e (record { weights = w; migrates = m; steals = s }))
put_edge e w m s w' m' s' is_w is_m is_s = rw (is_w, is_m, is_s) refl

-- three tables of zeros
pub put_none : (w m s : List (List ℕ)) → w ≡ replicate 8 (replicate 8 0) → m ≡ replicate 8 (replicate 8 0) → s ≡ replicate 8 (replicate 8 0)
    → ◌≡◌ {A = EdgeTables} (record { weights = w; migrates = m; steals = s }) no_edges
put_none w m s is_w is_m is_s = rw (is_w, is_m, is_s) refl
