use Rattle.std.proofs.Common.{List, ap, arith, cond, rules, drop, length, sym, ℕ, ◌+◌, ◌-◌, ◌≡◌, ◌≤◌, ◌<◌, ◌∙◌}
use Rattle.std.proofs.lemmas.List.{drop_all}
use Rattle.flat_policy.specs.declared.setup.EdgeSpec.{EdgeSpec}
use Rattle.edge_matrix.specs.EdgeTables.{edges_of}
use Rattle.edge_matrix.proofs.EdgeByEdge.{edges_of-more, edges_of-none, put_edge, put_none, with_edge}
use Rattle.edge_matrix.proofs.Tables.{with_number}
use Rattle.edge_matrix.proofs.Edges.of.Goals as goal

pub loop-k-init : goal.loop-k-init
loop-k-init c =
    let all : length c.args.setup.now.edges ≤ c.edge_count-k.result = omega (arith, c.edge_count-k.ensures.count) in
    put_none c.filled-weights.result c.filled-migrates.result c.filled-steals.result c.filled-weights.ensures c.filled-migrates.ensures c.filled-steals.ensures
    ∙ sym (edges_of-none c.args.setup.now)
    ∙ ap (λ (es : List EdgeSpec). edges_of (record c.args.setup.now { edges = es })) (sym (drop_all c.edge_count-k.result c.args.setup.now.edges all))

pub loop-k-preserved : goal.loop-k-preserved
loop-k-preserved c =
    let e : EdgeSpec = c.edge_at-edge.result in
    let next : c.loop-k.k ≡ c.loop-k.k - 1 + 1 = omega arith in
    let row : e.from < 8 = omega (arith, c.edge_at-edge.ensures.ranges.from_below, c.keeps_ranges.ensures.clusters_most) in
    let column : e.to < 8 = omega (arith, c.edge_at-edge.ensures.ranges.to_below, c.keeps_ranges.ensures.clusters_most) in
    let migrates : c.set-in-loop-k.new.self ≡ with_number e.from e.to (cond e.migrate 1 0) c.loop-k.migrates = search rules in
    put_edge e c.loop-k.weights c.loop-k.migrates c.loop-k.steals c.set.new.self c.set-in-loop-k.new.self c.set-in-loop-k-2.new.self
    c.set.ensures migrates c.set-in-loop-k-2.ensures
    ∙ ap (with_edge e) (c.loop-k.invariant ∙ ap (λ (k : ℕ). edges_of (record c.args.setup.now { edges = drop k c.args.setup.now.edges })) next)
    ∙ edges_of-more c.args.setup.now (c.loop-k.k - 1) e c.edge_at-edge.ensures.edge row column
