use Rattle.std.proofs.Common.{length, sym, ◌∙◌}
use Rattle.flat_policy.proofs.SetupOrdinary.{few_clusters, ordinary_in_range, ordinary_parts}
use Rattle.flat_policy.proofs.setup.Setup.build.Goals as goal

pub from_rows-requires-clause-times : goal.from_rows-requires-clause-times
from_rows-requires-clause-times c =
    let few = few_clusters c.args.clusters.now c.args.edges.now c.args.groups.now c.args.threads c.args.version (sym c.in_default.ensures) in
    ordinary_in_range (length c.args.clusters.now) c.version_one-ordinary.result c.version_one-ordinary.ensures few

pub returns-clause-built : goal.returns-clause-built
returns-clause-built c =
    let few = few_clusters c.args.clusters.now c.args.edges.now c.args.groups.now c.args.threads c.args.version (sym c.in_default.ensures) in
    c.in_ok-from_rows.ensures
    ∙ ordinary_parts c.args.clusters.now c.args.edges.now c.args.groups.now c.args.threads c.version_one-ordinary.result c.version_one-ordinary.ensures few
