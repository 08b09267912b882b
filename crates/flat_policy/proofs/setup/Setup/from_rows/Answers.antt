use Rattle.flat_policy.proofs.SetupBuilt.{Filled, inside_built, parts_built}
use Rattle.flat_policy.proofs.SetupParts.{edges_fit, is_setup, times_counted}
use Rattle.flat_policy.proofs.SetupRows.{lengths_for_all}
use Rattle.flat_policy.specs.declared.setup.Setup.TheInside.{Inside}
use Rattle.flat_policy.proofs.setup.Setup.from_rows.Goals as goal

pub edge_specs-requires : goal.edge_specs-requires
edge_specs-requires c = edges_fit c.args.clusters.now c.args.edges.now c.args.groups.now c.args.threads c.requires.common

-- the fields at the end
inside : goal.After-time_table → Inside
inside c = record {
  clusters = c.in_ok-cluster_sizes.field-0;
  actors = c.actors_of.result;
  edges = c.in_ok-edge_specs.field-0;
  groups = c.in_ok-group_rows.field-0;
  threads = c.args.threads;
  times = c.time_table.result;
  version = c.args.version;
}

filled : (c : goal.After-time_table) → Filled (inside c) c.args.clusters.now c.args.edges.now c.args.groups.now c.args.times.now
unfolding inside
filled c = record {
  sizes = c.in_ok-cluster_sizes.ensures;
  actors = c.actors_of.ensures;
  specs = c.in_ok-edge_specs.ensures;
  rows = c.in_ok-group_rows.ensures;
  table = c.time_table.ensures.rows;
  places = c.time_table.ensures.len;
}

pub invariant_of-result : goal.invariant_of-result
unfolding inside
invariant_of-result c =
    inside_built (inside c) c.args.clusters.now c.args.edges.now c.args.groups.now c.args.times.now (filled c)
    (times_counted c.args.clusters.now c.args.times.now c.requires.times)
    (is_setup c.args.clusters.now c.args.edges.now c.args.groups.now c.args.threads c.args.times.now c.args.version
    c.requires.common c.requires.times c.requires.version (lengths_for_all c.args.groups.now 6 c.told-groups)
    (lengths_for_all c.args.times.now 3 c.told-times) c.time_table.ensures.sixes)

pub returns : goal.returns
unfolding inside
returns c =
    parts_built (inside c) c.args.clusters.now c.args.edges.now c.args.groups.now c.args.times.now (filled c)
    (times_counted c.args.clusters.now c.args.times.now c.requires.times)
