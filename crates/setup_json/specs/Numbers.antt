-- The numbers of a line whose shape is right, as they are kept.
use Rattle.std.specs.Prelude.{Bool, List, option_map, ℕ}
use Rattle.flat_policy.specs.Texts.SetupLines.{SetupNumbers, is_key}
use Rattle.setup_json.specs.declared.numbers.Numbers.{Numbers}

-- the lists and numbers alone
abbrev pub numbers_said : Numbers → SetupNumbers
numbers_said n = record {
  clusters = n.clusters.items;
  edges = n.edges.items;
  groups = n.groups.items;
  threads = n.threads;
  times = option_map (λ times. times.items) n.times;
  version = n.version;
}

-- whether a field has this key
unfoldable pub names_field : List ℕ → Bool
names_field k = is_key k
