-- The load of few steps.
use Rattle.std.specs.Prelude.{◌≡◌}
use Rattle.flat_policy.specs.Runs.LoadTrace.{load_after, no_tally, queued_count}

-- one step of the load makes a thread, whatever the seed
abbrev pub OneStepMakes : Type 0
OneStepMakes = ((load_after 7 1).tally ≡ record no_tally { makes = 1 }) × (queued_count (load_after 7 1).state ≡ 0)

-- sixty steps of the load: its exact tally, and how many threads are queued
abbrev pub SixtySteps : Type 0
SixtySteps =
    ((load_after 7 60).tally
    ≡ record {
      makes = 10;
      enters = 11;
      selects = 22;
      selected = 6;
      offers = 3;
      offered = 0;
      rans = 3;
      sleeps = 2;
      wakes = 1;
      ends = 3;
      refreshes = 5;
    })
    × (queued_count (load_after 7 60).state ≡ 5)
