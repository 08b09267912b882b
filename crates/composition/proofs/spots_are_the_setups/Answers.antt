use Rattle.composition.proofs.Joined.{joined}
use Rattle.composition.proofs.spots_are_the_setups.Goals as goal

pub returns : goal.returns
returns c = λ setup clusters yard logs flats end history apart whole.
    (joined
    (record {
      steps = record { sound = c.steps_keep_sound.ensures; counts = c.steps_keep_counts.ensures };
      empty = record { sound = c.empty_is_sound.ensures; counts = c.runs_keep_counts.ensures };
    }) setup clusters yard logs flats end history apart whole).spots
