use Rattle.flat_policy.specs.Runs.Histories.{entries_of}
use Rattle.composition.specs.Joined.{hands_left, machine_of}
use Rattle.composition.proofs.Programs.{program_ends}
use Rattle.composition.proofs.WholeRuns.{whole}
use Rattle.composition.proofs.finished_runs_are_whole.Goals as goal

pub returns : goal.returns
returns c = λ run clusters yard logs flats end history built named apart one worked left.
    let runs = c.joined_runs_are_histories.ensures run.setup clusters yard logs flats end history apart one in
    let once = c.runs_keep_counts.ensures run.setup (entries_of history) (machine_of flats (hands_left run.setup logs) end) runs in
    whole run clusters yard logs flats end history apart one runs (c.spots_are_the_setups.ensures run.setup clusters yard logs flats end history apart one) worked
    (program_ends run clusters yard logs flats end history built named apart one worked left once)
