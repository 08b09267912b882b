-- The load in code, as the policy's, and the parts of its summary.
use Rattle.std.specs.Prelude.{IsTrue, List, codes, decimal, ℕ, ◌++◌, ◌+◌, ◌≡◌, ◌≤◌}
use Rattle.sched_base.specs.declared.Act.{Act}
use Rattle.flat_policy.specs.Policy.Machine.{MachineState, fits_act, numbers_fit}
use Rattle.flat_policy.specs.Runs.LoadTrace.{LoadState, Tally, load_after, load_setup, load_step, share_line, summary_line}
use Rattle.flat_policy.specs.Texts.Lines.{newline}
use Rattle.trace_machine.specs.Machines.{MachineView, Means}
use Rattle.trace_replay.specs.declared.load.counts.Counts.{Counts}
use Rattle.trace_replay.specs.declared.load.stepping.LoadSoFar.{LoadSoFar}

-- the counts in code, as the policy's tally
abbrev pub tally_in : Counts → Tally
tally_in c = record {
  makes = c.makes;
  enters = c.enters;
  selects = c.selects;
  selected = c.selected;
  offers = c.offers;
  offered = c.offered;
  rans = c.rans;
  sleeps = c.sleeps;
  wakes = c.wakes;
  ends = c.ends;
  refreshes = c.refreshes;
}

-- all counts of a tally together
abbrev pub count_total : Tally → ℕ
count_total y = y.makes + y.enters + y.selects + y.selected + y.offers + y.offered + y.rans + y.sleeps + y.wakes + y.ends + y.refreshes

-- the load in code with a state of the machine, as the policy's
abbrev pub load_in : LoadSoFar → MachineState → LoadState
load_in l g = record { draw = l.draw; state = g; kept = l.kept; tally = tally_in l.counts }

-- the load's setup fits an act, and so do its numbers
abbrev pub FitsLoad : Act → Type 0
FitsLoad act = IsTrue (fits_act load_setup act) × IsTrue (numbers_fit act)

-- the step of a number was taken: from every state that the machine meant, the load after it is the policy's, and the machine means its state
abbrev pub TakesStep : ℕ → MachineView → MachineView → LoadSoFar → LoadSoFar → Type 0
TakesStep i old new before after =
    (g : MachineState) → Means old g
    → Means new (load_step (load_in before g) i).state
    × (load_in after (load_step (load_in before g) i).state ≡ load_step (load_in before g) i)
    × (new.parts.setup ≡ old.parts.setup)
    × (new.steps ≡ old.steps + 1)

-- the first so many steps of the load of a seed were taken
pub record HasRun (seed n : ℕ) (v : MachineView) (l : LoadSoFar) : Type 0 where
  pub means : Means v (load_after seed n).state
  pub same : load_in l (load_after seed n).state ≡ load_after seed n
  pub setup : v.parts.setup ≡ load_setup
  pub steps : v.steps ≤ n

-- the first line of a summary
abbrev pub head_line : ℕ → ℕ → List ℕ
head_line seed n = codes "load " ++ decimal seed ++ codes " steps " ++ decimal n ++ newline

-- the lines of makes, enters, selects and offers
abbrev pub first_lines : Tally → List ℕ
first_lines y =
    summary_line (codes "make ") y.makes
    ++ summary_line (codes "enter ") y.enters
    ++ share_line (codes "select ") y.selected y.selects
    ++ share_line (codes "offer ") y.offered y.offers

-- the lines of the other kinds, and of the queued threads
abbrev pub last_lines : Tally → ℕ → List ℕ
last_lines y queued =
    summary_line (codes "ran ") y.rans
    ++ summary_line (codes "sleep ") y.sleeps
    ++ summary_line (codes "wake ") y.wakes
    ++ summary_line (codes "end ") y.ends
    ++ summary_line (codes "refresh ") y.refreshes
    ++ summary_line (codes "queued ") queued

-- the summary of a tally and of so many queued threads
abbrev pub summary_of : ℕ → ℕ → Tally → ℕ → List ℕ
summary_of seed n y queued = head_line seed n ++ first_lines y ++ last_lines y queued
