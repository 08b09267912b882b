-- Threads of a run: of its programs, and with work left to do.
use Rattle.std.specs.Prelude.{IsTrue, List, [], filter, ◌<◌, ◌==◌, ◌∷◌, ◌≡◌}
use Rattle.sched_base.specs.declared.Facts.{Facts}
use Rattle.flat_policy.specs.Policy.Setup.{SetupParts}
use Rattle.flat_policy.specs.Policy.Threads.{ThreadFits}
use Rattle.flat_policy.specs.Runs.Worker.{Program, last_target, stages}
use Rattle.flat_policy.specs.Texts.Streams.{program_fits}

-- a thread is of a program: name, group, bucket, base and bound cluster are the program's
pub record IsOf (p : Program) (t : Facts) : Type 0 where
  pub name : t.name ≡ p.name
  pub group : t.group ≡ p.group
  pub bucket : t.bucket ≡ p.bucket
  pub base : t.base ≡ p.base
  pub bound : t.bound ≡ p.bound

-- a thread fits a run: exactly one program has its name, that program fits the setup, and the thread is of it and prefers the cluster that it should
pub record Fits (setup : SetupParts) (programs : List Program) (t : Facts) : Type 0 where
  pub program : Program
  pub one : filter (λ (p : Program). p.name == t.name) programs ≡ program ∷ []
  pub fitting : IsTrue (program_fits setup program)
  pub of_it : IsOf program t
  pub thread : ThreadFits setup t

-- a thread is on course: it fits, and its work is below the last target of its program
pub record OnCourse (setup : SetupParts) (programs : List Program) (t : Facts) : Type 0 where
  pub fits : Fits setup programs t
  pub left : t.work < last_target (stages fits.program)

-- a setup of nothing, for a name that nobody picked
abbrev pub no_setup : SetupParts
no_setup = record { clusters = []; edges = []; groups = []; threads = 0; times = []; version = 0 }
