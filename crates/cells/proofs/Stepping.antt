-- The step that a line makes at a cluster, whatever its act.
use Rattle.std.proofs.Common.{◌≡◌, ℕ, ◌<◌, ◌≤◌, nat_lt, ◌&&◌, true, Option, Some, refl}
use Rattle.std.proofs.lemmas.Bool.{and_from, lt-ltb}
use Rattle.sched_base.specs.Limits.{moment_limit}
use Rattle.sched_base.specs.declared.Act.{Act}
use Rattle.flat_policy.specs.declared.journal.Line.{Line}
use Rattle.flat_policy.specs.Policy.ClusterSteps.{Event}
use Rattle.flat_policy.specs.Policy.Machine.{fits_act, numbers_fit}
use Rattle.flat_policy.specs.Policy.Queue.{Flat}
use Rattle.flat_policy.specs.Policy.Setup.{SetupParts, actor_count, cluster_count}
use Rattle.flat_policy.specs.Runs.Histories.{CStep, EntersFitting, event_by, has_mark}
use Rattle.cells.specs.Held.{entry_of}

-- the line of what a step comes to
abbrev pub line_of : ℕ → ℕ → Act → Option ℕ → Event → Line
line_of moment actor act mark event = record { entry = entry_of moment actor act event; mark = mark }

pub place_step : (setup : SetupParts) (c : ℕ) (s : Flat) (moment actor : ℕ) (act : Act) (mark : Option ℕ) (event : Event) → c < cluster_count setup → moment < moment_limit → actor < actor_count setup → s.last ≤ moment
    → (fits_act setup act && numbers_fit act) ≡ true → has_mark act mark ≡ true → EntersFitting setup act event.thread → event_by setup c s (line_of moment actor act mark event) act ≡ Some event
    → CStep setup c s (line_of moment actor act mark event) event.flat
place_step setup c s moment actor act mark event there soon known later fits has entering happens = record {
  there = there;
  fits = record {
    step = and_from (nat_lt moment moment_limit) (nat_lt actor (actor_count setup) && (fits_act setup act && numbers_fit act)) (lt-ltb moment moment_limit soon)
        (and_from (nat_lt actor (actor_count setup)) (fits_act setup act && numbers_fit act) (lt-ltb actor (actor_count setup) known) fits);
    mark = has;
  };
  not_before = later;
  entering = entering;
  event = event;
  happens = happens;
  told = record { answer = refl; thread = refl };
  leads = refl;
}
