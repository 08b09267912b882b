-- What each step does at a cluster: its answer, the thread that it moves, and the queue afterwards.
use Rattle.std.specs.Prelude.{Bool, None, Option, Some, find, if◌then◌else◌, ℕ, ◌==◌}
use Rattle.sched_base.specs.declared.Answer.{Answer}
use Rattle.sched_base.specs.declared.Bucket.{Bucket}
use Rattle.sched_base.specs.declared.Facts.{Facts}
use Rattle.flat_policy.specs.Policy.Aim.{load}
use Rattle.flat_policy.specs.Policy.Moves.{entered, new_entry, pick, removed, selected, settled_thread}
use Rattle.flat_policy.specs.Policy.Offer.{offered_between}
use Rattle.flat_policy.specs.Policy.Queue.{Flat, Queued}
use Rattle.flat_policy.specs.Policy.Refresh.{refreshed, repriced_count}
use Rattle.flat_policy.specs.Policy.Setup.{SetupParts, cluster_times, cpus_of, group_count, times_for}
use Rattle.sched_base.specs.declared.Answer.TheVariants as answers

-- what a step at a cluster comes to
pub record Event : Type 0 where
  pub answer : Answer
  pub thread : Option Facts
  pub flat : Flat

-- entering: the answer is the new entry's priority, the thread is as handed in
abbrev pub enter_event : SetupParts → ℕ → Facts → Bool → ℕ → Flat → Event
enter_event setup c t head now s = record {
  answer = answers.Pri (new_entry s (settled_thread now t) head).pri;
  thread = Some t;
  flat = entered (cluster_times setup c) t head now s;
}

-- the facts of an entry, where there is one
abbrev pub facts_of : Option Queued → Option Facts
facts_of None = None
facts_of (Some e) = Some e.facts

-- the answer that names a thread that was taken, or tells that there was none
abbrev pub got : Option Queued → Answer
got None = answers.Empty
got (Some e) = answers.Got e.facts.name

-- the queue with another last moment and nothing else changed
abbrev pub touched : ℕ → Flat → Flat
touched now s = record s { last = now }

-- selecting: the pick where the cluster is on; where it is off nothing is taken
abbrev pub select_event : SetupParts → ℕ → ℕ → Flat → Event
select_event setup c now s =
    if s.on then record {
      answer = got (pick (cluster_times setup c) now s);
      thread = facts_of (pick (cluster_times setup c) now s);
      flat = selected (cluster_times setup c) now s;
    } else record { answer = answers.Off; thread = None; flat = touched now s }

-- the queue after an offered entry leaves
abbrev pub flat_after_offer : ℕ → Flat → Option Queued → Flat
flat_after_offer now s None = touched now s
flat_after_offer now s (Some e) = removed e now s

-- offering to another cluster
abbrev pub offer_event : SetupParts → ℕ → ℕ → ℕ → Flat → Event
offer_event setup from to now s =
    let e : Option Queued = offered_between setup from to s
    in record { answer = got e; thread = facts_of e; flat = flat_after_offer now s e }

-- the entry of a name
abbrev pub named_entry : Flat → ℕ → Option Queued
named_entry s name = find (λ (e : Queued). e.facts.name == name) s.entries

-- pulling an entry out
abbrev pub pull_event : Queued → ℕ → Flat → Event
pull_event e now s = record { answer = answers.Yes; thread = Some e.facts; flat = removed e now s }

-- looking: the load for a bucket, or that the cluster is off
abbrev pub look_event : SetupParts → ℕ → Bucket → ℕ → Flat → Event
look_event setup c b now s = record {
  answer = if s.on then answers.Load (load (times_for (cluster_times setup c) b) (cpus_of setup c) s b) else answers.Off;
  thread = None;
  flat = touched now s;
}

-- refreshing
abbrev pub refresh_event : SetupParts → ℕ → Flat → Event
refresh_event setup now s = record {
  answer = answers.New (repriced_count s now);
  thread = None;
  flat = refreshed (group_count setup) s now;
}

-- turning the cluster on or off
abbrev pub power_event : Bool → ℕ → Flat → Event
power_event on now s = record { answer = answers.Yes; thread = None; flat = record s { on = on; last = now } }
