use Rattle.std.proofs.Common.{◌≡◌, ◌<◌, None, filter, fold, length, take}
use Rattle.std.specs.Option.{ForSome}
use Rattle.flat_policy.specs.Laws.Choice.{better}
use Rattle.flat_policy.specs.Policy.Offer.{foreign_before, prefers}
use Rattle.flat_policy.specs.Policy.Queue.{Queued}
use Rattle.plain_cluster.specs.Entries.{entries_of, entry_at}
use Rattle.plain_cluster.proofs.queue.offering.best_foreign.Given as goal

abbrev pub invariant-loop-place : goal.invariant-loop-place
invariant-loop-place l = record {
  first : entry_at l.rows l.first ≡ fold (better foreign_before) None (filter (λ (e : Queued). prefers l.to e.facts) (entries_of (take l.place l.rows)));
  there : ForSome l.first (λ best. best < length l.rows);
}
