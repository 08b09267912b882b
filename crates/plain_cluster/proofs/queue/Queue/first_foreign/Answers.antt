use Rattle.std.proofs.Common.{None, List, filter, fold, ap, sym, ◌∙◌}
use Rattle.flat_policy.specs.Laws.Choice.{better}
use Rattle.flat_policy.specs.Policy.Offer.{foreign_before, prefers}
use Rattle.flat_policy.specs.Policy.Queue.{Queued}
use Rattle.plain_cluster.specs.Entries.{Slotted, entries_of, entry_at}
use Rattle.plain_cluster.specs.Queues.{flat_of}
use Rattle.plain_cluster.proofs.queue.Queue.first_foreign.Goals as goal

pub returns-clause-first : goal.returns-clause-first
returns-clause-first c =
    let q = c.args.self.now in
    ap (λ (rs : List Slotted). entry_at rs c.best_foreign.result) (sym c.as_slice.ensures)
    ∙ (c.best_foreign.ensures.best
    ∙ (ap (λ (rs : List Slotted). fold (better foreign_before) None (filter (λ (e : Queued). prefers c.args.to e.facts) (entries_of rs))) c.as_slice.ensures
    ∙ (c.choice_of_entries_is_one.ensures foreign_before (filter (λ (e : Queued). prefers c.args.to e.facts) (flat_of q).entries)
    (c.offers_are_one.ensures q.groups c.args.to 0 (flat_of q) c.requires.formed).foreign).by_scan))
