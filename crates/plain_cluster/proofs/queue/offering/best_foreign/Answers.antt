use Rattle.std.proofs.Common.{None, List, Option, filter, fold, ap, sym, ◌∙◌}
use Rattle.flat_policy.specs.Laws.Choice.{better}
use Rattle.flat_policy.specs.Policy.Offer.{foreign_before, prefers}
use Rattle.flat_policy.specs.Policy.Queue.{Queued}
use Rattle.plain_cluster.specs.Entries.{Slotted, entries_of, entry_at}
use Rattle.plain_cluster.proofs.Scanned.{folded_no, folded_yes, taken_all}
use Rattle.plain_cluster.proofs.Slots.{entry_there}
use Rattle.plain_cluster.proofs.queue.offering.best_foreign.Goals as goal
use Rattle.plain_cluster.proofs.queue.offering.best_foreign.Goals.{then-prefers, else-prefers}

pub better_foreign-first-requires-clause-first : goal.better_foreign-first-requires-clause-first
better_foreign-first-requires-clause-first c = c.loop-place.invariant.there

pub loop-place-preserved : goal.loop-place-preserved
loop-place-preserved c =
    let rows = c.args.rows.now in
    let i = c.loop-place.place in
    let x = c.index-rows-place.result in
    let inv = c.loop-place.invariant in
    let p = λ (e : Queued). prefers c.args.to e.facts in
    elim c.if-prefers.branch [
      | then-prefers w ↦ record {
        first = ap (entry_at rows) w.first-is
            ∙ (w.better_foreign-first.ensures.better x.entry (entry_there rows i x c.loop-place-test.true c.index-rows-place.is)
            ∙ (ap (λ (o : Option Queued). better foreign_before o x.entry) inv.first
            ∙ sym (folded_yes (better foreign_before) None p rows i x c.loop-place-test.true c.index-rows-place.is (sym c.prefers.ensures ∙ w.if-prefers.true))));
        there = λ y h. w.better_foreign-first.ensures.there y (sym w.first-is ∙ h);
      }
      | else-prefers w ↦ record {
        first = ap (entry_at rows) w.first-is
            ∙ (inv.first ∙ sym (folded_no (better foreign_before) None p rows i x c.loop-place-test.true c.index-rows-place.is (sym c.prefers.ensures ∙ w.if-prefers.false)));
        there = λ y h. inv.there y (sym w.first-is ∙ h);
      }
    ]

pub returns-clause-best : goal.returns-clause-best
returns-clause-best c =
    c.loop-place.invariant.first
    ∙ ap (λ (rs : List Slotted). fold (better foreign_before) None (filter (λ (e : Queued). prefers c.args.to e.facts) (entries_of rs))) (taken_all c.args.rows.now c.loop-place.place c.loop-place-test.false)
