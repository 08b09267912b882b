use Rattle.std.proofs.Common.{None, List, Option, filter, fold, get_or, length, refl, ap, sym, ◌∙◌, arith}
use Rattle.std.proofs.lemmas.Option.{none-some}
use Rattle.flat_policy.specs.Laws.Choice.{better}
use Rattle.flat_policy.specs.Laws.Units.{goes_by_keys}
use Rattle.flat_policy.specs.Policy.Queue.{Queued, in_lane}
use Rattle.plain_cluster.specs.Entries.{Slotted, entries_of, entry_at}
use Rattle.plain_cluster.specs.Queues.{flat_of}
use Rattle.plain_cluster.proofs.Picking.{first_found}
use Rattle.plain_cluster.proofs.Scanned.{folded_no, folded_yes, taken_all}
use Rattle.plain_cluster.proofs.Slots.{entry_there}
use Rattle.plain_cluster.proofs.queue.Queue.first_of.Goals as goal
use Rattle.plain_cluster.proofs.queue.Queue.first_of.Goals.{then-in_lane, else-in_lane}

pub loop-place-init : goal.loop-place-init
loop-place-init c = record { items = c.as_slice-row-items.ensures; first = refl; there = λ x h. absurd (none-some x h) }

pub better_place-first-requires-clause-first : goal.better_place-first-requires-clause-first
better_place-first-requires-clause-first c = c.loop-place.invariant.there

pub loop-place-preserved : goal.loop-place-preserved
loop-place-preserved c =
    let q = c.args.self.now in
    let before = goes_by_keys (flat_of q) in
    let rows = c.as_slice-row-items.result.now in
    let i = c.loop-place.place in
    let x = c.row-item.result in
    let inv = c.loop-place.invariant in
    elim c.if-in_lane.branch [
      | then-in_lane w ↦ record {
        items = inv.items;
        first = ap (entry_at q.rows.rows) w.first-is
            ∙ (w.better_place-first.ensures.better x.entry (entry_there q.rows.rows i x (omega (arith, c.loop-place-test.true, ap length inv.items)) (c.row-item.is ∙ ap (λ (rs : List Slotted). get_or rs i x) inv.items))
            ∙ (ap (λ (o : Option Queued). better before o x.entry) inv.first
            ∙ sym (folded_yes (better before) None (in_lane c.args.lane) rows i x c.loop-place-test.true c.row-item.is (sym c.in_lane.ensures ∙ w.if-in_lane.true))));
        there = λ y h. w.better_place-first.ensures.there y (sym w.first-is ∙ h);
      }
      | else-in_lane w ↦ record {
        items = inv.items;
        first = ap (entry_at q.rows.rows) w.first-is
            ∙ (inv.first ∙ sym (folded_no (better before) None (in_lane c.args.lane) rows i x c.loop-place-test.true c.row-item.is (sym c.in_lane.ensures ∙ w.if-in_lane.false)));
        there = λ y h. inv.there y (sym w.first-is ∙ h);
      }
    ]

pub returns-clause-first : goal.returns-clause-first
returns-clause-first c =
    let q = c.args.self.now in
    let inv = c.loop-place.invariant in
    inv.first
    ∙ (ap (λ (rs : List Slotted). fold (better (goes_by_keys (flat_of q))) None (filter (in_lane c.args.lane) (entries_of rs))) (taken_all c.as_slice-row-items.result.now c.loop-place.place c.loop-place-test.false ∙ inv.items)
    ∙ first_found c.choice_of_entries_is_one.ensures c.first_goes_by_keys.ensures q.groups q c.args.lane c.requires)

pub returns-clause-there : goal.returns-clause-there
returns-clause-there c = c.loop-place.invariant.there
