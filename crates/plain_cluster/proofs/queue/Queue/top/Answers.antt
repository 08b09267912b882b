use Rattle.std.proofs.Common.{None, List, filter, fold, get_or, length, refl, ap, ap₂, sym, ◌∙◌, arith}
use Rattle.flat_policy.specs.Laws.Units.{scored}
use Rattle.flat_policy.specs.Policy.Queue.{in_lane, lane}
use Rattle.plain_cluster.specs.Entries.{Slotted, entries_of, higher}
use Rattle.plain_cluster.specs.Queues.{flat_of}
use Rattle.plain_cluster.proofs.Counted.{place_there}
use Rattle.plain_cluster.proofs.Scanned.{folded_no, folded_yes, taken_all}
use Rattle.plain_cluster.proofs.Tops.{higher_with, top_is}
use Rattle.plain_cluster.proofs.queue.Queue.top.Goals as goal
use Rattle.plain_cluster.proofs.queue.Queue.top.Goals.{then-in_lane, else-in_lane}

pub loop-row-init : goal.loop-row-init
loop-row-init c = record { items = c.as_slice-row-items.ensures; top = refl }

pub scored-requires : goal.scored-requires
scored-requires c =
    let q = c.args.self.now in
    let x = c.row-item.result in
    let items = c.loop-row.invariant.items in
    place_there q.groups q c.loop-row.row-index x c.requires (omega (arith, c.loop-row-test.true, ap length items))
    (c.row-item.is ∙ ap (λ (rs : List Slotted). get_or rs c.loop-row.row-index x) items)

pub loop-row-preserved : goal.loop-row-preserved
loop-row-preserved c =
    let s = flat_of c.args.self.now in
    let at = lane c.args.bucket c.args.bound in
    let rows = c.as_slice-row-items.result.now in
    let x = c.row-item.result in
    elim c.if-in_lane.branch [
      | then-in_lane w ↦ record {
        items = c.loop-row.invariant.items;
        top = w.top-is ∙ (w.higher-top.ensures ∙ (ap₂ higher c.loop-row.invariant.top w.scored.ensures
            ∙ sym (folded_yes (higher_with (scored s)) None (in_lane at) rows c.loop-row.row-index x c.loop-row-test.true c.row-item.is (sym c.in_lane.ensures ∙ w.if-in_lane.true))));
      }
      | else-in_lane w ↦ record {
        items = c.loop-row.invariant.items;
        top = w.top-is ∙ (c.loop-row.invariant.top
            ∙ sym (folded_no (higher_with (scored s)) None (in_lane at) rows c.loop-row.row-index x c.loop-row-test.true c.row-item.is (sym c.in_lane.ensures ∙ w.if-in_lane.false)));
      }
    ]

pub returns : goal.returns
returns c =
    let q = c.args.self.now in
    let at = lane c.args.bucket c.args.bound in
    c.loop-row.invariant.top
    ∙ (ap (λ (rs : List Slotted). fold (higher_with (scored (flat_of q))) None (filter (in_lane at) (entries_of rs))) (taken_all c.as_slice-row-items.result.now c.loop-row.row-index c.loop-row-test.false ∙ c.loop-row.invariant.items)
    ∙ top_is c.lane_priority_by_entries.ensures (flat_of q) at)
