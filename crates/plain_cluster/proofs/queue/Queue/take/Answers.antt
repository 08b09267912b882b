use Rattle.std.proofs.Common.{◌≡◌, true, false, ap, sym, ◌∙◌, subst}
use Rattle.std.specs.List.{list_any, remove}
use Rattle.bucket_tables.specs.declared.Lane.{Lane}
use Rattle.flat_policy.specs.Policy.Moves.{without_entry}
use Rattle.flat_policy.specs.Policy.Queue.{in_lane, lane_of}
use Rattle.windows.specs.WindowStates.{with_flag}
use Rattle.plain_cluster.specs.Entries.{entries_of}
use Rattle.plain_cluster.specs.Queues.{TakesOut, flat_of}
use Rattle.plain_cluster.specs.declared.queue.Queue.{Queue}
use Rattle.plain_cluster.proofs.Leaving.{entries_removed, facts_there, flags_emptied, flags_kept, takes_out}
use Rattle.plain_cluster.proofs.queue.Queue.take.Goals as goal

pub returns-then-not-has_lane-clause-taken : goal.returns-then-not-has_lane-clause-taken
returns-then-not-has_lane-clause-taken c = λ e h.
    let q = c.args.self.now in
    let i = c.args.place in
    let es = entries_of q.rows.rows in
    let facts = facts_there q.rows.rows c.as_slice.result.now i c.index-as_slice-place.result c.facts.result e c.as_slice.ensures c.index-as_slice-place.is c.facts.ensures.facts h in
    let at : c.lane_of-lane.result ≡ lane_of e.facts = c.lane_of-lane.ensures ∙ ap lane_of facts in
    let left : entries_of c.remove-thread.new.self.rows ≡ remove es i = ap entries_of c.remove-thread.ensures.rows ∙ entries_removed q.rows.rows i in
    let has : list_any (in_lane (lane_of e.facts)) (remove es i) ≡ false =
    ap (λ (l : Lane). list_any (in_lane l) (remove es i)) (sym at)
    ∙ (ap (list_any (in_lane c.lane_of-lane.result)) (sym left) ∙ (sym c.has_lane.ensures ∙ c.if-not-has_lane.true)) in
    let flags = ap (λ (l : Lane). with_flag l false q.windows.lanes q.windows.filled) at ∙ flags_emptied c.filling_follows.ensures q i e false c.requires.queue.flags h has in
    subst (λ (n : Queue). TakesOut q n e (without_entry e c.args.now (flat_of q))) (sym c.clear_lane.ensures)
    (takes_out c.entries_leave_by_place.ensures q.groups q i c.remove-thread.new.self (with_flag c.lane_of-lane.result false q.windows.lanes q.windows.filled) c.args.now e c.requires.queue h c.remove-thread.ensures.rows c.remove-thread.ensures.spare flags)

pub returns-else-not-has_lane-clause-taken : goal.returns-else-not-has_lane-clause-taken
returns-else-not-has_lane-clause-taken c = λ e h.
    let q = c.args.self.now in
    let i = c.args.place in
    let es = entries_of q.rows.rows in
    let facts = facts_there q.rows.rows c.as_slice.result.now i c.index-as_slice-place.result c.facts.result e c.as_slice.ensures c.index-as_slice-place.is c.facts.ensures.facts h in
    let at : c.lane_of-lane.result ≡ lane_of e.facts = c.lane_of-lane.ensures ∙ ap lane_of facts in
    let left : entries_of c.remove-thread.new.self.rows ≡ remove es i = ap entries_of c.remove-thread.ensures.rows ∙ entries_removed q.rows.rows i in
    let has : list_any (in_lane (lane_of e.facts)) (remove es i) ≡ true =
    ap (λ (l : Lane). list_any (in_lane l) (remove es i)) (sym at)
    ∙ (ap (list_any (in_lane c.lane_of-lane.result)) (sym left) ∙ (sym c.has_lane.ensures ∙ c.if-not-has_lane.false)) in
    let flags = flags_kept q i e c.requires.queue.flags h has in
    (takes_out c.entries_leave_by_place.ensures q.groups q i c.remove-thread.new.self q.windows.filled c.args.now e c.requires.queue h c.remove-thread.ensures.rows c.remove-thread.ensures.spare flags)
