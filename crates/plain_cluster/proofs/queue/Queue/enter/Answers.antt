use Rattle.std.proofs.Common.{◌≡◌, ◌++◌, ◌∷◌, [], true, cond, map, ap, sym, ◌∙◌}
use Rattle.std.proofs.lemmas.List.{map-append}
use Rattle.flat_policy.specs.Policy.Queue.{LaneState, Queued, has_entries, lane_of, order_number, same_lane}
use Rattle.windows.specs.WindowStates.{WindowState}
use Rattle.plain_cluster.specs.Entries.{Slotted, entries_of}
use Rattle.plain_cluster.specs.Queues.{flat_of}
use Rattle.plain_cluster.specs.declared.queue.Queue.{Queue}
use Rattle.plain_cluster.proofs.Flags.{entered_flags}
use Rattle.plain_cluster.proofs.queue.Queue.enter.Goals as goal

pub returns-then-is_some-clause-flags : goal.returns-then-is_some-clause-flags
returns-then-is_some-clause-flags c =
    let q = c.args.self.now in
    let x = c.fill_lane.new.self in
    let n = c.push-slot.new.self in
    let e : Queued = record { facts = c.settled-thread.result; pri = c.priority-pri.result; arrival = x.next_arrival; order = order_number c.args.head x.next_arrival } in
    let row : Slotted = record { entry = e; slot = c.push-slot.result } in
    let more : entries_of n.rows.rows ≡ entries_of q.rows.rows ++ e ∷ [] =
    ap entries_of c.push-slot.ensures.rows ∙ (map-append (λ (r : Slotted). r.entry) x.rows.rows (row ∷ [])
    ∙ ap (λ (v : Queue). entries_of v.rows.rows ++ e ∷ []) c.fill_lane.ensures.same) in
    let at : c.lane_of.result ≡ lane_of e.facts =
    c.lane_of.ensures ∙ (ap lane_of c.facts-facts.ensures.facts ∙ sym (ap lane_of c.settled-thread.ensures)) in
    let windows : n.windows ≡ x.windows = ap (λ (v : Queue). v.windows) c.push-slot.ensures.queue in
    entered_flags q n e c.lane_of.result more at
    (ap (λ (w : WindowState). w.filled) windows
    ∙ (c.fill_lane.ensures.filled
    ∙ ap (λ (w : WindowState). map (λ (l : LaneState). cond (same_lane l.lane c.lane_of.result) true (has_entries (flat_of q) l.lane)) w.lanes) (sym windows)))

pub returns-else-is_some-clause-flags : goal.returns-else-is_some-clause-flags
returns-else-is_some-clause-flags c =
    let q = c.args.self.now in
    let x = c.fill_lane.new.self in
    let n = c.push_unbound-slot.new.self in
    let e : Queued = record { facts = c.settled-thread.result; pri = c.priority-pri.result; arrival = x.next_arrival; order = order_number c.args.head x.next_arrival } in
    let row : Slotted = record { entry = e; slot = c.push_unbound-slot.result } in
    let more : entries_of n.rows.rows ≡ entries_of q.rows.rows ++ e ∷ [] =
    ap entries_of c.push_unbound-slot.ensures.rows ∙ (map-append (λ (r : Slotted). r.entry) x.rows.rows (row ∷ [])
    ∙ ap (λ (v : Queue). entries_of v.rows.rows ++ e ∷ []) c.fill_lane.ensures.same) in
    let at : c.lane_of.result ≡ lane_of e.facts =
    c.lane_of.ensures ∙ (ap lane_of c.facts-facts.ensures.facts ∙ sym (ap lane_of c.settled-thread.ensures)) in
    let windows : n.windows ≡ x.windows = c.push_unbound-slot.ensures.windows in
    entered_flags q n e c.lane_of.result more at
    (ap (λ (w : WindowState). w.filled) windows
    ∙ (c.fill_lane.ensures.filled
    ∙ ap (λ (w : WindowState). map (λ (l : LaneState). cond (same_lane l.lane c.lane_of.result) true (has_entries (flat_of q) l.lane)) w.lanes) (sym windows)))
