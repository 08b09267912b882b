use Rattle.std.proofs.Common.{◌≡◌, ◌<◌, List, true, false, not, get_or, length, is_some, ap, sym, ◌∙◌, subst}
use Rattle.sched_base.specs.declared.Facts.{Facts}
use Rattle.flat_policy.specs.Policy.Moves.{removed_by_selection, without_entry}
use Rattle.flat_policy.specs.Policy.Queue.{clutch_of, clutch_place}
use Rattle.plain_cluster.specs.Entries.{Slotted, UnitList, clutch}
use Rattle.plain_cluster.specs.Queues.{flat_of}
use Rattle.plain_cluster.proofs.Counted.{place_there}
use Rattle.plain_cluster.proofs.Leaving.{as_flat, facts_there, selected_bound, selects_last, selects_more}
use Rattle.plain_cluster.proofs.queue.Queue.take_selected.Goals as goal

pub take_turn-requires-clause-place : goal.take_turn-requires-clause-place
take_turn-requires-clause-place c =
    let q = c.args.self.now in
    let x = c.index-as_slice-place.result in
    subst (λ (u : UnitList). clutch_place (clutch c.facts-facts.result.group c.facts-facts.result.bucket) < length u.spans) (sym c.take-thread.ensures.units)
    (subst (λ (t : Facts). clutch_place (clutch_of t) < length q.units.spans) (sym c.facts-facts.ensures.facts)
    (place_there q.groups q c.args.place x c.requires.queue c.requires.there (c.index-as_slice-place.is ∙ ap (λ (rs : List Slotted). get_or rs c.args.place x) c.as_slice.ensures)))

pub lose_turn-requires : goal.lose_turn-requires
lose_turn-requires c =
    let q = c.args.self.now in
    let x = c.index-as_slice-place.result in
    subst (λ (u : UnitList). clutch_place (clutch c.facts-facts.result.group c.facts-facts.result.bucket) < length u.spans) (sym c.take-thread.ensures.units)
    (subst (λ (t : Facts). clutch_place (clutch_of t) < length q.units.spans) (sym c.facts-facts.ensures.facts)
    (place_there q.groups q c.args.place x c.requires.queue c.requires.there (c.index-as_slice-place.is ∙ ap (λ (rs : List Slotted). get_or rs c.args.place x) c.as_slice.ensures)))

pub returns-then-has_clutch-clause-taken : goal.returns-then-has_clutch-clause-taken
returns-then-has_clutch-clause-taken c = λ e h.
    let q = c.args.self.now in
    let facts = facts_there q.rows.rows c.as_slice.result.now c.args.place c.index-as_slice-place.result c.facts-facts.result e c.as_slice.ensures c.index-as_slice-place.is c.facts-facts.ensures.facts h in
    let is : clutch c.facts-facts.result.group c.facts-facts.result.bucket ≡ clutch_of e.facts = ap clutch_of facts in
    let free : is_some e.facts.bound ≡ false = ap (λ (t : Facts). is_some t.bound) (sym facts) ∙ (c.is_none.ensures ∙ ap not c.if-is_none.true) in
    selects_more q c.take-thread.new.self e c.args.now (clutch c.facts-facts.result.group c.facts-facts.result.bucket) c.take_turn.new.self (c.take-thread.ensures.taken e h) is free
    (sym c.has_clutch.ensures ∙ c.if-has_clutch.true) c.take_turn.ensures

pub returns-else-has_clutch-clause-taken : goal.returns-else-has_clutch-clause-taken
returns-else-has_clutch-clause-taken c = λ e h.
    let q = c.args.self.now in
    let facts = facts_there q.rows.rows c.as_slice.result.now c.args.place c.index-as_slice-place.result c.facts-facts.result e c.as_slice.ensures c.index-as_slice-place.is c.facts-facts.ensures.facts h in
    let is : clutch c.facts-facts.result.group c.facts-facts.result.bucket ≡ clutch_of e.facts = ap clutch_of facts in
    let free : is_some e.facts.bound ≡ false = ap (λ (t : Facts). is_some t.bound) (sym facts) ∙ (c.is_none.ensures ∙ ap not c.if-is_none.true) in
    selects_last q c.take-thread.new.self e c.args.now (clutch c.facts-facts.result.group c.facts-facts.result.bucket) c.lose_turn.new.self (c.take-thread.ensures.taken e h) is free
    (sym c.has_clutch.ensures ∙ c.if-has_clutch.false) c.lose_turn.ensures

pub returns-else-is_none-clause-taken : goal.returns-else-is_none-clause-taken
returns-else-is_none-clause-taken c = λ e h.
    let q = c.args.self.now in
    let facts = facts_there q.rows.rows c.as_slice.result.now c.args.place c.index-as_slice-place.result c.facts-facts.result e c.as_slice.ensures c.index-as_slice-place.is c.facts-facts.ensures.facts h in
    let is : clutch c.facts-facts.result.group c.facts-facts.result.bucket ≡ clutch_of e.facts = ap clutch_of facts in
    let bound : is_some e.facts.bound ≡ true = ap (λ (t : Facts). is_some t.bound) (sym facts) ∙ (c.is_none.ensures ∙ ap not c.if-is_none.false) in
    as_flat q c.take-thread.new.self e (without_entry e c.args.now (flat_of q)) (removed_by_selection e c.args.now (flat_of q)) (selected_bound e c.args.now (flat_of q) bound) (c.take-thread.ensures.taken e h)
