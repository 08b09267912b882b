use Rattle.std.proofs.Common.{◌≡◌, ◌<◌, List, true, false, get_or, length, is_some, ap, sym, ◌∙◌, subst}
use Rattle.sched_base.specs.declared.Facts.{Facts}
use Rattle.flat_policy.specs.Policy.Moves.{removed, without_entry}
use Rattle.flat_policy.specs.Policy.Queue.{clutch_of, clutch_place}
use Rattle.plain_cluster.specs.Entries.{Slotted, UnitList, clutch}
use Rattle.plain_cluster.specs.Queues.{flat_of}
use Rattle.plain_cluster.proofs.Counted.{place_there}
use Rattle.plain_cluster.proofs.Leaving.{as_flat, facts_there, leaves_last, leaves_other, leaves_same, removed_bound}
use Rattle.plain_cluster.proofs.queue.Queue.remove.Goals as goal

pub returns-then-is_some-clause-taken : goal.returns-then-is_some-clause-taken
returns-then-is_some-clause-taken c = λ e h.
    let q = c.args.self.now in
    let facts = facts_there q.rows.rows c.as_slice.result.now c.args.place c.index-as_slice-place.result c.facts-facts.result e c.as_slice.ensures c.index-as_slice-place.is c.facts-facts.ensures.facts h in
    let is : clutch c.facts-facts.result.group c.facts-facts.result.bucket ≡ clutch_of e.facts = ap clutch_of facts in
    let bound : is_some e.facts.bound ≡ true = ap (λ (t : Facts). is_some t.bound) (sym facts) ∙ (sym c.is_some.ensures ∙ c.if-is_some.true) in
    as_flat q c.take.new.self e (without_entry e c.args.now (flat_of q)) (removed e c.args.now (flat_of q)) (removed_bound e c.args.now (flat_of q) bound) (c.take.ensures.taken e h)

pub clutch_priority-before-requires : goal.clutch_priority-before-requires
clutch_priority-before-requires c =
    let q = c.args.self.now in
    let x = c.index-as_slice-place.result in
    subst (λ (t : Facts). clutch_place (clutch_of t) < length q.units.spans) (sym c.facts-facts.ensures.facts)
    (place_there q.groups q c.args.place x c.requires.queue c.requires.there (c.index-as_slice-place.is ∙ ap (λ (rs : List Slotted). get_or rs c.args.place x) c.as_slice.ensures))

pub lose_turn-requires : goal.lose_turn-requires
lose_turn-requires c =
    let q = c.args.self.now in
    let x = c.index-as_slice-place.result in
    subst (λ (u : UnitList). clutch_place (clutch c.facts-facts.result.group c.facts-facts.result.bucket) < length u.spans) (sym c.take-thread.ensures.units)
    (subst (λ (t : Facts). clutch_place (clutch_of t) < length q.units.spans) (sym c.facts-facts.ensures.facts)
    (place_there q.groups q c.args.place x c.requires.queue c.requires.there (c.index-as_slice-place.is ∙ ap (λ (rs : List Slotted). get_or rs c.args.place x) c.as_slice.ensures)))

pub clutch_priority-requires : goal.clutch_priority-requires
clutch_priority-requires c =
    let q = c.args.self.now in
    let x = c.index-as_slice-place.result in
    subst (λ (u : UnitList). clutch_place (clutch c.facts-facts.result.group c.facts-facts.result.bucket) < length u.spans) (sym c.take-thread.ensures.units)
    (subst (λ (t : Facts). clutch_place (clutch_of t) < length q.units.spans) (sym c.facts-facts.ensures.facts)
    (place_there q.groups q c.args.place x c.requires.queue c.requires.there (c.index-as_slice-place.is ∙ ap (λ (rs : List Slotted). get_or rs c.args.place x) c.as_slice.ensures)))

pub take_turn-requires-clause-place : goal.take_turn-requires-clause-place
take_turn-requires-clause-place c =
    let q = c.args.self.now in
    let x = c.index-as_slice-place.result in
    subst (λ (u : UnitList). clutch_place (clutch c.facts-facts.result.group c.facts-facts.result.bucket) < length u.spans) (sym c.take-thread.ensures.units)
    (subst (λ (t : Facts). clutch_place (clutch_of t) < length q.units.spans) (sym c.facts-facts.ensures.facts)
    (place_there q.groups q c.args.place x c.requires.queue c.requires.there (c.index-as_slice-place.is ∙ ap (λ (rs : List Slotted). get_or rs c.args.place x) c.as_slice.ensures)))

pub returns-then-not-has_clutch-clause-taken : goal.returns-then-not-has_clutch-clause-taken
returns-then-not-has_clutch-clause-taken c = λ e h.
    let q = c.args.self.now in
    let facts = facts_there q.rows.rows c.as_slice.result.now c.args.place c.index-as_slice-place.result c.facts-facts.result e c.as_slice.ensures c.index-as_slice-place.is c.facts-facts.ensures.facts h in
    let is : clutch c.facts-facts.result.group c.facts-facts.result.bucket ≡ clutch_of e.facts = ap clutch_of facts in
    let free : is_some e.facts.bound ≡ false = ap (λ (t : Facts). is_some t.bound) (sym facts) ∙ (sym c.is_some.ensures ∙ c.if-is_some.false) in
    leaves_last q c.take-thread.new.self e c.args.now (clutch c.facts-facts.result.group c.facts-facts.result.bucket) c.lose_turn.new.self (c.take-thread.ensures.taken e h) is free
    (sym c.has_clutch.ensures ∙ c.if-not-has_clutch.true) c.lose_turn.ensures

pub returns-then-before-clutch_priority-clause-taken : goal.returns-then-before-clutch_priority-clause-taken
returns-then-before-clutch_priority-clause-taken c = λ e h.
    let q = c.args.self.now in
    let facts = facts_there q.rows.rows c.as_slice.result.now c.args.place c.index-as_slice-place.result c.facts-facts.result e c.as_slice.ensures c.index-as_slice-place.is c.facts-facts.ensures.facts h in
    let is : clutch c.facts-facts.result.group c.facts-facts.result.bucket ≡ clutch_of e.facts = ap clutch_of facts in
    let free : is_some e.facts.bound ≡ false = ap (λ (t : Facts). is_some t.bound) (sym facts) ∙ (sym c.is_some.ensures ∙ c.if-is_some.false) in
    leaves_other q c.take-thread.new.self e c.args.now (clutch c.facts-facts.result.group c.facts-facts.result.bucket) c.clutch_priority-before.result c.clutch_priority.result c.take_turn.new.self (c.take-thread.ensures.taken e h) is free
    (sym c.has_clutch.ensures ∙ c.if-not-has_clutch.false) c.clutch_priority-before.ensures c.clutch_priority.ensures c.if-before-clutch_priority.true c.take_turn.ensures

pub returns-else-before-clutch_priority-clause-taken : goal.returns-else-before-clutch_priority-clause-taken
returns-else-before-clutch_priority-clause-taken c = λ e h.
    let q = c.args.self.now in
    let facts = facts_there q.rows.rows c.as_slice.result.now c.args.place c.index-as_slice-place.result c.facts-facts.result e c.as_slice.ensures c.index-as_slice-place.is c.facts-facts.ensures.facts h in
    let is : clutch c.facts-facts.result.group c.facts-facts.result.bucket ≡ clutch_of e.facts = ap clutch_of facts in
    let free : is_some e.facts.bound ≡ false = ap (λ (t : Facts). is_some t.bound) (sym facts) ∙ (sym c.is_some.ensures ∙ c.if-is_some.false) in
    leaves_same q c.take-thread.new.self e c.args.now (clutch c.facts-facts.result.group c.facts-facts.result.bucket) c.clutch_priority-before.result c.clutch_priority.result (c.take-thread.ensures.taken e h) is free
    (sym c.has_clutch.ensures ∙ c.if-not-has_clutch.false) c.clutch_priority-before.ensures c.clutch_priority.ensures c.if-before-clutch_priority.false
