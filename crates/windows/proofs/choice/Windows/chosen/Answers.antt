use Rattle.std.proofs.Common.{Bool, List, None, Some, ap, is_some, length, sym, ◌∙◌}
use Rattle.std.proofs.lemmas.Bool.{false≢true, true_from_ne_false}
use Rattle.flat_policy.specs.Policy.Queue.{LaneState}
use Rattle.flat_policy.specs.Policy.Windows.{some_higher}
use Rattle.root_deadlines.specs.Lanes.{filled_among}
use Rattle.windows.specs.Views.{windows_over}
use Rattle.windows.specs.WindowStates.{filled_of}
use Rattle.windows.proofs.Chosen.{choice_by, choice_over, chosen_from, lanes_are, none_waits, one_waits}
use Rattle.windows.proofs.Ordered.{none_filled}
use Rattle.windows.proofs.Passing.{higher_ten}
use Rattle.windows.proofs.AtIndex.{lanes_over}
use Rattle.windows.proofs.choice.Windows.chosen.Goals as goal

pub unwrap-first-requires : goal.unwrap-first-requires
unwrap-first-requires c =
    let t = c.self.inside.lanes in
    let ms = c.self.inside.marks in
    true_from_ne_false (is_some c.earliest.result) (λ none. c.requires
    (ap filled_of (sym c.self.view_is)
    ∙ none_filled t.filled (windows_over t.deadlines ms)
    (ap (filled_among t.filled) (lanes_over t.deadlines ms c.self.invariant.deadlines c.self.invariant.marks) ∙ c.earliest.ensures.none.0 none)))

pub passing-requires : goal.passing-requires
passing-requires c =
    ap (λ (hs : List Bool). length hs) c.higher_than-higher.ensures ∙ higher_ten c.unwrap-first.result.bucket c.self.inside.lanes.filled c.self.invariant.filled

pub returns-then-is_empty-clause-chosen : goal.returns-then-is_empty-clause-chosen
returns-then-is_empty-clause-chosen c =
    let w = c.args.self.now in
    let in_self = c.self.inside in
    let higher = c.higher_than-higher.result in
    let lanes = lanes_are in_self.times in_self.lanes in_self.marks in_self.running c.self.invariant w c.self.view_is in
    let none = none_waits higher w.lanes lanes (c.is_empty.ensures.0 c.if-is_empty.true) in
    chosen_from in_self.times in_self.lanes in_self.marks in_self.running c.self.invariant w c.self.view_is
    c.earliest.result c.unwrap-first.result c.unwrap-first.ensures c.earliest.ensures.first higher c.higher_than-higher.ensures
    ∙ ap (λ (vs : List LaneState). Some (choice_over w.times c.unwrap-first.result vs)) none

pub returns-in-Some-clause-chosen : goal.returns-in-Some-clause-chosen
returns-in-Some-clause-chosen c =
    let w = c.args.self.now in
    let in_self = c.self.inside in
    let higher = c.higher_than-higher.result in
    chosen_from in_self.times in_self.lanes in_self.marks in_self.running c.self.invariant w c.self.view_is
    c.earliest.result c.unwrap-first.result c.unwrap-first.ensures c.earliest.ensures.first higher c.higher_than-higher.ensures
    ∙ ap (λ p. Some (choice_by c.unwrap-first.result p (some_higher (filled_among higher w.lanes)))) (sym c.in-Some.ensures.passing)

pub returns-in-None-clause-chosen : goal.returns-in-None-clause-chosen
returns-in-None-clause-chosen c =
    let w = c.args.self.now in
    let in_self = c.self.inside in
    let higher = c.higher_than-higher.result in
    let lanes = lanes_are in_self.times in_self.lanes in_self.marks in_self.running c.self.invariant w c.self.view_is in
    let some = one_waits higher w.lanes lanes (λ none. false≢true (sym c.if-is_empty.false ∙ c.is_empty.ensures.1 none)) in
    chosen_from in_self.times in_self.lanes in_self.marks in_self.running c.self.invariant w c.self.view_is
    c.earliest.result c.unwrap-first.result c.unwrap-first.ensures c.earliest.ensures.first higher c.higher_than-higher.ensures
    ∙ ap (λ p. Some (choice_by c.unwrap-first.result p (some_higher (filled_among higher w.lanes)))) (sym c.in-None.ensures.passing)
    ∙ ap (λ b. Some (choice_by c.unwrap-first.result None b)) some
