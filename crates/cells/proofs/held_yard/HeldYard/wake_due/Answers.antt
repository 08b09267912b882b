use Rattle.std.proofs.Common.{◌≡◌, List, false, map, max, None, is_some, sym, ap, ◌∙◌, subst}
use Rattle.std.proofs.lemmas.Bool.{both_ways}
use Rattle.sched_base.specs.declared.Entry.{Entry}
use Rattle.flat_policy.specs.Runs.Histories.{first_sleeper}
use Rattle.cells.specs.Held.{unmarked}
use Rattle.cells.specs.Sleepers.{sleeper_of}
use Rattle.cells.specs.Waking.{IsDueAt}
use Rattle.cells.specs.Yards.{YardParts, due_first, some_due, wake_entry, waking_at, yard_moment, yard_stepped}
use Rattle.cells.specs.declared.held_yard.Resting.{Resting}
use Rattle.cells.proofs.FirstSleeper.{due_first_at, due_first_none}
use Rattle.cells.proofs.Nobody.{none_woken, woken_told}
use Rattle.cells.proofs.held_yard.HeldYard.wake_due.Given as given
use Rattle.cells.proofs.held_yard.HeldYard.wake_due.Goals as goal

module _ (g : given.Over) (c : goal.After-wake_at g) where
  moment_is : c.max-moment.result ≡ yard_moment c.args.self.now.yard c.args.now
  moment_is = c.max-moment.ensures ∙ ap (λ (h : YardParts). max c.args.now h.yard.last) c.self.view_is

  -- the thread at the place that was found is the one that is woken
  woken_is : due_first c.args.self.now.yard (yard_moment c.args.self.now.yard c.args.now) ≡ first_sleeper c.args.self.now.yard
  woken_is =
      let here : IsDueAt (map sleeper_of c.self.inside.blocked.items) c.in-Some.i c.max-moment.result = subst (λ (rs : List Resting). IsDueAt (map sleeper_of rs) c.in-Some.i c.max-moment.result) c.as_slice.ensures.value c.in-Some.ensures.first in
      due_first_at c.args.self.now.yard c.in-Some.i (yard_moment c.args.self.now.yard c.args.now)
      (subst (IsDueAt c.args.self.now.yard.blocked c.in-Some.i) moment_is (subst (λ (h : YardParts). IsDueAt h.yard.blocked c.in-Some.i c.max-moment.result) c.self.view_is here))

  some_entry : c.wake_at.result.entry ≡ wake_entry c.args.actor c.args.self.now.yard (yard_moment c.args.self.now.yard c.args.now) (due_first c.args.self.now.yard (yard_moment c.args.self.now.yard c.args.now))
  some_entry = c.wake_at.ensures.entry ∙ (λ i. wake_entry c.args.actor c.args.self.now.yard (moment_is i) (sym woken_is i))

pub returns-in-Some-clause-entry : goal.returns-in-Some-clause-entry
returns-in-Some-clause-entry g c = some_entry g c

pub returns-in-Some-clause-told : goal.returns-in-Some-clause-told
returns-in-Some-clause-told g c = woken_told c.args.actor c.args.self.now.yard _ _ c.wake_at.result.value c.wake_at.result.entry (some_entry g c) c.wake_at.ensures.value

pub returns-in-Some-clause-none : goal.returns-in-Some-clause-none
returns-in-Some-clause-none g c = (
  λ none. absurd (both_ways (is_some c.wake_at.result.value) none c.wake_at.ensures.some),
  λ quiet. none_woken c.args.actor c.args.self.now.yard _ _ c.wake_at.result.value c.wake_at.result.entry (some_entry g c) c.wake_at.ensures.value
      (due_first_none c.args.self.now.yard (yard_moment c.args.self.now.yard c.args.now) quiet),
)

pub returns-in-Some-clause-held : goal.returns-in-Some-clause-held
returns-in-Some-clause-held g c =
    c.wake_at.ensures.held
    ∙ (λ i. yard_stepped (unmarked c.wake_at.result.entry) (waking_at c.args.self.now.yard (moment_is g c i) (sym (woken_is g c) i)).yard c.args.self.now)

module _ (g : given.Over) (c : goal.After-count_at g) where
  counted_is : c.max-moment.result ≡ yard_moment c.args.self.now.yard c.args.now
  counted_is = c.max-moment.ensures ∙ ap (λ (h : YardParts). max c.args.now h.yard.last) c.self.view_is

  -- none is due
  quiet : some_due c.args.self.now.yard (yard_moment c.args.self.now.yard c.args.now) ≡ false
  quiet =
      sym (ap (some_due c.args.self.now.yard) counted_is) ∙ sym (ap (λ (h : YardParts). some_due h.yard c.max-moment.result) c.self.view_is)
      ∙ sym (ap (λ (rs : List Resting). some_due (record c.args.self.now.yard { blocked = map sleeper_of rs }) c.max-moment.result) c.as_slice.ensures.value) ∙ c.in-None.ensures.none

  -- no thread is woken
  none_is : due_first c.args.self.now.yard (yard_moment c.args.self.now.yard c.args.now) ≡ None
  none_is = due_first_none c.args.self.now.yard (yard_moment c.args.self.now.yard c.args.now) quiet

  none_entry : c.count_at.result.entry ≡ wake_entry c.args.actor c.args.self.now.yard (yard_moment c.args.self.now.yard c.args.now) (due_first c.args.self.now.yard (yard_moment c.args.self.now.yard c.args.now))
  none_entry = c.count_at.ensures.entry ∙ (λ i. wake_entry c.args.actor c.args.self.now.yard (counted_is i) (sym none_is i))

  none_given : c.count_at.result.value ≡ c.count_at.result.entry.thread
  none_given = c.count_at.ensures.value ∙ sym (ap (λ (e : Entry). e.thread) c.count_at.ensures.entry)

pub returns-in-None-clause-entry : goal.returns-in-None-clause-entry
returns-in-None-clause-entry g c = none_entry g c

pub returns-in-None-clause-told : goal.returns-in-None-clause-told
returns-in-None-clause-told g c = woken_told c.args.actor c.args.self.now.yard _ _ c.count_at.result.value c.count_at.result.entry (none_entry g c) (none_given g c)

pub returns-in-None-clause-none : goal.returns-in-None-clause-none
returns-in-None-clause-none g c = (λ none. quiet g c, λ none. ap is_some c.count_at.ensures.value)

pub returns-in-None-clause-held : goal.returns-in-None-clause-held
returns-in-None-clause-held g c =
    c.count_at.ensures.held
    ∙ (λ i. yard_stepped (unmarked c.count_at.result.entry) (waking_at c.args.self.now.yard (counted_is g c i) (sym (none_is g c) i)).yard c.args.self.now)
