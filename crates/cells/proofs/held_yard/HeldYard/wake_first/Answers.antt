use Rattle.std.proofs.Common.{◌≡◌, ℕ, List, [], map, max, Option, Some, None, get_or, is_some, sym, ap, ◌∙◌, subst, arith}
use Rattle.std.proofs.lemmas.Bool.{both_ways}
use Rattle.sched_base.specs.declared.Entry.{Entry}
use Rattle.flat_policy.specs.Runs.Histories.{DueSleeper, RunYard, first_sleeper}
use Rattle.cells.specs.Held.{unmarked}
use Rattle.cells.specs.Sleepers.{sleeper_of}
use Rattle.cells.specs.Waking.{IsFirstAt}
use Rattle.cells.specs.Yards.{YardParts, wake_entry, waking_at, woken_at, yard_moment, yard_stepped}
use Rattle.cells.specs.declared.held_yard.Resting.{Resting}
use Rattle.cells.proofs.FirstSleeper.{found_first}
use Rattle.cells.proofs.Nobody.{first_none, none_woken, woken_told}
use Rattle.cells.proofs.Waking.{first_is_sleeper}
use Rattle.cells.proofs.held_yard.HeldYard.wake_first.Given as given
use Rattle.cells.proofs.held_yard.HeldYard.wake_first.Goals as goal

-- the thread that was read at the place that was found is the one that is woken
read_first : (y : RunYard) (rs slice : List Resting) (i : ℕ) (r : Resting) → map sleeper_of rs ≡ y.blocked → slice ≡ rs → IsFirstAt (map sleeper_of slice) i → r ≡ get_or rs i r → first_sleeper y ≡ Some (sleeper_of r)
read_first y rs slice i r means same at read =
    found_first y rs i r means (subst (λ (ws : List DueSleeper). IsFirstAt ws i) (ap (map sleeper_of) same ∙ means) at) read

pub wake_at-requires-clause-moment : goal.wake_at-requires-clause-moment
wake_at-requires-clause-moment g c =
    let first = read_first c.args.self.now.yard c.self.inside.blocked.items c.as_slice.result.now c.in-Some.i c.index.result.now (ap (λ (h : YardParts). h.yard.blocked) c.self.view_is) c.as_slice.ensures.value c.in-Some.ensures.first c.index.ensures in
    let soon = (first_is_sleeper g.N.RunName.setup g.N.RunName.programs g.N.RunName.desks c.args.self.now c.keeps.ensures (sleeper_of c.index.result.now) first).soon in
    omega (arith, soon, c.max-moment.ensures, c.max-moment-in-Some.ensures, c.requires.moment, c.self.invariant.last)

module _ (g : given.Over) (c : goal.After-wake_at g) where
  first : first_sleeper c.args.self.now.yard ≡ Some (sleeper_of c.index.result.now)
  first = read_first c.args.self.now.yard c.self.inside.blocked.items c.as_slice.result.now c.in-Some.i c.index.result.now (ap (λ (h : YardParts). h.yard.blocked) c.self.view_is) c.as_slice.ensures.value c.in-Some.ensures.first c.index.ensures

  moment_is : c.max-moment-in-Some.result ≡ woken_at (first_sleeper c.args.self.now.yard) (yard_moment c.args.self.now.yard c.args.now)
  moment_is =
      c.max-moment-in-Some.ensures ∙ ap (λ (m : ℕ). max m c.index.result.now.due) (c.max-moment.ensures ∙ ap (λ (h : YardParts). max c.args.now h.yard.last) c.self.view_is)
      ∙ sym (ap (λ (o : Option DueSleeper). woken_at o (yard_moment c.args.self.now.yard c.args.now)) first)

  some_entry : c.wake_at.result.entry ≡ wake_entry c.args.actor c.args.self.now.yard (woken_at (first_sleeper c.args.self.now.yard) (yard_moment c.args.self.now.yard c.args.now)) (first_sleeper c.args.self.now.yard)
  some_entry = c.wake_at.ensures.entry ∙ ap (λ (m : ℕ). wake_entry c.args.actor c.args.self.now.yard m (first_sleeper c.args.self.now.yard)) moment_is

pub returns-in-Some-clause-entry : goal.returns-in-Some-clause-entry
returns-in-Some-clause-entry g c = some_entry g c

pub returns-in-Some-clause-told : goal.returns-in-Some-clause-told
returns-in-Some-clause-told g c = woken_told c.args.actor c.args.self.now.yard _ _ c.wake_at.result.value c.wake_at.result.entry (some_entry g c) c.wake_at.ensures.value

pub returns-in-Some-clause-none : goal.returns-in-Some-clause-none
returns-in-Some-clause-none g c = (
  λ none. absurd (both_ways (is_some c.wake_at.result.value) none c.wake_at.ensures.some),
  λ none. none_woken c.args.actor c.args.self.now.yard _ _ c.wake_at.result.value c.wake_at.result.entry (some_entry g c) c.wake_at.ensures.value (first_none c.args.self.now.yard none),
)

pub returns-in-Some-clause-held : goal.returns-in-Some-clause-held
returns-in-Some-clause-held g c =
    c.wake_at.ensures.held
    ∙ ap (λ (m : ℕ). yard_stepped (unmarked c.wake_at.result.entry) (waking_at c.args.self.now.yard m (first_sleeper c.args.self.now.yard)).yard c.args.self.now) (moment_is g c)

module _ (g : given.Over) (c : goal.After-count_at g) where
  none_blocked : c.args.self.now.yard.blocked ≡ []
  none_blocked =
      sym (ap (λ (h : YardParts). h.yard.blocked) c.self.view_is)
      ∙ sym (ap (map sleeper_of) c.as_slice.ensures.value) ∙ ap (map sleeper_of) c.in-None.ensures.none

  none_given : c.count_at.result.value ≡ c.count_at.result.entry.thread
  none_given = c.count_at.ensures.value ∙ sym (ap (λ (e : Entry). e.thread) c.count_at.ensures.entry)

pub returns-in-None-clause-told : goal.returns-in-None-clause-told
returns-in-None-clause-told g c = woken_told c.args.actor c.args.self.now.yard c.max-moment.result None c.count_at.result.value c.count_at.result.entry c.count_at.ensures.entry (none_given g c)

pub returns-in-None-clause-none : goal.returns-in-None-clause-none
returns-in-None-clause-none g c = (λ none. none_blocked g c, λ none. ap is_some c.count_at.ensures.value)
