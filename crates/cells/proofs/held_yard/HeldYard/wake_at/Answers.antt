use Rattle.std.proofs.Common.{◌≡◌, ◌+◌, ◌-◌, ◌≤◌, ℕ, length, map, Option, Some, refl, sym, ap, ◌∙◌, subst, arith}
use Rattle.std.specs.Prelude.{vec_capacity}
use Rattle.sched_base.specs.Facts.{rested}
use Rattle.sched_base.specs.declared.Act.TheVariants as acts
use Rattle.sched_base.specs.declared.Answer.TheVariants as answers
use Rattle.sched_base.specs.declared.Entry.{Entry}
use Rattle.flat_policy.specs.Runs.Histories.{DueSleeper, RunYard, first_sleeper}
use Rattle.cells.specs.Courses.{Fits, OnCourse}
use Rattle.cells.specs.Held.{unmarked}
use Rattle.cells.specs.Packs.{yard_amounts}
use Rattle.cells.specs.Sleepers.{sleeper_of}
use Rattle.cells.specs.Waking.{IsDueAt, IsFirstAt}
use Rattle.cells.specs.Yards.{KeepsYard, YardParts, wake_entry, waking_at, yard_stepped}
use Rattle.cells.proofs.FirstSleeper.{found_first, others_left, read_at}
use Rattle.cells.proofs.Waking.{one_fewer, wakes_keeps, woken_course}
use Rattle.cells.proofs.YardKeeping.{same_yard_parts}
use Rattle.cells.proofs.held_yard.HeldYard.wake_at.Given as given
use Rattle.cells.proofs.held_yard.HeldYard.wake_at.Goals as goal

pub give_yard-pack-requires-clause-others : goal.give_yard-pack-requires-clause-others
give_yard-pack-requires-clause-others g c =
    let k = c.self.invariant in
    let at : IsFirstAt (map sleeper_of c.self.inside.blocked.items) c.args.i = subst (λ (h : YardParts). IsFirstAt h.yard.blocked c.args.i) (sym c.self.view_is) c.requires.first.at in
    let n : ℕ = length (map sleeper_of c.self.inside.blocked.items) in
    let m : ℕ = length c.self.inside.ended.items in
    (n - 1 + m, m, k.others_are ∙ ap (λ (j : ℕ). yard_amounts j m) (omega (arith, at.within)))

module _ (g : given.Over) (c : goal.After-of g) where
  -- the held yard before, and after
  abbrev was : YardParts
  was = record {
    yard = record { blocked = map sleeper_of c.self.inside.blocked.items; ended = c.self.inside.ended.items; made = c.self.inside.made.items; last = c.self.inside.last };
    room = vec_capacity c.self.inside.blocked;
    made_room = vec_capacity c.self.inside.made;
    ended_room = vec_capacity c.self.inside.ended;
    journal = c.self.inside.journal;
    slots = c.self.inside.slots;
    lines = c.self.inside.lines;
    others = c.self.inside.others;
  }

  abbrev is : YardParts
  is = record {
    yard = record { blocked = map sleeper_of c.remove-thread.new.self.items; ended = c.self.inside.ended.items; made = c.self.inside.made.items; last = c.args.moment };
    room = vec_capacity c.remove-thread.new.self;
    made_room = vec_capacity c.self.inside.made;
    ended_room = vec_capacity c.self.inside.ended;
    journal = c.push.new.self;
    slots = c.give_out-own.new.self;
    lines = c.burn.new.self;
    others = c.give_yard-pack.new.self;
  }

  -- the thread that is woken, and the yard after that
  abbrev woken : DueSleeper
  woken = sleeper_of c.remove-thread.result

  abbrev next : RunYard
  next = (waking_at was.yard c.args.moment (Some woken)).yard

  at : IsDueAt was.yard.blocked c.args.i c.args.moment
  at = subst (λ (h : YardParts). IsDueAt h.yard.blocked c.args.i c.args.moment) (sym c.self.view_is) c.requires.first

  first : first_sleeper was.yard ≡ Some woken
  first = found_first was.yard c.self.inside.blocked.items c.args.i c.remove-thread.result refl at.at c.remove-thread.ensures.value

  yard_is : is.yard ≡ next
  yard_is =
      let left = ap (map sleeper_of) c.remove-thread.ensures.items ∙ others_left sleeper_of c.self.inside.blocked.items c.args.i at.at in
      λ i. record { blocked = left i; ended = was.yard.ended; made = was.yard.made; last = c.args.moment }

  thread_is : c.facts-facts.result ≡ rested (c.args.moment - woken.since) woken.facts
  thread_is = c.facts-facts.ensures.facts ∙ c.rest.ensures ∙ ap (λ (span : ℕ). rested span woken.facts) c.saturating_sub.ensures

  made_is : c.entry_of-entry.result ≡ wake_entry c.args.actor was.yard c.args.moment (Some woken)
  made_is =
      c.entry_of-entry.ensures
      ∙ (λ i. record { step = record { moment = c.args.moment; actor = c.args.actor; act = acts.Wake (thread_is i).name }; answer = answers.Yes; thread = Some (thread_is i) })

  -- the fields are those after the waking
  fields : is ≡ yard_stepped (unmarked c.entry_of-entry.result) next was
  fields =
      let k = c.self.invariant in
      let fewer = one_fewer was.yard c.args.i at.at in
      let less : was.slots.parked - 1 ≡ length next.blocked = omega (arith, k.parked, fewer) in
      let each : length was.yard.blocked + length was.yard.ended ≡ length next.blocked + length was.yard.ended + 1 = omega (arith, fewer) in
      same_yard_parts is (yard_stepped (unmarked c.entry_of-entry.result) next was)
      yard_is
      c.remove-thread.ensures.capacity
      refl
      refl
      c.push.ensures
      (c.give_out-own.ensures.book ∙ (λ i. record was.slots { minted = k.minted i; parked = less i }))
      (c.burn.ensures.book ∙ ap (λ (m : ℕ). record was.lines { minted = was.lines.minted - m }) c.requires.line.1)
      (c.give_yard-pack.ensures.left (length next.blocked + length was.yard.ended) (length was.yard.ended) (k.others_are ∙ ap (λ (j : ℕ). yard_amounts j (length was.yard.ended)) each))

  kept : KeepsYard g.N.RunName.setup g.N.RunName.programs g.N.RunName.desks is
  kept =
      let later : was.yard.last ≤ c.args.moment = subst (λ (h : YardParts). h.yard.last ≤ c.args.moment) (sym c.self.view_is) c.requires.later in
      let due : woken.due ≤ c.args.moment = subst (λ (w : DueSleeper). w.due ≤ c.args.moment) (read_at sleeper_of c.self.inside.blocked.items c.args.i c.remove-thread.result c.remove-thread.ensures.value) (at.due woken) in
      subst (KeepsYard g.N.RunName.setup g.N.RunName.programs g.N.RunName.desks)
      (sym (fields ∙ ap (λ (e : Entry). yard_stepped (unmarked e) next was) made_is))
      (wakes_keeps g.N.RunName.setup g.N.RunName.programs g.N.RunName.desks was c.self.invariant c.args.i woken c.args.moment c.args.actor at.at first due c.requires.moment c.requires.actor later)

pub of-requires-clause-fits : goal.of-requires-clause-fits
of-requires-clause-fits g c =
    subst (Fits g.N.RunName.setup g.N.RunName.programs) (sym c.rest.ensures)
    (woken_course g.N.RunName.setup g.N.RunName.programs g.N.RunName.desks c.args.self.now c.keeps.ensures (sleeper_of c.remove-thread.result) c.saturating_sub.result
    (found_first c.args.self.now.yard c.self.inside.blocked.items c.args.i c.remove-thread.result (ap (λ (h : YardParts). h.yard.blocked) c.self.view_is) c.requires.first.at c.remove-thread.ensures.value)).fits

pub invariant_of-self : goal.invariant_of-self
invariant_of-self g c = kept g c

pub returns-clause-entry : goal.returns-clause-entry
returns-clause-entry g c =
    made_is g c ∙ ap (wake_entry c.args.actor (was g c).yard c.args.moment) (sym (first g c))
    ∙ ap (λ (h : YardParts). wake_entry c.args.actor h.yard c.args.moment (first_sleeper h.yard)) c.self.view_is

pub returns-clause-held : goal.returns-clause-held
returns-clause-held g c =
    fields g c ∙ ap (λ (o : Option DueSleeper). yard_stepped (unmarked c.entry_of-entry.result) (waking_at (was g c).yard c.args.moment o).yard (was g c)) (sym (first g c))
    ∙ ap (λ (h : YardParts). yard_stepped (unmarked c.entry_of-entry.result) (waking_at h.yard c.args.moment (first_sleeper h.yard)).yard h) c.self.view_is

pub returns-clause-course : goal.returns-clause-course
returns-clause-course g c =
    subst (OnCourse g.N.RunName.setup g.N.RunName.programs) (sym (c.of.ensures ∙ c.rest.ensures))
    (woken_course g.N.RunName.setup g.N.RunName.programs g.N.RunName.desks (was g c) c.self.invariant (woken g c) c.saturating_sub.result (first g c))
