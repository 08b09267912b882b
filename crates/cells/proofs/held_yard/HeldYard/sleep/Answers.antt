use Rattle.std.proofs.Common.{◌≡◌, ◌+◌, ◌-◌, ◌++◌, [], ◌∷◌, ℕ, length, map, min, Some, refl, sym, ap, ◌∙◌, subst, arith}
use Rattle.std.specs.Prelude.{vec_capacity}
use Rattle.std.proofs.lemmas.List.{length_push, map_push}
use Rattle.sched_base.specs.Limits.{moment_limit}
use Rattle.sched_base.specs.declared.Act.TheVariants as acts
use Rattle.sched_base.specs.declared.Answer.TheVariants as answers
use Rattle.sched_base.specs.declared.Entry.{Entry}
use Rattle.flat_policy.specs.Runs.Histories.{DueSleeper, RunYard, due_after, sleeping}
use Rattle.cells.specs.Packs.{joined, yard_amounts}
use Rattle.cells.specs.Sleepers.{sleeper_of}
use Rattle.cells.specs.Yards.{KeepsYard, YardParts, yard_entry, yard_moment, yard_stepped}
use Rattle.cells.specs.declared.held_yard.Resting.{Resting}
use Rattle.cells.proofs.YardKeeping.{same_yard_parts}
use Rattle.cells.proofs.YardSteps.{sleeps_keeps}
use Rattle.cells.proofs.held_yard.HeldYard.sleep.Given as given
use Rattle.cells.proofs.held_yard.HeldYard.sleep.Goals as goal

module _ (g : given.Over) (c : goal.After-push g) where
  -- the held yard before, and after
  abbrev was : YardParts
  was = record {
    yard = record { blocked = map sleeper_of c.self.inside.blocked.items; ended = c.self.inside.ended.items; made = c.self.inside.made.items; last = c.self.inside.last };
    room = vec_capacity c.self.inside.blocked;
    made_room = vec_capacity c.self.inside.made;
    ended_room = vec_capacity c.self.inside.ended;
    journal = c.self.inside.journal;
    slots = c.self.inside.slots;
    lines = c.self.inside.lines;
    others = c.self.inside.others;
  }

  abbrev is : YardParts
  is = record {
    yard = record { blocked = map sleeper_of c.push_reserved.new.self.items; ended = c.self.inside.ended.items; made = c.self.inside.made.items; last = c.max-moment.result };
    room = vec_capacity c.push_reserved.new.self;
    made_room = vec_capacity c.self.inside.made;
    ended_room = vec_capacity c.self.inside.ended;
    journal = c.push.new.self;
    slots = c.take_in.new.self;
    lines = c.burn.new.self;
    others = c.join.new.self;
  }

  -- the moment, the thread as it lies here, and the yard then
  abbrev moment : ℕ
  moment = yard_moment was.yard c.args.now

  abbrev lying : DueSleeper
  lying = record { facts = c.args.r; since = moment; due = due_after moment c.args.span }

  abbrev next : RunYard
  next = (sleeping was.yard moment c.args.r c.args.span).yard

  due_is : c.min-due.result ≡ due_after moment c.args.span
  due_is = c.min-due.ensures ∙ (λ i. min (c.max-moment.ensures i + c.from.ensures i) (moment_limit - 1))

  blocked_is : is.yard.blocked ≡ was.yard.blocked ++ lying ∷ []
  blocked_is =
      let put : Resting = record { thread = c.into_parts-thread.result.0; since = c.max-moment.result; due = c.min-due.result } in
      ap (map sleeper_of) c.push_reserved.ensures.items ∙ map_push sleeper_of c.self.inside.blocked.items put
      ∙ (λ i. was.yard.blocked ++ record { facts = c.into_parts-thread.ensures.thread i; since = c.max-moment.ensures i; due = due_is i } ∷ [])

  made_is : c.entry_of-entry.result ≡ yard_entry moment c.args.actor acts.Sleep (sleeping was.yard moment c.args.r c.args.span)
  made_is = c.entry_of-entry.ensures ∙ (λ i. record { step = record { moment = c.max-moment.ensures i; actor = c.args.actor; act = acts.Sleep }; answer = answers.Yes; thread = Some (c.facts-facts.ensures.facts i) })

  -- the fields are those after the thread went to sleep
  fields : is ≡ yard_stepped (record { entry = c.entry_of-entry.result; mark = Some c.args.span }) next was
  fields =
      let k = c.self.invariant in
      let more : length next.blocked ≡ length was.yard.blocked + 1 = length_push was.yard.blocked lying in
      let parks : was.slots.parked + c.take_yard-own.result.amount ≡ length next.blocked = omega (arith, c.take_yard-own.ensures.one, k.parked, more) in
      let each : (length was.yard.blocked + length was.yard.ended) + 1 ≡ length next.blocked + length was.yard.ended = omega (arith, more) in
      let own : length was.yard.ended + 0 ≡ length was.yard.ended = omega arith in
      same_yard_parts is (yard_stepped (record { entry = c.entry_of-entry.result; mark = Some c.args.span }) next was)
      (λ i. record { blocked = blocked_is i; ended = was.yard.ended; made = was.yard.made; last = c.max-moment.ensures i })
      c.push_reserved.ensures.capacity
      refl
      refl
      c.push.ensures
      (c.take_in.ensures.book ∙ (λ i. record was.slots { minted = k.minted i; parked = parks i }))
      (c.burn.ensures.book ∙ ap (λ (m : ℕ). record was.lines { minted = was.lines.minted - m }) c.requires.line.1)
      (c.join.ensures ∙ (λ i. joined (k.others_are i) (c.take_yard-own.ensures.left i)) ∙ (λ i. yard_amounts (each i) (own i)))

  kept : KeepsYard g.N.RunName.setup g.N.RunName.programs g.N.RunName.desks is
  kept =
      subst (KeepsYard g.N.RunName.setup g.N.RunName.programs g.N.RunName.desks)
      (sym (fields ∙ ap (λ (e : Entry). yard_stepped (record { entry = e; mark = Some c.args.span }) next was) made_is))
      (sleeps_keeps g.N.RunName.setup g.N.RunName.programs g.N.RunName.desks was c.self.invariant c.args.r c.args.span c.args.now c.args.actor c.requires.moment c.requires.actor c.requires.course
      (omega (arith, c.take_in.ensures.law, c.take_yard-own.ensures.one)))

pub invariant_of-self : goal.invariant_of-self
invariant_of-self g c = kept g c

pub returns-clause-held : goal.returns-clause-held
returns-clause-held g c =
    fields g c ∙ ap (λ (h : YardParts). yard_stepped (record { entry = c.entry_of-entry.result; mark = Some c.args.span }) (sleeping h.yard (yard_moment h.yard c.args.now) c.args.r c.args.span).yard h) c.self.view_is

pub returns-clause-entry : goal.returns-clause-entry
returns-clause-entry g c = made_is g c ∙ ap (λ (h : YardParts). yard_entry (yard_moment h.yard c.args.now) c.args.actor acts.Sleep (sleeping h.yard (yard_moment h.yard c.args.now) c.args.r c.args.span)) c.self.view_is
