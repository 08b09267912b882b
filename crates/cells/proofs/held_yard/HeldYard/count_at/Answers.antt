use Rattle.std.proofs.Common.{◌≡◌, ◌-◌, ◌≤◌, ℕ, length, map, None, false, refl, sym, ap, ◌∙◌, subst}
use Rattle.std.specs.Prelude.{vec_capacity}
use Rattle.sched_base.specs.declared.Act.TheVariants as acts
use Rattle.sched_base.specs.declared.Answer.TheVariants as answers
use Rattle.sched_base.specs.declared.Entry.{Entry}
use Rattle.flat_policy.specs.Runs.Histories.{RunYard}
use Rattle.cells.specs.Held.{unmarked}
use Rattle.cells.specs.Sleepers.{sleeper_of}
use Rattle.cells.specs.Yards.{KeepsYard, YardParts, some_due, wake_entry, waking_at, yard_stepped}
use Rattle.cells.proofs.Waking.{counts_keeps}
use Rattle.cells.proofs.YardKeeping.{same_yard_parts}
use Rattle.cells.proofs.held_yard.HeldYard.count_at.Given as given
use Rattle.cells.proofs.held_yard.HeldYard.count_at.Goals as goal

module _ (g : given.Over) (c : goal.After-push g) where
  -- the held yard before, and after
  abbrev was : YardParts
  was = record {
    yard = record { blocked = map sleeper_of c.self.inside.blocked.items; ended = c.self.inside.ended.items; made = c.self.inside.made.items; last = c.self.inside.last };
    room = vec_capacity c.self.inside.blocked;
    made_room = vec_capacity c.self.inside.made;
    ended_room = vec_capacity c.self.inside.ended;
    journal = c.self.inside.journal;
    slots = c.self.inside.slots;
    lines = c.self.inside.lines;
    others = c.self.inside.others;
  }

  abbrev next : RunYard
  next = (waking_at was.yard c.args.moment None).yard

  abbrev is : YardParts
  is = record was { yard = next; journal = c.push.new.self; lines = c.burn.new.self }

  made_is : c.entry_of-entry.result ≡ wake_entry c.args.actor was.yard c.args.moment None
  made_is =
      c.entry_of-entry.ensures
      ∙ (λ i. record { step = record { moment = c.args.moment; actor = c.args.actor; act = acts.Blocked }; answer = answers.Left ((c.blocked.ensures ∙ ap (λ (h : YardParts). length h.yard.blocked) (sym c.self.view_is)) i); thread = None })

  -- the fields are those after the counting
  fields : is ≡ yard_stepped (unmarked c.entry_of-entry.result) next was
  fields =
      let k = c.self.invariant in
      same_yard_parts is (yard_stepped (unmarked c.entry_of-entry.result) next was)
      refl
      refl
      refl
      refl
      c.push.ensures
      (λ i. record was.slots { minted = k.minted i; parked = k.parked i })
      (c.burn.ensures.book ∙ ap (λ (m : ℕ). record was.lines { minted = was.lines.minted - m }) c.requires.line.1)
      k.others_are

  kept : KeepsYard g.N.RunName.setup g.N.RunName.programs g.N.RunName.desks is
  kept =
      let later : was.yard.last ≤ c.args.moment = subst (λ (h : YardParts). h.yard.last ≤ c.args.moment) (sym c.self.view_is) c.requires.later in
      let none : some_due was.yard c.args.moment ≡ false = ap (λ (h : YardParts). some_due h.yard c.args.moment) c.self.view_is ∙ c.requires.none in
      subst (KeepsYard g.N.RunName.setup g.N.RunName.programs g.N.RunName.desks)
      (sym (fields ∙ ap (λ (e : Entry). yard_stepped (unmarked e) next was) made_is))
      (counts_keeps g.N.RunName.setup g.N.RunName.programs g.N.RunName.desks was c.self.invariant c.args.moment c.args.actor none c.requires.moment c.requires.actor later)

pub invariant_of-self : goal.invariant_of-self
invariant_of-self g c = kept g c

pub returns-clause-entry : goal.returns-clause-entry
returns-clause-entry g c = made_is g c ∙ ap (λ (h : YardParts). wake_entry c.args.actor h.yard c.args.moment None) c.self.view_is

pub returns-clause-held : goal.returns-clause-held
returns-clause-held g c = fields g c ∙ ap (λ (h : YardParts). yard_stepped (unmarked c.entry_of-entry.result) (waking_at h.yard c.args.moment None).yard h) c.self.view_is
