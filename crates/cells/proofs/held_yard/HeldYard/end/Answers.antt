use Rattle.std.proofs.Common.{◌≡◌, ◌+◌, ◌-◌, ◌≤◌, ◌++◌, [], ◌∷◌, ℕ, List, length, map, Some, refl, sym, ap, ◌∙◌, subst, arith}
use Rattle.std.specs.Prelude.{vec_capacity}
use Rattle.std.proofs.lemmas.List.{length_push}
use Rattle.sched_base.specs.declared.Act.TheVariants as acts
use Rattle.sched_base.specs.declared.Answer.TheVariants as answers
use Rattle.sched_base.specs.declared.Entry.{Entry}
use Rattle.sched_base.specs.declared.Facts.{Facts}
use Rattle.flat_policy.specs.Runs.Histories.{RunYard, ending}
use Rattle.cells.specs.Held.{unmarked}
use Rattle.cells.specs.Packs.{Amounts, joined, one_each, yard_amounts}
use Rattle.cells.specs.Sleepers.{sleeper_of}
use Rattle.cells.specs.Yards.{KeepsYard, YardParts, yard_entry, yard_moment, yard_stepped}
use Rattle.cells.proofs.YardKeeping.{same_yard_parts}
use Rattle.cells.proofs.YardSteps.{ends_keeps}
use Rattle.cells.proofs.held_yard.HeldYard.end.Given as given
use Rattle.cells.proofs.held_yard.HeldYard.end.Goals as goal

module _ (g : given.Over) (c : goal.After-push g) where
  -- the held yard before, and after
  abbrev was : YardParts
  was = record {
    yard = record { blocked = map sleeper_of c.self.inside.blocked.items; ended = c.self.inside.ended.items; made = c.self.inside.made.items; last = c.self.inside.last };
    room = vec_capacity c.self.inside.blocked;
    made_room = vec_capacity c.self.inside.made;
    ended_room = vec_capacity c.self.inside.ended;
    journal = c.self.inside.journal;
    slots = c.self.inside.slots;
    lines = c.self.inside.lines;
    others = c.self.inside.others;
  }

  abbrev is : YardParts
  is = record {
    yard = record { blocked = map sleeper_of c.self.inside.blocked.items; ended = c.push_reserved.new.self.items; made = c.self.inside.made.items; last = c.max-moment.result };
    room = vec_capacity c.self.inside.blocked;
    made_room = vec_capacity c.self.inside.made;
    ended_room = vec_capacity c.push_reserved.new.self;
    journal = c.push.new.self;
    slots = c.count_yard.new.book;
    lines = c.burn.new.self;
    others = c.count_yard.new.self;
  }

  -- the yard after the ending
  abbrev next : RunYard
  next = (ending was.yard (yard_moment was.yard c.args.now) c.args.r).yard

  thread_is : c.into_facts-facts.result ≡ c.args.r
  thread_is = c.into_facts-facts.ensures.facts ∙ c.into_parts-thread.ensures.thread

  yard_is : is.yard ≡ next
  yard_is =
      let ended : is.yard.ended ≡ was.yard.ended ++ c.args.r.name ∷ [] =
      ◌∙◌ {A = List ℕ} c.push_reserved.ensures.items (ap (λ (t : Facts). was.yard.ended ++ t.name ∷ []) thread_is) in
      λ i. record { blocked = was.yard.blocked; ended = ended i; made = was.yard.made; last = c.max-moment.ensures i }

  made_is : c.entry_of-entry.result ≡ yard_entry (yard_moment was.yard c.args.now) c.args.actor acts.End (ending was.yard (yard_moment was.yard c.args.now) c.args.r)
  made_is = c.entry_of-entry.ensures ∙ (λ i. record { step = record { moment = c.max-moment.ensures i; actor = c.args.actor; act = acts.End }; answer = answers.Yes; thread = Some (thread_is i) })

  -- the fields are those after the ending
  fields : is ≡ yard_stepped (unmarked c.entry_of-entry.result) next was
  fields =
      let k = c.self.invariant in
      let more : length next.ended ≡ length was.yard.ended + 1 = length_push was.yard.ended c.args.r.name in
      let each : (length was.yard.blocked + length was.yard.ended) + 1 ≡ length was.yard.blocked + length next.ended = omega (arith, more) in
      same_yard_parts is (yard_stepped (unmarked c.entry_of-entry.result) next was)
      yard_is
      refl
      refl
      c.push_reserved.ensures.capacity
      c.push.ensures
      (c.count_yard.ensures.book ∙ (λ i. record was.slots { minted = k.minted i; parked = k.parked i }))
      (c.burn.ensures.book ∙ ap (λ (m : ℕ). record was.lines { minted = was.lines.minted - m }) c.requires.line.1)
      (c.count_yard.ensures.same ∙ c.join.ensures ∙ (λ i. joined (k.others_are i) (c.into_parts-thread.ensures.rights i)) ∙ (λ i. yard_amounts (each i) (sym more i)))

  -- the rule of the rights: an ended thread more, and still no more than were made
  fewer : length was.yard.ended + 1 ≤ length was.yard.made
  fewer =
      let k = c.self.invariant in
      let rights : c.join.new.self ≡ joined (yard_amounts (length was.yard.blocked + length was.yard.ended) (length was.yard.ended)) one_each =
      c.join.ensures ∙ (λ i. joined (k.others_are i) (c.into_parts-thread.ensures.rights i)) in
      omega (arith, c.count_yard.ensures.law, ap (λ (a : Amounts). a.yard) rights, k.minted)

  kept : KeepsYard g.N.RunName.setup g.N.RunName.programs g.N.RunName.desks is
  kept =
      subst (KeepsYard g.N.RunName.setup g.N.RunName.programs g.N.RunName.desks)
      (sym (fields ∙ ap (λ (e : Entry). yard_stepped (unmarked e) next was) made_is))
      (ends_keeps g.N.RunName.setup g.N.RunName.programs g.N.RunName.desks was c.self.invariant c.args.r c.args.now c.args.actor c.requires.moment c.requires.actor fewer)

pub invariant_of-self : goal.invariant_of-self
invariant_of-self g c = kept g c

pub returns-clause-held : goal.returns-clause-held
returns-clause-held g c = fields g c ∙ ap (λ (h : YardParts). yard_stepped (unmarked c.entry_of-entry.result) (ending h.yard (yard_moment h.yard c.args.now) c.args.r).yard h) c.self.view_is

pub returns-clause-entry : goal.returns-clause-entry
returns-clause-entry g c = made_is g c ∙ ap (λ (h : YardParts). yard_entry (yard_moment h.yard c.args.now) c.args.actor acts.End (ending h.yard (yard_moment h.yard c.args.now) c.args.r)) c.self.view_is
