use Rattle.std.proofs.Common.{◌≡◌, ◌+◌, ◌-◌, ◌<◌, ◌==◌, ◌++◌, [], ◌∷◌, ℕ, List, false, length, map, Some, refl, sym, ap, ◌∙◌, subst, arith}
use Rattle.std.specs.List.{list_any}
use Rattle.std.specs.Prelude.{vec_capacity}
use Rattle.std.proofs.lemmas.List.{length_push}
use Rattle.sched_base.specs.Limits.{most_threads}
use Rattle.sched_base.specs.declared.Act.{Act}
use Rattle.sched_base.specs.declared.Answer.TheVariants as answers
use Rattle.sched_base.specs.declared.Entry.{Entry}
use Rattle.sched_base.specs.declared.Facts.{Facts}
use Rattle.flat_policy.specs.Policy.Threads.{made_thread}
use Rattle.flat_policy.specs.Runs.Histories.{RunYard, live_of_run}
use Rattle.cells.specs.Held.{unmarked}
use Rattle.cells.specs.Sleepers.{sleeper_of}
use Rattle.cells.specs.Yards.{KeepsYard, YardParts, enlisting, make_act, spare_in, yard_entry, yard_moment, yard_stepped}
use Rattle.cells.proofs.YardKeeping.{same_yard_parts}
use Rattle.cells.proofs.YardSteps.{enlists_keeps}
use Rattle.cells.proofs.held_yard.HeldYard.enlist.Given as given
use Rattle.cells.proofs.held_yard.HeldYard.enlist.Goals as goal

module _ (g : given.Over) (c : goal.After-enlisted g) where
  -- the held yard before, and after
  abbrev was : YardParts
  was = record {
    yard = record { blocked = map sleeper_of c.self.inside.blocked.items; ended = c.self.inside.ended.items; made = c.self.inside.made.items; last = c.self.inside.last };
    room = vec_capacity c.self.inside.blocked;
    made_room = vec_capacity c.self.inside.made;
    ended_room = vec_capacity c.self.inside.ended;
    journal = c.self.inside.journal;
    slots = c.self.inside.slots;
    lines = c.self.inside.lines;
    others = c.self.inside.others;
  }

  abbrev is : YardParts
  is = record {
    yard = record { blocked = map sleeper_of c.self.inside.blocked.items; ended = c.self.inside.ended.items; made = c.push_reserved.new.self.items; last = c.max-moment.result };
    room = vec_capacity c.self.inside.blocked;
    made_room = vec_capacity c.push_reserved.new.self;
    ended_room = vec_capacity c.self.inside.ended;
    journal = c.push.new.self;
    slots = c.mint-own.new.self;
    lines = c.burn.new.self;
    others = c.self.inside.others;
  }

  -- the moment, and the yard after the making
  abbrev moment : ℕ
  moment = yard_moment was.yard c.args.now

  abbrev next : RunYard
  next = (enlisting was.yard moment c.args.t).yard

  yard_is : is.yard ≡ next
  yard_is =
      let made : is.yard.made ≡ was.yard.made ++ c.args.t.name ∷ [] =
      ◌∙◌ {A = List ℕ} c.push_reserved.ensures.items (ap (λ (t : Facts). was.yard.made ++ t.name ∷ []) c.facts-facts.ensures.facts) in
      λ i. record { blocked = was.yard.blocked; ended = was.yard.ended; made = made i; last = c.max-moment.ensures i }

  made_is : c.entry_of-entry.result ≡ yard_entry moment c.args.actor (make_act c.args.t) (enlisting was.yard moment c.args.t)
  made_is =
      let act : c.made_by.result ≡ make_act c.args.t = ◌∙◌ {A = Act} c.made_by.ensures (ap make_act c.facts-facts.ensures.facts) in
      c.entry_of-entry.ensures
      ∙ (λ i. record { step = record { moment = c.max-moment.ensures i; actor = c.args.actor; act = act i }; answer = answers.Yes; thread = Some (c.facts-facts.ensures.facts i) })

  -- the fields are those after the making
  fields : is ≡ yard_stepped (unmarked c.entry_of-entry.result) next was
  fields =
      let k = c.self.invariant in
      let more : was.slots.minted + 1 ≡ length next.made = omega (arith, k.minted, length_push was.yard.made c.args.t.name) in
      same_yard_parts is (yard_stepped (unmarked c.entry_of-entry.result) next was)
      yard_is
      refl
      c.push_reserved.ensures.capacity
      refl
      c.push.ensures
      (c.mint-own.ensures.book ∙ (λ i. record was.slots { minted = more i; parked = k.parked i }))
      (c.burn.ensures.book ∙ ap (λ (m : ℕ). record was.lines { minted = was.lines.minted - m }) c.requires.line.1)
      k.others_are

  kept : KeepsYard g.N.RunName.setup g.N.RunName.programs g.N.RunName.desks is
  kept =
      let same = sym c.self.view_is in
      let t : Facts = c.args.t in
      subst (KeepsYard g.N.RunName.setup g.N.RunName.programs g.N.RunName.desks)
      (sym (fields ∙ ap (λ (e : Entry). yard_stepped (unmarked e) next was) made_is))
      (enlists_keeps g.N.RunName.setup g.N.RunName.programs g.N.RunName.desks was c.self.invariant c.args.t c.args.now c.args.actor c.requires.moment c.requires.actor c.requires.course
      (subst (λ (h : YardParts). t ≡ made_thread g.N.RunName.setup t.name t.group t.bucket t.base t.bound (yard_moment h.yard c.args.now)) same c.requires.fresh)
      (subst (λ (h : YardParts). list_any (λ n. n == t.name) h.yard.made ≡ false) same c.requires.unused)
      (subst (λ (h : YardParts). live_of_run h.yard < g.N.RunName.setup.threads) same c.requires.live)
      (subst (λ (h : YardParts). length h.yard.made < most_threads) same c.requires.few)
      (subst (λ (h : YardParts). h.slots.minted < h.slots.parked + spare_in h) same c.requires.room))

pub invariant_of-self : goal.invariant_of-self
invariant_of-self g c = kept g c

pub returns-clause-held : goal.returns-clause-held
returns-clause-held g c = fields g c ∙ ap (λ (h : YardParts). yard_stepped (unmarked c.entry_of-entry.result) (enlisting h.yard (yard_moment h.yard c.args.now) c.args.t).yard h) c.self.view_is

pub returns-clause-entry : goal.returns-clause-entry
returns-clause-entry g c = made_is g c ∙ ap (λ (h : YardParts). yard_entry (yard_moment h.yard c.args.now) c.args.actor (make_act c.args.t) (enlisting h.yard (yard_moment h.yard c.args.now) c.args.t)) c.self.view_is
