use Rattle.std.proofs.Common.{◌≡◌, ◌-◌, ℕ, max, None, Some, refl, sym, ap, ◌∙◌, subst}
use Rattle.sched_base.specs.Bucket.{index}
use Rattle.sched_base.specs.declared.Act.TheVariants as acts
use Rattle.sched_base.specs.declared.Entry.{Entry}
use Rattle.flat_policy.specs.declared.journal.Line.{Line}
use Rattle.flat_policy.specs.Policy.Clusters.{IsCluster, after_touch, moment_at}
use Rattle.cells.specs.Held.{HeldParts, Keeps, look_entry, looking_at, marked, stepped}
use Rattle.cells.proofs.Asking.{looks_keeps, paid_parts}
use Rattle.cells.proofs.held_cluster.HeldCluster.look.Given as given
use Rattle.cells.proofs.held_cluster.HeldCluster.look.Goals as goal

module _ (g : given.Over) (c : goal.After-add_line g) where
  -- the held cluster before, and after
  abbrev was : HeldParts
  was = record { cluster = g.K.Cluster.view c.self.inside.queue.value; journal = c.self.inside.journal; slots = c.self.inside.slots; lines = c.self.inside.lines; others = c.self.inside.others }

  abbrev is : HeldParts
  is = record { cluster = g.K.Cluster.view c.load_of-value.new.queue; journal = c.add_line.new.journal; slots = c.self.inside.slots; lines = c.burn.new.self; others = c.self.inside.others }

  abbrev made : Entry
  made = record { step = record { moment = c.max-moment.result; actor = c.args.actor; act = acts.Look g.row.C }; answer = c.answer_of_load.result; thread = None }

  abbrev line : Line
  line = record { entry = made; mark = Some c.from.result }

  made_is : made ≡ look_entry g.row.C c.args.actor was.cluster c.args.b c.args.now
  made_is =
      let m : c.max-moment.result ≡ moment_at was.cluster c.args.now = c.max-moment.ensures ∙ ap (max c.args.now) (c.last.ensures ∙ ap (λ q. (g.K.Cluster.view q).flat.last) c.deref-2.ensures) in
      let answer : c.answer_of_load.result ≡ (looking_at was.cluster c.args.b c.args.now).answer =
      c.answer_of_load.ensures ∙ c.load_of-value.ensures.told ∙ ap (λ q. (looking_at (g.K.Cluster.view q) c.args.b c.args.now).answer) c.deref_mut.ensures.value in
      λ i. record { step = record { moment = m i; actor = c.args.actor; act = acts.Look g.row.C }; answer = answer i; thread = None }

  line_is : line ≡ marked (index c.args.b) made
  line_is = λ i. marked ((c.from.ensures ∙ c.index.ensures.index) i) made

  -- the fields are those after the look
  fields : is ≡ stepped (marked (index c.args.b) made) (after_touch was.cluster c.args.now) was
  fields =
      paid_parts g.N.RunName.setup g.N.RunName.programs g.N.RunName.desks g.row.C was c.self.invariant line is (after_touch was.cluster c.args.now)
      (c.load_of-value.ensures.view ∙ ap (λ q. after_touch (g.K.Cluster.view q) c.args.now) c.deref_mut.ensures.value) refl refl
      c.add_line.ensures
      refl
      (c.burn.ensures.book ∙ ap (λ (m : ℕ). record was.lines { minted = was.lines.minted - m }) c.requires.line.1)
      refl
      ∙ ap (λ (l : Line). stepped l (after_touch was.cluster c.args.now) was) line_is

  kept : Keeps g.N.RunName.setup g.N.RunName.programs g.N.RunName.desks g.row.C is
  kept =
      subst (Keeps g.N.RunName.setup g.N.RunName.programs g.N.RunName.desks g.row.C)
      (sym (fields ∙ ap (λ (e : Entry). stepped (marked (index c.args.b) e) (after_touch was.cluster c.args.now) was) made_is))
      (looks_keeps g.N.RunName.setup g.N.RunName.programs g.N.RunName.desks g.row.C was c.self.invariant c.args.b c.args.now c.args.actor
      (subst (λ q. IsCluster (g.K.Cluster.view q)) c.deref.ensures c.keeps.ensures) c.requires.actor c.requires.moment)

pub invariant_of-self : goal.invariant_of-self
invariant_of-self g c = kept g c

pub returns-clause-held : goal.returns-clause-held
returns-clause-held g c = fields g c ∙ ap (λ (h : HeldParts). stepped (marked (index c.args.b) (made g c)) (after_touch h.cluster c.args.now) h) c.self.view_is

pub returns-clause-entry : goal.returns-clause-entry
returns-clause-entry g c = made_is g c ∙ ap (λ (h : HeldParts). look_entry g.row.C c.args.actor h.cluster c.args.b c.args.now) c.self.view_is
