use Rattle.std.proofs.Common.{◌≡◌, ◌-◌, ℕ, max, None, refl, sym, ap, ◌∙◌, subst}
use Rattle.sched_base.specs.declared.Answer.TheVariants as answers
use Rattle.sched_base.specs.declared.Entry.{Entry}
use Rattle.flat_policy.specs.Policy.Clusters.{IsCluster, after_turn, moment_at}
use Rattle.cells.specs.Held.{HeldParts, Keeps, stepped, turn_entry, unmarked}
use Rattle.cells.proofs.Asking.{paid_parts, turns_keeps}
use Rattle.cells.proofs.held_cluster.HeldCluster.turn.Given as given
use Rattle.cells.proofs.held_cluster.HeldCluster.turn.Goals as goal

module _ (g : given.Over) (c : goal.After-add_line g) where
  -- the held cluster before, and after
  abbrev was : HeldParts
  was = record { cluster = g.K.Cluster.view c.self.inside.queue.value; journal = c.self.inside.journal; slots = c.self.inside.slots; lines = c.self.inside.lines; others = c.self.inside.others }

  abbrev is : HeldParts
  is = record { cluster = g.K.Cluster.view c.turn.new.self; journal = c.add_line.new.journal; slots = c.self.inside.slots; lines = c.burn.new.self; others = c.self.inside.others }

  abbrev made : Entry
  made = record { step = record { moment = c.max-moment.result; actor = c.args.actor; act = c.power_act-act.result }; answer = answers.Yes; thread = None }

  made_is : made ≡ turn_entry g.row.C c.args.actor was.cluster c.args.on c.args.now
  made_is =
      let m : c.max-moment.result ≡ moment_at was.cluster c.args.now = c.max-moment.ensures ∙ ap (max c.args.now) (c.last.ensures ∙ ap (λ q. (g.K.Cluster.view q).flat.last) c.deref-2.ensures) in
      λ i. record { step = record { moment = m i; actor = c.args.actor; act = c.power_act-act.ensures i }; answer = answers.Yes; thread = None }

  -- the fields are those after the turn
  fields : is ≡ stepped (unmarked made) (after_turn was.cluster c.args.on c.args.now) was
  fields =
      paid_parts g.N.RunName.setup g.N.RunName.programs g.N.RunName.desks g.row.C was c.self.invariant (unmarked made) is (after_turn was.cluster c.args.on c.args.now)
      (c.turn.ensures.view ∙ ap (λ q. after_turn (g.K.Cluster.view q) c.args.on c.args.now) c.deref_mut.ensures.value) refl refl
      c.add_line.ensures
      refl
      (c.burn.ensures.book ∙ ap (λ (m : ℕ). record was.lines { minted = was.lines.minted - m }) c.requires.line.1)
      refl

  kept : Keeps g.N.RunName.setup g.N.RunName.programs g.N.RunName.desks g.row.C is
  kept =
      subst (Keeps g.N.RunName.setup g.N.RunName.programs g.N.RunName.desks g.row.C)
      (sym (fields ∙ ap (λ (e : Entry). stepped (unmarked e) (after_turn was.cluster c.args.on c.args.now) was) made_is))
      (turns_keeps g.N.RunName.setup g.N.RunName.programs g.N.RunName.desks g.row.C was c.self.invariant c.args.on c.args.now c.args.actor
      (subst (λ q. IsCluster (g.K.Cluster.view q)) c.deref.ensures c.keeps.ensures) c.requires.actor c.requires.moment)

pub invariant_of-self : goal.invariant_of-self
invariant_of-self g c = kept g c

pub returns-clause-held : goal.returns-clause-held
returns-clause-held g c = fields g c ∙ ap (λ (h : HeldParts). stepped (unmarked (made g c)) (after_turn h.cluster c.args.on c.args.now) h) c.self.view_is

pub returns-clause-entry : goal.returns-clause-entry
returns-clause-entry g c = made_is g c ∙ ap (λ (h : HeldParts). turn_entry g.row.C c.args.actor h.cluster c.args.on c.args.now) c.self.view_is
