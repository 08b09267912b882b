use Rattle.std.proofs.Common.{◌≡◌, ◌-◌, ℕ, length, max, Some, sym, ap, ◌∙◌, subst, arith}
use Rattle.sched_base.specs.declared.Act.TheVariants as acts
use Rattle.sched_base.specs.declared.Answer.TheVariants as answers
use Rattle.sched_base.specs.declared.Entry.{Entry}
use Rattle.flat_policy.specs.Policy.Clusters.{HasNumbers, IsCluster, entered_in, moment_at}
use Rattle.flat_policy.specs.Policy.Moves.{new_entry, settled_thread}
use Rattle.cells.specs.Held.{HeldParts, Keeps, entering_at, entry_of, stepped, unmarked}
use Rattle.cells.specs.Packs.{amounts_but, joined}
use Rattle.cells.proofs.Keeping.{enters_keeps, kept_numbers, one_more, same_parts}
use Rattle.cells.proofs.Shares.{joined_more}
use Rattle.cells.proofs.held_cluster.HeldCluster.enter.Given as given
use Rattle.cells.proofs.held_cluster.HeldCluster.enter.Goals as goal

pub enter-ticket-requires-clause-numbers : goal.enter-ticket-requires-clause-numbers
enter-ticket-requires-clause-numbers g c =
    subst (λ q. HasNumbers (g.K.Cluster.view q).flat) (sym c.deref_mut.ensures.value)
    (kept_numbers g.N.RunName.setup g.N.RunName.programs g.N.RunName.desks g.row.C
    (record { cluster = g.K.Cluster.view c.self.inside.queue.value; journal = c.self.inside.journal; slots = c.self.inside.slots; lines = c.self.inside.lines; others = c.self.inside.others })
    c.self.invariant (subst (λ q. IsCluster (g.K.Cluster.view q)) c.deref.ensures c.keeps.ensures) (omega (arith, c.len.ensures.limit)))

module _ (g : given.Over) (c : goal.After-add_line g) where
  -- the held cluster before, and after
  abbrev was : HeldParts
  was = record { cluster = g.K.Cluster.view c.self.inside.queue.value; journal = c.self.inside.journal; slots = c.self.inside.slots; lines = c.self.inside.lines; others = c.self.inside.others }

  abbrev is : HeldParts
  is = record { cluster = g.K.Cluster.view c.enter-ticket.new.self; journal = c.add_line.new.journal; slots = c.take_in.new.self; lines = c.burn.new.self; others = c.join.new.self }

  abbrev made : Entry
  made = record { step = record { moment = c.max-moment.result; actor = c.args.actor; act = acts.Enter g.row.C c.args.head }; answer = answers.Pri c.enter-ticket.result.pri; thread = Some c.facts-facts.result }

  pri_is : c.enter-ticket.result.pri ≡ (new_entry was.cluster.flat (settled_thread (moment_at was.cluster c.args.now) c.args.r) c.args.head).pri
  pri_is = c.enter-ticket.ensures.pri ∙ (λ i. (new_entry (g.K.Cluster.view (c.deref_mut.ensures.value i)).flat (settled_thread (moment_at (g.K.Cluster.view (c.deref_mut.ensures.value i)) c.args.now) (c.into_parts-thread.ensures.thread i)) c.args.head).pri)

  made_is : made ≡ entry_of (moment_at was.cluster c.args.now) c.args.actor (acts.Enter g.row.C c.args.head) (entering_at was.cluster c.args.r c.args.head c.args.now)
  made_is =
      let m : c.max-moment.result ≡ moment_at was.cluster c.args.now = c.max-moment.ensures ∙ ap (max c.args.now) (c.last.ensures ∙ ap (λ q. (g.K.Cluster.view q).flat.last) c.deref-2.ensures) in
      λ i. record { step = record { moment = m i; actor = c.args.actor; act = acts.Enter g.row.C c.args.head }; answer = answers.Pri (pri_is i); thread = Some (c.facts-facts.ensures.facts i) }

  -- the fields are those after the entering
  fields : is ≡ stepped (unmarked made) (entered_in was.cluster c.args.r c.args.head c.args.now c.enter-ticket.result.slot) was
  fields =
      let k = c.self.invariant in
      let n : ℕ = length was.cluster.flat.entries in
      let more = one_more g.N.RunName.setup g.N.RunName.programs g.N.RunName.desks g.row.C was k c.args.r c.args.head c.args.now in
      same_parts is (stepped (unmarked made) (entered_in was.cluster c.args.r c.args.head c.args.now c.enter-ticket.result.slot) was)
      (c.enter-ticket.ensures.view ∙ (λ i. entered_in (g.K.Cluster.view (c.deref_mut.ensures.value i)) (c.into_parts-thread.ensures.thread i) c.args.head c.args.now c.enter-ticket.result.slot))
      c.add_line.ensures
      (c.take_in.ensures.book ∙ ap (λ (m : ℕ). record was.slots { parked = m }) (omega (arith, c.take-own.ensures.one, k.parked, more)))
      (c.burn.ensures.book ∙ ap (λ (m : ℕ). record was.lines { minted = was.lines.minted - m }) c.requires.line.1)
      (c.join.ensures ∙ (λ i. joined (k.others_are i) (c.take-own.ensures.left i)) ∙ joined_more g.row.C n ∙ (λ i. amounts_but (sym k.number_is i) 0 (sym more i)))

  kept : Keeps g.N.RunName.setup g.N.RunName.programs g.N.RunName.desks g.row.C is
  kept =
      subst (Keeps g.N.RunName.setup g.N.RunName.programs g.N.RunName.desks g.row.C)
      (sym (fields ∙ ap (λ (e : Entry). stepped (unmarked e) (entered_in was.cluster c.args.r c.args.head c.args.now c.enter-ticket.result.slot) was) made_is))
      (enters_keeps g.N.RunName.setup g.N.RunName.programs g.N.RunName.desks g.row.C was c.self.invariant c.args.r c.args.head c.args.now c.args.actor c.enter-ticket.result.slot
      (subst (λ q. IsCluster (g.K.Cluster.view q)) c.deref.ensures c.keeps.ensures) c.requires.course c.requires.may c.requires.actor c.requires.moment (omega (arith, c.take_in.ensures.law, c.take-own.ensures.one)))

pub invariant_of-self : goal.invariant_of-self
invariant_of-self g c = kept g c

pub returns-clause-held : goal.returns-clause-held
returns-clause-held g c = fields g c ∙ ap (λ (h : HeldParts). stepped (unmarked (made g c)) (entered_in h.cluster c.args.r c.args.head c.args.now c.enter-ticket.result.slot) h) c.self.view_is

pub returns-clause-entry : goal.returns-clause-entry
returns-clause-entry g c =
    made_is g c ∙ ap (λ (h : HeldParts). entry_of (moment_at h.cluster c.args.now) c.args.actor (acts.Enter g.row.C c.args.head) (entering_at h.cluster c.args.r c.args.head c.args.now)) c.self.view_is
