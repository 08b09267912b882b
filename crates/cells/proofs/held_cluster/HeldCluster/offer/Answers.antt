use Rattle.std.proofs.Common.{◌≡◌, ◌+◌, ◌-◌, ◌<◌, ℕ, Option, length, max, true, sym, ap, ◌∙◌, subst, arith}
use Rattle.std.specs.Prelude.{IfSome, is_none}
use Rattle.sched_base.specs.declared.Act.TheVariants as acts
use Rattle.sched_base.specs.declared.Entry.{Entry}
use Rattle.sched_base.specs.declared.Facts.{Facts}
use Rattle.flat_policy.specs.Policy.Clusters.{ClusterView, HasNumbers, IsCluster, SameRoom, after_offer, moment_at, offer_of}
use Rattle.flat_policy.specs.Policy.Setup.{cluster_count}
use Rattle.flat_policy.proofs.SoundParts.{home_within}
use Rattle.cells.specs.Courses.{Fits, OnCourse}
use Rattle.cells.specs.Held.{HeldParts, Keeps, answer_told, gives_none, left_of, offer_entry, offering_at, stepped, unmarked}
use Rattle.cells.specs.Packs.{amounts_but}
use Rattle.cells.proofs.Keeping.{kept_numbers, same_parts}
use Rattle.cells.proofs.Leaving.{got_is, some_weaker}
use Rattle.cells.proofs.Offering.{offering_none, offering_one, offering_place, offers_keeps}
use Rattle.cells.proofs.held_cluster.HeldCluster.offer.Given as given
use Rattle.cells.proofs.held_cluster.HeldCluster.offer.Goals as goal

pub offered-thread-requires-clause-there : goal.offered-thread-requires-clause-there
offered-thread-requires-clause-there g c =
    subst (λ q. c.args.to < cluster_count (g.K.Cluster.view q).setup) (sym c.deref_mut.ensures.value)
    (subst (λ s. c.args.to < cluster_count s) (sym c.self.invariant.setup_is)
    (subst (λ (d : ℕ). d < cluster_count g.N.RunName.setup) c.requires.home (home_within g.N.RunName.setup c.args.actor c.requires.actor)))

pub offered-thread-requires-clause-numbers : goal.offered-thread-requires-clause-numbers
offered-thread-requires-clause-numbers g c =
    subst (λ q. HasNumbers (g.K.Cluster.view q).flat) (sym c.deref_mut.ensures.value)
    (kept_numbers g.N.RunName.setup g.N.RunName.programs g.N.RunName.desks g.row.C
    (record { cluster = g.K.Cluster.view c.self.inside.queue.value; journal = c.self.inside.journal; slots = c.self.inside.slots; lines = c.self.inside.lines; others = c.self.inside.others })
    c.self.invariant (subst (λ q. IsCluster (g.K.Cluster.view q)) c.deref.ensures c.keeps.ensures) (omega (arith, c.len.ensures.limit)))

pub released-value-requires-clause-fits : goal.released-value-requires-clause-fits
released-value-requires-clause-fits g c =
    let P : Facts → Type 0 = OnCourse g.N.RunName.setup g.N.RunName.programs in
    subst (λ (o : Option Facts). IfSome o (Fits g.N.RunName.setup g.N.RunName.programs)) (sym (c.offered-thread.ensures.offered ∙ ap (λ q. (offering_at (g.K.Cluster.view q) c.args.to c.args.now).thread) c.deref_mut.ensures.value))
    (some_weaker P (Fits g.N.RunName.setup g.N.RunName.programs) (offering_at (g.K.Cluster.view c.self.inside.queue.value) c.args.to c.args.now).thread (λ t on. on.fits)
    (offering_one P (g.K.Cluster.view c.self.inside.queue.value) c.args.to c.args.now c.self.invariant.course))

module _ (g : given.Over) (c : goal.After-released-value g) where
  -- the held cluster before, and after
  abbrev was : HeldParts
  was = record { cluster = g.K.Cluster.view c.self.inside.queue.value; journal = c.self.inside.journal; slots = c.self.inside.slots; lines = c.self.inside.lines; others = c.self.inside.others }

  abbrev is : HeldParts
  is = record { cluster = g.K.Cluster.view c.offered-thread.new.queue; journal = c.add_line.new.journal; slots = c.released-value.new.slots; lines = c.burn.new.self; others = c.released-value.new.others }

  abbrev made : Entry
  made = record { step = record { moment = c.max-moment.result; actor = c.args.actor; act = acts.Offer g.row.C }; answer = c.answer_of.result; thread = c.facts_in.result }

  offered_is : c.offered-thread.result ≡ (offering_at was.cluster c.args.to c.args.now).thread
  offered_is = c.offered-thread.ensures.offered ∙ ap (λ q. (offering_at (g.K.Cluster.view q) c.args.to c.args.now).thread) c.deref_mut.ensures.value

  view_is : g.K.Cluster.view c.offered-thread.new.queue ≡ after_offer was.cluster c.args.to c.args.now
  view_is = c.offered-thread.ensures.view ∙ ap (λ q. after_offer (g.K.Cluster.view q) c.args.to c.args.now) c.deref_mut.ensures.value

  room_is : SameRoom was.cluster (g.K.Cluster.view c.offered-thread.new.queue)
  room_is = subst (λ q. SameRoom (g.K.Cluster.view q) (g.K.Cluster.view c.offered-thread.new.queue)) c.deref_mut.ensures.value c.offered-thread.ensures.room

  spare_is : (g.K.Cluster.view c.offered-thread.new.queue).spare ≡ was.cluster.spare + left_of c.offered-thread.result
  spare_is = c.offered-thread.ensures.spare ∙ ap (λ q. (g.K.Cluster.view q).spare + left_of c.offered-thread.result) c.deref_mut.ensures.value

  made_is : made ≡ offer_entry g.row.C c.args.actor was.cluster c.args.to c.args.now
  made_is =
      let m : c.max-moment.result ≡ moment_at was.cluster c.args.now = c.max-moment.ensures ∙ ap (max c.args.now) (c.last.ensures ∙ ap (λ q. (g.K.Cluster.view q).flat.last) c.deref-2.ensures) in
      let thread : c.facts_in.result ≡ (offering_at was.cluster c.args.to c.args.now).thread = c.facts_in.ensures ∙ offered_is in
      let answer : c.answer_of.result ≡ (offering_at was.cluster c.args.to c.args.now).answer = c.answer_of.ensures ∙ ap (answer_told true) offered_is ∙ got_is (offer_of was.cluster c.args.to) in
      λ i. record { step = record { moment = m i; actor = c.args.actor; act = acts.Offer g.row.C }; answer = answer i; thread = thread i }

  -- as many threads fewer as left
  fewer : was.slots.parked - left_of c.offered-thread.result ≡ length (g.K.Cluster.view c.offered-thread.new.queue).flat.entries
  fewer = omega (arith, c.self.invariant.parked, room_is, spare_is)

  -- the fields are those after the offering
  fields : is ≡ stepped (unmarked made) (after_offer was.cluster c.args.to c.args.now) was
  fields =
      let k = c.self.invariant in
      let view : g.K.Cluster.view c.offered-thread.new.queue ≡ after_offer was.cluster c.args.to c.args.now = view_is in
      let count : was.slots.parked - left_of c.offered-thread.result ≡ length (after_offer was.cluster c.args.to c.args.now).flat.entries = fewer ∙ ap (λ (v : ClusterView). length v.flat.entries) view in
      same_parts is (stepped (unmarked made) (after_offer was.cluster c.args.to c.args.now) was)
      view
      c.add_line.ensures
      (c.released-value.ensures.slots ∙ ap (λ (m : ℕ). record was.slots { parked = m }) count)
      (c.burn.ensures.book ∙ ap (λ (m : ℕ). record was.lines { minted = was.lines.minted - m }) c.requires.line.1)
      (c.released-value.ensures.others ∙ (λ i. amounts_but (sym ((offering_place was.cluster c.args.to c.args.now).1 ∙ k.number_is) i) 0 (count i)))

  kept : Keeps g.N.RunName.setup g.N.RunName.programs g.N.RunName.desks g.row.C is
  kept =
      subst (Keeps g.N.RunName.setup g.N.RunName.programs g.N.RunName.desks g.row.C)
      (sym (fields ∙ ap (λ (e : Entry). stepped (unmarked e) (after_offer was.cluster c.args.to c.args.now) was) made_is))
      (offers_keeps g.N.RunName.setup g.N.RunName.programs g.N.RunName.desks g.row.C was c.self.invariant c.args.to c.args.now c.args.actor
      (subst (λ q. IsCluster (g.K.Cluster.view q)) c.deref.ensures c.keeps.ensures) c.requires.actor c.requires.home c.requires.other c.requires.moment
      (omega (arith, room_is, ap (λ (v : ClusterView). v.spare) view_is, ap (λ (v : ClusterView). length v.flat.entries) view_is)))

pub invariant_of-self : goal.invariant_of-self
invariant_of-self g c = kept g c

pub returns-clause-held : goal.returns-clause-held
returns-clause-held g c = fields g c ∙ ap (λ (h : HeldParts). stepped (unmarked (made g c)) (after_offer h.cluster c.args.to c.args.now) h) c.self.view_is

pub returns-clause-entry : goal.returns-clause-entry
returns-clause-entry g c = made_is g c ∙ ap (λ (h : HeldParts). offer_entry g.row.C c.args.actor h.cluster c.args.to c.args.now) c.self.view_is

pub returns-clause-told : goal.returns-clause-told
returns-clause-told g c =
    ap is_none (c.released-value.ensures.value ∙ offered_is g c) ∙ offering_none (was g c).cluster c.args.to c.args.now ∙ sym (ap (λ (e : Entry). gives_none e.answer) (made_is g c))

pub returns-clause-course : goal.returns-clause-course
returns-clause-course g c =
    subst (λ (o : Option Facts). IfSome o (OnCourse g.N.RunName.setup g.N.RunName.programs)) (sym (c.released-value.ensures.value ∙ (c.offered-thread.ensures.offered ∙ ap (λ q. (offering_at (g.K.Cluster.view q) c.args.to c.args.now).thread) c.deref_mut.ensures.value)))
    (offering_one (OnCourse g.N.RunName.setup g.N.RunName.programs) (g.K.Cluster.view c.self.inside.queue.value) c.args.to c.args.now c.self.invariant.course)
