use Rattle.std.proofs.Common.{ℕ, sym, subst}
use Rattle.cells.specs.Floors.{SomeHeld}
use Rattle.cells.specs.Told.{Offered}
use Rattle.cells.proofs.cluster_locks.ClusterLocks.offer.Goals as goal

pub returns-in-0-clause-step : goal.returns-in-0-clause-step
returns-in-0-clause-step g c = subst (λ (i : ℕ). SomeHeld g.N.RunName.setup g.N.RunName.programs g.N.RunName.desks i (Offered i c.args.actor c.args.along.to c.args.now c.offer_behind.result.entry c.offer_behind.result.value)) (sym c.in-0.is) c.offer_behind.ensures.step

pub returns-in-1-clause-step : goal.returns-in-1-clause-step
returns-in-1-clause-step g c = subst (λ (i : ℕ). SomeHeld g.N.RunName.setup g.N.RunName.programs g.N.RunName.desks i (Offered i c.args.actor c.args.along.to c.args.now c.offer_behind-in-1.result.entry c.offer_behind-in-1.result.value)) (sym c.in-1.is) c.offer_behind-in-1.ensures.step

pub returns-in-2-clause-step : goal.returns-in-2-clause-step
returns-in-2-clause-step g c = subst (λ (i : ℕ). SomeHeld g.N.RunName.setup g.N.RunName.programs g.N.RunName.desks i (Offered i c.args.actor c.args.along.to c.args.now c.offer_behind-in-2.result.entry c.offer_behind-in-2.result.value)) (sym c.in-2.is) c.offer_behind-in-2.ensures.step

pub returns-in-3-clause-step : goal.returns-in-3-clause-step
returns-in-3-clause-step g c = subst (λ (i : ℕ). SomeHeld g.N.RunName.setup g.N.RunName.programs g.N.RunName.desks i (Offered i c.args.actor c.args.along.to c.args.now c.offer_behind-in-3.result.entry c.offer_behind-in-3.result.value)) (sym c.in-3.is) c.offer_behind-in-3.ensures.step

pub returns-in-4-clause-step : goal.returns-in-4-clause-step
returns-in-4-clause-step g c = subst (λ (i : ℕ). SomeHeld g.N.RunName.setup g.N.RunName.programs g.N.RunName.desks i (Offered i c.args.actor c.args.along.to c.args.now c.offer_behind-in-4.result.entry c.offer_behind-in-4.result.value)) (sym c.in-4.is) c.offer_behind-in-4.ensures.step

pub returns-in-5-clause-step : goal.returns-in-5-clause-step
returns-in-5-clause-step g c = subst (λ (i : ℕ). SomeHeld g.N.RunName.setup g.N.RunName.programs g.N.RunName.desks i (Offered i c.args.actor c.args.along.to c.args.now c.offer_behind-in-5.result.entry c.offer_behind-in-5.result.value)) (sym c.in-5.is) c.offer_behind-in-5.ensures.step

pub returns-in-6-clause-step : goal.returns-in-6-clause-step
returns-in-6-clause-step g c = subst (λ (i : ℕ). SomeHeld g.N.RunName.setup g.N.RunName.programs g.N.RunName.desks i (Offered i c.args.actor c.args.along.to c.args.now c.offer_behind-in-6.result.entry c.offer_behind-in-6.result.value)) (sym c.in-6.is) c.offer_behind-in-6.ensures.step

pub returns-in-7-clause-step : goal.returns-in-7-clause-step
returns-in-7-clause-step g c = subst (λ (i : ℕ). SomeHeld g.N.RunName.setup g.N.RunName.programs g.N.RunName.desks i (Offered i c.args.actor c.args.along.to c.args.now c.offer_behind-in-7.result.entry c.offer_behind-in-7.result.value)) (sym c.in-7.is) c.offer_behind-in-7.ensures.step
