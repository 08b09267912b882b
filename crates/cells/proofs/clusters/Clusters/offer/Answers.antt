use Rattle.std.proofs.Common.{refl}
use Rattle.cells.specs.Told.{Offered, after_offered}
use Rattle.cells.proofs.Placing.{at_number}
use Rattle.cells.proofs.clusters.Clusters.offer.Goals as goal

pub returns-in-0-clause-step : goal.returns-in-0-clause-step
returns-in-0-clause-step g c = at_number (λ k. Offered k c.args.actor c.args.along.to c.args.now c.offer_in.result.entry c.offer_in.result.value) (after_offered c.args.along.to c.args.now c.offer_in.result.entry) c.args.c 0 _ _ _ _ _ c.in-0.is c.self.view_is refl refl c.offer_in.ensures.step

pub returns-in-1-clause-step : goal.returns-in-1-clause-step
returns-in-1-clause-step g c = at_number (λ k. Offered k c.args.actor c.args.along.to c.args.now c.offer_in-in-1.result.entry c.offer_in-in-1.result.value) (after_offered c.args.along.to c.args.now c.offer_in-in-1.result.entry) c.args.c 1 _ _ _ _ _ c.in-1.is c.self.view_is refl refl c.offer_in-in-1.ensures.step

pub returns-in-2-clause-step : goal.returns-in-2-clause-step
returns-in-2-clause-step g c = at_number (λ k. Offered k c.args.actor c.args.along.to c.args.now c.offer_in-in-2.result.entry c.offer_in-in-2.result.value) (after_offered c.args.along.to c.args.now c.offer_in-in-2.result.entry) c.args.c 2 _ _ _ _ _ c.in-2.is c.self.view_is refl refl c.offer_in-in-2.ensures.step

pub returns-in-3-clause-step : goal.returns-in-3-clause-step
returns-in-3-clause-step g c = at_number (λ k. Offered k c.args.actor c.args.along.to c.args.now c.offer_in-in-3.result.entry c.offer_in-in-3.result.value) (after_offered c.args.along.to c.args.now c.offer_in-in-3.result.entry) c.args.c 3 _ _ _ _ _ c.in-3.is c.self.view_is refl refl c.offer_in-in-3.ensures.step

pub returns-in-4-clause-step : goal.returns-in-4-clause-step
returns-in-4-clause-step g c = at_number (λ k. Offered k c.args.actor c.args.along.to c.args.now c.offer_in-in-4.result.entry c.offer_in-in-4.result.value) (after_offered c.args.along.to c.args.now c.offer_in-in-4.result.entry) c.args.c 4 _ _ _ _ _ c.in-4.is c.self.view_is refl refl c.offer_in-in-4.ensures.step

pub returns-in-5-clause-step : goal.returns-in-5-clause-step
returns-in-5-clause-step g c = at_number (λ k. Offered k c.args.actor c.args.along.to c.args.now c.offer_in-in-5.result.entry c.offer_in-in-5.result.value) (after_offered c.args.along.to c.args.now c.offer_in-in-5.result.entry) c.args.c 5 _ _ _ _ _ c.in-5.is c.self.view_is refl refl c.offer_in-in-5.ensures.step

pub returns-in-6-clause-step : goal.returns-in-6-clause-step
returns-in-6-clause-step g c = at_number (λ k. Offered k c.args.actor c.args.along.to c.args.now c.offer_in-in-6.result.entry c.offer_in-in-6.result.value) (after_offered c.args.along.to c.args.now c.offer_in-in-6.result.entry) c.args.c 6 _ _ _ _ _ c.in-6.is c.self.view_is refl refl c.offer_in-in-6.ensures.step

pub returns-in-7-clause-step : goal.returns-in-7-clause-step
returns-in-7-clause-step g c = at_number (λ k. Offered k c.args.actor c.args.along.to c.args.now c.offer_in-in-7.result.entry c.offer_in-in-7.result.value) (after_offered c.args.along.to c.args.now c.offer_in-in-7.result.entry) c.args.c 7 _ _ _ _ _ c.in-7.is c.self.view_is refl refl c.offer_in-in-7.ensures.step
