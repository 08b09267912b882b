use Rattle.std.proofs.Common.{refl}
use Rattle.cells.specs.Told.{Entered, after_entered}
use Rattle.cells.proofs.Placing.{at_number}
use Rattle.cells.proofs.clusters.Clusters.enter.Goals as goal

pub returns-in-0 : goal.returns-in-0
returns-in-0 g c = at_number (λ k. Entered k c.args.actor c.args.r c.args.now c.enter_in.result.entry c.enter_in.result.value) (after_entered c.args.r c.args.now c.enter_in.result.entry c.enter_in.result.value) c.args.c 0 _ _ _ _ _ c.in-0.is c.self.view_is refl refl c.enter_in.ensures

pub returns-in-1 : goal.returns-in-1
returns-in-1 g c = at_number (λ k. Entered k c.args.actor c.args.r c.args.now c.enter_in-in-1.result.entry c.enter_in-in-1.result.value) (after_entered c.args.r c.args.now c.enter_in-in-1.result.entry c.enter_in-in-1.result.value) c.args.c 1 _ _ _ _ _ c.in-1.is c.self.view_is refl refl c.enter_in-in-1.ensures

pub returns-in-2 : goal.returns-in-2
returns-in-2 g c = at_number (λ k. Entered k c.args.actor c.args.r c.args.now c.enter_in-in-2.result.entry c.enter_in-in-2.result.value) (after_entered c.args.r c.args.now c.enter_in-in-2.result.entry c.enter_in-in-2.result.value) c.args.c 2 _ _ _ _ _ c.in-2.is c.self.view_is refl refl c.enter_in-in-2.ensures

pub returns-in-3 : goal.returns-in-3
returns-in-3 g c = at_number (λ k. Entered k c.args.actor c.args.r c.args.now c.enter_in-in-3.result.entry c.enter_in-in-3.result.value) (after_entered c.args.r c.args.now c.enter_in-in-3.result.entry c.enter_in-in-3.result.value) c.args.c 3 _ _ _ _ _ c.in-3.is c.self.view_is refl refl c.enter_in-in-3.ensures

pub returns-in-4 : goal.returns-in-4
returns-in-4 g c = at_number (λ k. Entered k c.args.actor c.args.r c.args.now c.enter_in-in-4.result.entry c.enter_in-in-4.result.value) (after_entered c.args.r c.args.now c.enter_in-in-4.result.entry c.enter_in-in-4.result.value) c.args.c 4 _ _ _ _ _ c.in-4.is c.self.view_is refl refl c.enter_in-in-4.ensures

pub returns-in-5 : goal.returns-in-5
returns-in-5 g c = at_number (λ k. Entered k c.args.actor c.args.r c.args.now c.enter_in-in-5.result.entry c.enter_in-in-5.result.value) (after_entered c.args.r c.args.now c.enter_in-in-5.result.entry c.enter_in-in-5.result.value) c.args.c 5 _ _ _ _ _ c.in-5.is c.self.view_is refl refl c.enter_in-in-5.ensures

pub returns-in-6 : goal.returns-in-6
returns-in-6 g c = at_number (λ k. Entered k c.args.actor c.args.r c.args.now c.enter_in-in-6.result.entry c.enter_in-in-6.result.value) (after_entered c.args.r c.args.now c.enter_in-in-6.result.entry c.enter_in-in-6.result.value) c.args.c 6 _ _ _ _ _ c.in-6.is c.self.view_is refl refl c.enter_in-in-6.ensures

pub returns-in-7 : goal.returns-in-7
returns-in-7 g c = at_number (λ k. Entered k c.args.actor c.args.r c.args.now c.enter_in-in-7.result.entry c.enter_in-in-7.result.value) (after_entered c.args.r c.args.now c.enter_in-in-7.result.entry c.enter_in-in-7.result.value) c.args.c 7 _ _ _ _ _ c.in-7.is c.self.view_is refl refl c.enter_in-in-7.ensures
