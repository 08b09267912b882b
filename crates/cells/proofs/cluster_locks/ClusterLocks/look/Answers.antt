use Rattle.std.proofs.Common.{ℕ, sym, subst}
use Rattle.cells.specs.Floors.{SomeHeld}
use Rattle.cells.specs.Told.{Looked}
use Rattle.cells.proofs.cluster_locks.ClusterLocks.look.Goals as goal

pub returns-in-0 : goal.returns-in-0
returns-in-0 g c = subst (λ (i : ℕ). SomeHeld g.N.RunName.setup g.N.RunName.programs g.N.RunName.desks i (Looked i c.args.actor c.args.b c.args.now c.look_behind.result.entry c.look_behind.result.value)) (sym c.in-0.is) c.look_behind.ensures

pub returns-in-1 : goal.returns-in-1
returns-in-1 g c = subst (λ (i : ℕ). SomeHeld g.N.RunName.setup g.N.RunName.programs g.N.RunName.desks i (Looked i c.args.actor c.args.b c.args.now c.look_behind-in-1.result.entry c.look_behind-in-1.result.value)) (sym c.in-1.is) c.look_behind-in-1.ensures

pub returns-in-2 : goal.returns-in-2
returns-in-2 g c = subst (λ (i : ℕ). SomeHeld g.N.RunName.setup g.N.RunName.programs g.N.RunName.desks i (Looked i c.args.actor c.args.b c.args.now c.look_behind-in-2.result.entry c.look_behind-in-2.result.value)) (sym c.in-2.is) c.look_behind-in-2.ensures

pub returns-in-3 : goal.returns-in-3
returns-in-3 g c = subst (λ (i : ℕ). SomeHeld g.N.RunName.setup g.N.RunName.programs g.N.RunName.desks i (Looked i c.args.actor c.args.b c.args.now c.look_behind-in-3.result.entry c.look_behind-in-3.result.value)) (sym c.in-3.is) c.look_behind-in-3.ensures

pub returns-in-4 : goal.returns-in-4
returns-in-4 g c = subst (λ (i : ℕ). SomeHeld g.N.RunName.setup g.N.RunName.programs g.N.RunName.desks i (Looked i c.args.actor c.args.b c.args.now c.look_behind-in-4.result.entry c.look_behind-in-4.result.value)) (sym c.in-4.is) c.look_behind-in-4.ensures

pub returns-in-5 : goal.returns-in-5
returns-in-5 g c = subst (λ (i : ℕ). SomeHeld g.N.RunName.setup g.N.RunName.programs g.N.RunName.desks i (Looked i c.args.actor c.args.b c.args.now c.look_behind-in-5.result.entry c.look_behind-in-5.result.value)) (sym c.in-5.is) c.look_behind-in-5.ensures

pub returns-in-6 : goal.returns-in-6
returns-in-6 g c = subst (λ (i : ℕ). SomeHeld g.N.RunName.setup g.N.RunName.programs g.N.RunName.desks i (Looked i c.args.actor c.args.b c.args.now c.look_behind-in-6.result.entry c.look_behind-in-6.result.value)) (sym c.in-6.is) c.look_behind-in-6.ensures

pub returns-in-7 : goal.returns-in-7
returns-in-7 g c = subst (λ (i : ℕ). SomeHeld g.N.RunName.setup g.N.RunName.programs g.N.RunName.desks i (Looked i c.args.actor c.args.b c.args.now c.look_behind-in-7.result.entry c.look_behind-in-7.result.value)) (sym c.in-7.is) c.look_behind-in-7.ensures
