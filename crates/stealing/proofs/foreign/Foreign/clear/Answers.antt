-- Each heap is cleared in turn, and after the last all are.
use Rattle.std.proofs.Common.{None, [], arith, refl, subst, sym}
use Rattle.std.specs.Prelude.{replicate}
use Rattle.stealing.specs.Foreign.{OffersEntries, Roots}
use Rattle.stealing.proofs.Clearing.{clears_none, none_of, offers_none}
use Rattle.stealing.proofs.ClearingOn.{clears_all, clears_next, roots_none}
use Rattle.stealing.proofs.foreign.Foreign.clear.Goals as goal

pub loop-to-init : goal.loop-to-init
loop-to-init g c = clears_none c.args.arena.now c.args.self.now c.requires

pub loop-to-preserved : goal.loop-to-preserved
loop-to-preserved g c =
    clears_next c.heap_laws.ensures.live c.args.arena.now c.loop-to.arena c.clear_one.new.arena c.args.self.now c.loop-to.self c.clear_one.new.self c.loop-to.to
    c.requires c.loop-to.invariant c.clear_one.ensures

pub returns-clause-empty : goal.returns-clause-empty
returns-clause-empty g c =
    roots_none c.args.arena.now c.loop-to.arena c.args.self.now c.loop-to.self c.loop-to.to (omega arith) c.loop-to.invariant

pub returns-clause-clears : goal.returns-clause-clears
returns-clause-clears g c =
    clears_all c.heap_laws.ensures.first c.heap_laws.ensures.empty c.args.arena.now c.loop-to.arena c.args.self.now c.loop-to.self c.loop-to.to c.requires (omega arith) c.loop-to.invariant

pub returns-clause-offers : goal.returns-clause-offers
returns-clause-offers g c =
    subst (λ (roots : Roots). OffersEntries c.loop-to.arena roots [])
    (sym (roots_none c.args.arena.now c.loop-to.arena c.args.self.now c.loop-to.self c.loop-to.to (omega arith) c.loop-to.invariant))
    (offers_none c.heap_laws.ensures.first c.heap_laws.ensures.empty c.loop-to.arena (replicate 8 None) refl (none_of 8))
