use Rattle.std.proofs.Common.{◌≡◌, ◌+◌, ◌++◌, ℕ, List, cond, drop_of_length-le, sym, ap, subst, ◌∙◌, arith}
use Rattle.thread_queue.specs.Queue.{walk_of}
use Rattle.clutch_bucket.proofs.PricedAnew.{RepricedBut, reprices_begin}
use Rattle.clutch_bucket.proofs.PricedAlong.{held_next, repriced_all, repriced_next, told_all}
use Rattle.clutch_bucket.proofs.repricing.refresh_queue.Goals as goal
use Rattle.clutch_bucket.proofs.repricing.refresh_queue.Goals.{else-reprice_slot, then-reprice_slot}

pub loop-slot-init : goal.loop-slot-init
loop-slot-init g c =
    let walk = walk_of c.args.arena.now c.args.queue.now in
    record {
      priced = subst (λ slots. RepricedBut c.args.arena.now c.args.arena.now c.args.queue.now c.args.queue.now c.args.now slots 0)
          (sym (c.deref-slot-items.ensures.value ∙ (c.list.ensures.lists ∙ ap (λ (xs : List ℕ). xs ++ walk) c.clear.ensures.items)))
          (reprices_begin c.refresh_laws.ensures.walk c.args.arena.now c.args.queue.now c.args.now c.requires.stands);
      ticks = omega arith;
    }

pub loop-slot-preserved : goal.loop-slot-preserved
loop-slot-preserved g c = record {
  priced = repriced_next c.refresh_laws.ensures.held c.refresh_laws.ensures.settled c.refresh_laws.ensures.once c.args.arena.now c.loop-slot.arena c.reprice_slot.new.arena c.args.queue.now c.loop-slot.queue c.reprice_slot.new.queue
      c.args.now c.loop-slot.slot-index 0 c.len-count.result c.deref-slot-items.result.now c.loop-slot.changed c.if-reprice_slot.changed c.reprice_slot.result
      c.requires.stands c.loop-slot.invariant.priced c.loop-slot-test.true c.len-count.ensures c.reprice_slot.ensures.reprices c.reprice_slot.ensures.changed
      (elim c.if-reprice_slot.branch [
        | then-reprice_slot w ↦ w.changed-is ∙ ap {B = ℕ} (λ b. c.loop-slot.changed + cond b 1 0) (sym w.if-reprice_slot.true)
        | else-reprice_slot w ↦ w.changed-is ∙ (let none : c.loop-slot.changed ≡ c.loop-slot.changed + 0 = omega arith in none ∙ ap {B = ℕ} (λ b. c.loop-slot.changed + cond b 1 0) (sym w.if-reprice_slot.false))
      ]);
  ticks = omega (arith, c.loop-slot.invariant.ticks, c.reprice_slot.ensures.ticks);
}

pub reprice_slot-requires-clause-held : goal.reprice_slot-requires-clause-held
reprice_slot-requires-clause-held g c =
    held_next c.args.arena.now c.loop-slot.arena c.args.queue.now c.loop-slot.queue c.args.now c.loop-slot.slot-index 0 c.deref-slot-items.result.now c.loop-slot.changed c.loop-slot.invariant.priced c.loop-slot-test.true

pub returns-clause-reprices : goal.returns-clause-reprices
returns-clause-reprices g c =
    repriced_all c.args.arena.now c.loop-slot.arena c.args.queue.now c.loop-slot.queue c.args.now c.loop-slot.changed
    (subst (λ (rest : List ℕ). RepricedBut c.args.arena.now c.loop-slot.arena c.args.queue.now c.loop-slot.queue c.args.now rest c.loop-slot.changed) (drop_of_length-le c.deref-slot-items.result.now c.loop-slot-test.false) c.loop-slot.invariant.priced)

pub returns-clause-changed : goal.returns-clause-changed
returns-clause-changed g c =
    told_all c.args.arena.now c.loop-slot.arena c.args.queue.now c.loop-slot.queue c.args.now c.loop-slot.changed
    (subst (λ (rest : List ℕ). RepricedBut c.args.arena.now c.loop-slot.arena c.args.queue.now c.loop-slot.queue c.args.now rest c.loop-slot.changed) (drop_of_length-le c.deref-slot-items.result.now c.loop-slot-test.false) c.loop-slot.invariant.priced)

pub returns-clause-most : goal.returns-clause-most
returns-clause-most g c = let most = c.loop-slot.invariant.priced.most in omega (arith, most)
