use Rattle.std.proofs.Common.{refl, ap, ◌∙◌, arith}
use Rattle.cluster_queue.proofs.Counted.{counted, lens_below, one_more}
use Rattle.cluster_queue.proofs.heaps.Heaps.count_unbound.Goals as goal

pub loop-at-init : goal.loop-at-init
loop-at-init c = record { count = refl; most = omega arith }

pub overflow_add-count : goal.overflow_add-count
overflow_add-count c =
    let most = c.loop-at.invariant.most in
    let len = c.len-count.ensures.most in
    let below = c.loop-at-test.true in
    let small = c.index.ensures.small in
    omega (arith, most, len, below, small)

pub loop-at-preserved : goal.loop-at-preserved
loop-at-preserved c =
    let below = c.loop-at-test.true in
    let small = c.index.ensures.small in
    let six = c.requires.lanes in
    let more = one_more c.args.self.now.lanes c.loop-at.at c.index-self-at.result (omega (arith, below, small, six)) in
    let so_far = c.loop-at.invariant.count in
    let most = c.loop-at.invariant.most in
    let len = c.len-count.ensures.most in
    let is = c.len-count.ensures.len in
    record { count = omega (arith, more, so_far, is); most = omega (arith, most, len) }

pub returns-clause-count : goal.returns-clause-count
returns-clause-count c = λ arena count s f.
    let over = c.loop-at-test.false in
    let end = c.loop-at.auto.at-end in
    let index = c.index.ensures.index in
    c.loop-at.invariant.count ∙ (ap (lens_below c.args.self.now.lanes) (omega (arith, over, end, index)) ∙ counted arena c.args.self.now count s f c.args.b)

pub returns-clause-most : goal.returns-clause-most
returns-clause-most c =
    let end = c.loop-at.auto.at-end in
    let small = c.index.ensures.small in
    let most = c.loop-at.invariant.most in
    omega (arith, end, small, most)
