use Rattle.std.proofs.Common.{◌≡◌, ◌+◌, ℕ, Bool, Some, is_some, ap, ap₂, arith, get_or, subst, sym, ◌∙◌}
use Rattle.std.specs.Prelude.{IfSome}
use Rattle.bound_buckets.specs.Tops.{top_of}
use Rattle.flat_policy.specs.Policy.Queue.{lane}
use Rattle.thread_queue.specs.Queue.{IsFirst, Queue, StandsIn}
use Rattle.thread_queue.specs.declared.item.Item.{Item}
use Rattle.clutch_bucket.specs.Lane.{Lane, no_queue}
use Rattle.cluster_queue.specs.Heaps.{LaneFollows, bound_at, lane_at, no_lane}
use Rattle.cluster_queue.proofs.Chosen.{bound_none, bound_small, bound_top, from_some, lane_top, read_at, score_small, unbound_not, bound_not}
use Rattle.cluster_queue.proofs.heaps.Heaps.top.Goals as goal
use Rattle.cluster_queue.proofs.Slots.{one_item}

pub returns-then-not-lane : goal.returns-then-not-lane
returns-then-not-lane c = λ can.
    let arena = c.args.arena.now in
    let heaps = c.args.self.now in
    let b = c.args.lane.bucket in
    let at : Lane = get_or heaps.lanes c.index-at.result c.index-self-at.result in
    let same : lane_at heaps b ≡ at = read_at heaps.lanes c.index-at.result _ c.index-self-at.result no_lane c.index-at.ensures.index (omega (arith, c.index-at.ensures.small, can.follows.six.lanes)) in
    let follows = subst (λ (l : Lane). LaneFollows arena l can.count b can.s) same (can.follows.lanes b) in
    lane_top arena heaps can.count can.s can.formed can.follows b c.choice_laws.ensures.tops c.choice_laws.ensures.clutch at follows c.top.result c.top.ensures.top c.top.ensures.none
    ∙ ap (λ (x : Bool). top_of can.s (lane b x)) (unbound_not c.args.lane.bound c.if-not-lane.true)

pub returns-in_err-slot : goal.returns-in_err-slot
returns-in_err-slot c = λ can.
    let arena = c.args.arena.now in
    let heaps = c.args.self.now in
    let b = c.args.lane.bucket in
    let queue : Queue = get_or heaps.bound c.index-at.result c.index-self-at-2.result in
    let same : bound_at heaps b ≡ queue = read_at heaps.bound c.index-at.result _ c.index-self-at-2.result no_queue c.index-at.ensures.index (omega (arith, c.index-at.ensures.small, can.follows.six.bound)) in
    let stands : StandsIn arena queue = subst (StandsIn arena) same (can.follows.bound b).stands in
    let none = (c.first.ensures.empty arena stands).0 (ap is_some c.in_err-slot.was) in
    c.from_residual.ensures ∙ (bound_none arena heaps can.count can.s can.formed can.follows b c.choice_laws.ensures.tops (ap (λ (q : Queue). q.count) same ∙ none)
    ∙ ap (λ (x : Bool). top_of can.s (lane b x)) (bound_not c.args.lane.bound c.if-not-lane.false))

pub overflow_add-result : goal.overflow_add-result
overflow_add-result c =
    let can = c.requires in
    let arena = c.args.arena.now in
    let heaps = c.args.self.now in
    let b = c.args.lane.bucket in
    let queue : Queue = get_or heaps.bound c.index-at.result c.index-self-at-2.result in
    let same : bound_at heaps b ≡ queue = read_at heaps.bound c.index-at.result _ c.index-self-at-2.result no_queue c.index-at.ensures.index (omega (arith, c.index-at.ensures.small, can.follows.six.bound)) in
    let stands : StandsIn arena queue = subst (StandsIn arena) same (can.follows.bound b).stands in
    let first = from_some (λ (slot : ℕ). IsFirst arena (bound_at heaps b) slot) c.first.result c.in_ok-slot.slot c.in_ok-slot.was (subst (λ (q : Queue). IfSome c.first.result (λ slot. IsFirst arena q slot)) (sym same) (c.first.ensures.first arena stands)) in
    let small = bound_small arena heaps can.count can.s can.formed can.follows b c.in_ok-slot.slot first in
    let is : first.item ≡ c.get.result.now = one_item arena c.in_ok-slot.slot first.item c.get.result.now first.stored c.get.ensures in
    let score = score_small b in
    let pri = ap (λ (i : Item). i.pri) is in
    let of = c.bound_score.ensures in
    omega (arith, small, score, pri, of)

pub returns : goal.returns
returns c = λ can.
    let arena = c.args.arena.now in
    let heaps = c.args.self.now in
    let b = c.args.lane.bucket in
    let queue : Queue = get_or heaps.bound c.index-at.result c.index-self-at-2.result in
    let same : bound_at heaps b ≡ queue = read_at heaps.bound c.index-at.result _ c.index-self-at-2.result no_queue c.index-at.ensures.index (omega (arith, c.index-at.ensures.small, can.follows.six.bound)) in
    let stands : StandsIn arena queue = subst (StandsIn arena) same (can.follows.bound b).stands in
    let first = from_some (λ (slot : ℕ). IsFirst arena (bound_at heaps b) slot) c.first.result c.in_ok-slot.slot c.in_ok-slot.was (subst (λ (q : Queue). IfSome c.first.result (λ slot. IsFirst arena q slot)) (sym same) (c.first.ensures.first arena stands)) in
    let is : first.item ≡ c.get.result.now = one_item arena c.in_ok-slot.slot first.item c.get.result.now first.stored c.get.ensures in
    let top = bound_top arena heaps can.count can.s can.formed can.follows b c.choice_laws.ensures.tops c.choice_laws.ensures.chosen c.choice_laws.ensures.orders c.choice_laws.ensures.greatest c.in_ok-slot.slot first in
    ap₂ (λ (m n : ℕ). Some (m + n)) (ap (λ (i : Item). i.pri) (sym is)) c.bound_score.ensures
    ∙ (top ∙ ap (λ (x : Bool). top_of can.s (lane b x)) (bound_not c.args.lane.bound c.if-not-lane.false))
