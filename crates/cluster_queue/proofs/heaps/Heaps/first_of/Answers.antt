use Rattle.std.proofs.Common.{◌≡◌, ◌↔◌, Bool, ap, arith, get_or, subst, sym, ◌∙◌}
use Rattle.std.specs.Prelude.{IfSome, IsNone}
use Rattle.flat_policy.specs.Policy.Precedence.{precedes_in_lane}
use Rattle.flat_policy.specs.Policy.Queue.{has_entries, lane, lane_entries}
use Rattle.flat_policy.specs.Policy.Unpreceded.{unpreceded}
use Rattle.thread_queue.specs.Queue.{IsFirst, Queue, StandsIn}
use Rattle.clutch_bucket.specs.Lane.{Lane, no_queue}
use Rattle.cluster_queue.specs.Heaps.{LaneFollows, bound_at, lane_at, no_lane}
use Rattle.cluster_queue.proofs.Chosen.{bound_empty, bound_first, lane_empty, lane_first, read_at}
use Rattle.cluster_queue.proofs.Held.{if_none}
use Rattle.cluster_queue.proofs.heaps.Heaps.first_of.Goals as goal

pub returns-then-lane-clause-first : goal.returns-then-lane-clause-first
returns-then-lane-clause-first c = λ can.
    let arena = c.args.arena.now in
    let heaps = c.args.self.now in
    let b = c.args.lane.bucket in
    let queue : Queue = get_or heaps.bound c.index-at.result c.index-self-at.result in
    let same : bound_at heaps b ≡ queue = read_at heaps.bound c.index-at.result _ c.index-self-at.result no_queue c.index-at.ensures.index (omega (arith, c.index-at.ensures.small, can.follows.six.bound)) in
    let stands : StandsIn arena queue = subst (StandsIn arena) same (can.follows.bound b).stands in
    let first = subst (λ (q : Queue). IfSome c.first.result (λ slot. IsFirst arena q slot)) (sym same) (c.first.ensures.first arena stands) in
    let none = subst (λ (q : Queue). IsNone c.first.result ↔ (q.count ≡ 0)) (sym same) (c.first.ensures.empty arena stands) in
    bound_first arena heaps can.count can.s can.formed can.follows b c.choice_laws.ensures.chosen c.choice_laws.ensures.orders c.choice_laws.ensures.bound c.first.result first none
    ∙ ap (λ (x : Bool). unpreceded (precedes_in_lane can.s) (lane_entries can.s (lane b x))) (sym c.if-lane.true)

pub returns-else-lane-clause-first : goal.returns-else-lane-clause-first
returns-else-lane-clause-first c = λ can.
    let arena = c.args.arena.now in
    let heaps = c.args.self.now in
    let b = c.args.lane.bucket in
    let at : Lane = get_or heaps.lanes c.index-at.result c.index-self-at-else-lane.result in
    let same : lane_at heaps b ≡ at = read_at heaps.lanes c.index-at.result _ c.index-self-at-else-lane.result no_lane c.index-at.ensures.index (omega (arith, c.index-at.ensures.small, can.follows.six.lanes)) in
    let follows = subst (λ (l : Lane). LaneFollows arena l can.count b can.s) same (can.follows.lanes b) in
    lane_first arena heaps can.count can.s can.formed can.follows b at follows c.best.result c.best.ensures.best c.best.ensures.none
    ∙ ap (λ (x : Bool). unpreceded (precedes_in_lane can.s) (lane_entries can.s (lane b x))) (sym c.if-lane.false)

pub returns-then-lane-clause-none : goal.returns-then-lane-clause-none
returns-then-lane-clause-none c = if_none _ c.first.result (λ none can.
    let arena = c.args.arena.now in
    let heaps = c.args.self.now in
    let b = c.args.lane.bucket in
    let queue : Queue = get_or heaps.bound c.index-at.result c.index-self-at.result in
    let same : bound_at heaps b ≡ queue = read_at heaps.bound c.index-at.result _ c.index-self-at.result no_queue c.index-at.ensures.index (omega (arith, c.index-at.ensures.small, can.follows.six.bound)) in
    let stands : StandsIn arena queue = subst (StandsIn arena) same (can.follows.bound b).stands in
    ap (λ (x : Bool). has_entries can.s (lane b x)) c.if-lane.true
    ∙ bound_empty arena heaps can.count can.s can.formed can.follows b (ap (λ (q : Queue). q.count) same ∙ (c.first.ensures.empty arena stands).0 none))

pub returns-else-lane-clause-none : goal.returns-else-lane-clause-none
returns-else-lane-clause-none c = if_none _ c.best.result (λ none can.
    let arena = c.args.arena.now in
    let heaps = c.args.self.now in
    let b = c.args.lane.bucket in
    let at : Lane = get_or heaps.lanes c.index-at.result c.index-self-at-else-lane.result in
    let same : lane_at heaps b ≡ at = read_at heaps.lanes c.index-at.result _ c.index-self-at-else-lane.result no_lane c.index-at.ensures.index (omega (arith, c.index-at.ensures.small, can.follows.six.lanes)) in
    let follows = subst (λ (l : Lane). LaneFollows arena l can.count b can.s) same (can.follows.lanes b) in
    ap (λ (x : Bool). has_entries can.s (lane b x)) c.if-lane.false
    ∙ lane_empty arena heaps can.count can.s can.formed can.follows b at follows c.best.result c.best.ensures.none none)
