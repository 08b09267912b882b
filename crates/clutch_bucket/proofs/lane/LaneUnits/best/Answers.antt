-- The first slot of the first unit's queue.
use Rattle.std.proofs.Common.{◌≡◌, ◌<◌, List, Option, ℕ, ap, is_some, ◌∙◌, subst, sym}
use Rattle.std.proofs.lemmas.Bool.{false≢true}
use Rattle.thread_queue.specs.Queue.{IsFirst, Queue, StandsIn}
use Rattle.clutch_bucket.specs.Lane.{IsBest, Lane, no_queue, queue_at, rank_at}
use Rattle.clutch_bucket.specs.Ranks.{IsFirstUnit}
use Rattle.clutch_bucket.specs.declared.ranks.UnitKey.{UnitKey}
use Rattle.clutch_bucket.proofs.Best.{best_slot, lane_empty, lane_filled, root_there}
use Rattle.clutch_bucket.proofs.Reading.{from_some, if_some, read_at}
use Rattle.clutch_bucket.proofs.lane.LaneUnits.best.Goals as goal

pub returns-in_err-group-clause-none : goal.returns-in_err-group-clause-none
returns-in_err-group-clause-none c = λ s f formed.
    let none = λ (h : ℕ). ap (λ (l : Lane). rank_at l h) (sym c.self.view_is) ∙ c.first.ensures.none.0 (ap is_some c.in_err-group.was) h in
    let empty = lane_empty c.queue_laws.ensures.held c.queue_laws.ensures.first c.args.arena.now c.args.self.now s f formed none in
    (λ is. empty, λ is. ap is_some c.from_residual.ensures)

pub returns-clause-best : goal.returns-clause-best
returns-clause-best c = λ s f formed.
    let arena = c.args.arena.now in
    let at = c.args.self.now in
    let g = c.in_ok-group.group in
    let queue : Queue = c.index.result.now in
    let ranks = ap (λ (l : Lane). l.ranks) c.self.view_is in
    let unit = from_some (λ (h : ℕ). IsFirstUnit c.self.inside.ranks h) c.first.result g c.in_ok-group.was c.first.ensures.first in
    let mine = subst (λ (rs : List (Option UnitKey)). IsFirstUnit rs g) ranks unit in
    let within = subst (λ (m : ℕ). g < m) f.stands.units.ranks mine.within in
    let same : queue_at at g ≡ queue = read_at c.self.inside.queues.items at.queues g queue no_queue c.index.ensures (ap (λ (l : Lane). l.queues) c.self.view_is) within in
    let firsts = c.first-2.ensures.first arena (subst (StandsIn arena) same (f.stands.units.each g within).stands) in
    if_some (λ (slot : ℕ). IsBest arena at s slot) c.first-2.result
    (λ slot is.
    let first = from_some (λ (x : ℕ). IsFirst arena queue x) c.first-2.result slot is firsts in
    best_slot c.queue_laws.ensures.held c.queue_laws.ensures.first c.order_laws.ensures.chosen c.order_laws.ensures.stands c.order_laws.ensures.orders arena at s f formed g slot within mine (subst (λ (q : Queue). IsFirst arena q slot) (sym same) first))

pub returns-clause-none : goal.returns-clause-none
returns-clause-none c = λ s f formed.
    let arena = c.args.arena.now in
    let at = c.args.self.now in
    let g = c.in_ok-group.group in
    let queue : Queue = c.index.result.now in
    let ranks = ap (λ (l : Lane). l.ranks) c.self.view_is in
    let unit = from_some (λ (h : ℕ). IsFirstUnit c.self.inside.ranks h) c.first.result g c.in_ok-group.was c.first.ensures.first in
    let mine = subst (λ (rs : List (Option UnitKey)). IsFirstUnit rs g) ranks unit in
    let within = subst (λ (m : ℕ). g < m) f.stands.units.ranks mine.within in
    let same : queue_at at g ≡ queue = read_at c.self.inside.queues.items at.queues g queue no_queue c.index.ensures (ap (λ (l : Lane). l.queues) c.self.view_is) within in
    let filled = lane_filled c.queue_laws.ensures.held c.queue_laws.ensures.first arena at s f formed g within mine.key mine.stands in
    let there = root_there arena at g mine.key c.first-2.result mine.stands (f.stands.ranks g within) (c.first-2.ensures.root ∙ ap (λ (q : Queue). q.root) (sym same)) in
    (λ is. absurd (false≢true (sym is ∙ there)), λ is. absurd (false≢true (sym is ∙ filled)))
