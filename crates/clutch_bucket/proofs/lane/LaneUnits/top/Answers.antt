-- The first key has the priority of the first clutch bucket.
use Rattle.std.proofs.Common.{◌<◌, List, Option, None, ℕ, ap, get_or, is_some, ◌∙◌, subst, sym}
use Rattle.std.proofs.lemmas.Bool.{false≢true, true≢false}
use Rattle.clutch_bucket.specs.Lane.{Lane, rank_at}
use Rattle.clutch_bucket.specs.Ranks.{IsFirstUnit}
use Rattle.clutch_bucket.specs.declared.ranks.UnitKey.{UnitKey}
use Rattle.clutch_bucket.proofs.Best.{lane_empty, lane_filled, top_of_first}
use Rattle.clutch_bucket.proofs.Reading.{from_some, one_key}
use Rattle.clutch_bucket.proofs.lane.LaneUnits.top.Goals as goal

pub returns-in_err-group-clause-none : goal.returns-in_err-group-clause-none
returns-in_err-group-clause-none c = λ arena s f formed.
    let none = λ (h : ℕ). ap (λ (l : Lane). rank_at l h) (sym c.self.view_is) ∙ c.first.ensures.none.0 (ap is_some c.in_err-group.was) h in
    let empty = lane_empty c.queue_laws.ensures.held c.queue_laws.ensures.first arena c.args.self.now s f formed none in
    (λ is. empty, λ is. ap is_some c.from_residual.ensures)

pub returns-clause-top : goal.returns-clause-top
returns-clause-top c = λ arena s f formed k first.
    let at = c.args.self.now in
    let g = c.in_ok-group.group in
    let ranks = ap (λ (l : Lane). l.ranks) c.self.view_is in
    let unit = from_some (λ (h : ℕ). IsFirstUnit c.self.inside.ranks h) c.first.result g c.in_ok-group.was c.first.ensures.first in
    let mine = subst (λ (rs : List (Option UnitKey)). IsFirstUnit rs g) ranks unit in
    let within = subst (λ (m : ℕ). g < m) f.stands.units.ranks mine.within in
    let key = one_key at.ranks g c.get.result c.in_ok-key.key mine (c.get.ensures ∙ ap (λ (rs : List (Option UnitKey)). get_or rs g None) ranks) c.in_ok-key.was in
    top_of_first c.queue_laws.ensures.held c.queue_laws.ensures.first arena at s f formed g within mine k first ∙ ap (λ (x : UnitKey). x.pri) key

pub returns-clause-none : goal.returns-clause-none
returns-clause-none c = λ arena s f formed.
    let at = c.args.self.now in
    let g = c.in_ok-group.group in
    let ranks = ap (λ (l : Lane). l.ranks) c.self.view_is in
    let unit = from_some (λ (h : ℕ). IsFirstUnit c.self.inside.ranks h) c.first.result g c.in_ok-group.was c.first.ensures.first in
    let mine = subst (λ (rs : List (Option UnitKey)). IsFirstUnit rs g) ranks unit in
    let within = subst (λ (m : ℕ). g < m) f.stands.units.ranks mine.within in
    let filled = lane_filled c.queue_laws.ensures.held c.queue_laws.ensures.first arena at s f formed g within mine.key mine.stands in
    (λ is. absurd (true≢false is), λ is. absurd (false≢true (sym is ∙ filled)))
