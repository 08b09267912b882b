-- The root of the heap is its least.
use Rattle.std.proofs.Common.{List, Option, sym, subst, ◌∙◌, ℕ}
use Rattle.std.proofs.lemmas.Bool.{true≢false}
use Rattle.std.proofs.lemmas.Option.{none-some}
use Rattle.clutch_bucket.specs.KeptRanks.{AreKept}
use Rattle.clutch_bucket.specs.Ranks.{IsFirstUnit}
use Rattle.clutch_bucket.specs.declared.ranks.UnitKey.{UnitKey}
use Rattle.clutch_bucket.proofs.FirstUnit.{first_unit}
use Rattle.clutch_bucket.proofs.ranks.Ranks.first.Goals as goal

pub returns-clause-first : goal.returns-clause-first
returns-clause-first c =
    let root = sym c.peek.ensures ∙ c.in_ok-slot.was in
    let kept = subst (λ (heap : Option ℕ). AreKept c.self.inside.keys.items c.self.inside.slots.items c.self.inside.arena heap) root c.self.invariant in
    subst (λ (keys : List (Option UnitKey)). IsFirstUnit keys c.get.result.now.group) c.self.view_is
    (first_unit c.heap_laws.ensures.first c.self.inside.keys.items c.self.inside.slots.items c.self.inside.arena c.in_ok-slot.slot c.get.result.now kept c.get.ensures)

pub returns-clause-none : goal.returns-clause-none
returns-clause-none c =
    let unit = returns-clause-first c in
    (λ e. absurd (true≢false e), λ all. absurd (none-some unit.key (sym (all c.get.result.now.group) ∙ unit.stands)))
