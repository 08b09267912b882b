-- The slot that was listed last had no value and has one.
use Rattle.std.proofs.Common.{ap, ◌∙◌, ◌++◌, option_to_list}
use Rattle.link_arena.proofs.SoundLemmas.{IsSound-filled, IsSound-relinked, last_listed}
use Rattle.link_arena.proofs.LenLemmas.{live_count-inserts}
use Rattle.link_arena.proofs.MapLemmas.{Inserts-set}
use Rattle.link_arena.proofs.NodeLemmas.{from_some}
use Rattle.link_arena.proofs.arena.Arena.insert_reserved.Goals as goal

pub invariant_of-self : goal.invariant_of-self
invariant_of-self g c =
    let listed = c.pop.ensures.items ∙ ap (λ o. c.pop.new.self.items ++ option_to_list o) c.unwrap-slot.ensures in
    let last = last_listed _ _ _ _ _ _ listed c.self.invariant in
    rw (c.pop.ensures.capacity, c.replace.ensures.after)
    (IsSound-relinked _ _ _ _ _ (from_some _ last.present).0 _ (from_some _ last.present).1
    (IsSound-filled _ _ _ _ _ _ c.args.v listed c.self.invariant))

pub returns-clause-inserts : goal.returns-clause-inserts
returns-clause-inserts g c =
    let listed = c.pop.ensures.items ∙ ap (λ o. c.pop.new.self.items ++ option_to_list o) c.unwrap-slot.ensures in
    let last = last_listed _ _ _ _ _ _ listed c.self.invariant in
    rw (← c.self.view_is, c.replace.ensures.after)
    (Inserts-set c.self.inside.cells c.self.inside.values.items _ _ c.unwrap-slot.result c.args.v c.self.invariant.linked last.present last.was last.within)

pub returns-clause-len : goal.returns-clause-len
returns-clause-len g c = live_count-inserts c.args.self.now _ c.unwrap-slot.result c.args.v (returns-clause-inserts g c)
