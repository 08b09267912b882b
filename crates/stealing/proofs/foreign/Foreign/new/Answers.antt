-- No heap has a slot.
use Rattle.std.proofs.Common.{None, [], refl, subst, sym}
use Rattle.std.specs.Prelude.{replicate}
use Rattle.stealing.specs.Foreign.{OffersEntries, Roots, StandsIn}
use Rattle.stealing.proofs.Clearing.{none_of, offers_none}
use Rattle.stealing.proofs.foreign.Foreign.new.Goals as goal

pub returns-clause-stands : goal.returns-clause-stands
returns-clause-stands c = λ arena.
    subst (λ (roots : Roots). StandsIn arena roots) (sym c.without_slots.ensures)
    (offers_none c.heap_laws.ensures.first c.heap_laws.ensures.empty arena (replicate 8 None) refl (none_of 8)).stands

pub returns-clause-offers : goal.returns-clause-offers
returns-clause-offers c = λ arena.
    subst (λ (roots : Roots). OffersEntries arena roots []) (sym c.without_slots.ensures)
    (offers_none c.heap_laws.ensures.first c.heap_laws.ensures.empty arena (replicate 8 None) refl (none_of 8))
