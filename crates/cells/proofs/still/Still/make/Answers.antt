use Rattle.std.proofs.Common.{◌≡◌, ℕ, max, length, refl, sym, ap, ◌∙◌, subst}
use Rattle.trace_text.specs.Runs.{program_of}
use Rattle.cells.specs.Held.{unmarked}
use Rattle.cells.specs.Making.{IsButSpare}
use Rattle.cells.specs.Stills.{StillParts}
use Rattle.cells.proofs.Giving.{made_from}
use Rattle.cells.proofs.MostMinted.{more_minted, most_made}
use Rattle.cells.proofs.still.Still.make.Goals as goal

pub returns-clause-made : goal.returns-clause-made
returns-clause-made g c =
    made_from g.N.RunName.setup c.args.actor (program_of c.args.p.now) c.args.now c.max-moment.result c.args.self.now _ _ c.enlist.result.entry c.fresh_thread-thread.result c.enlist.result.value
    (subst (λ (s : StillParts). IsButSpare c.args.self.now s) (sym c.self.view_is) c.reserve_slots.ensures.but)
    c.fresh_thread-thread.ensures.thread (c.max-moment.ensures ∙ ap (λ (last : ℕ). max c.args.now last) c.last.ensures) c.enlist.ensures.value c.enlist.ensures.entry c.enlist.ensures.held
    c.mint_slots-slots.ensures.but c.mint_slots-slots.ensures.stock refl

pub returns-clause-few : goal.returns-clause-few
returns-clause-few g c =
    most_made g.N.RunName.setup c.args.actor (program_of c.args.p.now) c.args.now c.args.self.now _ c.enlist.result.entry c.enlist.result.value (returns-clause-made g c)
    (more_minted c.args.self.now _ _ (unmarked c.enlist.result.entry) _ c.fresh_thread-thread.result
    (subst (λ (s : StillParts). IsButSpare c.args.self.now s) (sym c.self.view_is) c.reserve_slots.ensures.but)
    (subst (λ (s : StillParts). s.yard.slots.minted ≡ length s.yard.yard.made) (sym c.self.view_is) c.keeps.ensures.yard.minted)
    c.enlist.ensures.held)
