use Rattle.std.proofs.Common.{◌<◌, length, sym, ◌∙◌}
use Rattle.flat_policy.specs.Policy.Offer.{foreign_before}
use Rattle.plain_cluster.proofs.Better.{best_goes, best_stays}
use Rattle.plain_cluster.proofs.queue.offering.better_foreign.Goals as goal

pub returns-in-Some-clause-better : goal.returns-in-Some-clause-better
returns-in-Some-clause-better c = λ e h.
    let x = c.index-rows-place.result in
    let y = c.index-rows-best.result in
    let within : c.in-Some.best < length c.args.rows.now = c.requires.first c.in-Some.best c.in-Some.is in
    best_stays foreign_before c.args.rows.now c.args.place c.in-Some.best x y c.args.first e within
    c.index-rows-place.is
    c.index-rows-best.is
    c.in-Some.is h (sym c.foreign_before.ensures ∙ c.if-not-foreign_before.true)

pub returns-in_default-clause-better : goal.returns-in_default-clause-better
returns-in_default-clause-better c = λ e h.
    let x = c.index-rows-place.result in
    let y = c.index-rows-best.result in
    let within : c.in-Some.best < length c.args.rows.now = c.requires.first c.in-Some.best c.in-Some.is in
    best_goes foreign_before c.args.rows.now c.args.place c.in-Some.best x y c.args.first e within
    c.index-rows-place.is
    c.index-rows-best.is
    c.in-Some.is h (sym c.foreign_before.ensures ∙ c.if-not-foreign_before.false)
