use Rattle.std.proofs.Common.{◌<◌, List, get_or, length, ap, sym, ◌∙◌}
use Rattle.flat_policy.specs.Laws.Units.{goes_by_keys}
use Rattle.plain_cluster.specs.Entries.{Slotted}
use Rattle.plain_cluster.specs.Queues.{flat_of}
use Rattle.plain_cluster.proofs.Better.{best_goes, best_stays}
use Rattle.plain_cluster.proofs.Counted.{place_there}
use Rattle.plain_cluster.proofs.queue.Queue.better_place.Goals as goal

pub goes_first-requires-clause-row : goal.goes_first-requires-clause-row
goes_first-requires-clause-row c =
    let q = c.args.self.now in
    let x = c.index-rows-place.result in
    place_there q.groups q c.args.place x c.requires.queue c.requires.place (c.index-rows-place.is ∙ ap (λ (rs : List Slotted). get_or rs c.args.place x) c.as_slice-rows.ensures)

pub goes_first-requires-clause-other : goal.goes_first-requires-clause-other
goes_first-requires-clause-other c =
    let q = c.args.self.now in
    let y = c.index-rows-best.result in
    let within : c.in-Some.best < length q.rows.rows = c.requires.first c.in-Some.best c.in-Some.is in
    place_there q.groups q c.in-Some.best y c.requires.queue within (c.index-rows-best.is ∙ ap (λ (rs : List Slotted). get_or rs c.in-Some.best y) c.as_slice-rows.ensures)

pub returns-in-Some-clause-better : goal.returns-in-Some-clause-better
returns-in-Some-clause-better c = λ e h.
    let q = c.args.self.now in
    let x = c.index-rows-place.result in
    let y = c.index-rows-best.result in
    let within : c.in-Some.best < length q.rows.rows = c.requires.first c.in-Some.best c.in-Some.is in
    best_stays (goes_by_keys (flat_of q)) q.rows.rows c.args.place c.in-Some.best x y c.args.first e within
    (c.index-rows-place.is ∙ ap (λ (rs : List Slotted). get_or rs c.args.place x) c.as_slice-rows.ensures)
    (c.index-rows-best.is ∙ ap (λ (rs : List Slotted). get_or rs c.in-Some.best y) c.as_slice-rows.ensures)
    c.in-Some.is h (sym c.goes_first.ensures ∙ c.if-not-goes_first.true)

pub returns-in_default-clause-better : goal.returns-in_default-clause-better
returns-in_default-clause-better c = λ e h.
    let q = c.args.self.now in
    let x = c.index-rows-place.result in
    let y = c.index-rows-best.result in
    let within : c.in-Some.best < length q.rows.rows = c.requires.first c.in-Some.best c.in-Some.is in
    best_goes (goes_by_keys (flat_of q)) q.rows.rows c.args.place c.in-Some.best x y c.args.first e within
    (c.index-rows-place.is ∙ ap (λ (rs : List Slotted). get_or rs c.args.place x) c.as_slice-rows.ensures)
    (c.index-rows-best.is ∙ ap (λ (rs : List Slotted). get_or rs c.in-Some.best y) c.as_slice-rows.ensures)
    c.in-Some.is h (sym c.goes_first.ensures ∙ c.if-not-goes_first.false)
