-- The root of the cluster's heap goes first.
use Rattle.std.proofs.Common.{◌∙◌}
use Rattle.stealing.proofs.Best.{best_where, held_where, none_where}
use Rattle.stealing.proofs.Held.{root_of_index}
use Rattle.stealing.proofs.foreign.Foreign.best.Goals as goal

pub returns-clause-none : goal.returns-clause-none
returns-clause-none c = λ arena entries offers.
    let root = root_of_index c.args.self.now c.self.inside.heaps c.args.to c.index-self-to.result c.self.view_is offers.stands.eight c.requires in
    none_where c.heap_laws.ensures.live c.heap_laws.ensures.first arena c.args.self.now entries c.args.to c.peek.result c.requires (c.peek.ensures ∙ root) offers

pub returns-clause-held : goal.returns-clause-held
returns-clause-held c = λ arena stands.
    let root = root_of_index c.args.self.now c.self.inside.heaps c.args.to c.index-self-to.result c.self.view_is stands.eight c.requires in
    held_where c.heap_laws.ensures.first arena c.args.self.now c.args.to c.peek.result (c.peek.ensures ∙ root) stands

pub returns-clause-best : goal.returns-clause-best
returns-clause-best c = λ arena entries offers.
    let root = root_of_index c.args.self.now c.self.inside.heaps c.args.to c.index-self-to.result c.self.view_is offers.stands.eight c.requires in
    best_where c.heap_laws.ensures.live c.heap_laws.ensures.first arena c.args.self.now entries c.args.to c.peek.result c.requires (c.peek.ensures ∙ root) offers
