-- Past the end of the list there is no value.
use Rattle.std.proofs.Common.{None, arith, ◌∙◌, inl, inr, vec_len}
use Rattle.std.proofs.lemmas.Bool.{cases_lt}
use Rattle.std.proofs.lemmas.List.{get_or_past}
use Rattle.link_arena.proofs.MapLemmas.{value_is}
use Rattle.link_arena.proofs.arena.Arena.next_live.Goals as goal

pub returns-clause-none : goal.returns-clause-none
returns-clause-none g c = λ other from.
    elim (cases_lt other c.loop-key.key) [
      | inl before ↦ c.loop-key.invariant other from before
      | inr past ↦
          value_is c.args.self.now c.self.inside.cells c.self.inside.values.items (vec_len c.self.inside.free) other c.self.view_is c.self.invariant.linked
          ∙ get_or_past c.self.inside.values.items other None (omega (arith, past, c.loop-key-test.false, c.len-key-end.ensures, c.self.inside.values.ok.0))
    ]
