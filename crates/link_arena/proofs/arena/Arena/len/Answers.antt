-- Each cell has a value or is listed.
use Rattle.std.proofs.Common.{arith, ap}
use Rattle.link_arena.specs.Arena.{live_count}
use Rattle.link_arena.proofs.NodeLemmas.{count_by-nodes_of}
use Rattle.link_arena.proofs.arena.Arena.len.Goals as goal

pub returns : goal.returns
returns g c =
    omega (
      arith,
      ap live_count c.self.view_is,
      count_by-nodes_of c.self.inside.cells.slots c.self.inside.values.items c.self.invariant.linked,
      c.self.invariant.counted,
      c.len.ensures,
      c.len-2.ensures,
      c.self.inside.free.ok.0,
    )
