use Rattle.std.specs.Box.{boxed_slice_items}
use Rattle.std.proofs.Common.{◌+◌, ◌≤◌, drop, arith, ◌∙◌, ap}
use Rattle.std.proofs.lemmas.Grind.{common_steps}
use Rattle.ports.proofs.Buffers.{part-drop}
use Rattle.ports.proofs.buffer.Buffer.pass.Goals as goal

pub returns : goal.returns
returns c =
    let within : c.self.inside.start + c.args.count ≤ c.self.inside.end = grind (arith, common_steps) in
    part-drop (boxed_slice_items c.self.inside.bytes) c.self.inside.start c.self.inside.end c.args.count within ∙ ap (drop c.args.count) c.self.view_is
