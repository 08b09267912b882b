use Rattle.std.proofs.Common.{◌≡◌, ◌∙◌, ap, arith, refl}
use Rattle.std.proofs.lemmas.Grind.{common_steps}
use Rattle.ports.specs.Feeds.{Feed}
use Rattle.ports.specs.declared.line_feed.Fed.TheVariants.{Line}
use Rattle.ports.proofs.Buffers.{Consumes-line}
use Rattle.ports.proofs.ToldBytes.{IsOfBytes-next}
use Rattle.ports.proofs.Answering.{fed-stop}
use Rattle.ports.proofs.line_feed.LineFeed.next.Goals as goal

pub returns-in-Line-clause-bytes : goal.returns-in-Line-clause-bytes
returns-in-Line-clause-bytes g c =
    let held : c.pass.new.self ≡ c.args.self.now.held = c.pass.ensures ∙ ap (λ (f : Feed). f.held) c.self.view_is in
    Consumes-line _ c.seek-found.new.buffer _ _ c.seek-found.result.length _ (omega arith) (rw c.in-Line.is at c.seek-found.ensures.found)
    (rw (← held) c.seek-found.ensures.bytes)

pub returns-in-Line-clause-told : goal.returns-in-Line-clause-told
returns-in-Line-clause-told g c =
    IsOfBytes-next c.args.limit c.args.self.now _ (g.S.Source.left c.args.source.now) (g.S.Source.left c.seek-found.new.source)
    (g.S.Source.faults c.args.source.now) (g.S.Source.faults c.seek-found.new.source) Line (grind (arith, common_steps)) (returns-in-Line-clause-bytes g c)
    (grind (arith, common_steps))

pub returns-in_default-clause-answer : goal.returns-in_default-clause-answer
returns-in_default-clause-answer g c =
    fed-stop c.args.limit _ _ _ c.seek-found.result.length _ c.seek-found.result.answer c.in_default.not-Line
    (record { no_line = refl; done = refl }) c.seek-found.ensures.found

pub returns-in_default-clause-told : goal.returns-in_default-clause-told
returns-in_default-clause-told g c =
    IsOfBytes-next c.args.limit c.args.self.now _ (g.S.Source.left c.args.source.now) (g.S.Source.left c.seek-found.new.source)
    (g.S.Source.faults c.args.source.now) (g.S.Source.faults c.seek-found.new.source) c.seek-found.result.answer
    (returns-in_default-clause-answer g c) (grind (arith, common_steps)) (grind (arith, common_steps))
