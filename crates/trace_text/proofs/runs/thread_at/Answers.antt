use Rattle.std.proofs.Common.{arith, codes, rules, ◌≡◌}
use Rattle.std.proofs.lemmas.Slice.Eq.{text_from_reads}
use Rattle.trace_text.proofs.Naming.{thread_found}
use Rattle.trace_text.specs.Reading.{left}
use Rattle.trace_text.proofs.runs.thread_at.Goals as goal

pub returns-in-thread-clause-exact : goal.returns-in-thread-clause-exact
returns-in-thread-clause-exact c =
    let word : c.in_ok-word.word.now ≡ codes "thread" = text_from_reads c.in_ok-word.word.now (codes "thread") (omega arith) (search rules) in
    rw (thread_found (left c.args.pieces) c.in_ok-word.word.now (left c.in_ok-word.rest) c.in_ok-word.ensures word) c.program_at.ensures.exact
