use Rattle.std.proofs.Common.{inl, inr, sym, subst}
use Rattle.flat_policy.specs.Texts.Lines.{line_limit}
use Rattle.ports.specs.declared.line_feed.Fed.TheVariants as fed
use Rattle.trace_replay.specs.Traces.{Answers, StopsLine}
use Rattle.trace_replay.specs.UnderWay.{IsStopped}
use Rattle.trace_replay.proofs.Putting.{if_err, on_ok}
use Rattle.trace_replay.proofs.Turns.{Fetched, at_end_met, at_fault, at_long, at_over, at_unfinished, given_line, line_ends, never_put, never_taken, none_at_hand, turn_goes, turn_stops}
use Rattle.trace_replay.proofs.lines.answer_next.Goals as goal

pub returns-in-Line-clause-ok : goal.returns-in-Line-clause-ok
returns-in-Line-clause-ok g c =
    let fetched : Fetched line_limit c.args.feed.now c.next.new.self (g.S.Source.left c.args.source.now) (g.S.Source.left c.next.new.source) (g.S.Source.faults c.args.source.now) (g.S.Source.faults c.next.new.source) fed.Line =
    record { fed = c.in-Line.ensures.answer; bytes = c.in-Line.ensures.bytes; keeps = c.in-Line.ensures.keeps; passed = c.in-Line.ensures.passed; ahead = c.in-Line.ensures.ahead; most = c.in-Line.ensures.most } in
    on_ok c.answer_line.result
    (λ answers start begun taken way.
    turn_goes start begun c.args.trace.now c.answer_line.new.self c.args.feed.now c.next.new.self (g.S.Source.left c.args.source.now) (g.S.Source.left c.next.new.source) taken
    (given_line start begun c.args.trace.now c.args.feed.now c.next.new.self (g.S.Source.left c.args.source.now) (g.S.Source.left c.next.new.source) taken (g.S.Source.faults c.args.source.now) (g.S.Source.faults c.next.new.source) fetched way)
    (subst (Answers c.args.trace.now c.answer_line.new.self) c.line.ensures answers))
    c.answer_line.ensures.ok

pub returns-in-Line-clause-err : goal.returns-in-Line-clause-err
returns-in-Line-clause-err g c =
    let fetched : Fetched line_limit c.args.feed.now c.next.new.self (g.S.Source.left c.args.source.now) (g.S.Source.left c.next.new.source) (g.S.Source.faults c.args.source.now) (g.S.Source.faults c.next.new.source) fed.Line =
    record { fed = c.in-Line.ensures.answer; bytes = c.in-Line.ensures.bytes; keeps = c.in-Line.ensures.keeps; passed = c.in-Line.ensures.passed; ahead = c.in-Line.ensures.ahead; most = c.in-Line.ensures.most } in
    if_err c.answer_line.result
    (λ status stops start begun taken way.
    turn_stops start begun c.args.trace.now c.args.feed.now c.next.new.self (g.S.Source.left c.args.source.now) (g.S.Source.left c.next.new.source) taken c.answer_line.new.self.page status
    (given_line start begun c.args.trace.now c.args.feed.now c.next.new.self (g.S.Source.left c.args.source.now) (g.S.Source.left c.next.new.source) taken (g.S.Source.faults c.args.source.now) (g.S.Source.faults c.next.new.source) fetched way)
    stops.1.page
    (subst (λ line. StopsLine c.args.trace.now line status) c.line.ensures stops.0))
    c.answer_line.ensures.err

pub returns-in-Line-clause-machine : goal.returns-in-Line-clause-machine
returns-in-Line-clause-machine g c =
    line_ends c.answer_line.result c.args.trace.now c.answer_line.new.self c.line.result.now c.requires.ready c.answer_line.ensures.ok c.answer_line.ensures.err

pub returns-in-Line-clause-unlike : goal.returns-in-Line-clause-unlike
returns-in-Line-clause-unlike g c = if_err c.answer_line.result (λ status stops. never_put c.args.trace.now c.line.result.now status stops.0) c.answer_line.ensures.err

pub returns-in-Line-clause-waiting : goal.returns-in-Line-clause-waiting
returns-in-Line-clause-waiting g c =
    if_err c.answer_line.result (λ status stops same. absurd (never_taken c.args.trace.now c.line.result.now status stops.0 same)) c.answer_line.ensures.err

pub returns-in-Long-clause-err : goal.returns-in-Long-clause-err
returns-in-Long-clause-err g c start begun taken way =
    let fetched : Fetched line_limit c.args.feed.now c.next.new.self (g.S.Source.left c.args.source.now) (g.S.Source.left c.next.new.source) (g.S.Source.faults c.args.source.now) (g.S.Source.faults c.next.new.source) fed.Long =
    record { fed = c.in-Long.ensures.answer; bytes = c.in-Long.ensures.bytes; keeps = c.in-Long.ensures.keeps; passed = c.in-Long.ensures.passed; ahead = c.in-Long.ensures.ahead; most = c.in-Long.ensures.most } in
    subst (IsStopped start begun c.args.trace.now.page (g.S.Source.left c.next.new.source) taken) (sym c.bad_line.ensures) (at_long start begun c.args.trace.now c.args.feed.now c.next.new.self (g.S.Source.left c.args.source.now) (g.S.Source.left c.next.new.source) taken (g.S.Source.faults c.args.source.now) (g.S.Source.faults c.next.new.source) fetched way)

pub returns-in-Unfinished-clause-err : goal.returns-in-Unfinished-clause-err
returns-in-Unfinished-clause-err g c start begun taken way =
    let fetched : Fetched line_limit c.args.feed.now c.next.new.self (g.S.Source.left c.args.source.now) (g.S.Source.left c.next.new.source) (g.S.Source.faults c.args.source.now) (g.S.Source.faults c.next.new.source) fed.Unfinished =
    record { fed = c.in-Unfinished.ensures.answer; bytes = c.in-Unfinished.ensures.bytes; keeps = c.in-Unfinished.ensures.keeps; passed = c.in-Unfinished.ensures.passed; ahead = c.in-Unfinished.ensures.ahead; most = c.in-Unfinished.ensures.most } in
    subst (IsStopped start begun c.args.trace.now.page (g.S.Source.left c.next.new.source) taken) (sym c.bad_line-in-Unfinished.ensures) (at_unfinished start begun c.args.trace.now c.args.feed.now c.next.new.self (g.S.Source.left c.args.source.now) (g.S.Source.left c.next.new.source) taken (g.S.Source.faults c.args.source.now) (g.S.Source.faults c.next.new.source) fetched way)

pub returns-in-End-clause-err : goal.returns-in-End-clause-err
returns-in-End-clause-err g c start begun taken way =
    let fetched : Fetched line_limit c.args.feed.now c.next.new.self (g.S.Source.left c.args.source.now) (g.S.Source.left c.next.new.source) (g.S.Source.faults c.args.source.now) (g.S.Source.faults c.next.new.source) fed.End =
    record { fed = c.in-End.ensures.answer; bytes = c.in-End.ensures.bytes; keeps = c.in-End.ensures.keeps; passed = c.in-End.ensures.passed; ahead = c.in-End.ensures.ahead; most = c.in-End.ensures.most } in
    at_end_met start begun c.args.trace.now c.args.feed.now c.next.new.self (g.S.Source.left c.args.source.now) (g.S.Source.left c.next.new.source) taken (g.S.Source.faults c.args.source.now) (g.S.Source.faults c.next.new.source) fetched way

pub returns-in-Fault-clause-err : goal.returns-in-Fault-clause-err
returns-in-Fault-clause-err g c start begun taken way =
    let fetched : Fetched line_limit c.args.feed.now c.next.new.self (g.S.Source.left c.args.source.now) (g.S.Source.left c.next.new.source) (g.S.Source.faults c.args.source.now) (g.S.Source.faults c.next.new.source) fed.Fault =
    record { fed = c.in-Fault.ensures.answer; bytes = c.in-Fault.ensures.bytes; keeps = c.in-Fault.ensures.keeps; passed = c.in-Fault.ensures.passed; ahead = c.in-Fault.ensures.ahead; most = c.in-Fault.ensures.most } in
    at_fault start begun c.args.trace.now c.args.feed.now c.next.new.self (g.S.Source.left c.args.source.now) (g.S.Source.left c.next.new.source) taken (g.S.Source.faults c.args.source.now) (g.S.Source.faults c.next.new.source) fetched way

pub returns-in-Over-clause-err : goal.returns-in-Over-clause-err
returns-in-Over-clause-err g c start begun taken way =
    let fetched : Fetched line_limit c.args.feed.now c.next.new.self (g.S.Source.left c.args.source.now) (g.S.Source.left c.next.new.source) (g.S.Source.faults c.args.source.now) (g.S.Source.faults c.next.new.source) fed.Over =
    record { fed = c.in-Over.ensures.answer; bytes = c.in-Over.ensures.bytes; keeps = c.in-Over.ensures.keeps; passed = c.in-Over.ensures.passed; ahead = c.in-Over.ensures.ahead; most = c.in-Over.ensures.most } in
    at_over start begun c.args.trace.now c.args.feed.now c.next.new.self (g.S.Source.left c.args.source.now) (g.S.Source.left c.next.new.source) taken (g.S.Source.faults c.args.source.now) (g.S.Source.faults c.next.new.source) fetched way

pub returns-in-Fault-clause-waiting : goal.returns-in-Fault-clause-waiting
returns-in-Fault-clause-waiting g c same =
    let fetched : Fetched line_limit c.args.feed.now c.next.new.self (g.S.Source.left c.args.source.now) (g.S.Source.left c.next.new.source) (g.S.Source.faults c.args.source.now) (g.S.Source.faults c.next.new.source) fed.Fault =
    record { fed = c.in-Fault.ensures.answer; bytes = c.in-Fault.ensures.bytes; keeps = c.in-Fault.ensures.keeps; passed = c.in-Fault.ensures.passed; ahead = c.in-Fault.ensures.ahead; most = c.in-Fault.ensures.most } in
    elim c.requires.at_hand [
      | inl empty ↦ empty
      | inr hand ↦ absurd (none_at_hand c.args.feed.now c.next.new.self (g.S.Source.left c.args.source.now) (g.S.Source.left c.next.new.source) (g.S.Source.faults c.args.source.now) (g.S.Source.faults c.next.new.source) fetched hand)
    ]
