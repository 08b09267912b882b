use Rattle.std.proofs.Common.{subst, sym}
use Rattle.flat_policy.specs.Texts.Streams.{setup_limit}
use Rattle.ports.specs.declared.line_feed.Fed.TheVariants as fed
use Rattle.trace_replay.specs.Firsts.{ReadsSetup, StopsFirst}
use Rattle.trace_replay.proofs.Putting.{if_err}
use Rattle.trace_replay.proofs.Starting.{first_end, first_err, first_fault, first_long, first_ok, first_over, first_quiet, first_unfinished, first_unlike, fresh}
use Rattle.trace_replay.proofs.Turns.{Fetched}
use Rattle.trace_replay.proofs.replay.first_line.Goals as goal

pub returns-in-Line-clause-ok : goal.returns-in-Line-clause-ok
returns-in-Line-clause-ok g c =
    let fetched : Fetched setup_limit c.args.feed.now c.next.new.self (g.S.Source.left c.args.source.now) (g.S.Source.left c.next.new.source) (g.S.Source.faults c.args.source.now) (g.S.Source.faults c.next.new.source) fed.Line =
    record { fed = c.in-Line.ensures.answer; bytes = c.in-Line.ensures.bytes; keeps = c.in-Line.ensures.keeps; passed = c.in-Line.ensures.passed; ahead = c.in-Line.ensures.ahead; most = c.in-Line.ensures.most } in
    let f : Fetched setup_limit fresh c.next.new.self (g.S.Source.left c.args.source.now) (g.S.Source.left c.next.new.source) (g.S.Source.faults c.args.source.now) (g.S.Source.faults c.next.new.source) fed.Line =
    subst (λ old. Fetched setup_limit old c.next.new.self (g.S.Source.left c.args.source.now) (g.S.Source.left c.next.new.source) (g.S.Source.faults c.args.source.now) (g.S.Source.faults c.next.new.source) fed.Line) c.requires.fresh fetched in
    first_ok c.setup_of.result c.next.new.self (g.S.Source.left c.args.source.now) (g.S.Source.left c.next.new.source) (g.S.Source.faults c.args.source.now) (g.S.Source.faults c.next.new.source) f (subst (λ line. ReadsSetup line c.setup_of.result) c.line.ensures c.setup_of.ensures)

pub returns-in-Line-clause-err : goal.returns-in-Line-clause-err
returns-in-Line-clause-err g c =
    let fetched : Fetched setup_limit c.args.feed.now c.next.new.self (g.S.Source.left c.args.source.now) (g.S.Source.left c.next.new.source) (g.S.Source.faults c.args.source.now) (g.S.Source.faults c.next.new.source) fed.Line =
    record { fed = c.in-Line.ensures.answer; bytes = c.in-Line.ensures.bytes; keeps = c.in-Line.ensures.keeps; passed = c.in-Line.ensures.passed; ahead = c.in-Line.ensures.ahead; most = c.in-Line.ensures.most } in
    let f : Fetched setup_limit fresh c.next.new.self (g.S.Source.left c.args.source.now) (g.S.Source.left c.next.new.source) (g.S.Source.faults c.args.source.now) (g.S.Source.faults c.next.new.source) fed.Line =
    subst (λ old. Fetched setup_limit old c.next.new.self (g.S.Source.left c.args.source.now) (g.S.Source.left c.next.new.source) (g.S.Source.faults c.args.source.now) (g.S.Source.faults c.next.new.source) fed.Line) c.requires.fresh fetched in
    first_err c.setup_of.result c.next.new.self (g.S.Source.left c.args.source.now) (g.S.Source.left c.next.new.source) (g.S.Source.faults c.args.source.now) (g.S.Source.faults c.next.new.source) f (subst (λ line. ReadsSetup line c.setup_of.result) c.line.ensures c.setup_of.ensures)

pub returns-in-Line-clause-cause : goal.returns-in-Line-clause-cause
returns-in-Line-clause-cause g c =
    if_err c.setup_of.result (λ status quiet. quiet.0)
    (first_quiet c.setup_of.result c.line.result.now (g.S.Source.faults c.args.source.now) (g.S.Source.faults c.next.new.source) (g.S.Source.is_failing c.next.new.source) c.setup_of.ensures)

pub returns-in-Line-clause-exact : goal.returns-in-Line-clause-exact
returns-in-Line-clause-exact g c exact =
    if_err c.setup_of.result (λ status quiet. quiet.1 (c.in-Line.ensures.exact exact))
    (first_quiet c.setup_of.result c.line.result.now (g.S.Source.faults c.args.source.now) (g.S.Source.faults c.next.new.source) (g.S.Source.is_failing c.next.new.source) c.setup_of.ensures)

pub returns-in-Long-clause-err : goal.returns-in-Long-clause-err
returns-in-Long-clause-err g c =
    let fetched : Fetched setup_limit c.args.feed.now c.next.new.self (g.S.Source.left c.args.source.now) (g.S.Source.left c.next.new.source) (g.S.Source.faults c.args.source.now) (g.S.Source.faults c.next.new.source) fed.Long =
    record { fed = c.in-Long.ensures.answer; bytes = c.in-Long.ensures.bytes; keeps = c.in-Long.ensures.keeps; passed = c.in-Long.ensures.passed; ahead = c.in-Long.ensures.ahead; most = c.in-Long.ensures.most } in
    let f : Fetched setup_limit fresh c.next.new.self (g.S.Source.left c.args.source.now) (g.S.Source.left c.next.new.source) (g.S.Source.faults c.args.source.now) (g.S.Source.faults c.next.new.source) fed.Long =
    subst (λ old. Fetched setup_limit old c.next.new.self (g.S.Source.left c.args.source.now) (g.S.Source.left c.next.new.source) (g.S.Source.faults c.args.source.now) (g.S.Source.faults c.next.new.source) fed.Long) c.requires.fresh fetched in
    subst (StopsFirst (g.S.Source.left c.args.source.now) (g.S.Source.left c.next.new.source)) (sym c.bad_setup.ensures) (first_long c.next.new.self (g.S.Source.left c.args.source.now) (g.S.Source.left c.next.new.source) (g.S.Source.faults c.args.source.now) (g.S.Source.faults c.next.new.source) f)

pub returns-in-Unfinished-clause-err : goal.returns-in-Unfinished-clause-err
returns-in-Unfinished-clause-err g c =
    let fetched : Fetched setup_limit c.args.feed.now c.next.new.self (g.S.Source.left c.args.source.now) (g.S.Source.left c.next.new.source) (g.S.Source.faults c.args.source.now) (g.S.Source.faults c.next.new.source) fed.Unfinished =
    record { fed = c.in-Unfinished.ensures.answer; bytes = c.in-Unfinished.ensures.bytes; keeps = c.in-Unfinished.ensures.keeps; passed = c.in-Unfinished.ensures.passed; ahead = c.in-Unfinished.ensures.ahead; most = c.in-Unfinished.ensures.most } in
    let f : Fetched setup_limit fresh c.next.new.self (g.S.Source.left c.args.source.now) (g.S.Source.left c.next.new.source) (g.S.Source.faults c.args.source.now) (g.S.Source.faults c.next.new.source) fed.Unfinished =
    subst (λ old. Fetched setup_limit old c.next.new.self (g.S.Source.left c.args.source.now) (g.S.Source.left c.next.new.source) (g.S.Source.faults c.args.source.now) (g.S.Source.faults c.next.new.source) fed.Unfinished) c.requires.fresh fetched in
    subst (StopsFirst (g.S.Source.left c.args.source.now) (g.S.Source.left c.next.new.source)) (sym c.bad_setup-in-Unfinished.ensures) (first_unfinished c.next.new.self (g.S.Source.left c.args.source.now) (g.S.Source.left c.next.new.source) (g.S.Source.faults c.args.source.now) (g.S.Source.faults c.next.new.source) f)

pub returns-in-End-clause-err : goal.returns-in-End-clause-err
returns-in-End-clause-err g c =
    let fetched : Fetched setup_limit c.args.feed.now c.next.new.self (g.S.Source.left c.args.source.now) (g.S.Source.left c.next.new.source) (g.S.Source.faults c.args.source.now) (g.S.Source.faults c.next.new.source) fed.End =
    record { fed = c.in-End.ensures.answer; bytes = c.in-End.ensures.bytes; keeps = c.in-End.ensures.keeps; passed = c.in-End.ensures.passed; ahead = c.in-End.ensures.ahead; most = c.in-End.ensures.most } in
    let f : Fetched setup_limit fresh c.next.new.self (g.S.Source.left c.args.source.now) (g.S.Source.left c.next.new.source) (g.S.Source.faults c.args.source.now) (g.S.Source.faults c.next.new.source) fed.End =
    subst (λ old. Fetched setup_limit old c.next.new.self (g.S.Source.left c.args.source.now) (g.S.Source.left c.next.new.source) (g.S.Source.faults c.args.source.now) (g.S.Source.faults c.next.new.source) fed.End) c.requires.fresh fetched in
    subst (StopsFirst (g.S.Source.left c.args.source.now) (g.S.Source.left c.next.new.source)) (sym c.bad_setup-in-End.ensures) (first_end c.next.new.self (g.S.Source.left c.args.source.now) (g.S.Source.left c.next.new.source) (g.S.Source.faults c.args.source.now) (g.S.Source.faults c.next.new.source) f)

pub returns-in-Fault-clause-err : goal.returns-in-Fault-clause-err
returns-in-Fault-clause-err g c =
    let fetched : Fetched setup_limit c.args.feed.now c.next.new.self (g.S.Source.left c.args.source.now) (g.S.Source.left c.next.new.source) (g.S.Source.faults c.args.source.now) (g.S.Source.faults c.next.new.source) fed.Fault =
    record { fed = c.in-Fault.ensures.answer; bytes = c.in-Fault.ensures.bytes; keeps = c.in-Fault.ensures.keeps; passed = c.in-Fault.ensures.passed; ahead = c.in-Fault.ensures.ahead; most = c.in-Fault.ensures.most } in
    let f : Fetched setup_limit fresh c.next.new.self (g.S.Source.left c.args.source.now) (g.S.Source.left c.next.new.source) (g.S.Source.faults c.args.source.now) (g.S.Source.faults c.next.new.source) fed.Fault =
    subst (λ old. Fetched setup_limit old c.next.new.self (g.S.Source.left c.args.source.now) (g.S.Source.left c.next.new.source) (g.S.Source.faults c.args.source.now) (g.S.Source.faults c.next.new.source) fed.Fault) c.requires.fresh fetched in
    first_fault c.next.new.self (g.S.Source.left c.args.source.now) (g.S.Source.left c.next.new.source) (g.S.Source.faults c.args.source.now) (g.S.Source.faults c.next.new.source) f

pub returns-in-Over-clause-err : goal.returns-in-Over-clause-err
returns-in-Over-clause-err g c =
    let fetched : Fetched setup_limit c.args.feed.now c.next.new.self (g.S.Source.left c.args.source.now) (g.S.Source.left c.next.new.source) (g.S.Source.faults c.args.source.now) (g.S.Source.faults c.next.new.source) fed.Over =
    record { fed = c.in-Over.ensures.answer; bytes = c.in-Over.ensures.bytes; keeps = c.in-Over.ensures.keeps; passed = c.in-Over.ensures.passed; ahead = c.in-Over.ensures.ahead; most = c.in-Over.ensures.most } in
    let f : Fetched setup_limit fresh c.next.new.self (g.S.Source.left c.args.source.now) (g.S.Source.left c.next.new.source) (g.S.Source.faults c.args.source.now) (g.S.Source.faults c.next.new.source) fed.Over =
    subst (λ old. Fetched setup_limit old c.next.new.self (g.S.Source.left c.args.source.now) (g.S.Source.left c.next.new.source) (g.S.Source.faults c.args.source.now) (g.S.Source.faults c.next.new.source) fed.Over) c.requires.fresh fetched in
    first_over c.next.new.self (g.S.Source.left c.args.source.now) (g.S.Source.left c.next.new.source) (g.S.Source.faults c.args.source.now) (g.S.Source.faults c.next.new.source) f

pub returns-in-Line-clause-unlike : goal.returns-in-Line-clause-unlike
returns-in-Line-clause-unlike g c = first_unlike c.setup_of.result c.line.result.now c.setup_of.ensures
