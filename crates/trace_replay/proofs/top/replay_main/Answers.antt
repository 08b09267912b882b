use Rattle.trace_replay.proofs.Whole.{if_told, refused_replay}
use Rattle.trace_replay.proofs.top.replay_main.Goals as goal

pub returns-in-Ok-Replay-clause-whole : goal.returns-in-Ok-Replay-clause-whole
returns-in-Ok-Replay-clause-whole g c asked =
    if_told (g.S.Source.left c.args.source.now) (g.S.Source.left c.replay.new.source) (g.K.Sink.taken c.args.sink.now) (g.K.Sink.taken c.replay.new.sink) c.replay.result c.replay.ensures.ended

pub returns-in-Err-clause-replays : goal.returns-in-Err-clause-replays
returns-in-Err-clause-replays g c asked =
    refused_replay _ c.in-Err.status (g.S.Source.left c.args.source.now) (g.K.Sink.taken c.args.sink.now) c.in-Err.ensures.err asked
