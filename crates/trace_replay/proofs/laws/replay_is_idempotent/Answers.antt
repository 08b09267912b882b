use Rattle.trace_replay.proofs.ReplayedAgain.{replayed_again}
use Rattle.trace_replay.proofs.laws.replay_is_idempotent.Goals as goal

pub returns : goal.returns
returns c =
    replayed_again
    (record { stand = c.setups_stand_in_lines.ensures; read = c.setup_lines_read_again.ensures; built = c.read_setups_are_built.ensures })
    (record {
      sound = c.runs_stay_sound.ensures;
      within = c.runs_stay_within.ensures;
      live = c.blocked_are_live.ensures;
      texts = c.replies_have_texts.ensures;
      read = c.answers_read_again.ensures;
      stand = c.answers_stand_in_lines.ensures;
    })
