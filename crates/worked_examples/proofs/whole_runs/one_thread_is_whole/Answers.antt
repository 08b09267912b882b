-- Each line passes; the opening, one numbered turn, and three turns of the rounds.
use Rattle.std.proofs.Common.{refl, rules, arith, lit<, subst, ◌<◌, ℕ, zero, suc, List, [], inl, inr, take, drop, get_or}
use Rattle.flat_policy.specs.declared.journal.Line.{Line}
use Rattle.flat_policy.specs.Policy.Machine.{GRun, flat_at}
use Rattle.flat_policy.specs.Policy.Setup.{actor_count, cluster_count}
use Rattle.flat_policy.specs.Runs.Histories.{CRun, YRun, entries_of}
use Rattle.flat_policy.specs.Runs.Interleaving.{lines_of_actor}
use Rattle.flat_policy.specs.Runs.WholeRuns.{EndsAmong}
use Rattle.flat_policy.specs.Runs.Worker.{Worked}
use Rattle.worked_examples.proofs.SameFlat.{same_flat_is}
use Rattle.worked_examples.proofs.Told.{cluster_by_tests, flat_after_all, flat_of, own_by_tests, yard_by_tests}
use Rattle.worked_examples.proofs.Whole.{only_member}
use Rattle.worked_examples.specs.Examples.Logs.{journal_of, state_of}
use Rattle.worked_examples.specs.Examples.Merging.{select_of_0}
use Rattle.worked_examples.specs.Examples.OneThread.{one_journal, one_log, one_program, one_run, one_thread_said, one_yard, one_yard_journal}
use Rattle.worked_examples.specs.Rows.Run.{one_cluster}
use Rattle.worked_examples.proofs.whole_runs.one_thread_is_whole.Goals as goal

-- a line of the log
abbrev at : ℕ → Line
at k = get_or one_log k select_of_0

-- the lines of a turn
abbrev part : ℕ → ℕ → List Line
part from count = take count (drop from one_log)

worked : Worked one_run 0 one_log
worked = record {
  own = own_by_tests one_cluster 0 one_log (search rules);
  rule = record {
    opening = part 0 3;
    numbered = part 3 4;
    on = [];
    rounds = drop 7 one_log;
    round_count = 3;
    whole = refl;
    opens = (part 0 3, [], refl, (refl, search rules, record { looks = []; aimed = at 1; enters = at 2; cluster = 0; whole = refl; each_look = refl; aim_line = (refl, refl); enter_line = refl }), refl);
    turns = (part 3 4, [], refl, inr (refl, (refl, (refl, refl, (refl, refl)))), refl);
    turns_on = refl;
    in_rounds = (
      part 7 5,
      drop 12 one_log,
      refl,
      inr (refl, (refl, inl (1, refl, record { looks = []; aimed = at 10; enters = at 11; cluster = 0; whole = refl; each_look = refl; aim_line = (refl, refl); enter_line = refl }))),
      (
        part 12 5,
        drop 17 one_log,
        refl,
        inr (refl, (refl, (refl, refl, record { looks = []; aimed = at 15; enters = at 16; cluster = 0; whole = refl; each_look = refl; aim_line = (refl, refl); enter_line = refl }))),
        (part 17 4, [], refl, inr (refl, (refl, (refl, refl, refl))), refl),
      ),
    );
  };
}

in_cluster : (c : ℕ) → c < cluster_count one_cluster → CRun one_cluster c (journal_of one_cluster c one_log) (flat_at (state_of one_cluster one_thread_said) c)
in_cluster zero h = cluster_by_tests one_cluster 0 one_journal (flat_at (state_of one_cluster one_thread_said) 0) (search rules) (same_flat_is (flat_at (state_of one_cluster one_thread_said) 0) (flat_after_all one_cluster 0 (flat_of one_cluster) one_journal) (search rules))
in_cluster (suc c) h = absurd (omega (arith, h))

by_actor : (a : ℕ) → a < actor_count one_cluster → Worked one_run a (lines_of_actor a one_log)
by_actor zero h = worked
by_actor (suc a) h = absurd (omega (arith, h))

ends : EndsAmong one_log one_program
ends = record { line = at 20; member = (20, lit< tt, refl); ends = refl; finished = (refl, refl) }

in_machine : GRun one_cluster (entries_of one_log) (state_of one_cluster one_thread_said)
in_machine = (refl, refl, (refl, refl, (refl, refl, (refl, refl, (refl, refl, (refl, refl, (refl, refl, (refl, refl, (refl, refl, (refl, refl, (refl, refl, (refl, refl, (refl, refl, (refl, refl, (refl, refl, (refl, refl, (refl, refl, (refl, refl, (refl, refl, (refl, refl, (refl, refl, refl)))))))))))))))))))))

in_the_yard : YRun one_cluster one_yard_journal one_yard
in_the_yard = yard_by_tests one_cluster one_yard_journal one_yard (search rules) refl

pub returns : goal.returns
returns c = record {
  machine = in_machine;
  clusters = in_cluster;
  in_yard = in_the_yard;
  actors = by_actor;
  programs = λ p has. subst (EndsAmong one_log) (only_member one_program p has) ends;
}
