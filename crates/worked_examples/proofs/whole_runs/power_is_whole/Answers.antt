-- Each line passes; the opening, one numbered turn that begins with off, on, and a turn of the rounds.
use Rattle.std.proofs.Common.{refl, rules, arith, lit<, subst, ◌<◌, ℕ, zero, suc, List, [], inr, take, drop, get_or}
use Rattle.flat_policy.specs.declared.journal.Line.{Line}
use Rattle.flat_policy.specs.Policy.Machine.{GRun, flat_at}
use Rattle.flat_policy.specs.Policy.Setup.{actor_count, cluster_count}
use Rattle.flat_policy.specs.Runs.Histories.{CRun, YRun, entries_of}
use Rattle.flat_policy.specs.Runs.Interleaving.{lines_of_actor}
use Rattle.flat_policy.specs.Runs.WholeRuns.{EndsAmong}
use Rattle.flat_policy.specs.Runs.Worker.{Worked}
use Rattle.worked_examples.proofs.SameFlat.{same_flat_is}
use Rattle.worked_examples.proofs.Told.{cluster_by_tests, flat_after_all, flat_of, own_by_tests, yard_by_tests}
use Rattle.worked_examples.proofs.Whole.{only_member}
use Rattle.worked_examples.specs.Examples.Logs.{journal_of, state_of, yard_journal_of}
use Rattle.worked_examples.specs.Examples.Merging.{asks_yard}
use Rattle.worked_examples.specs.Examples.Powers.{power_log, power_program, power_run, power_said, power_yard}
use Rattle.worked_examples.specs.Rows.Run.{one_cluster}
use Rattle.worked_examples.proofs.whole_runs.power_is_whole.Goals as goal

-- a line of the log
abbrev at : ℕ → Line
at k = get_or power_log k asks_yard

-- the lines of a turn
abbrev part : ℕ → ℕ → List Line
part from count = take count (drop from power_log)

worked : Worked power_run 0 power_log
worked = record {
  own = own_by_tests one_cluster 0 power_log (search rules);
  rule = record {
    opening = part 0 3;
    numbered = part 3 4;
    on = part 7 1;
    rounds = drop 8 power_log;
    round_count = 1;
    whole = refl;
    opens = (part 0 3, [], refl, (refl, search rules, record { looks = []; aimed = at 1; enters = at 2; cluster = 0; whole = refl; each_look = refl; aim_line = (refl, refl); enter_line = refl }), refl);
    turns = (part 3 4, [], refl, (refl, inr (refl, (refl, inr (at 6, refl, (refl, refl))))), refl);
    turns_on = (at 7, refl, refl);
    in_rounds = (drop 8 power_log, [], refl, inr (refl, (refl, (refl, refl, refl))), refl);
  };
}

by_actor : (a : ℕ) → a < actor_count one_cluster → Worked power_run a (lines_of_actor a power_log)
by_actor zero h = worked
by_actor (suc a) h = absurd (omega (arith, h))

in_cluster : (c : ℕ) → c < cluster_count one_cluster → CRun one_cluster c (journal_of one_cluster c power_log) (flat_at (state_of one_cluster power_said) c)
in_cluster zero h = cluster_by_tests one_cluster 0 (journal_of one_cluster 0 power_log) (flat_at (state_of one_cluster power_said) 0) (search rules) (same_flat_is (flat_at (state_of one_cluster power_said) 0) (flat_after_all one_cluster 0 (flat_of one_cluster) (journal_of one_cluster 0 power_log)) (search rules))
in_cluster (suc c) h = absurd (omega (arith, h))

ends : EndsAmong power_log power_program
ends = record { line = at 11; member = (11, lit< tt, refl); ends = refl; finished = (refl, refl) }

in_machine : GRun one_cluster (entries_of power_log) (state_of one_cluster power_said)
in_machine = (refl, refl, (refl, refl, (refl, refl, (refl, refl, (refl, refl, (refl, refl, (refl, refl, (refl, refl, (refl, refl, (refl, refl, (refl, refl, (refl, refl, refl))))))))))))

in_the_yard : YRun one_cluster (yard_journal_of one_cluster power_log) power_yard
in_the_yard = yard_by_tests one_cluster (yard_journal_of one_cluster power_log) power_yard (search rules) refl

pub returns : goal.returns
returns c = record {
  machine = in_machine;
  clusters = in_cluster;
  in_yard = in_the_yard;
  actors = by_actor;
  programs = λ p has. subst (EndsAmong power_log) (only_member power_program p has) ends;
}
