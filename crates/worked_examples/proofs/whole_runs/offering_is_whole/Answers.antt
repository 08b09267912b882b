-- Each line passes; the opening and a turn of actor 0, and a turn of actor 1.
use Rattle.std.proofs.Common.{refl, rules, arith, lit<, subst, ◌<◌, ℕ, zero, suc, [], ◌∷◌, inr, take, drop, get_or}
use Rattle.flat_policy.specs.declared.journal.Line.{Line}
use Rattle.flat_policy.specs.Policy.Machine.{GRun, flat_at}
use Rattle.flat_policy.specs.Policy.Setup.{actor_count, cluster_count}
use Rattle.flat_policy.specs.Runs.Histories.{CRun, YRun, entries_of}
use Rattle.flat_policy.specs.Runs.Interleaving.{lines_of_actor}
use Rattle.flat_policy.specs.Runs.WholeRuns.{EndsAmong}
use Rattle.flat_policy.specs.Runs.Worker.{Worked}
use Rattle.worked_examples.proofs.SameFlat.{same_flat_is}
use Rattle.worked_examples.proofs.Told.{cluster_by_tests, flat_after_all, flat_of, own_by_tests, yard_by_tests}
use Rattle.worked_examples.proofs.Whole.{only_member}
use Rattle.worked_examples.specs.Examples.Logs.{journal_of, state_of, yard_journal_of}
use Rattle.worked_examples.specs.Examples.Merging.{asks_yard}
use Rattle.worked_examples.specs.Examples.Offering.{offering_actor, offering_log, offering_program, offering_run, offering_said, offering_yard}
use Rattle.worked_examples.specs.Rows.Run.{two_clusters}
use Rattle.worked_examples.proofs.whole_runs.offering_is_whole.Goals as goal

-- a line of the log of actor 0
abbrev at : ℕ → Line
at k = get_or (offering_actor 0) k asks_yard

worked_by_0 : Worked offering_run 0 (offering_actor 0)
worked_by_0 = record {
  own = own_by_tests two_clusters 0 (offering_actor 0) (search rules);
  rule = record {
    opening = take 5 (offering_actor 0);
    numbered = drop 5 (offering_actor 0);
    on = [];
    rounds = [];
    round_count = 0;
    whole = refl;
    opens = (
      take 5 (offering_actor 0),
      [],
      refl,
      (refl, search rules, record { looks = at 1 ∷ at 2 ∷ []; aimed = at 3; enters = at 4; cluster = 0; whole = refl; each_look = refl; aim_line = (refl, refl); enter_line = refl }),
      refl,
    );
    turns = (drop 5 (offering_actor 0), [], refl, inr (refl, (refl, (refl, inr (at 8, refl, (refl, refl))))), refl);
    turns_on = refl;
    in_rounds = refl;
  };
}

worked_by_1 : Worked offering_run 1 (offering_actor 1)
worked_by_1 = record {
  own = own_by_tests two_clusters 1 (offering_actor 1) (search rules);
  rule = record {
    opening = [];
    numbered = offering_actor 1;
    on = [];
    rounds = [];
    round_count = 0;
    whole = refl;
    opens = refl;
    turns = (offering_actor 1, [], refl, inr (refl, (refl, (refl, (refl, refl, refl)))), refl);
    turns_on = refl;
    in_rounds = refl;
  };
}

by_actor : (a : ℕ) → a < actor_count two_clusters → Worked offering_run a (lines_of_actor a offering_log)
by_actor zero h = worked_by_0
by_actor (suc zero) h = worked_by_1
by_actor (suc (suc a)) h = absurd (omega (arith, h))

in_cluster : (c : ℕ) → c < cluster_count two_clusters → CRun two_clusters c (journal_of two_clusters c offering_log) (flat_at (state_of two_clusters offering_said) c)
in_cluster zero h = cluster_by_tests two_clusters 0 (journal_of two_clusters 0 offering_log) (flat_at (state_of two_clusters offering_said) 0) (search rules) (same_flat_is (flat_at (state_of two_clusters offering_said) 0) (flat_after_all two_clusters 0 (flat_of two_clusters) (journal_of two_clusters 0 offering_log)) (search rules))
in_cluster (suc zero) h = cluster_by_tests two_clusters 1 (journal_of two_clusters 1 offering_log) (flat_at (state_of two_clusters offering_said) 1) (search rules) (same_flat_is (flat_at (state_of two_clusters offering_said) 1) (flat_after_all two_clusters 1 (flat_of two_clusters) (journal_of two_clusters 1 offering_log)) (search rules))
in_cluster (suc (suc c)) h = absurd (omega (arith, h))

ends : EndsAmong offering_log offering_program
ends = record { line = get_or offering_log 13 asks_yard; member = (13, lit< tt, refl); ends = refl; finished = (refl, refl) }

in_machine : GRun two_clusters (entries_of offering_log) (state_of two_clusters offering_said)
in_machine = (refl, refl, (refl, refl, (refl, refl, (refl, refl, (refl, refl, (refl, refl, (refl, refl, (refl, refl, (refl, refl, (refl, refl, (refl, refl, (refl, refl, (refl, refl, (refl, refl, refl))))))))))))))

in_the_yard : YRun two_clusters (yard_journal_of two_clusters offering_log) offering_yard
in_the_yard = yard_by_tests two_clusters (yard_journal_of two_clusters offering_log) offering_yard (search rules) refl

pub returns : goal.returns
returns c = record {
  machine = in_machine;
  clusters = in_cluster;
  in_yard = in_the_yard;
  actors = by_actor;
  programs = λ p has. subst (EndsAmong offering_log) (only_member offering_program p has) ends;
}
