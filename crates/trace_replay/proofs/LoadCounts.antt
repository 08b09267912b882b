-- A load counts at most two for each step.
use Rattle.std.proofs.Common.{ℕ, zero, suc, ◌+◌, ◌*◌, ◌≤◌, arith}
use Rattle.sched_base.specs.declared.Act.{Act}
use Rattle.sched_base.specs.declared.Act.TheVariants as acts
use Rattle.sched_base.specs.declared.Answer.{Answer}
use Rattle.sched_base.specs.declared.Answer.TheVariants as answers
use Rattle.flat_policy.specs.Policy.Machine.{reply}
use Rattle.flat_policy.specs.Runs.LoadTrace.{LoadState, Tally, got_one, load_after, load_setup, step_of_load, tallied}
use Rattle.trace_replay.specs.LoadsSoFar.{count_total}

-- an answer gets at most one thread
got_few : (answer : Answer) → got_one answer ≤ 1
got_few answers.Yes = omega arith
got_few (answers.Pri p) = omega arith
got_few (answers.Got name) = omega arith
got_few answers.Empty = omega arith
got_few answers.Off = omega arith
got_few (answers.Load n) = omega arith
got_few (answers.To c) = omega arith
got_few (answers.New n) = omega arith
got_few (answers.Left n) = omega arith
got_few (answers.Work n) = omega arith
got_few answers.HandFull = omega arith
got_few answers.HandEmpty = omega arith
got_few answers.NameUsed = omega arith
got_few answers.NoRoom = omega arith
got_few (answers.NotBlocked place) = omega arith
got_few (answers.NotQueued place) = omega arith
got_few answers.OwnCluster = omega arith
got_few answers.NotAllowed = omega arith
got_few (answers.LookFirst c) = omega arith

-- one step counts at most two: itself, and a thread that it got
tallied_few : (y : Tally) (act : Act) (answer : Answer) → count_total (tallied y act answer) ≤ count_total y + 2
tallied_few y (acts.Make name group bucket base bound) answer = omega arith
tallied_few y (acts.Enter c head) answer = omega arith
tallied_few y acts.Select answer = omega (arith, got_few answer)
tallied_few y (acts.Offer c) answer = omega (arith, got_few answer)
tallied_few y (acts.Pull name) answer = omega arith
tallied_few y (acts.Look c) answer = omega arith
tallied_few y acts.Aim answer = omega arith
tallied_few y (acts.Ran us) answer = omega arith
tallied_few y acts.Sleep answer = omega arith
tallied_few y (acts.Wake name) answer = omega arith
tallied_few y acts.End answer = omega arith
tallied_few y acts.Blocked answer = omega arith
tallied_few y acts.Refresh answer = omega arith
tallied_few y (acts.Off c) answer = omega arith
tallied_few y (acts.On c) answer = omega arith

-- so the counts of so many steps are at most twice as many
pub counts_few : (seed n : ℕ) → count_total (load_after seed n).tally ≤ 2 * n
counts_few seed zero = omega arith
counts_few seed (suc n) =
    let st : LoadState = load_after seed n in
    omega (arith, counts_few seed n, tallied_few st.tally (step_of_load st n).act (reply load_setup st.state (step_of_load st n)).answer)
