-- Turn 0 blocks, selects, charges and sleeps; and 1999 is not 2000.
use Rattle.std.proofs.Common.{refl, arith, sym, ap, subst, inl, inr, ◌∙◌, ◌≡◌, List, [], ◌∷◌, ◌++◌, drop, Some}
use Rattle.std.proofs.lemmas.Option.{same_Some}
use Rattle.sched_base.specs.declared.Act.TheVariants as acts
use Rattle.flat_policy.specs.declared.journal.Line.{Line}
use Rattle.flat_policy.specs.Runs.Histories.{act_of}
use Rattle.flat_policy.specs.Runs.Worker.{AfterCharge, AfterNone, ChargesOr, Rests, Stage, Turn}
use Rattle.worked_examples.proofs.Differ.{acts_differ, first_or}
use Rattle.worked_examples.proofs.Openings.{first_turn}
use Rattle.worked_examples.specs.Examples.Merging.{asks_yard}
use Rattle.worked_examples.specs.Examples.OneThread.{one_program, one_run}
use Rattle.worked_examples.specs.Examples.Refused.{log_sleeping, one_line}
use Rattle.worked_examples.specs.Rows.Run.{one_cluster}
use Rattle.worked_examples.proofs.refused.mark_is_span.Goals as goal

abbrev log : List Line
log = log_sleeping 1999

abbrev first_stage : Stage
first_stage = record { target = 5000; sleep = Some 2000 }

same_head : (xs ys : List Line) → xs ≡ ys → first_or asks_yard xs ≡ first_or asks_yard ys
same_head xs ys is = ap (first_or asks_yard) is

rests : (ls more : List Line) → drop 6 log ≡ ls ++ more → Rests (Some 2000) ls → ⊥
rests [] more is r = absurd r
rests (x ∷ []) more is (sleeps, mark) =
    let same : 1999 ≡ 2000 = same_Some 1999 2000 (ap (λ (l : Line). l.mark) (same_head (drop 6 log) (x ∷ more) is) ∙ mark)
    in omega (arith, same)
rests (x ∷ y ∷ ls) more is r = absurd r

charges : (ls more : List Line) → drop 5 log ≡ ls ++ more → ChargesOr one_run 0 (one_line 4) ls (AfterNone one_run 0 ls (one_line 4).entry.answer) (one_line 4).entry.thread → ⊥
charges [] more is c = absurd c
charges (x ∷ ls) more is (runs, at, after) =
    let same : one_line 5 ≡ x = same_head (drop 5 log) (x ∷ (ls ++ more)) is
    in rests ls more (ap (drop 1) is) (subst (λ (l : Line). AfterCharge one_cluster first_stage ls l.entry.thread) (sym same) after)

turn_0 : (ls more : List Line) → drop 3 log ≡ ls ++ more → Turn one_run 0 0 ls → ⊥
turn_0 [] more is (inl wakes) = absurd wakes
turn_0 [] more is (inr selects) = absurd selects
turn_0 (x ∷ ls) more is (inl (name, wakes, placed)) =
    acts_differ acts.Blocked (acts.Wake name) (ap act_of (same_head (drop 3 log) (x ∷ (ls ++ more)) is) ∙ wakes) refl
turn_0 (x ∷ []) more is (inr selects) = absurd selects
turn_0 (x ∷ y ∷ ls) more is (inr (asks, (selects, after))) =
    let same : one_line 4 ≡ y = same_head (drop 4 log) (y ∷ (ls ++ more)) (ap (drop 1) is)
    in charges ls more (ap (drop 2) is) (subst (λ (l : Line). ChargesOr one_run 0 l ls (AfterNone one_run 0 ls l.entry.answer) l.entry.thread) (sym same) after)

pub returns : goal.returns
returns c = (refl, λ w. let turn = first_turn one_program [] log w in turn_0 turn.0 turn.1 turn.2 turn.3)
