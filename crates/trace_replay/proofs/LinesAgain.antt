-- The lines that are written are judged as the lines that they answer.
use Rattle.std.proofs.Common.{◌≡◌, ℕ, suc, List, [], ◌∷◌, ◌++◌, Bool, true, false, cond, not, ◌==◌, Some, Result, Ok, Err, IfOk, IsTrue, refl, sym, ap, ◌∙◌, subst}
use Rattle.std.proofs.lemmas.Bool.{and_from, eq-eqb}
use Rattle.sched_base.specs.declared.Answer.{Answer}
use Rattle.sched_base.specs.declared.Entry.{Entry}
use Rattle.sched_base.specs.declared.Step.{Step}
use Rattle.flat_policy.specs.declared.texts.Given.{Given}
use Rattle.flat_policy.specs.declared.texts.LineFault.{LineFault}
use Rattle.flat_policy.specs.Laws.Counts.{RunsStaySound, RunsStayWithin}
use Rattle.flat_policy.specs.Policy.BuiltSetups.{IsSetup}
use Rattle.flat_policy.specs.Policy.Machine.{GRun, MachineState, empty_machine, fits_step, reply, state_after}
use Rattle.flat_policy.specs.Policy.Setup.{SetupParts}
use Rattle.flat_policy.specs.Texts.Answers.{answer_key}
use Rattle.flat_policy.specs.Texts.Lines.{entry_text, read_step_line}
use Rattle.flat_policy.specs.Texts.Pieces.{and_then, same_text}
use Rattle.flat_policy.specs.Texts.Streams.{Judged, TextLines, after_text, contradicts, differs, done, end_met, if_fits, judge_line, judge_lines, step_line, stopped, text_lines}
use Rattle.trace_machine.specs.Laws.{BlockedAreLive}
use Rattle.trace_text.specs.InLines.{AnswersStandInLines}
use Rattle.trace_text.specs.Laws.{AnswersReadAgain, RepliesHaveTexts, answered_line}
use Rattle.trace_text.specs.Writing.{AnswerFits, StepFits}
use Rattle.trace_replay.proofs.Settled.{reply_settles, runs_on, settled_fits, state_settles}
use Rattle.flat_policy.specs.declared.texts.LineFault.TheVariants as line_faults

-- the laws that the walk over the lines stands on
pub record LineLaws : Type 0 where
  pub sound : RunsStaySound
  pub within : RunsStayWithin
  pub live : BlockedAreLive
  pub texts : RepliesHaveTexts
  pub read : AnswersReadAgain
  pub stand : AnswersStandInLines

-- ---- an answer is the same as itself

same_text_itself : (t : List ℕ) → same_text t t ≡ true
same_text_itself [] = refl
same_text_itself (b ∷ bs) = and_from (b == b) (same_text bs bs) (eq-eqb b b refl) (same_text_itself bs)

agrees : (a : Answer) → contradicts (Some a) a ≡ false
agrees a = ap not (same_text_itself (answer_key a))

-- ---- what the reply to a step of a run keeps

record Told (setup : SetupParts) (g : MachineState) (e : Entry) : Type 0 where
  fits : IsTrue (fits_step setup e.step)
  step : StepFits e.step
  answer : AnswerFits e.answer
  same : reply setup g e.step ≡ e

told_at : (setup : SetupParts) (g : MachineState) (h : List Entry) (s : Step) → LineLaws → IsSetup setup → GRun setup h g → IsTrue (fits_step setup s) → Told setup g (reply setup g s)
told_at setup g h s laws is run fits =
    let texts = laws.texts setup g s is (laws.sound setup h g run) (laws.within setup h g run) (laws.live setup h g run) fits in
    record {
      fits = settled_fits setup g s fits texts.0.moment;
      step = texts.0;
      answer = texts.1;
      same = reply_settles setup g s;
    }

-- ---- lines that the setup fits

fitting : (setup : SetupParts) (x : Given) (b : Bool) → fits_step setup x.step ≡ b → IfOk (cond b (Ok x) (Err line_faults.Range)) (λ (g : Given). IsTrue (fits_step setup g.step))
fitting setup x true e = e
fitting setup x false e = tt

given_fits : (setup : SetupParts) (r : Result Given LineFault) → IfOk (and_then r (if_fits setup)) (λ (g : Given). IsTrue (fits_step setup g.step))
given_fits setup (Ok x) = fitting setup x (fits_step setup x.step) refl
given_fits setup (Err fault) = tt

line_read : (setup : SetupParts) (e : Entry) → LineLaws → IsTrue (fits_step setup e.step) → StepFits e.step → AnswerFits e.answer
    → step_line setup (answered_line e.step e.answer) ≡ Ok (record { step = e.step; answer = Some e.answer })
line_read setup e laws fits step answer =
    ap (λ (r : Result Given LineFault). and_then r (if_fits setup)) (laws.read e.step e.answer step answer).1 ∙ rw fits refl

-- ---- a line judged again

-- the output of some lines from a state, judged from there, comes to itself
abbrev pub Again : SetupParts → MachineState → List ℕ → Type 0
Again setup g out = (m : ℕ) → judge_lines setup end_met (text_lines out).rest m (text_lines out).whole g ≡ record { out = out; status = done }

line_judged : (setup : SetupParts) (g : MachineState) (e : Entry) (m : ℕ) (more : MachineState → Judged) (j : Judged) → reply setup g e.step ≡ e → more (state_after setup g e.step) ≡ j
    → judge_line setup g m (Ok (record { step = e.step; answer = Some e.answer })) more ≡ after_text (entry_text e) j
line_judged setup g e m more j same next =
    ap (λ (k : Entry). cond (contradicts (Some e.answer) k.answer) (stopped (differs m)) (after_text (entry_text k) (more (state_after setup g e.step)))) same
    ∙ ap (λ b. cond b (stopped (differs m)) (after_text (entry_text e) (more (state_after setup g e.step)))) (agrees e.answer)
    ∙ ap (after_text (entry_text e)) next

entry_again : (setup : SetupParts) (g : MachineState) (e : Entry) (out : List ℕ) → LineLaws → Told setup g e → Again setup (state_after setup g e.step) out → Again setup g (entry_text e ++ out)
entry_again setup g e out laws told next m =
    let more : List (List ℕ) → List ℕ → MachineState → Judged = λ whole rest. judge_lines setup end_met rest (suc m) whole in
    ap (λ (t : TextLines). judge_lines setup end_met t.rest m t.whole g) (laws.stand e.step e.answer out told.step told.answer)
    ∙ ap (λ r. judge_line setup g m r (more (text_lines out).whole (text_lines out).rest)) (line_read setup e laws told.fits told.step told.answer)
    ∙ line_judged setup g e m (more (text_lines out).whole (text_lines out).rest) (record { out = out; status = done }) told.same (next (suc m))

-- ---- a line that was judged without a fault

record IsDone (b : Bool) (text : List ℕ) (j : Judged) (whole : Judged) : Type 0 where
  status : j.status ≡ done
  out : whole.out ≡ text ++ j.out

done_line : (b : Bool) (n : ℕ) (text : List ℕ) (j : Judged) → (cond b (stopped (differs n)) (after_text text j)).status ≡ done → IsDone b text j (cond b (stopped (differs n)) (after_text text j))
done_line true n text j h = absurd cc
done_line false n text j h = record { status = h; out = refl }

-- what follows a line, judged again
abbrev Follows : SetupParts → (MachineState → Judged) → Type 0
Follows setup more = (g : MachineState) (h : List Entry) → GRun setup h g → (more g).status ≡ done → Again setup g (more g).out

line_again : (setup : SetupParts) (g : MachineState) (h : List Entry) (n : ℕ) (r : Result Given LineFault) (more : MachineState → Judged) → LineLaws → IsSetup setup → GRun setup h g
    → IfOk r (λ (x : Given). IsTrue (fits_step setup x.step)) → Follows setup more → (judge_line setup g n r more).status ≡ done → Again setup g (judge_line setup g n r more).out
line_again setup g h n (Err fault) more laws is run fits follows ended = absurd cc
line_again setup g h n (Ok x) more laws is run fits follows ended =
    let e : Entry = reply setup g x.step in
    let told = told_at setup g h x.step laws is run fits in
    let after : MachineState = state_after setup g x.step in
    let line = done_line (contradicts x.answer e.answer) n (entry_text e) (more after) ended in
    let next : Again setup after (more after).out = follows after (h ++ e ∷ []) (runs_on setup (empty_machine setup) h g x.step run told.fits) line.status in
    subst (λ (t : List ℕ). Again setup g t) (sym line.out)
    (entry_again setup g e (more after).out laws told (subst (λ (k : MachineState). Again setup k (more after).out) (sym (state_settles setup g x.step)) next))

-- all lines
pub lines_again : (setup : SetupParts) (rest : List ℕ) (n : ℕ) (ls : List (List ℕ)) → LineLaws → IsSetup setup → Follows setup (judge_lines setup end_met rest n ls)
lines_again setup rest n [] laws is g h run ended = λ m. refl
lines_again setup rest n (l ∷ ls) laws is g h run ended =
    line_again setup g h n (step_line setup l) (judge_lines setup end_met rest (suc n) ls) laws is run (given_fits setup (read_step_line l))
    (lines_again setup rest (suc n) ls laws is) ended
