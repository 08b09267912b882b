-- Lines and entries are the same where their fields are.
use Rattle.std.proofs.Common.{◌≡◌, ℕ, Option, ap, ◌∙◌}
use Rattle.sched_base.specs.declared.Answer.{Answer}
use Rattle.sched_base.specs.declared.Entry.{Entry}
use Rattle.sched_base.specs.declared.Facts.{Facts}
use Rattle.sched_base.specs.declared.Step.{Step}
use Rattle.flat_policy.specs.declared.journal.Line.{Line}

abbrev entry : Step → Answer → Option Facts → Entry
entry s x t = record { step = s; answer = x; thread = t }

pub same_entries : (a b : Entry) → a.step ≡ b.step → a.answer ≡ b.answer → a.thread ≡ b.thread → a ≡ b
same_entries a b steps answers threads =
    ap (λ (s : Step). entry s a.answer a.thread) steps
    ∙ ap (λ (x : Answer). entry b.step x a.thread) answers
    ∙ ap (λ (t : Option Facts). entry b.step b.answer t) threads

abbrev line : Entry → Option ℕ → Line
line e m = record { entry = e; mark = m }

pub same_lines : (a b : Line) → a.entry ≡ b.entry → a.mark ≡ b.mark → a ≡ b
same_lines a b entries marks = ap (λ (e : Entry). line e a.mark) entries ∙ ap (λ (m : Option ℕ). line b.entry m) marks
