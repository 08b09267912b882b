-- What an act notes in the table of names, over the table that the machine had.
use Rattle.std.proofs.Common.{◌≡◌, ℕ, ◌==◌, cond, Option, Some, None, option_map, refl, ap, ◌∙◌}
use Rattle.std.proofs.lemmas.Option.{none-some, same_Some}
use Rattle.sched_base.specs.declared.Answer.{Answer}
use Rattle.sched_base.specs.declared.Facts.{Facts}
use Rattle.trace_machine.specs.declared.names.Standing.{Standing}
use Rattle.trace_machine.specs.declared.names.Standing.TheVariants as standings
use Rattle.trace_machine.specs.Machines.{MachineView}
use Rattle.trace_machine.specs.Yards.{standing_of}
use Rattle.trace_machine.proofs.TakingActs.{NotesHeld}
use Rattle.trace_machine.proofs.YardMoves.{IsNoted}

-- the thread of a name that is told of a hand
pub named_thread : (o : Option Facts) (name : ℕ) → option_map (λ (t : Facts). t.name) o ≡ Some name → (t : Facts) × (o ≡ Some t) × (t.name ≡ name)
named_thread None name is = absurd (none-some name is)
named_thread (Some t) name is = (t, refl, same_Some t.name name is)

-- a name noted over the same table
pub noted_over : (v mid new : MachineView) (name : ℕ) (s : Standing) → mid.names ≡ v.names → IsNoted mid new name s → IsNoted v new name s
noted_over v mid new name s same noted other = noted other ∙ ap (λ ns. cond (other == name) (Some s) (standing_of ns other)) same

pub notes_over : (v mid new : MachineView) (a : ℕ) (told : Answer) → mid.names ≡ v.names → NotesHeld mid new a told → NotesHeld v new a told
notes_over v mid new a told same notes = record {
  held = λ name is. noted_over v mid new name (standings.Held a) same (notes.held name is);
  rest = λ none. notes.rest none ∙ same;
}
