-- What a line of a run says, as it is kept.
use Rattle.std.specs.Prelude.{All, IfSome, List, Result, [], codes, drop, length, replicate, take, ℕ, ⊤, ◌%◌, ◌-◌, ◌<◌, ◌^◌, ◌≡◌, ◌≤◌, ◌∷◌}
use Rattle.sched_base.specs.Limits.{most_base, most_span, most_spans}
use Rattle.flat_policy.specs.declared.texts.LineFault.{LineFault}
use Rattle.flat_policy.specs.declared.texts.Power.{Power}
use Rattle.flat_policy.specs.declared.texts.ProgramLine.{ProgramLine}
use Rattle.flat_policy.specs.declared.texts.RunLine.{RunLine}
use Rattle.flat_policy.specs.Texts.Lines.{RunSays, power_line, power_text, program_at, program_line, program_text, within_limit}
use Rattle.flat_policy.specs.Texts.Pieces.{Worded, and_then, next_piece, pieces, word_among, worded}
use Rattle.flat_policy.specs.Runs.Worker.{PowerAt, Program}
use Rattle.flat_policy.specs.declared.texts.RunLine.TheVariants as run_lines

-- the program of a thread line: its first spans, as many as its count
abbrev pub program_of : ProgramLine → Program
program_of p =
    record { name = p.name; group = p.group; bucket = p.bucket; base = p.base; bound = p.bound; spans = take p.count p.spans }

-- the spans of a program stand first in the list, 15 at the most, and those past them are 0
pub record HasItsSpans (p : ProgramLine) : Type 0 where
  pub few : p.count ≤ most_spans
  pub unused : drop p.count p.spans ≡ replicate (most_spans - p.count) 0

-- an off or on line, as the definitions keep it
abbrev pub power_of : Power → PowerAt
power_of p = record { cluster = p.cluster; on = p.on; turn = p.turn }

-- what a line of a run says
abbrev pub run_says : RunLine → RunSays
run_says (run_lines.Thread p) = program_line (program_of p)
run_says (run_lines.Power p) = power_line (power_of p)

-- a thread line has its spans
abbrev pub HasItsSpansIn : RunLine → Type 0
HasItsSpansIn (run_lines.Thread p) = HasItsSpans p
HasItsSpansIn (run_lines.Power p) = ⊤

-- the word of a thread line
abbrev pub thread_word : List (Worded ⊤)
thread_word = worded (codes "thread") tt ∷ []

-- the program that the pieces of a thread line give
abbrev pub read_thread_pieces : List (List ℕ) → Result Program LineFault
read_thread_pieces ps = and_then (next_piece (word_among thread_word) ps) (λ w. program_at w.1)

-- the program of a line of a run, where that is a thread line
abbrev pub read_program_line : List ℕ → Result Program LineFault
read_program_line line = within_limit line (read_thread_pieces (pieces line))

-- a span is 1 to 10,000,000
abbrev pub SpanFits : ℕ → Type 0
SpanFits n = (1 ≤ n) × (n ≤ most_span)

-- the numbers of a program are in the ranges of lines, and its spans are 1 to 15 and an odd number of them
pub record ProgramFits (p : Program) : Type 0 where
  pub name : p.name < 2 ^ 32
  pub group : p.group ≤ 63
  pub base : p.base ≤ most_base
  pub bound : IfSome p.bound (λ c. c ≤ 15)
  pub spans : All SpanFits p.spans
  pub odd : length p.spans % 2 ≡ 1
  pub few : length p.spans ≤ most_spans

-- the numbers of an off or on line are in the ranges of lines
pub record PowerFits (p : PowerAt) : Type 0 where
  pub cluster : p.cluster ≤ 15
  pub turn : p.turn ≤ 4999

-- the numbers of what a line of a run says are in the ranges of lines
abbrev pub SaysFits : RunSays → Type 0
SaysFits (program_line p) = ProgramFits p
SaysFits (power_line p) = PowerFits p

-- the text of what a line of a run says
abbrev pub says_text : RunSays → List ℕ
says_text (program_line p) = program_text p
says_text (power_line p) = power_text p
