-- The lines of a trace, and of a run.
use Rattle.std.specs.Prelude.{Bool, Err, List, None, Ok, Result, Some, [], codes, decimal, false, if◌then◌else◌, length, map, nat_lt, suc, true, zero, ℕ, ⊤, ◌++◌, ◌-◌, ◌/◌, ◌==◌, ◌∷◌}
use Rattle.sched_base.specs.Limits.{line_bytes, most_span, most_spans, most_turns}
use Rattle.sched_base.specs.declared.Answer.{Answer}
use Rattle.sched_base.specs.declared.Entry.{Entry}
use Rattle.sched_base.specs.declared.Step.{Step}
use Rattle.flat_policy.specs.declared.texts.Given.{Given}
use Rattle.flat_policy.specs.declared.texts.LineFault.{LineFault}
use Rattle.flat_policy.specs.Texts.Answers.{answer_at, answer_text}
use Rattle.flat_policy.specs.Texts.Pieces.{Worded, and_then, at_end, base_at, bound_at, bound_piece, bucket_at, bucket_piece, cluster_at, group_at, name_at, next_piece, number_within, pieces, spaced, word_among, worded}
use Rattle.flat_policy.specs.Texts.Steps.{step_at, step_text}
use Rattle.flat_policy.specs.Runs.Worker.{PowerAt, Program}
use Rattle.flat_policy.specs.declared.texts.LineFault.TheVariants as line_faults

-- the word before a given answer: `=`
abbrev pub equals_word : List (Worded ⊤)
equals_word = worded (codes "=") tt ∷ []

-- the answer that a line gives after its step, if one: `=`, and the answer
abbrev pub given_at : Step → List (List ℕ) → Result Given LineFault
given_at step [] = Ok (record { step = step; answer = None })
given_at step (p ∷ ps) =
    and_then (word_among equals_word p) (λ _.
    and_then (answer_at ps) (λ a. at_end (record { step = step; answer = Some a.0 }) a.1))

-- the pieces of a line of a trace: a step, alone or with an answer
abbrev pub read_given : List (List ℕ) → Result Given LineFault
read_given ps = and_then (step_at ps) (λ s. given_at s.0 s.1)

-- the most bytes of a line, without its newline
abbrev pub line_limit : ℕ
line_limit = line_bytes

-- what a line reads as, unless it is too long
abbrev pub within_limit : {A : Type 0} → List ℕ → Result A LineFault → Result A LineFault
within_limit line r = if nat_lt line_limit (length line) then Err line_faults.Long else r

-- what a line of a trace reads as
abbrev pub read_step_line : List ℕ → Result Given LineFault
read_step_line line = within_limit line (read_given (pieces line))

-- the end of a line
abbrev pub newline : List ℕ
newline = 10 ∷ []

-- the text of a step with its answer, as a line
abbrev pub answered_text : Step → Answer → List ℕ
answered_text step answer = step_text step ++ codes " = " ++ answer_text answer ++ newline

-- the text of an entry, as a line
abbrev pub entry_text : Entry → List ℕ
entry_text e = answered_text e.step e.answer

-- a span of a program, which is not 0
abbrev pub span_within : List ℕ → Result ℕ LineFault
span_within p =
    and_then (number_within most_span p) (λ n. if n == 0 then Err line_faults.Range else Ok n)

-- the spans after the first, so many pairs of a sleep and a run at the most
abbrev pub span_pairs : ℕ → List (List ℕ) → Result (List ℕ) LineFault
span_pairs room [] = Ok []
span_pairs zero (p ∷ ps) = Err line_faults.Word
span_pairs (suc room) (p ∷ []) = and_then (span_within p) (λ _. Err line_faults.Word)
span_pairs (suc room) (p ∷ q ∷ ps) =
    and_then (span_within p) (λ sleep. and_then (span_within q) (λ run. and_then (span_pairs room ps) (λ rest. Ok (sleep ∷ run ∷ rest))))

-- the spans of a program: an odd number of them, 1 to 15
abbrev pub spans_at : List (List ℕ) → Result (List ℕ) LineFault
spans_at [] = Err line_faults.Word
spans_at (p ∷ ps) = and_then (span_within p) (λ run. and_then (span_pairs ((most_spans - 1) / 2) ps) (λ rest. Ok (run ∷ rest)))

-- a thread line, after its word
abbrev pub program_at : List (List ℕ) → Result Program LineFault
program_at ps =
    and_then (name_at ps) (λ name.
    and_then (group_at name.1) (λ group.
    and_then (bucket_at group.1) (λ bucket.
    and_then (base_at bucket.1) (λ base.
    and_then (bound_at base.1) (λ bound.
    and_then (spans_at bound.1) (λ spans.
    Ok (record { name = name.0; group = group.0; bucket = bucket.0; base = base.0; bound = bound.0; spans = spans })))))))

-- an off or on line, after its word
abbrev pub power_at : Bool → List (List ℕ) → Result PowerAt LineFault
power_at on ps =
    and_then (cluster_at ps) (λ c.
    and_then (next_piece (number_within (most_turns - 1)) c.1) (λ turn.
    at_end (record { cluster = c.0; on = on; turn = turn.0 }) turn.1))

-- a line of a run: a program or a power
pub data RunSays : Type 0 where
  program_line : Program → RunSays
  power_line : PowerAt → RunSays

-- a line of a run, read from the pieces after its word
abbrev pub RunReading : Type 0
RunReading = List (List ℕ) → Result RunSays LineFault

-- a thread line of a run
abbrev pub thread_reading : RunReading
thread_reading ps = and_then (program_at ps) (λ p. Ok (program_line p))

-- an off or on line of a run
abbrev pub power_reading : Bool → RunReading
power_reading on ps = and_then (power_at on ps) (λ p. Ok (power_line p))

-- the words that lines of a run begin with
abbrev pub run_words : List (Worded RunReading)
run_words =
    worded (codes "thread") thread_reading ∷ worded (codes "off") (power_reading false) ∷ worded (codes "on") (power_reading true) ∷ []

-- what the pieces of a line of a run read as
abbrev pub read_run_pieces : List (List ℕ) → Result RunSays LineFault
read_run_pieces ps = and_then (next_piece (word_among run_words) ps) (λ r. r.0 r.1)

-- what a line of a run reads as
abbrev pub read_run_line : List ℕ → Result RunSays LineFault
read_run_line line = within_limit line (read_run_pieces (pieces line))

-- the text of a program
abbrev pub program_text : Program → List ℕ
program_text p =
    spaced (codes "thread" ∷ decimal p.name ∷ decimal p.group ∷ bucket_piece p.bucket ∷ decimal p.base ∷ bound_piece p.bound ∷ map decimal p.spans)

-- the word of turning a cluster on or off
abbrev pub power_word : Bool → List ℕ
power_word true = codes "on"
power_word false = codes "off"

-- the text of a power
abbrev pub power_text : PowerAt → List ℕ
power_text p = spaced (power_word p.on ∷ decimal p.cluster ∷ decimal p.turn ∷ [])
