-- The lines of a run: read exactly where they are the texts of what they say.
use Rattle.std.proofs.Common.{[], ap, codes, length, List, refl, subst, sym, ℕ, ◌≡◌, ◌≤◌, ◌∙◌, ◌∷◌, Bool, Err, IfOk, Ok, Result, false, true}
use Rattle.std.proofs.Math.Dec.{ltb}
use Rattle.std.proofs.lemmas.Bool.{le-ltb}
use Rattle.flat_policy.specs.declared.texts.LineFault.{LineFault}
use Rattle.flat_policy.specs.declared.texts.ProgramLine.{ProgramLine}
use Rattle.flat_policy.specs.declared.texts.RunLine.{RunLine}
use Rattle.flat_policy.specs.Texts.Lines.{RunReading, RunSays, power_at, power_line, power_reading, power_text, power_word, program_at, program_line, program_text, read_run_line, read_run_pieces, run_words, thread_reading}
use Rattle.flat_policy.specs.Texts.Pieces.{next_piece, pieces, spaced, word_among}
use Rattle.flat_policy.specs.Runs.Worker.{Program}
use Rattle.trace_text.proofs.LinesBack.{limited, spaced_pieces}
use Rattle.trace_text.specs.Spaces.{is_plain}
use Rattle.trace_text.proofs.ProgramsAgain.{power_again, power_plain, power_short, program_again, program_plain, program_short}
use Rattle.trace_text.proofs.ProgramsBack.{power_back, power_fields, program_back, program_fields}
use Rattle.trace_text.proofs.ReadBack.{word_back}
use Rattle.trace_text.proofs.Readings.{and_then_ok, next_ok, ok_is}
use Rattle.trace_text.proofs.Rejoined.{pieces_spaced}
use Rattle.trace_text.specs.Laws.{ProgramLinesAreExact, RunLinesAreExact}
use Rattle.trace_text.specs.Reading.{Gives}
use Rattle.trace_text.specs.Runs.{ProgramFits, SaysFits, program_of, read_program_line, read_thread_pieces, run_says, says_text, thread_word}

-- the pieces of what a line says
abbrev says_pieces : RunSays → List (List ℕ)
says_pieces (program_line p) = codes "thread" ∷ program_fields p
says_pieces (power_line p) = power_word p.on ∷ power_fields p

says_spaced : (r : RunSays) → spaced (says_pieces r) ≡ says_text r
says_spaced (program_line p) = refl
says_spaced (power_line p) = refl

-- ---- read, and so the text

abbrev SaysBack : List ℕ → RunReading → Type 0
SaysBack word of = (ps : List (List ℕ)) (r : RunSays) → of ps ≡ Ok r → (word ∷ ps ≡ says_pieces r) × SaysFits r

thread_back : SaysBack (codes "thread") thread_reading
thread_back ps r e =
    let p = and_then_ok (program_at ps) _ r e in
    let b = program_back ps p.0 p.1 in
    subst (λ (r : RunSays). (codes "thread" ∷ ps ≡ says_pieces r) × SaysFits r) (ok_is (program_line p.0) r p.2) (ap (λ (q : List (List ℕ)). codes "thread" ∷ q) b.0, b.1)

turned_back : (on : Bool) → SaysBack (power_word on) (power_reading on)
turned_back on ps r e =
    let p = and_then_ok (power_at on ps) _ r e in
    subst (λ (r : RunSays). (power_word on ∷ ps ≡ says_pieces r) × SaysFits r) (ok_is (power_line p.0) r p.2) (power_back on ps p.0 p.1)

pieces_back : (ps : List (List ℕ)) (r : RunSays) → read_run_pieces ps ≡ Ok r → (ps ≡ says_pieces r) × SaysFits r
pieces_back [] r e = absurd cc
pieces_back (p ∷ ps) r e =
    let w = and_then_ok (next_piece (word_among run_words) (p ∷ ps)) _ r e in
    let word = next_ok (word_among run_words) p ps w.0.0 w.0.1 w.1 in
    let back = word_back SaysBack run_words (thread_back, (turned_back false, (turned_back true, tt))) p w.0.0 word.0 in
    back ps r (subst (λ (q : List (List ℕ)). w.0.0 q ≡ Ok r) (sym word.1) w.2)

run_line_back : (line : List ℕ) (r : RunSays) → read_run_line line ≡ Ok r → SaysFits r × (line ≡ says_text r)
run_line_back line r e =
    let b = pieces_back (pieces line) r (limited (ltb 256 (length line)) (read_run_pieces (pieces line)) r e) in
    (b.1, sym (spaced_pieces line) ∙ ap spaced b.0 ∙ says_spaced r)

thread_pieces_back : (ps : List (List ℕ)) (p : Program) → read_thread_pieces ps ≡ Ok p → (ps ≡ codes "thread" ∷ program_fields p) × ProgramFits p
thread_pieces_back [] p e = absurd cc
thread_pieces_back (t ∷ ps) p e =
    let w = and_then_ok (next_piece (word_among thread_word) (t ∷ ps)) _ p e in
    let word = next_ok (word_among thread_word) t ps w.0.0 w.0.1 w.1 in
    let is : t ≡ codes "thread" = word_back (λ t _. t ≡ codes "thread") thread_word (refl, tt) t w.0.0 word.0 in
    let b = program_back w.0.1 p w.2 in
    let rest : ps ≡ program_fields p = word.1 ∙ b.0 in
    (cc, b.1)

program_line_back : (line : List ℕ) (p : Program) → read_program_line line ≡ Ok p → ProgramFits p × (line ≡ program_text p)
program_line_back line p e =
    let b = thread_pieces_back (pieces line) p (limited (ltb 256 (length line)) (read_thread_pieces (pieces line)) p e) in
    (b.1, sym (spaced_pieces line) ∙ ap spaced b.0)

pub run_fits : (ps : List (List ℕ)) (r : Result RunLine LineFault) → Gives run_says r (read_run_pieces ps) → IfOk r (λ x. SaysFits (run_says x))
run_fits ps (Ok x) e = (pieces_back ps (run_says x) e).1
run_fits ps (Err d) e = tt

pub thread_fits : (ps : List (List ℕ)) (r : Result ProgramLine LineFault) → Gives program_of r (read_thread_pieces ps) → IfOk r (λ x. ProgramFits (program_of x))
thread_fits ps (Ok x) e = (thread_pieces_back ps (program_of x) e).1
thread_fits ps (Err d) e = tt

-- ---- the text, and so read

run_line_of : (line : List ℕ) (ps : List (List ℕ)) (r : Result RunSays LineFault) → length line ≤ 256 → pieces line ≡ ps → read_run_pieces ps ≡ r → read_run_line line ≡ r
run_line_of line ps r short e f = rw (le-ltb 256 (length line) short) (ap read_run_pieces e ∙ f)

turned_again : (on : Bool) (ps : List (List ℕ)) → read_run_pieces (power_word on ∷ ps) ≡ power_reading on ps
turned_again true ps = refl
turned_again false ps = refl

word_plain : (on : Bool) → is_plain (power_word on) ≡ true
word_plain true = refl
word_plain false = refl

text_again : (r : RunSays) → SaysFits r → read_run_line (says_text r) ≡ Ok r
text_again (program_line p) fits =
    run_line_of (program_text p) (codes "thread" ∷ program_fields p) (Ok (program_line p)) (program_short p fits) (pieces_spaced (codes "thread") (program_fields p) refl (program_plain p fits)) (rw (program_again p fits) refl)
text_again (power_line p) fits =
    run_line_of (power_text p) (power_word p.on ∷ power_fields p) (Ok (power_line p)) (power_short p fits) (pieces_spaced (power_word p.on) (power_fields p) (word_plain p.on) (power_plain p fits)) (turned_again p.on (power_fields p) ∙ rw (power_again p fits) refl)

program_text_again : (p : Program) → ProgramFits p → read_program_line (program_text p) ≡ Ok p
program_text_again p fits =
    rw (le-ltb 256 (length (program_text p)) (program_short p fits)) (ap read_thread_pieces (pieces_spaced (codes "thread") (program_fields p) refl (program_plain p fits)) ∙ program_again p fits)

pub run_lines_exact : RunLinesAreExact
run_lines_exact = λ line r. (λ e. run_line_back line r e, λ h. ap read_run_line h.1 ∙ text_again r h.0)

pub program_lines_exact : ProgramLinesAreExact
program_lines_exact =
    λ line p. (λ e. program_line_back line p e, λ h. ap read_program_line h.1 ∙ program_text_again p h.0)
