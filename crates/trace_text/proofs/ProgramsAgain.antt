-- Lines of a run that were written are read again.
use Rattle.std.proofs.Common.{[], arith, codes, decimal, length, length-append, List, map, refl, suc, zero, ℕ, ◌%◌, ◌*◌, ◌+◌, ◌≡◌, ◌≤◌, ◌∷◌, Bool, Ok, false, true}
use Rattle.std.specs.List.{All}
use Rattle.std.proofs.lemmas.Bool.{ne_eqb}
use Rattle.std.proofs.lemmas.List.{length-map}
use Rattle.std.proofs.lemmas.List.Elements.{All-head, All-tail}
use Rattle.flat_policy.specs.Texts.Lines.{power_at, power_word, program_at, span_pairs, span_within, spans_at}
use Rattle.flat_policy.specs.Texts.Pieces.{bound_piece, bucket_piece, spaced}
use Rattle.flat_policy.specs.Runs.Worker.{PowerAt, Program}
use Rattle.trace_text.proofs.PiecesAgain.{bound_again, bound_plain, bucket_again, bucket_plain, byte_again, decimal_plain, number_again, word_again}
use Rattle.trace_text.proofs.ProgramsBack.{power_fields, program_fields}
use Rattle.trace_text.proofs.Rejoined.{AllPlain}
use Rattle.trace_text.proofs.Texts.{bound_short, bucket_short, wide}
use Rattle.trace_text.specs.Runs.{PowerFits, ProgramFits, SpanFits}

-- ---- spans

span_again : (n : ℕ) → SpanFits n → span_within (decimal n) ≡ Ok n
span_again n fits =
    rw (number_again 10000000 n fits.1 (omega (arith, fits.1)), ne_eqb n 0 (λ zero. omega (arith, fits.0))) refl

pairs_again : (room : ℕ) (xs : List ℕ) → All SpanFits xs → length xs % 2 ≡ 0 → length xs ≤ room + room → span_pairs room (map decimal xs) ≡ Ok xs
pairs_again room [] fit even few = refl
pairs_again room (x ∷ []) fit even few = absurd (omega arith)
pairs_again zero (x ∷ y ∷ xs) fit even few = absurd (omega arith)
pairs_again (suc room) (x ∷ y ∷ xs) fit even few =
    let later = All-tail SpanFits x (y ∷ xs) fit in
    rw (span_again x (All-head SpanFits x (y ∷ xs) fit), span_again y (All-head SpanFits y xs later), pairs_again room xs (All-tail SpanFits y xs later) (omega arith) (omega arith)) refl

spans_again : (xs : List ℕ) → All SpanFits xs → length xs % 2 ≡ 1 → length xs ≤ 15 → spans_at (map decimal xs) ≡ Ok xs
spans_again [] fit odd few = absurd (omega arith)
spans_again (x ∷ xs) fit odd few =
    rw (span_again x (All-head SpanFits x xs fit), pairs_again 7 xs (All-tail SpanFits x xs fit) (omega arith) (omega arith)) refl

spans_plain : (xs : List ℕ) → All SpanFits xs → AllPlain (map decimal xs)
spans_plain [] fit = tt
spans_plain (x ∷ xs) fit =
    let head = All-head SpanFits x xs fit in
    (decimal_plain x (omega (arith, head.1)), spans_plain xs (All-tail SpanFits x xs fit))

-- ---- programs and powers

pub program_again : (p : Program) → ProgramFits p → program_at (program_fields p) ≡ Ok p
program_again p fits =
    rw (word_again p.name fits.name, byte_again 63 p.group fits.group (omega (arith, fits.group)), bucket_again p.bucket, byte_again 127 p.base fits.base fits.base, bound_again p.bound fits.bound, spans_again p.spans fits.spans fits.odd fits.few) refl

pub program_plain : (p : Program) → ProgramFits p → AllPlain (program_fields p)
program_plain p fits =
    (decimal_plain p.name (omega (arith, fits.name)), (decimal_plain p.group (omega (arith, fits.group)), (bucket_plain p.bucket, (decimal_plain p.base (omega (arith, fits.base)), (bound_plain p.bound fits.bound, spans_plain p.spans fits.spans)))))

pub power_again : (p : PowerAt) → PowerFits p → power_at p.on (power_fields p) ≡ Ok p
power_again p fits =
    rw (byte_again 15 p.cluster fits.cluster (omega (arith, fits.cluster)), number_again 4999 p.turn fits.turn (omega (arith, fits.turn))) refl

pub power_plain : (p : PowerAt) → PowerFits p → AllPlain (power_fields p)
power_plain p fits =
    (decimal_plain p.cluster (omega (arith, fits.cluster)), (decimal_plain p.turn (omega (arith, fits.turn)), tt))

-- ---- lengths

-- each piece has at most 10 bytes
abbrev AllShort : List (List ℕ) → Type 0
AllShort [] = Unit {0}
AllShort (p ∷ ps) = (length p ≤ 10) × AllShort ps

pub spaced_short : (ps : List (List ℕ)) → AllShort ps → length (spaced ps) ≤ 11 * length ps
spaced_short [] short = omega arith
spaced_short (p ∷ []) short = omega (arith, short.0)
spaced_short (p ∷ q ∷ ps) short =
    omega (arith, length-append p (32 ∷ spaced (q ∷ ps)), short.0, spaced_short (q ∷ ps) short.1)

spans_short : (xs : List ℕ) → All SpanFits xs → AllShort (map decimal xs)
spans_short [] fit = tt
spans_short (x ∷ xs) fit =
    let head = All-head SpanFits x xs fit in
    (wide x (omega (arith, head.1)), spans_short xs (All-tail SpanFits x xs fit))

pub program_short : (p : Program) → ProgramFits p → length (spaced (codes "thread" ∷ program_fields p)) ≤ 256
program_short p fits =
    let bucket : length (bucket_piece p.bucket) ≤ 10 = omega (arith, bucket_short p.bucket) in
    let bound : length (bound_piece p.bound) ≤ 10 = omega (arith, bound_short p.bound fits.bound) in
    let short = spaced_short (codes "thread" ∷ program_fields p) (omega arith, (wide p.name fits.name, (wide p.group (omega (arith, fits.group)), (bucket, (wide p.base (omega (arith, fits.base)), (bound, spans_short p.spans fits.spans)))))) in
    omega (arith, short, length-map p.spans decimal, fits.few)

power_word_short : (on : Bool) → length (power_word on) ≤ 10
power_word_short true = omega arith
power_word_short false = omega arith

pub power_short : (p : PowerAt) → PowerFits p → length (spaced (power_word p.on ∷ power_fields p)) ≤ 256
power_short p fits =
    let short = spaced_short (power_word p.on ∷ power_fields p) (power_word_short p.on, (wide p.cluster (omega (arith, fits.cluster)), (wide p.turn (omega (arith, fits.turn)), tt))) in
    omega (arith, short)
