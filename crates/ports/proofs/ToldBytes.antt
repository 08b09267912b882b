-- What a feed answers over a source that tells its bytes.
use Rattle.std.proofs.Common.{◌≡◌, ℕ, suc, ◌+◌, ◌<◌, ◌≤◌, List, [], ◌∷◌, ◌++◌, length, take, Option, None, Some, arith, sym, ◌∙◌, ap, refl, add-one, append_assoc, length-append, append-nil}
use Rattle.std.proofs.lemmas.List.{take-append-le}
use Rattle.std.specs.Io.KnownBytes.{Consumes}
use Rattle.ports.specs.Lines.{HasNoNewline, IsLong, IsOver}
use Rattle.ports.specs.Feeds.{Feed}
use Rattle.ports.specs.LineFeed.{IsFed, bytes_ahead, given_by, counted}
use Rattle.ports.specs.NextLine.{answer_of, line_of, IsOfBytes}
use Rattle.ports.proofs.NextLines.{answer_by-line, line_of-line, answer_by-long, answer_by-over, answer_of-open}
use Rattle.ports.specs.declared.line_feed.Fed.{Fed}
use Rattle.ports.specs.declared.line_feed.Fed.TheVariants.{Line, Long, Unfinished, End, Fault, Over}

-- a line is the first of the bytes
given_line : (limit left : ℕ) (all line rest : List ℕ) → HasNoNewline line → length line ≤ limit → length line < left →
    all ≡ (line ++ 10 ∷ []) ++ rest → (Line ≡ answer_of limit left all) × (line ≡ line_of all)
given_line limit left all line rest plain short counts is =
    let front : all ≡ line ++ 10 ∷ rest = is ∙ append_assoc line (10 ∷ []) rest in (
      sym (ap (answer_of limit left) front ∙ answer_by-line line rest End limit left plain short counts),
      sym (ap line_of front ∙ line_of-line line rest plain),
    )

long_line : (limit left : ℕ) (held rest : List ℕ) → IsLong limit left held → Long ≡ answer_of limit left (held ++ rest)
long_line limit left held rest long =
    let within : suc limit ≤ length held = omega (arith, long.reached) in
    let plain : HasNoNewline (take (suc limit) (held ++ rest)) =
    rw (take-append-le (suc limit) held rest within, ← add-one limit) long.plain in
    sym (answer_by-long (held ++ rest) End limit left plain (omega (arith, length-append held rest)) long.counts)

over_line : (limit left : ℕ) (held rest : List ℕ) → IsOver limit left held → Over ≡ answer_of limit left (held ++ rest)
over_line limit left held rest over =
    let within : left ≤ length held = omega (arith, over.reached) in
    let plain : HasNoNewline (take left (held ++ rest)) = rw (take-append-le left held rest within) over.plain in
    sym (answer_by-over (held ++ rest) End limit left plain (omega (arith, length-append held rest)) over.short)

-- where no line was given, the same bytes count
same_answer : (limit : ℕ) (old new : Feed) (all bytes : List ℕ) → all ≡ bytes → new.passed ≡ old.passed + 0 →
    answer_of limit (counted old) all ≡ answer_of limit (counted new) bytes
same_answer limit old new all bytes is passed =
    let left : counted old ≡ counted new = omega (arith, passed) in
    ap (answer_of limit (counted old)) is ∙ ap (λ (n : ℕ). answer_of limit n bytes) left

-- the answers over known bytes: `all` was to come before, `rest` is left
known : (limit : ℕ) (old new : Feed) (all rest : List ℕ) (before now : ℕ) (r : Fed) → IsFed limit (Some rest) before now new r →
    all ≡ given_by new r ++ (new.held ++ rest) → new.passed ≡ old.passed + length (given_by new r) →
    ((r ≡ Fault → ⊥) → r ≡ answer_of limit (counted old) all) × (r ≡ Line → new.line ≡ line_of all)
known limit old new all rest before now Line fed is passed =
    let counts : length new.line < counted old = omega (arith, fed.counts, length-append new.line (10 ∷ [])) in
    let both : (Line ≡ answer_of limit (counted old) all) × (new.line ≡ line_of all) =
    given_line limit (counted old) all new.line (new.held ++ rest) fed.plain fed.short counts is in
    (λ _. both.0, λ _. both.1)
known limit old new all rest before now Long fed is passed = (
  λ _. long_line limit (counted new) new.held rest fed.1 ∙ sym (same_answer limit old new all (new.held ++ rest) is passed),
  λ no_line. cc,
)
known limit old new all rest before now Over fed is passed = (
  λ _. over_line limit (counted new) new.held rest fed.1 ∙ sym (same_answer limit old new all (new.held ++ rest) is passed),
  λ no_line. cc,
)
known limit old new all rest before now Unfinished fed is passed = (
  λ _. sym (answer_of-open new.held limit (counted new) fed.1.plain fed.1.short fed.1.counts fed.2)
      ∙ sym (same_answer limit old new all new.held (is ∙ ap (λ (k : List ℕ). new.held ++ k) fed.3 ∙ append-nil new.held) passed),
  λ no_line. cc,
)
known limit old new all rest before now End fed is passed = (
  λ _. ap (answer_of limit (counted old)) (sym (is ∙ ap (λ (k : List ℕ). k ++ rest) fed.1 ∙ fed.2)),
  λ no_line. cc,
)
known limit old new all rest before now Fault fed is passed =
    (λ none. absurd (none refl), λ no_line. cc)

-- the same where the source may not tell its bytes
pub IsOfBytes-next : (limit : ℕ) (old new : Feed) (left rest : Option (List ℕ)) (before now : ℕ) (r : Fed) → IsFed limit rest before now new r →
    Consumes (bytes_ahead old left) (bytes_ahead new rest) (given_by new r) → new.passed ≡ old.passed + length (given_by new r) →
    IsOfBytes limit old left new r
IsOfBytes-next limit old new None rest before now r fed is passed = tt
IsOfBytes-next limit old new (Some xs) None before now r fed is passed = absurd is
IsOfBytes-next limit old new (Some xs) (Some ys) before now r fed is passed = known limit old new (old.held ++ xs) ys before now r fed is passed
