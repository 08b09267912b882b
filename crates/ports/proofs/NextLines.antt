-- The answers of a feed are those of the bytes alone.
use Rattle.std.proofs.Common.{◌≡◌, ◌≢◌, ℕ, zero, suc, ◌-◌, ◌<◌, ◌≤◌, List, [], ◌∷◌, ◌++◌, length, take, arith, ◌∙◌, ap, refl}
use Rattle.std.proofs.lemmas.Bool.Decides.{nat_tests}
use Rattle.ports.specs.Lines.{HasNoNewline}
use Rattle.ports.specs.NextLine.{answer_by, answer_of, line_of}
use Rattle.ports.specs.declared.line_feed.Fed.{Fed}
use Rattle.ports.specs.declared.line_feed.Fed.TheVariants.{Line, Long, Unfinished, End, Over}

head : (b : ℕ) (bs : List ℕ) → HasNoNewline (b ∷ bs) → b ≢ 10
head b bs plain = plain 0 0 (omega arith)

tail : (b : ℕ) (bs : List ℕ) → HasNoNewline (b ∷ bs) → HasNoNewline bs
tail b bs plain k d below = plain (suc k) d (omega arith)

-- one byte that decides nothing
step : (last : Fed) (limit left b : ℕ) (bs : List ℕ) → 0 < left → b ≢ 10 → 0 < limit →
    answer_by last limit left (b ∷ bs) ≡ answer_by Unfinished (limit - 1) (left - 1) bs
step last limit left b bs counts plain short = grind (arith, nat_tests)

long_at : (last : Fed) (left b : ℕ) (bs : List ℕ) → 0 < left → b ≢ 10 → answer_by last 0 left (b ∷ bs) ≡ Long
long_at last left b bs counts plain = grind (arith, nat_tests)

line_step : (b : ℕ) (bs : List ℕ) → b ≢ 10 → line_of (b ∷ bs) ≡ b ∷ line_of bs
line_step b bs plain = grind (arith, nat_tests)

-- a line within the limit, all of which counts
pub answer_by-line : (line rest : List ℕ) (last : Fed) (limit left : ℕ) → HasNoNewline line → length line ≤ limit → length line < left →
    answer_by last limit left (line ++ 10 ∷ rest) ≡ Line
answer_by-line [] rest last limit left plain short counts = grind (arith, nat_tests)
answer_by-line (b ∷ line) rest last limit left plain short counts =
    step last limit left b (line ++ 10 ∷ rest) (omega arith) (head b line plain) (omega arith)
    ∙ answer_by-line line rest Unfinished (limit - 1) (left - 1) (tail b line plain) (omega arith) (omega arith)

pub line_of-line : (line rest : List ℕ) → HasNoNewline line → line_of (line ++ 10 ∷ rest) ≡ line
line_of-line [] rest plain = refl
line_of-line (b ∷ line) rest plain =
    line_step b (line ++ 10 ∷ rest) (head b line plain) ∙ ap (λ (bs : List ℕ). b ∷ bs) (line_of-line line rest (tail b line plain))

-- more bytes than the limit, without a newline among them
pub answer_by-long : (bytes : List ℕ) (last : Fed) (limit left : ℕ) → HasNoNewline (take (suc limit) bytes) → limit < length bytes → limit < left →
    answer_by last limit left bytes ≡ Long
answer_by-long [] last limit left plain reached counts = absurd (omega arith)
answer_by-long (b ∷ bs) last zero left plain reached counts = long_at last left b bs counts (head b (take 0 bs) plain)
answer_by-long (b ∷ bs) last (suc limit) left plain reached counts =
    let few : suc limit - 1 ≡ limit = omega arith in
    step last (suc limit) left b bs (omega arith) (head b (take (suc limit) bs) plain) (omega arith)
    ∙ ap (λ (n : ℕ). answer_by Unfinished n (left - 1) bs) few
    ∙ answer_by-long bs Unfinished limit (left - 1) (tail b (take (suc limit) bs) plain) (omega arith) (omega arith)

-- a byte past those that count
pub answer_by-over : (bytes : List ℕ) (last : Fed) (limit left : ℕ) → HasNoNewline (take left bytes) → left < length bytes → left ≤ limit →
    answer_by last limit left bytes ≡ Over
answer_by-over [] last limit left plain reached short = absurd (omega arith)
answer_by-over (b ∷ bs) last limit zero plain reached short = refl
answer_by-over (b ∷ bs) last limit (suc left) plain reached short =
    let few : suc left - 1 ≡ left = omega arith in
    step last limit (suc left) b bs (omega arith) (head b (take left bs) plain) (omega arith)
    ∙ ap (λ (n : ℕ). answer_by Unfinished (limit - 1) n bs) few
    ∙ answer_by-over bs Unfinished (limit - 1) left (tail b (take left bs) plain) (omega arith) (omega arith)

-- a few bytes and no newline
pub answer_by-open : (bytes : List ℕ) (limit left : ℕ) → HasNoNewline bytes → length bytes ≤ limit → length bytes ≤ left →
    answer_by Unfinished limit left bytes ≡ Unfinished
answer_by-open [] limit left plain short counts = refl
answer_by-open (b ∷ bs) limit left plain short counts =
    step Unfinished limit left b bs (omega arith) (head b bs plain) (omega arith)
    ∙ answer_by-open bs (limit - 1) (left - 1) (tail b bs plain) (omega arith) (omega arith)

-- the same where there is a byte
pub answer_of-open : (bytes : List ℕ) (limit left : ℕ) → HasNoNewline bytes → length bytes ≤ limit → length bytes ≤ left → 0 < length bytes →
    answer_of limit left bytes ≡ Unfinished
answer_of-open [] limit left plain short counts some = absurd (omega arith)
answer_of-open (b ∷ bs) limit left plain short counts some =
    step End limit left b bs (omega arith) (head b bs plain) (omega arith)
    ∙ answer_by-open bs (limit - 1) (left - 1) (tail b bs plain) (omega arith) (omega arith)
