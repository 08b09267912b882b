-- Pieces that are no word of a table.
use Rattle.std.proofs.Common.{arith, get_or, length, List, refl, suc, ℕ, ◌≡◌, ◌≢◌, ◌≤◌, None}
use Rattle.flat_policy.specs.Texts.Pieces.{value_of_word}
use Rattle.trace_text.proofs.Naming.{no_first, no_word}
use Rattle.trace_text.specs.Naming.{refusal_names}

-- no word of a refusal is longer than 10 bytes, and those of 10 bytes begin with N and O
pub long_is_no_refusal : (p : List ℕ) → 11 ≤ length p → value_of_word refusal_names p ≡ None
long_is_no_refusal p long = no_word 11 (suc (length p)) refusal_names p refl long (omega arith)

pub other_is_no_refusal : (p : List ℕ) → length p ≡ 10 → get_or p 0 0 ≢ 78 → get_or p 0 0 ≢ 79 → value_of_word refusal_names p ≡ None
other_is_no_refusal p ten n o = no_first 10 refusal_names p (omega arith) ten (n, (o, (n, tt)))
