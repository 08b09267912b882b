-- The summary of a load, from its parts.
use Rattle.std.proofs.Common.{◌≡◌, ℕ, List, ◌++◌, append_assoc, ap, sym, ◌∙◌}
use Rattle.flat_policy.specs.Runs.LoadTrace.{Load, LoadState, Tally, load_after, queued_count, share_line, summary, summary_line}
use Rattle.std.specs.Prelude.{codes}
use Rattle.trace_replay.specs.LoadsSoFar.{first_lines, head_line, load_in, summary_of, tally_in}
use Rattle.trace_replay.specs.declared.load.stepping.LoadSoFar.{LoadSoFar}

-- lists behind a list, one after the other or put together first
put_two : (h a b : List ℕ) → h ++ (a ++ b) ≡ h ++ a ++ b
put_two h a b = sym (append_assoc h a b)

put_three : (h a b c : List ℕ) → h ++ (a ++ b ++ c) ≡ h ++ a ++ b ++ c
put_three h a b c = put_two h (a ++ b) c ∙ ap (λ k. k ++ c) (put_two h a b)

put_four : (h a b c d : List ℕ) → h ++ (a ++ b ++ c ++ d) ≡ h ++ a ++ b ++ c ++ d
put_four h a b c d = put_two h (a ++ b ++ c) d ∙ ap (λ k. k ++ d) (put_three h a b c)

put_five : (h a b c d e : List ℕ) → h ++ (a ++ b ++ c ++ d ++ e) ≡ h ++ a ++ b ++ c ++ d ++ e
put_five h a b c d e = put_two h (a ++ b ++ c ++ d) e ∙ ap (λ k. k ++ e) (put_four h a b c d)

put_six : (h a b c d e f : List ℕ) → h ++ (a ++ b ++ c ++ d ++ e ++ f) ≡ h ++ a ++ b ++ c ++ d ++ e ++ f
put_six h a b c d e f = put_two h (a ++ b ++ c ++ d ++ e) f ∙ ap (λ k. k ++ f) (put_five h a b c d e)

-- the lines of a summary, in their order
lines_in_order : (seed n : ℕ) (st : LoadState) → summary_of seed n st.tally (queued_count st.state) ≡ summary seed n st
lines_in_order seed n st =
    let y : Tally = st.tally in
    let make : List ℕ = summary_line (codes "make ") y.makes in
    let enter : List ℕ = summary_line (codes "enter ") y.enters in
    let select : List ℕ = share_line (codes "select ") y.selected y.selects in
    let offer : List ℕ = share_line (codes "offer ") y.offered y.offers in
    let ran : List ℕ = summary_line (codes "ran ") y.rans in
    let sleep : List ℕ = summary_line (codes "sleep ") y.sleeps in
    let wake : List ℕ = summary_line (codes "wake ") y.wakes in
    let end : List ℕ = summary_line (codes "end ") y.ends in
    let refresh : List ℕ = summary_line (codes "refresh ") y.refreshes in
    let queued : List ℕ = summary_line (codes "queued ") (queued_count st.state) in
    put_six (head_line seed n ++ first_lines y) ran sleep wake end refresh queued
    ∙ ap (λ k. k ++ ran ++ sleep ++ wake ++ end ++ refresh ++ queued) (put_four (head_line seed n) make enter select offer)

-- the load in code is the policy's, so its summary is
pub summary_is : (seed n : ℕ) (l : LoadSoFar) (queued : ℕ) → load_in l (load_after seed n).state ≡ load_after seed n → queued ≡ queued_count (load_after seed n).state
    → summary_of seed n (tally_in l.counts) queued ≡ Load seed n
summary_is seed n l queued same is =
    ap (λ (st : LoadState). summary_of seed n st.tally queued) same
    ∙ ap (summary_of seed n (load_after seed n).tally) is
    ∙ lines_in_order seed n (load_after seed n)
