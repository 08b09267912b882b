-- Spans that are read pair by pair.
use Rattle.std.proofs.Common.{[], ap, append_assoc, arith, drop, length, List, refl, replicate, subst, suc, sym, take, ℕ, ◌++◌, ◌+◌, ◌-◌, ◌<◌, ◌≡◌, ◌≢◌, ◌∙◌, ◌∷◌, Result, Ok, Err}
use Rattle.std.proofs.Math.ListN.{set}
use Rattle.std.proofs.lemmas.List.{drop-drop, drop-replicate, drop-set-lt, length-set, take_more_set}
use Rattle.flat_policy.specs.declared.texts.LineFault.{LineFault}
use Rattle.flat_policy.specs.Texts.Lines.{span_pairs, span_within}
use Rattle.flat_policy.specs.Texts.Pieces.{and_then, next_piece}
use Rattle.trace_text.proofs.Readings.{next_err, next_ok}
use Rattle.flat_policy.specs.declared.texts.LineFault.TheVariants as line_faults

-- the spans before, and those that are read after them
abbrev pub after_spans : List ℕ → Result (List ℕ) LineFault → Result (List ℕ) LineFault
after_spans front r = and_then r (λ rest. Ok (front ++ rest))

pairs_more : (room : ℕ) (ps qs rs : List (List ℕ)) (sleep run : ℕ) → next_piece span_within ps ≡ Ok (sleep, qs) → next_piece span_within qs ≡ Ok (run, rs) → span_pairs (suc room) ps ≡ and_then (span_pairs room rs) (λ rest. Ok (sleep ∷ run ∷ rest))
pairs_more room [] qs rs sleep run e f = absurd cc
pairs_more room (p ∷ []) qs rs sleep run e f =
    let a = next_ok span_within p [] sleep qs e in
    let g : next_piece span_within [] ≡ Ok (run, rs) = subst (λ (r : List (List ℕ)). next_piece span_within r ≡ Ok (run, rs)) (sym a.1) f in
    absurd cc
pairs_more room (p ∷ q ∷ ps) qs rs sleep run e f =
    let a = next_ok span_within p (q ∷ ps) sleep qs e in
    let g : next_piece span_within (q ∷ ps) ≡ Ok (run, rs) = subst (λ (r : List (List ℕ)). next_piece span_within r ≡ Ok (run, rs)) (sym a.1) f in
    let b = next_ok span_within q ps run rs g in
    rw (a.0, b.0, b.1) refl

pairs_stop : (room : ℕ) (ps : List (List ℕ)) (d : LineFault) → ps ≢ [] → next_piece span_within ps ≡ Err d → span_pairs (suc room) ps ≡ Err d
pairs_stop room [] d some e = absurd (some refl)
pairs_stop room (p ∷ []) d some e = rw (next_err span_within p [] d e) refl
pairs_stop room (p ∷ q ∷ ps) d some e = rw (next_err span_within p (q ∷ ps) d e) refl

pairs_stop_later : (room : ℕ) (ps qs : List (List ℕ)) (sleep : ℕ) (d : LineFault) → next_piece span_within ps ≡ Ok (sleep, qs) → next_piece span_within qs ≡ Err d → span_pairs (suc room) ps ≡ Err d
pairs_stop_later room [] qs sleep d e f = absurd cc
pairs_stop_later room (p ∷ []) qs sleep d e f =
    let a = next_ok span_within p [] sleep qs e in
    let g : next_piece span_within [] ≡ Err d = subst (λ (r : List (List ℕ)). next_piece span_within r ≡ Err d) (sym a.1) f in
    let same : line_faults.Word ≡ d = cc in
    rw (a.0, ← same) refl
pairs_stop_later room (p ∷ q ∷ ps) qs sleep d e f =
    let a = next_ok span_within p (q ∷ ps) sleep qs e in
    let g : next_piece span_within (q ∷ ps) ≡ Err d = subst (λ (r : List (List ℕ)). next_piece span_within r ≡ Err d) (sym a.1) f in
    rw (a.0, next_err span_within q ps d g) refl

regroup : (front : List ℕ) (sleep run : ℕ) (r : Result (List ℕ) LineFault) → after_spans front (and_then r (λ rest. Ok (sleep ∷ run ∷ rest))) ≡ after_spans (front ++ sleep ∷ run ∷ []) r
regroup front sleep run (Ok x) = ap (λ (spans : List ℕ). Ok spans) (sym (append_assoc front (sleep ∷ run ∷ []) x))
regroup front sleep run (Err d) = refl

-- ---- a loop over the pairs: one more, a fault, and the end

pub spans_more : (front : List ℕ) (at : ℕ) (ps qs rs : List (List ℕ)) (sleep run : ℕ) (whole : Result (List ℕ) LineFault) → at < 7 → next_piece span_within ps ≡ Ok (sleep, qs) → next_piece span_within qs ≡ Ok (run, rs) → after_spans front (span_pairs (7 - at) ps) ≡ whole → after_spans (front ++ sleep ∷ run ∷ []) (span_pairs (7 - (at + 1)) rs) ≡ whole
spans_more front at ps qs rs sleep run whole lt e f so =
    let left : 7 - at ≡ suc (7 - (at + 1)) = omega arith in
    sym (regroup front sleep run (span_pairs (7 - (at + 1)) rs))
    ∙ ap (after_spans front) (sym (pairs_more (7 - (at + 1)) ps qs rs sleep run e f) ∙ ap (λ (k : ℕ). span_pairs k ps) (sym left))
    ∙ so

pub spans_stop : (front : List ℕ) (at : ℕ) (ps : List (List ℕ)) (d : LineFault) (whole : Result (List ℕ) LineFault) → at < 7 → ps ≢ [] → next_piece span_within ps ≡ Err d → after_spans front (span_pairs (7 - at) ps) ≡ whole → whole ≡ Err d
spans_stop front at ps d whole lt some e so =
    let left : 7 - at ≡ suc (7 - (at + 1)) = omega arith in
    sym so ∙ ap (after_spans front) (ap (λ (k : ℕ). span_pairs k ps) left ∙ pairs_stop (7 - (at + 1)) ps d some e)

pub spans_stop_later : (front : List ℕ) (at : ℕ) (ps qs : List (List ℕ)) (sleep : ℕ) (d : LineFault) (whole : Result (List ℕ) LineFault) → at < 7 → next_piece span_within ps ≡ Ok (sleep, qs) → next_piece span_within qs ≡ Err d → after_spans front (span_pairs (7 - at) ps) ≡ whole → whole ≡ Err d
spans_stop_later front at ps qs sleep d whole lt e f so =
    let left : 7 - at ≡ suc (7 - (at + 1)) = omega arith in
    sym so ∙ ap (after_spans front) (ap (λ (k : ℕ). span_pairs k ps) left ∙ pairs_stop_later (7 - (at + 1)) ps qs sleep d e f)

-- ---- the list of the spans

pub list_more : (list : List ℕ) (n a b : ℕ) → n + 1 < length list → take (n + 2) (set (set list n a) (n + 1) b) ≡ take n list ++ a ∷ b ∷ []
list_more list n a b lt =
    let far : n + 1 < length (set list n a) = omega (arith, length-set list n a) in
    let two : n + 2 ≡ n + 1 + 1 = omega arith in
    rw (two, take_more_set (set list n a) (n + 1) b far, take_more_set list n a (omega arith)) (append_assoc (take n list) (a ∷ []) (b ∷ []))

pub list_unused : (list : List ℕ) (n a b : ℕ) → drop n list ≡ replicate (15 - n) 0 → drop (n + 2) (set (set list n a) (n + 1) b) ≡ replicate (15 - (n + 2)) 0
list_unused list n a b unused =
    let less : (15 - n) - 2 ≡ 15 - (n + 2) = omega arith in
    rw (drop-set-lt (n + 2) (set list n a) (n + 1) b (omega arith), drop-set-lt (n + 2) list n a (omega arith), ← drop-drop 2 n list, unused, drop-replicate {X = ℕ} 2 (15 - n) 0, less) refl
