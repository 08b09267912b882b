-- Programs and powers that were read, told by their pieces.
use Rattle.std.proofs.Common.{[], arith, cond, decimal, length, List, map, refl, subst, suc, zero, ℕ, ◌%◌, ◌+◌, ◌<◌, ◌^◌, ◌≡◌, ◌≤◌, ◌∷◌, Bool, Err, Ok, Result, false, true}
use Rattle.std.proofs.Math.Dec.{eqb}
use Rattle.std.specs.List.{All}
use Rattle.std.proofs.lemmas.Bool.{eqb-false}
use Rattle.std.proofs.lemmas.List.Elements.{All-cons, All-nil}
use Rattle.flat_policy.specs.declared.texts.LineFault.{LineFault}
use Rattle.flat_policy.specs.Texts.Lines.{power_at, power_word, program_at, span_pairs, span_within, spans_at}
use Rattle.flat_policy.specs.Texts.Pieces.{base_at, bound_at, bound_piece, bucket_at, bucket_piece, cluster_at, group_at, most_of_32, name_at, next_piece, number_within}
use Rattle.flat_policy.specs.Runs.Worker.{PowerAt, Program}
use Rattle.trace_text.proofs.LinesBack.{at_end_back}
use Rattle.trace_text.proofs.ReadBack.{PieceBack, behind, number_back}
use Rattle.trace_text.proofs.Readings.{and_then_ok, ok_is}
use Rattle.trace_text.proofs.StepsBack.{bound_back, bucket_back, field_back}
use Rattle.trace_text.specs.Runs.{PowerFits, ProgramFits, SpanFits}
use Rattle.flat_policy.specs.declared.texts.LineFault.TheVariants as line_faults

-- ---- spans

not_zero : (none : Bool) (n x : ℕ) → ◌≡◌ {A = Result ℕ LineFault} (cond none (Err line_faults.Range) (Ok n)) (Ok x) → (none ≡ false) × (n ≡ x)
not_zero true n x e = absurd cc
not_zero false n x e = (refl, ok_is n x e)

span_back : PieceBack decimal SpanFits span_within
span_back p x e =
    let n = and_then_ok (number_within 10000000 p) _ x e in
    let s = not_zero (eqb n.0 0) n.0 x n.2 in
    let some = eqb-false n.0 0 s.0 in
    let b = number_back 10000000 (omega arith) p n.0 n.1 in
    subst (λ (y : ℕ). (p ≡ decimal y) × SpanFits y) s.1 (b.0, (omega arith, b.1))

-- spans that were read: an even number of them, so many at the most
record ArePairs (room : ℕ) (ps : List (List ℕ)) (xs : List ℕ) : Type 0 where
  pieces : ps ≡ map decimal xs
  fit : All SpanFits xs
  even : length xs % 2 ≡ 0
  few : length xs ≤ room + room

pairs_back : (room : ℕ) (ps : List (List ℕ)) (xs : List ℕ) → span_pairs room ps ≡ Ok xs → ArePairs room ps xs
pairs_back room [] xs e =
    subst (λ (xs : List ℕ). ArePairs room [] xs) (ok_is [] xs e) (record { pieces = refl; fit = All-nil SpanFits; even = refl; few = omega arith })
pairs_back zero (p ∷ ps) xs e = absurd cc
pairs_back (suc room) (p ∷ []) xs e =
    let sleep = and_then_ok (span_within p) _ xs e in
    let no : ◌≡◌ {A = Result (List ℕ) LineFault} (Err line_faults.Word) (Ok xs) = sleep.2 in
    absurd cc
pairs_back (suc room) (p ∷ q ∷ ps) xs e =
    let sleep = and_then_ok (span_within p) _ xs e in
    let run = and_then_ok (span_within q) _ xs sleep.2 in
    let more = and_then_ok (span_pairs room ps) _ xs run.2 in
    let first = span_back p sleep.0 sleep.1 in
    let second = span_back q run.0 run.1 in
    let rest = pairs_back room ps more.0 more.1 in
    let piece : p ≡ decimal sleep.0 = first.0 in
    let piece' : q ≡ decimal run.0 = second.0 in
    let pieces' : ps ≡ map decimal more.0 = rest.pieces in
    subst (λ (xs : List ℕ). ArePairs (suc room) (p ∷ q ∷ ps) xs) (ok_is (sleep.0 ∷ run.0 ∷ more.0) xs more.2) (record {
      pieces = cc;
      fit = All-cons SpanFits sleep.0 (run.0 ∷ more.0) first.1 (All-cons SpanFits run.0 more.0 second.1 rest.fit);
      even = omega (arith, rest.even);
      few = omega (arith, rest.few);
    })

record AreSpans (ps : List (List ℕ)) (xs : List ℕ) : Type 0 where
  pieces : ps ≡ map decimal xs
  fit : All SpanFits xs
  odd : length xs % 2 ≡ 1
  few : length xs ≤ 15

spans_back : (ps : List (List ℕ)) (xs : List ℕ) → spans_at ps ≡ Ok xs → AreSpans ps xs
spans_back [] xs e = absurd cc
spans_back (p ∷ ps) xs e =
    let run = and_then_ok (span_within p) _ xs e in
    let more = and_then_ok (span_pairs 7 ps) _ xs run.2 in
    let first = span_back p run.0 run.1 in
    let rest = pairs_back 7 ps more.0 more.1 in
    let piece : p ≡ decimal run.0 = first.0 in
    let pieces' : ps ≡ map decimal more.0 = rest.pieces in
    subst (λ (xs : List ℕ). AreSpans (p ∷ ps) xs) (ok_is (run.0 ∷ more.0) xs more.2) (record {
      pieces = cc;
      fit = All-cons SpanFits run.0 more.0 first.1 rest.fit;
      odd = omega (arith, rest.even);
      few = omega (arith, rest.few);
    })

-- ---- programs and powers

abbrev pub program_fields : Program → List (List ℕ)
program_fields p =
    decimal p.name ∷ decimal p.group ∷ bucket_piece p.bucket ∷ decimal p.base ∷ bound_piece p.bound ∷ map decimal p.spans

pub program_back : (ps : List (List ℕ)) (p : Program) → program_at ps ≡ Ok p → (ps ≡ program_fields p) × ProgramFits p
program_back ps p e =
    let name = and_then_ok (name_at ps) _ p e in
    let group = and_then_ok (group_at name.0.1) _ p name.2 in
    let bucket = and_then_ok (bucket_at group.0.1) _ p group.2 in
    let base = and_then_ok (base_at bucket.0.1) _ p bucket.2 in
    let bound = and_then_ok (bound_at base.0.1) _ p base.2 in
    let spans = and_then_ok (spans_at bound.0.1) _ p bound.2 in
    let name_is = field_back most_of_32 (omega arith) ps name.0.1 name.0.0 name.1 in
    let group_is = field_back 63 (omega arith) name.0.1 group.0.1 group.0.0 group.1 in
    let bucket_is = bucket_back group.0.1 bucket.0.1 bucket.0.0 bucket.1 in
    let base_is = field_back 127 (omega arith) bucket.0.1 base.0.1 base.0.0 base.1 in
    let bound_is = bound_back base.0.1 bound.0.1 bound.0.0 bound.1 in
    let spans_are = spans_back bound.0.1 spans.0 spans.1 in
    let read : Program = record { name = name.0.0; group = group.0.0; bucket = bucket.0.0; base = base.0.0; bound = bound.0.0; spans = spans.0 } in
    let below : name.0.0 < 2 ^ 32 = omega (arith, name_is.1) in
    subst (λ (p : Program). (ps ≡ program_fields p) × ProgramFits p) (ok_is read p spans.2) (
      behind name_is.0 (behind group_is.0 (behind bucket_is (behind base_is.0 (behind bound_is.0 spans_are.pieces)))),
      record {
        name = below;
        group = group_is.1;
        base = base_is.1;
        bound = bound_is.1;
        spans = spans_are.fit;
        odd = spans_are.odd;
        few = spans_are.few;
      },
    )

abbrev pub power_fields : PowerAt → List (List ℕ)
power_fields p = decimal p.cluster ∷ decimal p.turn ∷ []

pub power_back : (on : Bool) (ps : List (List ℕ)) (p : PowerAt) → power_at on ps ≡ Ok p → (power_word on ∷ ps ≡ power_word p.on ∷ power_fields p) × PowerFits p
power_back on ps p e =
    let c = and_then_ok (cluster_at ps) _ p e in
    let turn = and_then_ok (next_piece (number_within 4999) c.0.1) _ p c.2 in
    let read : PowerAt = record { cluster = c.0.0; on = on; turn = turn.0.0 } in
    let end = at_end_back read p turn.0.1 turn.2 in
    let c_is = field_back 15 (omega arith) ps c.0.1 c.0.0 c.1 in
    let turn_is = field_back 4999 (omega arith) c.0.1 turn.0.1 turn.0.0 turn.1 in
    subst (λ (p : PowerAt). (power_word on ∷ ps ≡ power_word p.on ∷ power_fields p) × PowerFits p) end.1 (behind refl (behind c_is.0 (behind turn_is.0 end.0)), record { cluster = c_is.1; turn = turn_is.1 })
