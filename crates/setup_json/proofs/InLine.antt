-- Texts that stand in a line: so many bytes at the most, and no newline among them.
use Rattle.std.proofs.Common.{◌≡◌, ℕ, suc, ◌+◌, ◌*◌, ◌<◌, ◌≤◌, List, [], ◌∷◌, ◌++◌, Bool, true, not, ◌==◌, decimal, length, length-append, map, refl, ◌∙◌, ap, arith, suc-mul, one-mul, mul-le-mul_right, ne_eqb}
use Rattle.std.proofs.lemmas.Bool.{and_from, and_parts, not-true}
use Rattle.std.proofs.lemmas.Fmt.{decimal_is_IsNumeral, length-decimal-le}
use Rattle.std.proofs.lemmas.List.{length-map}
use Rattle.std.proofs.lemmas.List.Folds.{list_all-append}
use Rattle.std.specs.Char.{digit_value}
use Rattle.std.specs.List.{join_with_byte, list_all}
use Rattle.std.specs.Str.Parse.{AllDigits}
use Rattle.flat_policy.specs.Texts.SetupLines.{bracketed, numbers_text}
use Rattle.flat_policy.specs.Texts.Streams.{text_lines}
use Rattle.setup_json.proofs.Arrays.{Small, SmallRow}
use Rattle.setup_json.proofs.Each.{Each, each_mapped}
use Rattle.setup_json.specs.Laws.{line_before}

abbrev pub no_newline : List ℕ → Bool
no_newline t = list_all (λ b. not (b == 10)) t

pub record InLine (m : ℕ) (t : List ℕ) : Type 0 where
  pub plain : no_newline t ≡ true
  pub short : length t ≤ m

-- a text without a newline and then one are a line
pub is_first_line : (t more : List ℕ) → no_newline t ≡ true → text_lines (t ++ 10 ∷ more) ≡ line_before t (text_lines more)
is_first_line [] more plain = refl
is_first_line (b ∷ t) more plain =
    let parts = and_parts (not (b == 10)) (no_newline t) plain in
    rw (not-true (b == 10) parts.0, is_first_line t more parts.1) refl

pub longer : (m n : ℕ) (t : List ℕ) → m ≤ n → InLine m t → InLine n t
longer m n t le line = record { plain = line.plain; short = omega (arith, line.short) }

pub appended : (m n : ℕ) (t u : List ℕ) → InLine m t → InLine n u → InLine (m + n) (t ++ u)
appended m n t u first then = record {
  plain = list_all-append (λ b. not (b == 10)) t u ∙ and_from (no_newline t) (no_newline u) first.plain then.plain;
  short = omega (arith, length-append t u, first.short, then.short);
}

-- a part behind its key
pub keyed : (m k n : ℕ) (t key part : List ℕ) → InLine m t → no_newline key ≡ true → length key ≤ k → InLine n part → InLine (m + k + n) (t ++ key ++ part)
keyed m k n t key part before plain short after =
    appended (m + k) n (t ++ key) part (appended m k t key before (record { plain = plain; short = short })) after

-- ---- texts with commas between them, in brackets

joined_in_line : (m : ℕ) (ts : List (List ℕ)) → Each (InLine m) ts → InLine (length ts * suc m) (join_with_byte 44 ts)
joined_in_line m [] each = record { plain = refl; short = omega arith }
joined_in_line m (t ∷ []) each =
    let first : InLine m t = each.0 in
    record { plain = first.plain; short = omega (arith, one-mul (suc m), first.short) }
joined_in_line m (t ∷ u ∷ us) each =
    let rest : InLine (length (u ∷ us) * suc m) (join_with_byte 44 (u ∷ us)) = joined_in_line m (u ∷ us) each.1 in
    let comma : InLine (suc (length (u ∷ us) * suc m)) (44 ∷ join_with_byte 44 (u ∷ us)) = record { plain = rest.plain; short = omega (arith, rest.short) } in
    longer (m + suc (length (u ∷ us) * suc m)) (length (t ∷ u ∷ us) * suc m) (t ++ 44 ∷ join_with_byte 44 (u ∷ us))
    (omega (arith, suc-mul (length (u ∷ us)) (suc m))) (appended m (suc (length (u ∷ us) * suc m)) t (44 ∷ join_with_byte 44 (u ∷ us)) each.0 comma)

pub bracketed_in_line : (m n : ℕ) (ts : List (List ℕ)) → length ts ≤ n → Each (InLine m) ts → InLine (n * suc m + 2) (bracketed ts)
bracketed_in_line m n ts few each =
    let inner = joined_in_line m ts each in
    let line : InLine (length ts * suc m + 1) (join_with_byte 44 ts ++ 93 ∷ []) = appended (length ts * suc m) 1 (join_with_byte 44 ts) (93 ∷ []) inner (record { plain = refl; short = omega arith }) in
    record { plain = line.plain; short = omega (arith, line.short, mul-le-mul_right (suc m) few) }

-- ---- numbers

digits_plain : (ds : List ℕ) → AllDigits 10 ds → no_newline ds ≡ true
digits_plain [] all = refl
digits_plain (d ∷ ds) all =
    let digit : digit_value d < 10 = all.0 in
    and_from (not (d == 10)) (no_newline ds) (ap not (ne_eqb d 10 (λ e. grind arith))) (digits_plain ds all.1)

pub number_in_line : (n : ℕ) → Small n → InLine 8 (decimal n)
number_in_line n few = record {
  plain = digits_plain (decimal n) (decimal_is_IsNumeral n (omega arith)).0.1;
  short = length-decimal-le 8 n (omega arith) few (omega arith);
}

pub row_in_line : (k : ℕ) (row : List ℕ) → length row ≤ k → SmallRow row → InLine (k * 9 + 2) (numbers_text row)
row_in_line k row few small =
    bracketed_in_line 8 k (map decimal row) (omega (arith, length-map row decimal)) (each_mapped Small (InLine 8) decimal number_in_line row small)
