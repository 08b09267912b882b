-- Lists of numbers as JSON: what is written of them, and what is read of that.
use Rattle.std.proofs.Common.{◌≡◌, ℕ, suc, ◌<◌, ◌≤◌, ◌^◌, List, [], ◌∷◌, ◌++◌, Bool, true, false, Some, IsUtf8, option_map, option_and_then, map, decimal, refl, sym, ◌∙◌, ap, append_assoc, arith}
use Rattle.std.proofs.lemmas.Fmt.{IsAscii-decimal}
use Rattle.std.proofs.lemmas.Str.{IsUtf8-append, IsUtf8-from_ascii, IsUtf8-nil}
use Rattle.std.specs.List.{join_with_byte}
use Rattle.flat_policy.specs.Texts.SetupLines.{bracketed, numbers_text}
use Rattle.json.proofs.Printed.Decimals.{IsNumber-decimal}
use Rattle.json.proofs.Printed.Utf8.{IsUtf8-are_ascii}
use Rattle.json.specs.Tree as tree
use Rattle.serde_json.proofs.Numbers.{number_of-decimal}
use Rattle.serde_json.specs.Data.{Data, Items, array, item, no_items, number, unsigned}
use Rattle.serde_json.specs.Read.{of_items, of_json}
use Rattle.serde_json.specs.Written.{comma_if, compact_text, items_outline, items_text, outline}
use Rattle.setup_json.proofs.Each.{Each, each_so}

-- the items of a list
abbrev pub items_of : {A : Type 0} → (A → Data) → List A → Items
items_of f [] = no_items
items_of f (x ∷ xs) = item (f x) (items_of f xs)

abbrev pub number_data : ℕ → Data
number_data n = number (unsigned n)

abbrev pub row_data : List ℕ → Data
row_data row = array (items_of number_data row)

abbrev pub table_data : List (List ℕ) → Data
table_data rows = array (items_of row_data rows)

abbrev pub tables_data : List (List (List ℕ)) → Data
tables_data tables = array (items_of table_data tables)

-- ---- their text

items_joined : {A : Type 0} → (f : A → Data) (g : A → List ℕ) → ((x : A) → compact_text (f x) ≡ g x) → (xs : List A)
    → items_text false (items_of f xs) ≡ join_with_byte 44 (map g xs) ++ 93 ∷ []
items_joined f g same [] = refl
items_joined f g same (x ∷ []) = ap (λ (t : List ℕ). t ++ 93 ∷ []) (same x)
items_joined f g same (x ∷ y ∷ ys) =
    ap (λ (t : List ℕ). t ++ 44 ∷ items_text false (items_of f (y ∷ ys))) (same x)
    ∙ ap (λ (rest : List ℕ). g x ++ 44 ∷ rest) (items_joined f g same (y ∷ ys))
    ∙ sym (append_assoc (g x) (44 ∷ join_with_byte 44 (map g (y ∷ ys))) (93 ∷ []))

pub array_text : {A : Type 0} → (f : A → Data) (g : A → List ℕ) → ((x : A) → compact_text (f x) ≡ g x) → (xs : List A)
    → compact_text (array (items_of f xs)) ≡ bracketed (map g xs)
array_text f g same xs = ap (λ (t : List ℕ). 91 ∷ t) (items_joined f g same xs)

pub row_text : (row : List ℕ) → compact_text (row_data row) ≡ numbers_text row
row_text row = array_text number_data decimal (λ n. refl) row

pub table_text : (rows : List (List ℕ)) → compact_text (table_data rows) ≡ bracketed (map numbers_text rows)
table_text rows = array_text row_data numbers_text row_text rows

abbrev pub rows_text : List (List ℕ) → List ℕ
rows_text rows = bracketed (map numbers_text rows)

pub tables_text : (tables : List (List (List ℕ))) → compact_text (tables_data tables) ≡ bracketed (map rows_text tables)
tables_text tables = array_text table_data rows_text table_text tables

-- ---- values whose text is read as they are, at most so deep

pub record IsAgain (n : ℕ) (d : Data) : Type 0 where
  pub read : of_json (outline d) ≡ Some d
  pub numbers : tree.HasNumbers (outline d)
  pub shallow : tree.depth (outline d) ≤ n
  pub text : IsUtf8 (compact_text d)

record AreAgain (n : ℕ) (ds : Items) : Type 0 where
  read : of_items (items_outline ds) ≡ Some ds
  numbers : tree.ItemsHaveNumbers (items_outline ds)
  shallow : tree.items_depth (items_outline ds) ≤ n
  text : (later : Bool) → IsUtf8 (items_text later ds)

pub comma_utf8 : (later : Bool) → IsUtf8 (comma_if later)
comma_utf8 true = IsUtf8-are_ascii (44 ∷ []) refl
comma_utf8 false = IsUtf8-nil

pub number_again : (n : ℕ) → n < 2 ^ 64 → IsAgain 0 (number_data n)
number_again n small = record {
  read = ap (option_map number) (number_of-decimal n small);
  numbers = IsNumber-decimal n small;
  shallow = omega arith;
  text = IsUtf8-from_ascii (decimal n) (IsAscii-decimal n small);
}

items_again : {A : Type 0} → (f : A → Data) (n : ℕ) (xs : List A) → Each (λ x. IsAgain n (f x)) xs → AreAgain n (items_of f xs)
items_again f n [] each = record { read = refl; numbers = tt; shallow = omega arith; text = λ later. IsUtf8-are_ascii (93 ∷ []) refl }
items_again f n (x ∷ xs) each =
    let first : IsAgain n (f x) = each.0 in
    let rest : AreAgain n (items_of f xs) = items_again f n xs each.1 in
    record {
      read = ap (option_and_then (λ d. option_map (item d) (of_items (items_outline (items_of f xs))))) first.read ∙ ap (option_map (item (f x))) rest.read;
      numbers = (first.numbers, rest.numbers);
      shallow = omega (arith, first.shallow, rest.shallow);
      text = λ later. IsUtf8-append (comma_if later) (compact_text (f x) ++ items_text true (items_of f xs)) (comma_utf8 later) (IsUtf8-append (compact_text (f x)) (items_text true (items_of f xs)) first.text (rest.text true));
    }

pub array_again : {A : Type 0} → (f : A → Data) (n : ℕ) (xs : List A) → Each (λ x. IsAgain n (f x)) xs → IsAgain (suc n) (array (items_of f xs))
array_again f n xs each =
    let items : AreAgain n (items_of f xs) = items_again f n xs each in
    record {
      read = ap (option_map array) items.read;
      numbers = items.numbers;
      shallow = omega (arith, items.shallow);
      text = IsUtf8-append (91 ∷ []) (items_text false (items_of f xs)) (IsUtf8-are_ascii (91 ∷ []) refl) (items.text false);
    }

-- numbers of eight digits at the most, in rows, in tables, in tables of tables
abbrev pub Small : ℕ → Type 0
Small n = n < 10 ^ 8

abbrev pub SmallRow : List ℕ → Type 0
SmallRow row = Each Small row

abbrev pub SmallTable : List (List ℕ) → Type 0
SmallTable rows = Each SmallRow rows

pub row_again : (row : List ℕ) → SmallRow row → IsAgain 1 (row_data row)
row_again row small = array_again number_data 0 row (each_so Small (λ n. IsAgain 0 (number_data n)) (λ n few. number_again n (omega arith)) row small)

pub table_again : (rows : List (List ℕ)) → SmallTable rows → IsAgain 2 (table_data rows)
table_again rows small = array_again row_data 1 rows (each_so SmallRow (λ row. IsAgain 1 (row_data row)) row_again rows small)

pub tables_again : (tables : List (List (List ℕ))) → Each SmallTable tables → IsAgain 3 (tables_data tables)
tables_again tables small = array_again table_data 2 tables (each_so SmallTable (λ rows. IsAgain 2 (table_data rows)) table_again tables small)
