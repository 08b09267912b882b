-- A setup's object: its members, their text, and what is read of it.
use Rattle.std.proofs.Common.{◌≡◌, ℕ, suc, ◌≤◌, List, [], ◌∷◌, ◌++◌, Bool, true, false, Some, IsUtf8, option_map, option_and_then, refl, sym, ◌∙◌, ap, append-nil, arith}
use Rattle.std.proofs.lemmas.Str.{IsUtf8-append, is_utf8-from_IsUtf8}
use Rattle.flat_policy.specs.Texts.SetupLines.{json_of}
use Rattle.json.proofs.Printed.Tokens.{tokens-print}
use Rattle.json.proofs.Printed.Trees.{ArePrintable-json_tokens, value-json_tokens}
use Rattle.json.proofs.Printed.Utf8.{IsUtf8-are_ascii, IsUtf8-quoted}
use Rattle.json.specs.Json as json
use Rattle.json.specs.Lex.{tokens}
use Rattle.json.specs.Print.{quoted}
use Rattle.json.specs.Tree as tree
use Rattle.serde_json.proofs.Texts.{print-outline}
use Rattle.serde_json.specs.Data.{Data, Members, member, no_members, object, put}
use Rattle.serde_json.specs.Read.{max_depth, of_json, of_members, read}
use Rattle.serde_json.specs.Written.{comma_if, compact_text, members_outline, members_text, outline}
use Rattle.setup_json.proofs.Arrays.{IsAgain, comma_utf8}

-- ---- members whose text is read as they are

abbrev pub put_all : Members → Members → Members
put_all no_members found = found
put_all (member k d ms) found = put_all ms (put k d found)

pub record MembersAgain (n : ℕ) (ms : Members) : Type 0 where
  pub read : (found : Members) → of_members (members_outline ms) found ≡ Some (put_all ms found)
  pub numbers : tree.MembersHaveNumbers (members_outline ms)
  pub shallow : tree.members_depth (members_outline ms) ≤ n
  pub text : (later : Bool) → IsUtf8 (members_text later ms)

pub none_again : (n : ℕ) → MembersAgain n no_members
none_again n = record { read = λ found. refl; numbers = tt; shallow = omega arith; text = λ later. IsUtf8-are_ascii (125 ∷ []) refl }

pub member_again : (n : ℕ) (k : List ℕ) (d : Data) (ms : Members) → IsUtf8 k → IsAgain n d → MembersAgain n ms → MembersAgain n (member k d ms)
member_again n k d ms key first rest =
    let valued = compact_text d ++ members_text true ms in
    record {
      read = λ found. ap (option_and_then (λ x. of_members (members_outline ms) (put k x found))) first.read ∙ rest.read (put k d found);
      numbers = (first.numbers, rest.numbers);
      shallow = omega (arith, first.shallow, rest.shallow);
      text = λ later.
          IsUtf8-append (comma_if later) (quoted k ++ 58 ∷ valued) (comma_utf8 later)
          (IsUtf8-append (quoted k) (58 ∷ valued) (IsUtf8-quoted k key)
          (IsUtf8-append (58 ∷ []) valued (IsUtf8-are_ascii (58 ∷ []) refl) (IsUtf8-append (compact_text d) (members_text true ms) first.text (rest.text true))));
    }

pub object_again : (n : ℕ) (ms : Members) → put_all ms no_members ≡ ms → MembersAgain n ms → IsAgain (suc n) (object ms)
object_again n ms same again = record {
  read = ap (option_map object) (again.read no_members ∙ ap Some same);
  numbers = again.numbers;
  shallow = omega (arith, again.shallow);
  text = IsUtf8-append (123 ∷ []) (members_text false ms) (IsUtf8-are_ascii (123 ∷ []) refl) (again.text false);
}

-- ---- the text of such a value has it as its JSON value

tokens_again : (d : Data) (n : ℕ) → IsAgain n d → tokens (compact_text d) ≡ tree.json_tokens (outline d)
tokens_again d n again =
    ap tokens (sym (print-outline d)) ∙ tokens-print (tree.json_tokens (outline d)) (ArePrintable-json_tokens (outline d) again.numbers)

value_again : (d : Data) (n : ℕ) → IsAgain n d → n ≤ max_depth → json.value max_depth (tokens (compact_text d)) ≡ Some (outline d, [])
value_again d n again few =
    ap (json.value max_depth) (tokens_again d n again ∙ sym (append-nil (tree.json_tokens (outline d))))
    ∙ value-json_tokens (outline d) max_depth [] (omega (arith, again.shallow))

read_again : (d : Data) (n : ℕ) → IsAgain n d → n ≤ max_depth → read (compact_text d) ≡ Some d
read_again d n again few = ap (λ o. option_and_then of_json (option_and_then (λ p. json.if_last p.0 p.1) o)) (value_again d n again few) ∙ again.read

pub json_again : (d : Data) (n : ℕ) → IsAgain n d → n ≤ max_depth → json_of (compact_text d) ≡ Some d
json_again d n again few = rw (is_utf8-from_IsUtf8 (compact_text d) again.text) (read_again d n again few)
