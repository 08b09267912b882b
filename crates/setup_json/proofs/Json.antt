-- The JSON value of a line.
use Rattle.std.proofs.Common.{◌≡◌, List, ℕ, Option, Some, None, Ok, Bool, true, false, IsUtf8, cond, refl, ◌∙◌, ap}
use Rattle.std.proofs.lemmas.Str.{IsUtf8-from_is_utf8, is_utf8-from_IsUtf8}
use Rattle.std.specs.Str.{is_utf8}
use Rattle.flat_policy.specs.Texts.SetupLines.{json_of, setup_of_json, setup_of_members}
use Rattle.serde_json.specs.Data.{Data}
use Rattle.serde_json.specs.Find.{as_object}
use Rattle.serde_json.specs.Read.{read}
use Rattle.setup_json.specs.Reads.{json_or_fault}

-- a text is read as its value
pub json_found : (line : List ℕ) (d : Data) → IsUtf8 line → read line ≡ Some d → json_or_fault (json_of line) ≡ Ok d
json_found line d text is =
    ap (λ b. json_or_fault (cond b (read line) None)) (is_utf8-from_IsUtf8 line text) ∙ ap json_or_fault is

unread : (line : List ℕ) (b : Bool) → (b ≡ true → IsUtf8 line) → (IsUtf8 line → read line ≡ None) → cond b (read line) None ≡ None
unread line true text none = none (text refl)
unread line false text none = refl

-- what is no text, or has no reading, is not read
pub json_missing : (line : List ℕ) → (IsUtf8 line → read line ≡ None) → json_of line ≡ None
json_missing line none = unread line (is_utf8 line) (IsUtf8-from_is_utf8 line) none

-- a value goes on to its setup
pub json_goes_on : (o : Option Data) (d : Data) → json_or_fault o ≡ Ok d → setup_of_json o ≡ setup_of_members (as_object d)
json_goes_on None d h = cc
json_goes_on (Some x) d h = let same : x ≡ d = cc in ap (λ (y : Data). setup_of_members (as_object y)) same
