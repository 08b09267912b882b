-- What the readers' results say of the meaning.
use Rattle.std.proofs.Common.{◌≡◌, ℕ, List, [], ◌∷◌, Result, ◌&&◌, bytes_eq, string_bytes, eqb, map, refl, ap, String, Global}
use Rattle.std.specs.List.{list_all}
use Rattle.flat_policy.specs.Texts.Pieces.{same_text}
use Rattle.flat_policy.specs.Texts.SetupLines.{is_key, only_keys, unless_fault}
use Rattle.flat_policy.specs.declared.texts.SetupFault.{SetupFault}
use Rattle.serde_json.specs.View.{members_view}
use Rattle.serde_json.specs.declared.value.Value.{Value}
use Rattle.setup_json.specs.Numbers.{names_field}
use Rattle.setup_json.specs.Reads.{Fails}
use Rattle.setup_json.specs.declared.fault.SetupError.{SetupError}
use Rattle.setup_json.specs.declared.fault.SetupError.TheVariants as errors

-- two tests of texts are one
pub bytes_eq-same_text : (xs ys : List ℕ) → bytes_eq xs ys ≡ same_text xs ys
bytes_eq-same_text [] [] = refl
bytes_eq-same_text [] (y ∷ ys) = refl
bytes_eq-same_text (x ∷ xs) [] = refl
bytes_eq-same_text (x ∷ xs) (y ∷ ys) = ap (λ b. eqb x y && b) (bytes_eq-same_text xs ys)

-- the keys are among the fields' where the members are
pub keys_are_fields : (es : List (String Global × Value)) → list_all (λ k. names_field (string_bytes k)) (map (λ (e : String Global × Value). e.0) es) ≡ only_keys (members_view es)
unfolding names_field
keys_are_fields [] = refl
keys_are_fields (e ∷ es) = ap (λ b. is_key (string_bytes e.0) && b) (keys_are_fields es)

-- a fault ends a reading
pub fails_on : {A B : Type 0} → (e : SetupError) (r : Result A SetupFault) (f : A → Result B SetupFault) → Fails e r → Fails e (unless_fault r f)
fails_on errors.Memory r f h = tt
fails_on (errors.Fault x) r f h = ap (λ s. unless_fault s f) h
