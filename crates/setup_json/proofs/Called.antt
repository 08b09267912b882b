-- An array that was made by calling a closure at each element of another.
use Rattle.std.proofs.Common.{◌≡◌, ◌<◌, ℕ, zero, suc, List, [], ◌∷◌, length, get_or, map, refl, sym, ◌∙◌, arith}
use denote.Param.Members.{Mut}
use Rattle.std.specs.Fn.{Called}
use Rattle.std.specs.Array.{IsMapOf}
use Rattle.std.proofs.lemmas.List.{length-map, same_lists}

map_get : {A : Type 0} (h : A → ℕ) (xs : List A) (k : ℕ) (z : A) (d : ℕ) → k < length xs → h (get_or xs k z) ≡ get_or (map h xs) k d
map_get h [] k z d lt = absurd (omega arith)
map_get h (x ∷ xs) zero z d lt = refl
map_get h (x ∷ xs) (suc k) z d lt = map_get h xs k z d (omega arith)

pub mapped_by : {F A : Type 0} (g : Mut F (A × Unit {0}) ℕ) (h : A → ℕ) (f : F) (xs : List A) (ys : List ℕ) (n : ℕ) (z : A) → IsMapOf g f xs ys n → length xs ≡ n
    → ((p q : F) (x : A) (y : ℕ) → Called g p (x, tt) y q → y ≡ h x) → ys ≡ map h xs
mapped_by g h f xs ys n z is long says =
    let as_long : length ys ≡ length (map h xs) = is.long ∙ sym long ∙ sym (length-map xs h) in
    same_lists ys (map h xs) as_long
    (λ k d lt. let within : k < n = omega (arith, is.long) in
    let call = is.at k z d within in
    says call.0 call.1 (get_or xs k z) (get_or ys k d) call.2 ∙ map_get h xs k z d (omega arith))
