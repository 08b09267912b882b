-- Sums over the views of a desk.
use Rattle.std.proofs.Common.{◌≡◌, ℕ, zero, suc, ◌+◌, ◌<◌, ◌≤◌, List, [], ◌∷◌, length, get_or, set, refl, sym, ap, ◌∙◌, arith}
use Rattle.std.specs.Prelude.{sum_by}
use Rattle.std.proofs.lemmas.List.Sums.{sum_by-set, sum_by-cons}
use mathlib.Core.Option.{some, some-injective, some-ne-none}
use lib.ListN.{get_elem?}
use Rattle.rights.specs.declared.view.View.{View}
use Rattle.rights.specs.declared.view.View.TheVariants.{Own, Part}
use Rattle.rights.specs.Rule.{own, share, books_of, minted_of}

-- an element that is there is within the list
within : (views : List View) (i : ℕ) (v : View) → get_elem? views i ≡ some v → (i < length views) × (get_or views i v ≡ v)
within [] i v there = absurd (some-ne-none v (sym there))
within (x ∷ xs) zero v there = (omega arith, some-injective x v there)
within (x ∷ xs) (suc i) v there = let rest = within xs i v there in (omega (arith, rest.0), rest.1)

-- one view changes: the sum loses its term and gains the new one
pub sum_by-changed : (f : View → ℕ) (views : List View) (i : ℕ) (v w : View) → get_elem? views i ≡ some v → sum_by f (set views i w) + f v ≡ sum_by f views + f w
sum_by-changed f views i v w there =
    let here = within views i v there in ap (λ x. sum_by f (set views i w) + f x) (sym here.1) ∙ sum_by-set f views i w v here.0

-- no term is above the sum
pub term_le : (f : View → ℕ) (views : List View) (i : ℕ) (v : View) → f (share 0) ≡ 0 → get_elem? views i ≡ some v → f v ≤ sum_by f views
term_le f views i v none there = let changed = sum_by-changed f views i v (share 0) there in omega arith

-- with no book, nothing is minted
nothing_minted : (views : List View) → sum_by books_of views ≡ 0 → sum_by minted_of views ≡ 0
nothing_minted [] none = refl
nothing_minted (Own minted amount ∷ views) none = absurd (omega (arith, sum_by-cons books_of (Own minted amount) views))
nothing_minted (Part amount ∷ views) none =
    let rest = nothing_minted views (omega (arith, sum_by-cons books_of (Part amount) views)) in omega (arith, sum_by-cons minted_of (Part amount) views, rest)

-- the one book says how many rights are minted
pub minted_by_book : (views : List View) (i minted amount : ℕ) → sum_by books_of views ≡ 1 → get_elem? views i ≡ some (own minted amount) → sum_by minted_of views ≡ minted
minted_by_book views i minted amount one there =
    let books = sum_by-changed books_of views i (own minted amount) (share 0) there in
    let sums = sum_by-changed minted_of views i (own minted amount) (share 0) there in
    let rest = nothing_minted (set views i (share 0)) (omega (arith, books)) in
    omega (arith, sums, rest)
