-- Each kind of step keeps the rule of a desk.
use Rattle.std.proofs.Common.{◌≡◌, ℕ, ◌+◌, ◌-◌, ◌<◌, ◌≤◌, ◌^◌, List, [], ◌∷◌, ◌++◌, set, refl, ◌∙◌, arith}
use Rattle.std.specs.Prelude.{sum_by, slice_set, slice_index}
use Rattle.std.proofs.lemmas.List.Sums.{sum_by_push}
use mathlib.Core.Option.{some}
use lib.ListN.{get_elem?}
use Rattle.atomic_table.specs.Table.{State, keeps, opening, Allows, Splits, Joins}
use Rattle.rights.specs.declared.view.View.{View}
use Rattle.rights.specs.declared.view.View.TheVariants.{Own, Part}
use Rattle.rights.specs.Rule.{own, share, books_of, minted_of, amount_of, IsKept, more, less, minted_more, minted_less, MayMint, MayBurn, IsCovered}
use Rattle.rights.proofs.Sums.{sum_by-changed, term_le, minted_by_book}

-- a new desk
pub opens : {S : Type 0} → IsKept (opening {S = S} (0 ∷ []) [] (own 0 0))
opens = record { at_rest = refl; one_book = refl; bounded = omega arith; covered = omega arith }

-- a load leaves the word
word_stays : (words : List ℕ) → words ≡ 0 ∷ [] → slice_set words 0 (slice_index words 0) ≡ 0 ∷ []
word_stays words e = rw e refl

-- one view changes, and what it says is minted and held with it
keeps_rule : {S : Type 0} (s : State S View) (id : ℕ) (v w : View) → IsKept s → get_elem? s.views id ≡ some v → books_of w ≡ books_of v
    → sum_by minted_of s.views + minted_of w < 2 ^ 63 + minted_of v
    → sum_by amount_of s.views + amount_of w + minted_of v ≤ sum_by minted_of s.views + minted_of w + amount_of v
    → IsKept {S = S} record { words = slice_set s.words 0 (slice_index s.words 0); homes = s.homes; views = slice_set s.views id w }
keeps_rule s id v w kept there same bounded covered =
    let books = sum_by-changed books_of s.views id v w there in
    let sums = sum_by-changed minted_of s.views id v w there in
    let amounts = sum_by-changed amount_of s.views id v w there in
    record { at_rest = word_stays s.words kept.at_rest; one_book = omega (arith, kept.one_book, books); bounded = omega (arith, bounded, sums); covered = omega (arith, covered, sums, amounts) }

-- what the rule says of one view
covers : {S : Type 0} (s : State S View) (id : ℕ) (v : View) → IsKept s → get_elem? s.views id ≡ some v → IsCovered v
covers s id (Own minted amount) kept there =
    let is = minted_by_book s.views id minted amount kept.one_book there in
    let held = term_le amount_of s.views id (own minted amount) refl there in
    (omega (arith, kept.covered, is, held), omega (arith, kept.bounded, is))
covers s id (Part amount) kept there =
    let held = term_le amount_of s.views id (share amount) refl there in omega (arith, kept.covered, kept.bounded, held)

-- the same sums, over other views
same_sums : {S : Type 0} (s : State S View) (views : List View) → IsKept s → sum_by books_of views ≡ sum_by books_of s.views → sum_by minted_of views ≡ sum_by minted_of s.views
    → sum_by amount_of views ≡ sum_by amount_of s.views → IsKept {S = S} record { words = s.words; homes = s.homes; views = views }
same_sums s views kept books sums amounts =
    record { at_rest = kept.at_rest; one_book = books ∙ kept.one_book; bounded = omega (arith, kept.bounded, sums); covered = omega (arith, kept.covered, sums, amounts) }

module _ {S : Type 0} (slots id : ℕ) (out : List (ℕ × S)) where
  pub mints : (n : ℕ) (v : View) → MayMint n v → Allows {S = S} IsKept slots id (v, out) 0 (λ x. x) (λ found after. after ≡ (minted_more n v, out))
  mints n (Own minted amount) = λ may s kept long there small.
      let w = own (minted + n) (amount + n) in
      let is = minted_by_book s.views id minted amount kept.one_book there in
      (w, keeps, tt, keeps_rule s id (own minted amount) w kept there refl (omega (arith, may, is)) (omega (arith, kept.covered)), refl)
  mints n (Part amount) = λ may. absurd may

  pub burns : (n : ℕ) (v : View) → MayBurn n v → Allows {S = S} IsKept slots id (v, out) 0 (λ x. x) (λ found after. after ≡ (minted_less n v, out))
  burns n (Own minted amount) = λ may s kept long there small.
      let w = own (minted - n) (amount - n) in
      let is = covers s id (own minted amount) kept there in
      (w, keeps, tt, keeps_rule s id (own minted amount) w kept there refl (omega (arith, kept.bounded)) (omega (arith, kept.covered, may, is.0)), refl)
  burns n (Part amount) = λ may. absurd may

  pub confirms : (v : View) → Allows {S = S} IsKept slots id (v, out) 0 (λ x. x) (λ found after. (after ≡ (v, out)) × IsCovered v)
  confirms v s kept long there small =
      (v, keeps, tt, keeps_rule s id v v kept there refl (omega (arith, kept.bounded)) (omega (arith, kept.covered)), (refl, covers s id v kept there))

-- n rights go from one view to a new share's
parts_sum : (f : View → ℕ) (views : List View) (id n : ℕ) (v : View) → get_elem? views id ≡ some v → f (less n v) + f (share n) ≡ f v
    → sum_by f (slice_set views id (less n v) ++ share n ∷ []) ≡ sum_by f views
parts_sum f views id n v there even =
    let changed = sum_by-changed f views id v (less n v) there in
    let pushed = sum_by_push f (set views id (less n v)) (share n) in
    omega (arith, changed, pushed, even)

pub parts : {S : Type 0} (id n : ℕ) (v : View) → n ≤ amount_of v → Splits {S = S} IsKept id v (less n v) (share n)
parts id n (Own minted amount) = λ some_left s kept there.
    let v = own minted amount in
    same_sums s _ kept (parts_sum books_of s.views id n v there refl) (parts_sum minted_of s.views id n v there (omega arith)) (parts_sum amount_of s.views id n v there (omega (arith, some_left)))
parts id n (Part amount) = λ some_left s kept there.
    let v = share amount in
    same_sums s _ kept (parts_sum books_of s.views id n v there refl) (parts_sum minted_of s.views id n v there refl) (parts_sum amount_of s.views id n v there (omega (arith, some_left)))

-- a share's rights go to another view
joins_sum : (f : View → ℕ) (views : List View) (id other : ℕ) (v w both : View) → get_elem? views id ≡ some v → get_elem? (set views id both) other ≡ some w
    → f both + f (share 0) ≡ f v + f w → sum_by f (slice_set (slice_set views id both) other (share 0)) ≡ sum_by f views
joins_sum f views id other v w both here there even =
    let first = sum_by-changed f views id v both here in
    let second = sum_by-changed f (set views id both) other w (share 0) there in
    omega (arith, first, second, even)

pub joins : {S : Type 0} (id other : ℕ) (v w : View) → books_of w ≡ 0 → Joins {S = S} IsKept id v other w (more (amount_of w) v) (share 0)
joins id other v (Own minted amount) = λ part. absurd (omega (arith, part))
joins id other (Own minted amount) (Part n) = λ part s kept here apart there.
    let both = own minted (amount + n) in
    same_sums s _ kept (joins_sum books_of s.views id other (own minted amount) (share n) both here there refl)
    (joins_sum minted_of s.views id other (own minted amount) (share n) both here there refl) (joins_sum amount_of s.views id other (own minted amount) (share n) both here there (omega arith))
joins id other (Part amount) (Part n) = λ part s kept here apart there.
    let both = share (amount + n) in
    same_sums s _ kept (joins_sum books_of s.views id other (share amount) (share n) both here there refl)
    (joins_sum minted_of s.views id other (share amount) (share n) both here there refl) (joins_sum amount_of s.views id other (share amount) (share n) both here there (omega arith))
