-- The rule of a desk, over what its tokens know, and what each kind of step does to the token that makes it.
use Rattle.std.specs.Prelude.{◌≡◌, ℕ, ◌+◌, ◌-◌, ◌<◌, ◌≤◌, ◌^◌, [], ◌∷◌, sum_by}
use Rattle.atomic_table.specs.Table.{State, Me, Step}
use Rattle.rights.specs.declared.view.View.{View}
use Rattle.rights.specs.declared.view.View.TheVariants.{Own, Part}

-- the book's own view
abbrev pub own : ℕ → ℕ → View
own minted amount = Own minted amount

-- a share's view
abbrev pub share : ℕ → View
share amount = Part amount

-- 1 for the book's own view, and 0 for a share's
abbrev pub books_of : View → ℕ
books_of (Own minted amount) = 1
books_of (Part amount) = 0

-- the rights that the view says are minted
abbrev pub minted_of : View → ℕ
minted_of (Own minted amount) = minted
minted_of (Part amount) = 0

-- the rights that the view holds
abbrev pub amount_of : View → ℕ
amount_of (Own minted amount) = amount
amount_of (Part amount) = amount

-- the rule: one view is the book's own, fewer than 2^63 rights are minted, and no more are held than were minted
pub record IsKept {S : Type 0} (s : State S View) : Type 0 where
  pub at_rest : s.words ≡ 0 ∷ []
  pub one_book : sum_by books_of s.views ≡ 1
  pub bounded : sum_by minted_of s.views < 2 ^ 63
  pub covered : sum_by amount_of s.views ≤ sum_by minted_of s.views

-- n more rights are held
abbrev pub more : ℕ → View → View
more n (Own minted amount) = Own minted (amount + n)
more n (Part amount) = Part (amount + n)

-- n fewer rights are held
abbrev pub less : ℕ → View → View
less n (Own minted amount) = Own minted (amount - n)
less n (Part amount) = Part (amount - n)

-- n rights are minted, and the book holds them
abbrev pub minted_more : ℕ → View → View
minted_more n (Own minted amount) = Own (minted + n) (amount + n)
minted_more n (Part amount) = Part amount

-- n rights that the book held end
abbrev pub minted_less : ℕ → View → View
minted_less n (Own minted amount) = Own (minted - n) (amount - n)
minted_less n (Part amount) = Part amount

-- it is the book's own view, and n more rights may be minted
abbrev pub MayMint : ℕ → View → Type 0
MayMint n (Own minted amount) = minted + n < 2 ^ 63
MayMint n (Part amount) = ⊥

-- it is the book's own view, and the book holds n rights
abbrev pub MayBurn : ℕ → View → Type 0
MayBurn n (Own minted amount) = n ≤ amount
MayBurn n (Part amount) = ⊥

-- what the rule says of one view: a book holds at most what is minted, and each amount is below 2^63
abbrev pub IsCovered : View → Type 0
IsCovered (Own minted amount) = (amount ≤ minted) × (minted < 2 ^ 63)
IsCovered (Part amount) = amount < 2 ^ 63

-- the token's view becomes f of what it was
abbrev pub Becomes : {S : Type 0} → (View → View) → Step S → Me S View → ℕ → Me S View → Type 0
Becomes f step before found after = after ≡ (f before.0, before.1)

-- the view stays, and is told what the rule says of it
abbrev pub IsConfirmed : {S : Type 0} → Step S → Me S View → ℕ → Me S View → Type 0
IsConfirmed step before found after = (after ≡ before) × IsCovered before.0
