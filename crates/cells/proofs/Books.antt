-- The last of the fresh books of the first desks.
use Rattle.std.proofs.Common.{◌≡◌, List, [], ◌∷◌, ◌++◌, drop, get_or, length, Option, Some, None, refl, sym, ap, ◌∙◌, subst, append-nil, arith}
use Rattle.std.specs.Prelude.{IfSome, option_to_list}
use Rattle.rights.specs.Values.{Account, DeskId}
use Rattle.cells.specs.Desks.{AreFresh, StandsAt, fresh_book}

-- all that is told of the last book
pub record LastFresh (desks : List DeskId) (books : List Account) (last : Account) : Type 0 where
  pub rest : AreFresh desks books
  pub desk : StandsAt desks (length books) last.desk
  pub book : last ≡ fresh_book last.desk

pub last_fresh : (desks : List DeskId) (books : List Account) (last : Account) → AreFresh desks (books ++ last ∷ []) → LastFresh desks books last
last_fresh [] [] last e = absurd (omega (arith, ap length e))
last_fresh [] (b ∷ bs) last e = absurd (omega (arith, ap length e))
last_fresh (d ∷ ds) [] last e =
    let is : last ≡ fresh_book d = ap (λ xs. get_or xs 0 last) e in
    record { rest = refl; desk = ap (λ (b : Account). Some b.desk) (sym is); book = is ∙ ap (λ (b : Account). fresh_book b.desk) (sym is) }
last_fresh (d ∷ ds) (b ∷ bs) last e =
    let first : b ≡ fresh_book d = ap (λ xs. get_or xs 0 b) e in
    let others : AreFresh ds (bs ++ last ∷ []) = ap (drop 1) e in
    let more = last_fresh ds bs last others in
    record { rest = λ i. first i ∷ more.rest i; desk = more.desk; book = more.book }

-- and of what may be the last
pub rest_fresh : (desks : List DeskId) (books : List Account) (o : Option Account) → AreFresh desks (books ++ option_to_list o) → AreFresh desks books
rest_fresh desks books None e = subst (AreFresh desks) (append-nil books) e
rest_fresh desks books (Some b) e = (last_fresh desks books b e).rest

pub last_stands : (desks : List DeskId) (books : List Account) (o : Option Account) → AreFresh desks (books ++ option_to_list o) → IfSome o (λ b. StandsAt desks (length books) b.desk)
last_stands desks books None e = tt
last_stands desks books (Some b) e = (last_fresh desks books b e).desk

pub last_is_fresh : (desks : List DeskId) (books : List Account) (o : Option Account) → AreFresh desks (books ++ option_to_list o) → IfSome o (λ b. b ≡ fresh_book b.desk)
last_is_fresh desks books None e = tt
last_is_fresh desks books (Some b) e = (last_fresh desks books b e).book
