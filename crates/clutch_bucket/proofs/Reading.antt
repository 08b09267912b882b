-- What is read of a lane's lists.
use Rattle.std.proofs.Common.{◌≡◌, ℕ, ◌<◌, List, Option, Some, None, get_or, length, refl, sym, ap, ◌∙◌, subst, arith}
use Rattle.std.specs.Prelude.{Err, IfOk, IfSome, Ok, Result}
use Rattle.std.proofs.lemmas.List.{get_or_default}
use Rattle.clutch_bucket.specs.Ranks.{IsFirstUnit}
use Rattle.clutch_bucket.specs.declared.ranks.UnitKey.{UnitKey}

-- an element that was read of a list, in an equal list with another default
pub read_at : {X : Type 0} (xs ys : List X) (g : ℕ) (x d : X) → x ≡ get_or xs g x → xs ≡ ys → g < length ys → get_or ys g d ≡ x
read_at xs ys g x d is same within = get_or_default ys g d x within ∙ (ap (λ zs. get_or zs g x) (sym same) ∙ sym is)

pub if_some : {X : Type 0} (P : X → Type 0) (o : Option X) → ((x : X) → o ≡ Some x → P x) → IfSome o P
if_some P None h = tt
if_some P (Some x) h = h x refl

pub from_some : {X : Type 0} (P : X → Type 0) (o : Option X) (x : X) → o ≡ Some x → IfSome o P → P x
from_some P o x is h = subst (λ p. IfSome p P) is h

pub one_key : (ranks : List (Option UnitKey)) (g : ℕ) (read : Option UnitKey) (key : UnitKey) → (first : IsFirstUnit ranks g) → read ≡ get_or ranks g None → read ≡ Some key → first.key ≡ key
one_key ranks g read key first is was =
    let e : ◌≡◌ {A = Option UnitKey} (Some first.key) (Some key) = sym first.stands ∙ (sym is ∙ was) in
    grind (arith, e)

-- what holds of a result's value holds in other words too
pub if_ok : {X E : Type 0} (P Q : X → Type 0) (r : Result X E) → ((x : X) → P x → Q x) → IfOk r P → IfOk r Q
if_ok P Q (Ok x) h p = h x p
if_ok P Q (Err e) h p = tt

pub from_ok : {X E : Type 0} (P : X → Type 0) (r : Result X E) (x : X) → r ≡ Ok x → IfOk r P → P x
from_ok P r x is h = subst (λ q. IfOk q P) is h
