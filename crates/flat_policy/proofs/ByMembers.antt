-- The choice goes by the members of a list and by how the test orders them, and by nothing else.
use Rattle.std.proofs.Common.{◌≡◌, Bool, false, not, ◌||◌, List, [], ◌∷◌, Option, Some, None, is_some, Contains, find, cond, refl, sym, ap, ap₂, ◌∙◌}
use Rattle.std.specs.List.{list_any}
use Rattle.std.proofs.lemmas.Bool.{false≢true}
use Rattle.std.proofs.lemmas.List.Elements.{All-contains}
use Rattle.flat_policy.specs.Laws.Choice.{OrdersMembers, SameMembers}
use Rattle.flat_policy.specs.Policy.Unpreceded.{IsUnpreceded, is_preceded, unpreceded}
use Rattle.flat_policy.proofs.Choice.{chosen_is, is_unpreceded, strict_from_order, there_under_strict}
use Rattle.flat_policy.proofs.Members.{all_from_members, contains_here, contains_later, contains_none}

-- a strict order of a list's members is one of the members of any list that has no others
pub order_within : {X : Type 0} (before : X → X → Bool) (xs ys : List X) → ((x : X) → Contains ys x → Contains xs x) → OrdersMembers before xs → OrdersMembers before ys
order_within before xs ys sub o = record {
  irreflexive = λ x c. o.irreflexive x (sub x c);
  transitive = λ x y z c d e. o.transitive x y z (sub x c) (sub y d) (sub z e);
  total = λ x y c d. o.total x y (sub x c) (sub y d);
}

-- one that is preceded by none of a list is preceded by none of a list with the same members
pub unpreceded_among : {X : Type 0} (before : X → X → Bool) (xs ys : List X) → SameMembers xs ys → (x : X) → IsUnpreceded before xs x → IsUnpreceded before ys x
unpreceded_among before xs ys same x h = record {
  member = same.there x h.member;
  first = all_from_members (λ y. before y x ≡ false) ys (λ y c. All-contains (λ z. before z x ≡ false) xs y h.first (same.back y c));
}

-- a list without members has no choice, and a list with the same members has none either
goes_by_none : {X : Type 0} (before : X → X → Bool) (xs ys : List X) → OrdersMembers before xs → SameMembers xs ys → unpreceded before xs ≡ None → None ≡ unpreceded before ys
goes_by_none before [] [] o same e = refl
goes_by_none before [] (y ∷ ys) o same e = absurd (contains_none y (same.back y (contains_here y ys)))
goes_by_none {X} before (x ∷ xs) ys o same e =
    absurd (false≢true (ap is_some (sym e) ∙ there_under_strict before (x ∷ xs) (strict_from_order before (x ∷ xs) o)))

goes_by_members : {X : Type 0} (before : X → X → Bool) (xs ys : List X) → OrdersMembers before xs → SameMembers xs ys → (o : Option X) → unpreceded before xs ≡ o → o ≡ unpreceded before ys
goes_by_members before xs ys o same (Some x) e =
    sym (chosen_is before ys (order_within before xs ys same.back o) x (unpreceded_among before xs ys same x (is_unpreceded before xs x e)))
goes_by_members before xs ys o same None e = goes_by_none before xs ys o same e

pub choice_by_members : {X : Type 0} (before : X → X → Bool) (xs ys : List X) → OrdersMembers before xs → SameMembers xs ys → unpreceded before xs ≡ unpreceded before ys
choice_by_members before xs ys o same = goes_by_members before xs ys o same (unpreceded before xs) refl

-- tests that agree on the members choose the same
any_alike : {X : Type 0} (p q : X → Bool) (xs : List X) → ((x : X) → Contains xs x → p x ≡ q x) → list_any p xs ≡ list_any q xs
any_alike p q [] h = refl
any_alike p q (x ∷ xs) h = ap₂ (λ a b. a || b) (h x (contains_here x xs)) (any_alike p q xs (λ y c. h y (contains_later x xs y c)))

find_alike : {X : Type 0} (p q : X → Bool) (xs : List X) → ((x : X) → Contains xs x → p x ≡ q x) → find p xs ≡ find q xs
find_alike p q [] h = refl
find_alike p q (x ∷ xs) h = ap₂ (λ b o. cond b (Some x) o) (h x (contains_here x xs)) (find_alike p q xs (λ y c. h y (contains_later x xs y c)))

pub choice_alike : {X : Type 0} (before after : X → X → Bool) (xs : List X) → ((x y : X) → Contains xs x → Contains xs y → before x y ≡ after x y) → unpreceded before xs ≡ unpreceded after xs
choice_alike before after xs same =
    find_alike (λ x. not (is_preceded before xs x)) (λ x. not (is_preceded after xs x)) xs
    (λ x c. ap not (any_alike (λ y. before y x) (λ y. after y x) xs (λ y d. same y x d c)))
