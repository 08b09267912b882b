-- The choice of the member that no other precedes: what is chosen, that there is one, and that it is the only one.
use Rattle.std.proofs.Common.{◌≡◌, ◌⊎◌, Bool, true, false, not, List, [], ◌∷◌, Some, None, is_some, Contains, fold, cond, refl, sym, ap, ◌∙◌, subst, inl, inr}
use Rattle.std.proofs.lemmas.Bool.{cases_Bool, false≢true, not-true, not_from_false, false_from_ne_true}
use Rattle.std.proofs.lemmas.List.Elements.{All-contains}
use Rattle.flat_policy.specs.Policy.Unpreceded.{IsUnpreceded, is_preceded, unpreceded}
use Rattle.flat_policy.specs.Laws.Choice.{ChoosesOne, OrdersMembers, better, has_member}
use Rattle.flat_policy.proofs.Members.{all_from_members, contains_cases, contains_here, contains_later, contains_none, each_from_none, find_finds, finds_from_member, none_from_each}

-- what is chosen is preceded by none; no order is needed for it
pub is_unpreceded : {X : Type 0} (before : X → X → Bool) (xs : List X) (x : X) → unpreceded before xs ≡ Some x → IsUnpreceded before xs x
is_unpreceded before xs x h =
    let found = find_finds (λ z. not (is_preceded before xs z)) xs x h in
    record {
      member = found.0;
      first = all_from_members (λ y. before y x ≡ false) xs
          (each_from_none (λ y. before y x) xs (not-true (is_preceded before xs x) found.1));
    }

-- where one is preceded by none, one is chosen
pub chosen_from_unpreceded : {X : Type 0} (before : X → X → Bool) (xs : List X) (x : X) → IsUnpreceded before xs x → (y : X) × (unpreceded before xs ≡ Some y)
chosen_from_unpreceded before xs x h =
    finds_from_member (λ z. not (is_preceded before xs z)) xs x h.member
    (not_from_false (is_preceded before xs x)
    (none_from_each (λ y. before y x) xs (λ y c. All-contains (λ z. before z x ≡ false) xs y h.first c)))

pub only_one : {X : Type 0} (before : X → X → Bool) (xs : List X) → OrdersMembers before xs → (x y : X) → IsUnpreceded before xs x → IsUnpreceded before xs y → x ≡ y
only_one before xs o x y h k =
    o.total x y h.member k.member
    (All-contains (λ z. before z y ≡ false) xs x k.first h.member)
    (All-contains (λ z. before z x ≡ false) xs y h.first k.member)

-- a strict order on what has M, not necessarily total
pub record StrictOn {X : Type 0} (M : X → Type 0) (before : X → X → Bool) : Type 0 where
  pub irreflexive : (x : X) → M x → before x x ≡ false
  pub transitive : (x y z : X) → M x → M y → M z → before x y ≡ true → before y z ≡ true → before x z ≡ true

-- what one pass finds from b on: b or one of the list, before which is none of the list and none that isn't before b
pub record PassFinds {X : Type 0} (M : X → Type 0) (before : X → X → Bool) (b : X) (xs : List X) : Type 0 where
  pub best : X
  pub found : fold (better before) (Some b) xs ≡ Some best
  pub stood : (b ≡ best) ⊎ Contains xs best
  pub kept : (y : X) → M y → before y b ≡ false → before y best ≡ false
  pub first : (y : X) → Contains xs y → before y best ≡ false

-- one more that goes before the best so far takes its place
takes_one : {X : Type 0} (M : X → Type 0) (before : X → X → Bool) → StrictOn M before → (b x : X) (xs : List X) → M b → M x → before x b ≡ true → PassFinds M before x xs → PassFinds M before b (x ∷ xs)
takes_one M before o b x xs mb mx e p = record {
  best = p.best;
  found = ap (λ t. fold (better before) (cond t (Some x) (Some b)) xs) e ∙ p.found;
  stood = inr (elim p.stood [
    | inl is ↦ subst (λ z. Contains (x ∷ xs) z) is (contains_here x xs)
    | inr c ↦ contains_later x xs p.best c
  ]);
  kept = λ y m h. p.kept y m (false_from_ne_true (before y x) (λ t. false≢true (sym h ∙ o.transitive y x b m mx mb t e)));
  first = λ y c. elim (contains_cases x xs y c) [
    | inl is ↦ subst (λ z. before z p.best ≡ false) is (p.kept x mx (o.irreflexive x mx))
    | inr d ↦ p.first y d
  ];
}

-- one more that does not go before the best so far leaves it
keeps_one : {X : Type 0} (M : X → Type 0) (before : X → X → Bool) (b x : X) (xs : List X) → M x → before x b ≡ false → PassFinds M before b xs → PassFinds M before b (x ∷ xs)
keeps_one M before b x xs mx e p = record {
  best = p.best;
  found = ap (λ t. fold (better before) (cond t (Some x) (Some b)) xs) e ∙ p.found;
  stood = elim p.stood [ inl is ↦ inl is | inr c ↦ inr (contains_later x xs p.best c) ];
  kept = p.kept;
  first = λ y c. elim (contains_cases x xs y c) [
    | inl is ↦ subst (λ z. before z p.best ≡ false) is (p.kept x mx e)
    | inr d ↦ p.first y d
  ];
}

pub pass_finds : {X : Type 0} (M : X → Type 0) (before : X → X → Bool) → StrictOn M before → (b : X) (xs : List X) → M b → ((y : X) → Contains xs y → M y) → PassFinds M before b xs
pass_finds M before o b [] mb mxs =
    record { best = b; found = refl; stood = inl refl; kept = λ y m h. h; first = λ y c. absurd (contains_none y c) }
pass_finds M before o b (x ∷ xs) mb mxs =
    elim (cases_Bool (before x b)) [
      | inl e ↦ takes_one M before o b x xs mb (mxs x (contains_here x xs)) e
          (pass_finds M before o x xs (mxs x (contains_here x xs)) (λ y c. mxs y (contains_later x xs y c)))
      | inr e ↦ keeps_one M before b x xs (mxs x (contains_here x xs)) e
          (pass_finds M before o b xs mb (λ y c. mxs y (contains_later x xs y c)))
    ]

-- one pass over a list that has members finds one that is preceded by none
pub scan_finds : {X : Type 0} (before : X → X → Bool) (x : X) (xs : List X) → StrictOn (Contains (x ∷ xs)) before → (best : X) × (fold (better before) None (x ∷ xs) ≡ Some best) × IsUnpreceded before (x ∷ xs) best
scan_finds before x xs o =
    let p = pass_finds (Contains (x ∷ xs)) before o x xs (contains_here x xs) (λ y c. contains_later x xs y c) in (
      p.best,
      p.found,
      record {
        member = elim p.stood [
          | inl is ↦ subst (λ z. Contains (x ∷ xs) z) is (contains_here x xs)
          | inr c ↦ contains_later x xs p.best c
        ];
        first = all_from_members (λ y. before y p.best ≡ false) (x ∷ xs) (λ y c. elim (contains_cases x xs y c) [
          | inl is ↦ subst (λ z. before z p.best ≡ false) is (p.kept x (contains_here x xs) (o.irreflexive x (contains_here x xs)))
          | inr d ↦ p.first y d
        ]);
      },
    )

-- under a strict order, total or not, one is chosen exactly where the list has members
pub there_under_strict : {X : Type 0} (before : X → X → Bool) (xs : List X) → StrictOn (Contains xs) before → is_some (unpreceded before xs) ≡ has_member xs
there_under_strict before [] o = refl
there_under_strict before (x ∷ xs) o =
    let s = scan_finds before x xs o in
    ap is_some (chosen_from_unpreceded before (x ∷ xs) s.0 s.2).1

pub strict_from_order : {X : Type 0} (before : X → X → Bool) (xs : List X) → OrdersMembers before xs → StrictOn (Contains xs) before
strict_from_order before xs o = record { irreflexive = o.irreflexive; transitive = o.transitive }

-- the one that is preceded by none is chosen
pub chosen_is : {X : Type 0} (before : X → X → Bool) (xs : List X) → OrdersMembers before xs → (x : X) → IsUnpreceded before xs x → unpreceded before xs ≡ Some x
chosen_is before xs o x h =
    let c = chosen_from_unpreceded before xs x h in
    c.1 ∙ ap (λ z. Some z) (only_one before xs o c.0 x (is_unpreceded before xs c.0 c.1) h)

scan_is : {X : Type 0} (before : X → X → Bool) (xs : List X) → OrdersMembers before xs → fold (better before) None xs ≡ unpreceded before xs
scan_is before [] o = refl
scan_is before (x ∷ xs) o =
    let s = scan_finds before x xs (strict_from_order before (x ∷ xs) o) in
    s.1 ∙ sym (chosen_is before (x ∷ xs) o s.0 s.2)

pub chooses_one : {X : Type 0} (before : X → X → Bool) (xs : List X) → OrdersMembers before xs → ChoosesOne before xs
chooses_one before xs o = record {
  there = there_under_strict before xs (strict_from_order before xs o);
  chosen = λ x. (is_unpreceded before xs x, chosen_is before xs o x);
  only = only_one before xs o;
  by_scan = scan_is before xs o;
}
