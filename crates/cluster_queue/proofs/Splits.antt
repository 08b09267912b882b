-- A list of entries by one of its members: what is before it and what is after it, and what filters keep once it goes.
use Rattle.std.proofs.Common.{◌≡◌, ◌≢◌, ◌⊎◌, ℕ, suc, ◌+◌, ◌==◌, Bool, true, false, not, List, [], ◌∷◌, ◌++◌, Contains, filter, length, map, take, drop, sym, ap, ◌∙◌, subst, inl, inr, arith, length-append}
use Rattle.std.proofs.Math.Seq.{drop-cons}
use Rattle.std.proofs.lemmas.Bool.{cond-true, cond-false, eqb-false, not-true}
use Rattle.std.proofs.lemmas.List.{length-map, take-append-drop}
use Rattle.std.proofs.lemmas.List.Elements.{Contains-append_cases, Contains-append_left, Contains-append_right, Contains-push_cases, filter-append}
use Rattle.flat_policy.specs.Laws.Clusters.{EntriesLeaveByPlace}
use Rattle.flat_policy.specs.Policy.Moves.{without}
use Rattle.flat_policy.specs.Policy.Queue.{Queued}
use Rattle.flat_policy.specs.Policy.WellFormed.{ArrivalsRise}
use Rattle.cluster_queue.proofs.Members.{kept_member}

-- a list is what is before a member, the member, and what is after it
parted : {X : Type 0} (xs : List X) (x : X) → (c : Contains xs x) → xs ≡ take c.0 xs ++ x ∷ drop (suc c.0) xs
parted xs x c =
    sym (take-append-drop c.0 xs)
    ∙ ap (λ ys. take c.0 xs ++ ys) (drop-cons xs c.0 x c.1 ∙ ap (λ y. y ∷ drop (suc c.0) xs) c.2)

-- a filter has the members that pass
filter_parted : {X : Type 0} (p : X → Bool) (left right : List X) (x : X) → p x ≡ true → filter p (left ++ x ∷ right) ≡ filter p left ++ x ∷ filter p right
filter_parted p left right x h = filter-append p left (x ∷ right) ∙ ap (λ ys. filter p left ++ ys) (cond-true (p x) (x ∷ filter p right) (filter p right) h)

-- the list is what is before the entry, the entry, and what is after it; without its arrival it is what is before and after
pub record Splits (es : List Queued) (e : Queued) : Type 0 where
  pub left : List Queued
  pub right : List Queued
  pub whole : es ≡ left ++ e ∷ right
  pub rest : without e.arrival es ≡ left ++ right

pub splits : EntriesLeaveByPlace → (es : List Queued) (e : Queued) → ArrivalsRise es → Contains es e → Splits es e
splits law es e rise c =
    let ks = map (λ (q : Queued). q.arrival) es in
    let out = law es ks e c.0 rise (length-map es (λ (q : Queued). q.arrival)) c.1 c.2 in
    record { left = take c.0 es; right = drop (suc c.0) es; whole = parted es e c; rest = out.entries }

module _ (es : List Queued) (e : Queued) (at : Splits es e) where
  -- a test that the entry fails keeps the same entries
  pub others_stay : (p : Queued → Bool) → p e ≡ false → filter p (without e.arrival es) ≡ filter p es
  others_stay p h =
      ap (filter p) at.rest
      ∙ (filter-append p at.left at.right
      ∙ (ap (λ ys. filter p at.left ++ ys) (sym (cond-false (p e) (e ∷ filter p at.right) (filter p at.right) h))
      ∙ (sym (filter-append p at.left (e ∷ at.right)) ∙ ap (filter p) (sym at.whole))))

  -- a test that it passes keeps one entry less
  pub one_less : (p : Queued → Bool) → p e ≡ true → length (filter p (without e.arrival es)) + 1 ≡ length (filter p es)
  one_less p h =
      let fewer = ap (λ ys. length (filter p ys)) at.rest ∙ (ap (λ (ys : List Queued). length ys) (filter-append p at.left at.right) ∙ length-append (filter p at.left) (filter p at.right)) in
      let more = ap (λ ys. length (filter p ys)) at.whole ∙ (ap (λ (ys : List Queued). length ys) (filter_parted p at.left at.right e h) ∙ length-append (filter p at.left) (e ∷ filter p at.right)) in
      omega (arith, fewer, more)

  -- every other member stays
  pub member_stays : (x : Queued) → Contains es x → (e ≡ x) ⊎ Contains (without e.arrival es) x
  member_stays x c =
      elim (Contains-append_cases at.left (e ∷ at.right) x (subst (λ ys. Contains ys x) at.whole c)) [
        | inl d ↦ inr (subst (λ ys. Contains ys x) (sym at.rest) (Contains-append_left at.left at.right x d))
        | inr d ↦ elim (Contains-append_cases (e ∷ []) at.right x d) [
          | inl one ↦ elim (Contains-push_cases [] e x one) [
            | inl none ↦ absurd (omega (arith, none.1))
            | inr is ↦ inl is
          ]
          | inr later ↦ inr (subst (λ ys. Contains ys x) (sym at.rest) (Contains-append_right at.left at.right x later))
        ]
      ]

-- what is left has another arrival
pub left_member : (a : ℕ) (es : List Queued) (x : Queued) → Contains (without a es) x → Contains es x × (x.arrival ≢ a)
left_member a es x c =
    let m = kept_member (λ (q : Queued). not (q.arrival == a)) es x c in
    (m.0, eqb-false x.arrival a (not-true (x.arrival == a) m.1))
