-- What a count says, and facts of each entry at its place.
use Rattle.std.proofs.Common.{◌≡◌, ℕ, zero, suc, inl, inr, ◌<◌, ◌≤◌, ◌==◌, Bool, true, not, ◌||◌, List, [], ◌∷◌, filter, get_or, length, take, refl, sym, ap, ◌∙◌, subst, arith}
use Rattle.std.specs.List.{list_any}
use Rattle.std.proofs.lemmas.Bool.{cond-false, cond-true, cases_Bool, ne_eqb}
use Rattle.std.proofs.lemmas.List.{length-map, length-take}
use Rattle.std.proofs.lemmas.List.Sums.{count_by-le-length, length-filter}
use Rattle.flat_policy.specs.Policy.Queue.{Queued, clutch_of, clutch_place}
use Rattle.flat_policy.specs.Policy.WellFormed.{EachQueued}
use Rattle.plain_cluster.specs.Entries.{Slotted, entries_of}
use Rattle.plain_cluster.specs.Queues.{IsQueue}
use Rattle.plain_cluster.specs.declared.queue.Queue.{Queue}
use Rattle.plain_cluster.proofs.Buckets.{index_below}

-- whether a list has members
pub any_member : {X : Type 0} (xs : List X) → list_any (λ x. true) xs ≡ not (length xs == 0)
any_member [] = refl
any_member (x ∷ xs) = sym (ap not (ne_eqb (length (x ∷ xs)) 0 (omega arith)))

pub any_passes : {X : Type 0} (p : X → Bool) (xs : List X) → list_any p xs ≡ not (length (filter p xs) == 0)
any_passes p [] = refl
any_passes {X} p (x ∷ xs) =
    elim (cases_Bool (p x)) [
      | inl e ↦ ap (λ b. b || list_any p xs) e ∙ sym (ap not (ne_eqb (length (x ∷ filter p xs)) 0 (omega arith))) ∙ ap (λ (ys : List X). not (length ys == 0)) (sym (cond-true (p x) (x ∷ filter p xs) (filter p xs) e))
      | inr e ↦ ap (λ b. b || list_any p xs) e ∙ (any_passes p xs ∙ ap (λ (ys : List X). not (length ys == 0)) (sym (cond-false (p x) (x ∷ filter p xs) (filter p xs) e)))
    ]

pub passes_by_count : (p : Queued → Bool) (rows seen : List Slotted) (n : ℕ) → seen ≡ rows → n ≡ length (filter p (entries_of seen)) → not (n == 0) ≡ list_any p (entries_of rows)
passes_by_count p rows seen n same count =
    ap (λ m. not (m == 0)) (count ∙ ap (λ (rs : List Slotted). length (filter p (entries_of rs))) same) ∙ sym (any_passes p (entries_of rows))

pub members_by_count : (p : Queued → Bool) (rows seen : List Slotted) (n : ℕ) → seen ≡ rows → n ≡ length (filter p (entries_of seen)) → not (n == 0) ≡ list_any (λ (e : Queued). true) (filter p (entries_of rows))
members_by_count p rows seen n same count =
    ap (λ m. not (m == 0)) (count ∙ ap (λ (rs : List Slotted). length (filter p (entries_of rs))) same) ∙ sym (any_member (filter p (entries_of rows)))

-- no more pass than there are
pub few_pass : (p : Queued → Bool) (rows : List Slotted) (i : ℕ) → length (filter p (entries_of (take i rows))) ≤ length rows
few_pass p rows i =
    let seen = take i rows in
    omega (arith, length-filter p (entries_of seen), count_by-le-length p (entries_of seen), length-map seen (λ (r : Slotted). r.entry), length-take i rows)

-- a fact of each entry, at a place
pub each_at : (P : Queued → Type 0) (rows : List Slotted) (i : ℕ) (x : Slotted) → EachQueued P (entries_of rows) → i < length rows → x ≡ get_or rows i x → P x.entry
each_at P [] i x each within is = absurd (omega (arith, within))
each_at P (r ∷ rs) zero x each within is = subst (λ (s : Slotted). P s.entry) (sym is) each.0
each_at P (r ∷ rs) (suc i) x each within is = each_at P rs i x each.1 (omega (arith, within)) is

-- the numbers of an entry's clutch bucket stand among those of the units
pub place_there : (groups : ℕ) (q : Queue) (i : ℕ) (x : Slotted) → IsQueue groups q → i < length q.rows.rows → x ≡ get_or q.rows.rows i x → clutch_place (clutch_of x.entry.facts) < length q.units.spans
place_there groups q i x k within is =
    omega (arith, each_at (λ (e : Queued). e.facts.group < groups) q.rows.rows i x k.formed.groups_below within is, k.formed.spans_length, index_below x.entry.facts.bucket)
