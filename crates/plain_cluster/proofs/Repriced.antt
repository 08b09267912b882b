-- Rows priced anew, one after the other.
use Rattle.std.proofs.Common.{◌≡◌, ℕ, zero, suc, ◌+◌, ◌<◌, ◌≤◌, ◌==◌, ◌++◌, ◌&&◌, ◌||◌, eq-eqb, Bool, true, not, cond, List, [], ◌∷◌, count_by, drop, filter, get_or, is_some, length, map, Some, take, refl, sym, ap, ap₂, ◌∙◌, inl, inr, subst, arith}
use Rattle.std.specs.List.{list_any, slice_get}
use Rattle.std.proofs.lemmas.Bool.{and_from, cases_Bool, cond-false, cond-true, cond_both, false≢true}
use Rattle.std.proofs.lemmas.List.{length-map}
use Rattle.std.proofs.lemmas.List.Folds.{list_any_at}
use Rattle.std.proofs.lemmas.List.Sums.{count_by-le-length, length-filter, sum_by-cons}
use Rattle.std.proofs.lemmas.Option.{get_or_from_slice_get, slice_get_within}
use Rattle.sched_base.specs.Bucket.{index}
use Rattle.sched_base.specs.Limits.{most_groups}
use Rattle.sched_base.specs.declared.Facts.{Facts}
use Rattle.bucket_tables.specs.declared.Lane.{Lane}
use Rattle.flat_policy.specs.Policy.Queue.{Flat, Queued, clutch_entries, clutch_of, in_clutch, in_lane, lane, lane_entries, lane_of, same_bucket, same_lane, unit_entries}
use Rattle.flat_policy.specs.Policy.Refresh.{is_ui, repriced}
use Rattle.flat_policy.specs.Policy.Usage.{decay, priority}
use Rattle.flat_policy.specs.Policy.WellFormed.{EachQueued}
use Rattle.plain_cluster.specs.Entries.{Slotted, entries_of, slots_of}
use Rattle.plain_cluster.specs.Queues.{IsQueue, flat_of}
use Rattle.plain_cluster.specs.Repricing.{CanPrice, CountsAre, HaveGroups, count_of, is_changed, priced}
use Rattle.plain_cluster.specs.declared.counts.Counts.{Counts}
use Rattle.plain_cluster.specs.declared.queue.Queue.{Queue}
use Rattle.plain_cluster.proofs.Buckets.{same_lane_itself}
use Rattle.plain_cluster.proofs.Counted.{any_passes, each_at}

-- what a loop over a list has not reached is still there
pub still_there : {X : Type 0} (f : X → X) (xs : List X) (i : ℕ) (d : X) → i < length xs → get_or (map f (take i xs) ++ drop i xs) i d ≡ get_or xs i d
still_there f [] i d within = absurd (omega (arith, within))
still_there f (x ∷ xs) zero d within = refl
still_there f (x ∷ xs) (suc i) d within = still_there f xs i d (omega (arith, within))

some_there : (n : ℕ) → not (n == 0) ≡ true → 1 ≤ n
some_there zero h = absurd (false≢true h)
some_there (suc n) h = omega arith

-- a row is priced as its entry is
priced_is : (s : Flat) (counts : Counts) (now : ℕ) (r : Slotted) → CountsAre s counts → (priced counts now r).entry ≡ repriced s now r.entry
priced_is s counts now r are =
    let e = r.entry in
    let t : Facts = record e.facts { usage = decay e.facts.usage e.facts.seen now; seen = now } in
    let one : Slotted = record r { entry = record e { facts = t; pri = priority t.base t.bucket t.usage (count_of counts e.facts) } } in
    let two : Queued = record e { facts = t; pri = priority t.base t.bucket t.usage (length (unit_entries s e.facts)) } in
    elim (cases_Bool (is_ui e.facts.bucket)) [
      | inl u ↦ ap (λ (x : Slotted). x.entry) (cond-true (is_ui e.facts.bucket) r one u) ∙ sym (cond-true (is_ui e.facts.bucket) e two u)
      | inr u ↦ ap (λ (x : Slotted). x.entry) (cond-false (is_ui e.facts.bucket) r one u)
          ∙ (ap (λ (n : ℕ). record e { facts = t; pri = priority t.base t.bucket t.usage n }) (are e.facts)
          ∙ sym (cond-false (is_ui e.facts.bucket) e two u))
    ]

pub priced_are : (s : Flat) (counts : Counts) (now : ℕ) (rows : List Slotted) → CountsAre s counts → entries_of (map (priced counts now) rows) ≡ map (repriced s now) (entries_of rows)
priced_are s counts now [] are = refl
priced_are s counts now (r ∷ rs) are = ap₂ (λ e es. e ∷ es) (priced_is s counts now r are) (priced_are s counts now rs are)

-- groups stay
priced_group : (counts : Counts) (now : ℕ) (r : Slotted) → (priced counts now r).entry.facts.group ≡ r.entry.facts.group
priced_group counts now r =
    let e = r.entry in
    let t : Facts = record e.facts { usage = decay e.facts.usage e.facts.seen now; seen = now } in
    cond_both (is_ui e.facts.bucket) r (record r { entry = record e { facts = t; pri = priority t.base t.bucket t.usage (count_of counts e.facts) } }) (λ (x : Slotted). x.entry.facts.group ≡ e.facts.group) (λ h. refl) (λ h. refl)

pub priced_groups : (counts : Counts) (now : ℕ) (rows : List Slotted) → HaveGroups (entries_of rows) → HaveGroups (entries_of (map (priced counts now) rows))
priced_groups counts now [] each = tt
priced_groups counts now (r ∷ rs) each = (omega (arith, priced_group counts now r, each.0), priced_groups counts now rs each.1)

pub have_groups : (groups : ℕ) (es : List Queued) → groups ≤ most_groups → EachQueued (λ (e : Queued). e.facts.group < groups) es → HaveGroups es
have_groups groups [] most each = tt
have_groups groups (e ∷ es) most each = (omega (arith, most, each.0), have_groups groups es most each.1)

-- slots stay
priced_slot : (counts : Counts) (now : ℕ) (r : Slotted) → (priced counts now r).slot ≡ r.slot
priced_slot counts now r =
    let e = r.entry in
    let t : Facts = record e.facts { usage = decay e.facts.usage e.facts.seen now; seen = now } in
    cond_both (is_ui e.facts.bucket) r (record r { entry = record e { facts = t; pri = priority t.base t.bucket t.usage (count_of counts e.facts) } }) (λ (x : Slotted). x.slot ≡ r.slot) (λ h. refl) (λ h. refl)

pub priced_slots : (counts : Counts) (now : ℕ) (rows : List Slotted) → slots_of (map (priced counts now) rows) ≡ slots_of rows
priced_slots counts now [] = refl
priced_slots counts now (r ∷ rs) = ap₂ (λ k ks. k ∷ ks) (priced_slot counts now r) (priced_slots counts now rs)

-- as many priorities change
pub changed_are : (s : Flat) (counts : Counts) (now : ℕ) (rows : List Slotted) → CountsAre s counts
    → count_by (is_changed counts now) rows ≡ count_by (λ (e : Queued). not ((repriced s now e).pri == e.pri)) (entries_of rows)
changed_are s counts now [] are = refl
changed_are s counts now (r ∷ rs) are =
    let f : Slotted → ℕ = λ x. cond (is_changed counts now x) 1 0 in
    let g : Queued → ℕ = λ e. cond (not ((repriced s now e).pri == e.pri)) 1 0 in
    sum_by-cons f r rs
    ∙ (ap₂ (λ (a b : ℕ). a + b) (ap (λ (e : Queued). cond {A = ℕ} (not (e.pri == r.entry.pri)) 1 0) (priced_is s counts now r are)) (changed_are s counts now rs are)
    ∙ sym (sum_by-cons g r.entry (entries_of rs)))

-- lanes stay
priced_lane : (s : Flat) (now : ℕ) (e : Queued) → lane_of (repriced s now e).facts ≡ lane_of e.facts
priced_lane s now e =
    let t : Facts = record e.facts { usage = decay e.facts.usage e.facts.seen now; seen = now } in
    cond_both (is_ui e.facts.bucket) e (record e { facts = t; pri = priority t.base t.bucket t.usage (length (unit_entries s e.facts)) }) (λ (f : Queued). lane_of f.facts ≡ lane_of e.facts) (λ h. refl) (λ h. refl)

pub lanes_alike : (s : Flat) (now : ℕ) (l : Lane) (es : List Queued) → list_any (in_lane l) (map (repriced s now) es) ≡ list_any (in_lane l) es
lanes_alike s now l [] = refl
lanes_alike s now l (e ∷ es) = ap₂ (λ (a b : Bool). a || b) (ap (λ (m : Lane). same_lane m l) (priced_lane s now e)) (lanes_alike s now l es)

some_pass : (p : Queued → Bool) (es : List Queued) (i : ℕ) (e : Queued) → i < length es → get_or es i e ≡ e → p e ≡ true → 1 ≤ length (filter p es)
some_pass p es i e within is h =
    some_there (length (filter p es)) (sym (any_passes p es) ∙ list_any_at p es i e within (ap p is ∙ h))

got_entry : (rows : List Slotted) (i : ℕ) (x : Slotted) → i < length rows → x ≡ get_or rows i x → get_or (entries_of rows) i x.entry ≡ x.entry
got_entry [] i x within is = absurd (omega (arith, within))
got_entry (y ∷ ys) zero x within is = ap (λ (r : Slotted). r.entry) (sym is)
got_entry (y ∷ ys) (suc i) x within is = got_entry ys i x (omega (arith, within)) is

-- an entry stands in its own unit
own_unit : (s : Flat) (e : Queued) (i : ℕ) → i < length s.entries → get_or s.entries i e ≡ e → 1 ≤ length (unit_entries s e.facts)
own_unit s e i within is =
    let here = lane_entries s (lane e.facts.bucket true) in
    let there = clutch_entries s (clutch_of e.facts) in
    elim (cases_Bool (is_some e.facts.bound)) [
      | inl b ↦ subst (λ (es : List Queued). 1 ≤ length es) (sym (cond-true (is_some e.facts.bound) here there b))
          (some_pass (in_lane (lane e.facts.bucket true)) s.entries i e within is (ap (λ (f : Bool). same_lane (lane e.facts.bucket f) (lane e.facts.bucket true)) b ∙ same_lane_itself (lane e.facts.bucket true)))
      | inr b ↦ subst (λ (es : List Queued). 1 ≤ length es) (sym (cond-false (is_some e.facts.bound) here there b))
          (some_pass (in_clutch (clutch_of e.facts)) s.entries i e within is (and_from (not (is_some e.facts.bound)) ((e.facts.group == e.facts.group) && same_bucket e.facts.bucket e.facts.bucket) (ap not b)
          (and_from (e.facts.group == e.facts.group) (same_bucket e.facts.bucket e.facts.bucket) (eq-eqb e.facts.group e.facts.group refl) (eq-eqb (index e.facts.bucket) (index e.facts.bucket) refl))))
    ]

unit_few : (s : Flat) (t : Facts) → length (unit_entries s t) ≤ length s.entries
unit_few s t =
    let p = in_lane (lane t.bucket true) in
    let q = in_clutch (clutch_of t) in
    cond_both (is_some t.bound) (filter p s.entries) (filter q s.entries) (λ (es : List Queued). length es ≤ length s.entries)
    (λ h. omega (arith, length-filter p s.entries, count_by-le-length p s.entries))
    (λ h. omega (arith, length-filter q s.entries, count_by-le-length q s.entries))

-- each row can be priced
pub can_price : (groups : ℕ) (q : Queue) (counts : Counts) → groups ≤ most_groups → IsQueue groups q → CountsAre (flat_of q) counts → (place : ℕ) (r : Slotted) → slice_get q.rows.rows place ≡ Some r → CanPrice counts r
can_price groups q counts most k are place r h =
    let within = slice_get_within q.rows.rows place r h in
    let is : r ≡ get_or q.rows.rows place r = sym (get_or_from_slice_get q.rows.rows place r r h) in
    let low = each_at (λ (e : Queued). e.facts.group < groups) q.rows.rows place r k.formed.groups_below within is in
    let count = are r.entry.facts in
    let one = own_unit (flat_of q) r.entry place (omega (arith, within, length-map q.rows.rows (λ (x : Slotted). x.entry))) (got_entry q.rows.rows place r within is) in
    record {
      group = omega (arith, low, most);
      some = omega (arith, count, one);
      fits = omega (arith, count, unit_few (flat_of q) r.entry.facts, k.formed.few);
    }
