-- Each entry of an unbound lane is of a group that the lane has a unit for, since the lane counts all its entries in units.
use Rattle.std.proofs.Common.{◌≡◌, ℕ, zero, suc, ◌+◌, ◌≤◌, ◌<◌, ◌==◌, ◌&&◌, Bool, true, false, not, Contains, List, take, is_some, refl, sym, ap, subst, inl, inr, arith, eq-eqb}
use Rattle.std.specs.Prelude.{count_by, nat_lt}
use Rattle.std.specs.List.{sum_by}
use Rattle.std.proofs.lemmas.Bool.{and_right, cases_order, le-ltb, lt-ltb, ltb-true, ne_eqb, not-true}
use Rattle.std.proofs.lemmas.List.{take_all}
use Rattle.std.proofs.lemmas.List.Sums.{length-filter, sum_by_more}
use Rattle.sched_base.specs.declared.Bucket.{Bucket}
use Rattle.flat_policy.specs.Policy.Offer.{is_unbound}
use Rattle.flat_policy.specs.Policy.Queue.{Flat, Queued, in_clutch, in_lane, lane, same_bucket, same_flag}
use Rattle.link_arena.specs.Arena.{Arena}
use Rattle.thread_queue.specs.Queue.{Queue}
use Rattle.thread_queue.specs.declared.item.Item.{Item}
use Rattle.clutch_bucket.specs.Lane.{Follows, Lane, groups, no_queue, unit_of}
use Rattle.cluster_queue.proofs.Members.{filter_has}
use Rattle.cluster_queue.proofs.Passing.{all_pass, count_both, count_none, mark}
use Rattle.cluster_queue.proofs.Rows.{IsStoredIn}
use Rattle.cluster_queue.proofs.Buckets.{in_lane_from}
use Rattle.cluster_queue.proofs.ItemClutches.{in_clutch_from}

-- an entry of the lane of a group below a number
abbrev lies_below : Bucket → ℕ → Queued → Bool
lies_below b n e = in_lane (lane b false) e && nat_lt e.facts.group n

-- one group more
more_below : (x y : Bool) (g n : ℕ) → mark ((x && same_flag y false) && nat_lt g (n + 1)) ≡ mark ((x && same_flag y false) && nat_lt g n) + mark (not y && ((g == n) && x))
more_below true true g n = omega arith
more_below true false g n = elim (cases_order g n) [
  | inl e ↦ (
      let now_ = ap mark (lt-ltb g (n + 1) (omega (arith, e))) in
      let then_ = ap mark (le-ltb g n (omega (arith, e))) in
      let here = ap (λ (b : Bool). mark (b && true)) (eq-eqb g n e) in
      omega (arith, now_, then_, here))
  | inr other ↦ elim other [
    | inl lt ↦ (
        let now_ = ap mark (lt-ltb g (n + 1) (omega (arith, lt))) in
        let then_ = ap mark (lt-ltb g n lt) in
        let here = ap (λ (b : Bool). mark (b && true)) (ne_eqb g n (λ e. omega (arith, e, lt))) in
        omega (arith, now_, then_, here))
    | inr gt ↦ (
        let now_ = ap mark (le-ltb g (n + 1) (omega (arith, gt))) in
        let then_ = ap mark (le-ltb g n (omega (arith, gt))) in
        let here = ap (λ (b : Bool). mark (b && true)) (ne_eqb g n (λ e. omega (arith, e, gt))) in
        omega (arith, now_, then_, here))
  ]
]
more_below false true g n = omega arith
more_below false false g n = let none = ap mark (and_right (g == n) false refl) in omega (arith, none)

-- the units of the groups below a number count the lane's entries of these groups
counted_below : (arena : Arena Item) (at : Lane) (s : Flat) → Follows arena at s → (n : ℕ) → n ≤ groups at → sum_by (λ (queue : Queue). queue.count) (take n at.queues) ≡ count_by (lies_below at.bucket n) s.entries
counted_below arena at s f zero within = sym (count_none (lies_below at.bucket 0) (λ e. and_right (in_lane (lane at.bucket false) e) (nat_lt e.facts.group 0) (le-ltb e.facts.group 0 (omega arith))) s.entries)
counted_below arena at s f (suc n) within =
    let unit = (f.units.each n (omega (arith, within))).count in
    let before = counted_below arena at s f n (omega (arith, within)) in
    let sums = sum_by_more (λ (queue : Queue). queue.count) at.queues n no_queue (omega (arith, within)) in
    let two = count_both (lies_below at.bucket n) (in_clutch (unit_of at n)) (lies_below at.bucket (n + 1))
    (λ e. more_below (same_bucket e.facts.bucket at.bucket) (is_some e.facts.bound) e.facts.group n) s.entries in
    let next : n + 1 ≡ suc n = omega arith in
    subst (λ (m : ℕ). sum_by (λ (queue : Queue). queue.count) (take m at.queues) ≡ count_by (lies_below at.bucket m) s.entries) next
    (omega (arith, unit, before, sums, two, length-filter (in_clutch (unit_of at n)) s.entries))

pub group_within : (arena : Arena Item) (at : Lane) (s : Flat) → Follows arena at s → (e : Queued) → Contains s.entries e → in_lane (lane at.bucket false) e ≡ true → e.facts.group < groups at
group_within arena at s f e c h =
    let all = counted_below arena at s f (groups at) (omega arith) in
    let whole = ap (λ (qs : List Queue). sum_by (λ (queue : Queue). queue.count) qs) (take_all (groups at) at.queues (omega arith)) in
    let len = length-filter (in_lane (lane at.bucket false)) s.entries in
    let same : count_by (in_lane (lane at.bucket false)) s.entries ≡ count_by (lies_below at.bucket (groups at)) s.entries = omega (arith, all, whole, len, f.units.len, f.stands.units.counted) in
    ltb-true e.facts.group (groups at) (all_pass (in_lane (lane at.bucket false)) (λ (q : Queued). nat_lt q.facts.group (groups at)) s.entries same e c h)

pub unbound_stored : (arena : Arena Item) (at : Lane) (s : Flat) → Follows arena at s → (e : Queued) → Contains s.entries e → is_unbound e.facts ≡ true → e.facts.bucket ≡ at.bucket → IsStoredIn arena e
unbound_stored arena at s f e c unbound bucket =
    let flag = not-true (is_some e.facts.bound) unbound in
    let within = group_within arena at s f e c (in_lane_from at.bucket false e bucket flag) in
    let passes = in_clutch_from (unit_of at e.facts.group) e flag refl bucket in
    let back = (f.units.each e.facts.group within).entries.back e (filter_has (in_clutch (unit_of at e.facts.group)) s.entries e c passes) in
    (back.0, back.1, (back.2.1, back.2.2))
