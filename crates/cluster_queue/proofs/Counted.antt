-- How many unbound entries the buckets down to one have, by the lengths of their lanes.
use Rattle.std.proofs.Common.{◌≡◌, ℕ, zero, suc, ◌<◌, ◌+◌, ◌==◌, ◌&&◌, Bool, true, false, not, cond, List, [], ◌∷◌, get_or, is_some, length, refl, sym, ap, ◌∙◌, arith, le-ltb}
use Rattle.std.specs.Prelude.{count_by, nat_le, nat_lt}
use Rattle.std.proofs.lemmas.List.{get_or_default}
use Rattle.std.proofs.lemmas.List.Sums.{length-filter, sum_by-cons}
use Rattle.sched_base.specs.Bucket.{index}
use Rattle.sched_base.specs.declared.Bucket.{Bucket}
use Rattle.sched_base.specs.declared.Bucket.TheVariants.{Bg, Df, Fg, Ini, Ui, Ut}
use Rattle.flat_policy.specs.Policy.Offer.{is_unbound}
use Rattle.flat_policy.specs.Policy.Queue.{Flat, Queued, in_lane, lane, lane_entries, same_flag}
use Rattle.link_arena.specs.Arena.{Arena}
use Rattle.thread_queue.specs.declared.item.Item.{Item}
use Rattle.clutch_bucket.specs.Lane.{Lane}
use Rattle.cluster_queue.specs.Heaps.{HeapsFollow, no_lane}
use Rattle.cluster_queue.specs.declared.heaps.Heaps.{Heaps}

-- the lengths of the lanes of the buckets below an index, together
abbrev pub lens_below : List Lane → ℕ → ℕ
lens_below lanes zero = 0
lens_below lanes (suc i) = lens_below lanes i + (get_or lanes i no_lane).len

-- whether an entry is unbound, and of a bucket below an index
abbrev pub below : ℕ → Queued → Bool
below i e = is_unbound e.facts && nat_lt (index e.facts.bucket) i

never : (b : Bool) → (b && false) ≡ false
never true = refl
never false = refl

split_by : (u : Bool) (i n m : ℕ) → m ≡ n → cond (not u && nat_lt i (suc n)) 1 0 ≡ cond (not u && nat_lt i n) 1 0 + cond ((i == m) && same_flag u false) 1 0
split_by true i n m is = let none = ap {B = ℕ} (λ (b : Bool). cond b 1 0) (never (i == m)) in omega (arith, none)
split_by false i n m is = grind (arith, is)

count_split : (p q r : Queued → Bool) → ((e : Queued) → cond (p e) 1 0 ≡ cond (q e) 1 0 + cond (r e) 1 0) → (es : List Queued) → count_by p es ≡ count_by q es + count_by r es
count_split p q r each [] = refl
count_split p q r each (e ∷ es) =
    let here = each e in
    let rest = count_split p q r each es in
    let ps = sum_by-cons (λ (x : Queued). cond (p x) 1 0) e es in
    let qs = sum_by-cons (λ (x : Queued). cond (q x) 1 0) e es in
    let rs = sum_by-cons (λ (x : Queued). cond (r x) 1 0) e es in
    omega (arith, here, rest, ps, qs, rs)

none_below : (es : List Queued) → count_by (below 0) es ≡ 0
none_below [] = refl
none_below (e ∷ es) =
    let first = sum_by-cons (λ (x : Queued). cond (below 0 x) 1 0) e es in
    let never_below : nat_lt (index e.facts.bucket) 0 ≡ false = le-ltb (index e.facts.bucket) 0 (omega arith) in
    let none : cond (below 0 e) 1 0 ≡ 0 = ap {B = ℕ} (λ (b : Bool). cond b 1 0) (ap (λ (b : Bool). is_unbound e.facts && b) never_below ∙ never (is_unbound e.facts)) in
    let rest = none_below es in
    omega (arith, first, none, rest)

count_alike : (p q : Queued → Bool) → ((e : Queued) → p e ≡ q e) → (es : List Queued) → count_by p es ≡ count_by q es
count_alike p q each [] = refl
count_alike p q each (e ∷ es) =
    let here = ap {B = ℕ} (λ (b : Bool). cond b 1 0) (each e) in
    let rest = count_alike p q each es in
    let ps = sum_by-cons (λ (x : Queued). cond (p x) 1 0) e es in
    let qs = sum_by-cons (λ (x : Queued). cond (q x) 1 0) e es in
    omega (arith, here, rest, ps, qs)

at_most : (i n : ℕ) → nat_lt i (n + 1) ≡ nat_le i n
at_most i n = grind arith

module _ (arena : Arena Item) (heaps : Heaps) (count : ℕ) (s : Flat) (f : HeapsFollow arena heaps count s) where
  len_is : (b : Bucket) → (get_or heaps.lanes (index b) no_lane).len ≡ count_by (in_lane (lane b false)) s.entries
  len_is b =
      let l = f.lanes b in
      l.follows.units.len ∙ (ap (λ (d : Bucket). length (lane_entries s (lane d false))) l.bucket ∙ length-filter (in_lane (lane b false)) s.entries)

  step : (b : Bucket) → lens_below heaps.lanes (index b) ≡ count_by (below (index b)) s.entries → lens_below heaps.lanes (suc (index b)) ≡ count_by (below (suc (index b))) s.entries
  step b so_far =
      let more = count_split (below (suc (index b))) (below (index b)) (in_lane (lane b false)) (λ e. split_by (is_some e.facts.bound) (index e.facts.bucket) (index b) (index b) refl) s.entries in
      let here = len_is b in
      omega (arith, so_far, more, here)

  fg : lens_below heaps.lanes 1 ≡ count_by (below 1) s.entries
  fg = step Ui (sym (none_below s.entries))

  ini : lens_below heaps.lanes 2 ≡ count_by (below 2) s.entries
  ini = step Fg fg

  df : lens_below heaps.lanes 3 ≡ count_by (below 3) s.entries
  df = step Ini ini

  ut : lens_below heaps.lanes 4 ≡ count_by (below 4) s.entries
  ut = step Df df

  bg : lens_below heaps.lanes 5 ≡ count_by (below 5) s.entries
  bg = step Ut ut

  upto : (b : Bucket) → lens_below heaps.lanes (suc (index b)) ≡ count_by (below (suc (index b))) s.entries
  upto Ui = fg
  upto Fg = ini
  upto Ini = df
  upto Df = ut
  upto Ut = bg
  upto Bg = step Bg bg

  pub counted : (b : Bucket) → lens_below heaps.lanes (index b + 1) ≡ count_by (λ (e : Queued). is_unbound e.facts && nat_le (index e.facts.bucket) (index b)) s.entries
  counted b =
      let n : index b + 1 ≡ suc (index b) = omega arith in
      ap (lens_below heaps.lanes) n ∙ (upto b ∙ (ap (λ k. count_by (below k) s.entries) (sym n)
      ∙ count_alike (below (index b + 1)) (λ (e : Queued). is_unbound e.facts && nat_le (index e.facts.bucket) (index b))
      (λ e. ap (λ (x : Bool). is_unbound e.facts && x) (at_most (index e.facts.bucket) (index b))) s.entries))

-- one lane more
pub one_more : (lanes : List Lane) (i : ℕ) (d : Lane) → i < length lanes → lens_below lanes (i + 1) ≡ lens_below lanes i + (get_or lanes i d).len
one_more lanes i d within =
    let n : i + 1 ≡ suc i = omega arith in
    ap (lens_below lanes) n ∙ ap (λ (l : Lane). lens_below lanes i + l.len) (get_or_default lanes i no_lane d within)
