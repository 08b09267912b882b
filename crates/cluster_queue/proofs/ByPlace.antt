-- Lists by the places of clutch buckets, read off the lanes.
use Rattle.std.proofs.Common.{◌≡◌, ℕ, zero, suc, ◌+◌, ◌*◌, ◌/◌, ◌%◌, ◌<◌, List, None, length, get_or, map, refl, sym, ap, ◌∙◌, arith}
use Rattle.std.proofs.lemmas.List.{ext_get_or, get_or-map, length-map}
use Rattle.std.proofs.lemmas.Nat.{div-add-mod', div_below, mod_below}
use Rattle.sched_base.specs.Bucket.{index}
use Rattle.sched_base.specs.declared.Bucket.TheVariants.{Ui}
use Rattle.flat_policy.specs.Policy.Queue.{Flat, clutch_place, no_spans}
use Rattle.flat_policy.specs.Policy.Setup.{numbers_below, numbers_from}
use Rattle.link_arena.specs.Arena.{Arena}
use Rattle.thread_queue.specs.declared.item.Item.{Item}
use Rattle.clutch_bucket.specs.Lane.{Lane, groups, rank_at, rank_turn, spans_at, unit_of}
use Rattle.cluster_queue.specs.Heaps.{HeapsFollow, LaneFollows, bucket_of, lane_at, spans_in, turns_in}
use Rattle.cluster_queue.specs.declared.heaps.Heaps.{Heaps}

length-numbers : (first n : ℕ) → length (numbers_from first n) ≡ n
length-numbers first zero = refl
length-numbers first (suc n) = ap (λ (m : ℕ). suc m) (length-numbers (suc first) n)

number_at : (first n i d : ℕ) → i < n → get_or (numbers_from first n) i d ≡ first + i
number_at first zero i d h = absurd (omega (arith, h))
number_at first (suc n) zero d h = omega arith
number_at first (suc n) (suc i) d h = number_at (suc first) n i d (omega (arith, h)) ∙ omega arith

-- a list of so many elements is that of a function of the place, where each element is
pub listed_by : {X : Type 0} (d : X) (f : ℕ → X) (n : ℕ) (xs : List X) → length xs ≡ n → ((i : ℕ) → i < n → f i ≡ get_or xs i d) → map f (numbers_below n) ≡ xs
listed_by d f n xs long each =
    let size : length (map f (numbers_below n)) ≡ n = length-map (numbers_below n) f ∙ length-numbers 0 n in
    ext_get_or d (map f (numbers_below n)) xs (size ∙ sym long) (λ i h. (
    let within : i < n = omega (arith, size, h) in
    let inside : i < length (numbers_below n) = omega (arith, length-numbers 0 n, within) in
    get_or-map f (numbers_below n) i 0 d inside ∙ (ap f (number_at 0 n i 0 within ∙ omega arith) ∙ each i within)))

index_of_bucket : (i : ℕ) → i < 6 → index (bucket_of i) ≡ i
index_of_bucket zero h = refl
index_of_bucket (suc zero) h = refl
index_of_bucket (suc (suc zero)) h = refl
index_of_bucket (suc (suc (suc zero))) h = refl
index_of_bucket (suc (suc (suc (suc zero)))) h = refl
index_of_bucket (suc (suc (suc (suc (suc zero))))) h = refl
index_of_bucket (suc (suc (suc (suc (suc (suc i)))))) h = absurd (omega (arith, h))

-- the clutch bucket of a place stands there
place_of : (at : Lane) (i : ℕ) → at.bucket ≡ bucket_of (i % 6) → clutch_place (unit_of at (i / 6)) ≡ i
place_of at i is =
    let low = ap index is ∙ index_of_bucket (i % 6) (mod_below i 6 (omega arith)) in
    let whole = div-add-mod' i 6 in
    omega (arith, low, whole)

module _ (arena : Arena Item) (heaps : Heaps) (count : ℕ) (s : Flat) (f : HeapsFollow arena heaps count s) where
  -- the unit of a place is one of its lane's
  unit_within : (i : ℕ) → i < count * 6 → i / 6 < groups (lane_at heaps (bucket_of (i % 6)))
  unit_within i h = let few = div_below i 6 count (omega arith) h in let same = (f.lanes (bucket_of (i % 6))).groups in omega (arith, few, same)

  pub spans_by_place : spans_in heaps count ≡ s.spans
  spans_by_place =
      listed_by no_spans (λ place. spans_at (lane_at heaps (bucket_of (place % 6))) (place / 6)) (count * 6) s.spans
      (let l = f.lanes Ui in l.follows.units.span_places ∙ ap (λ (n : ℕ). n * 6) l.groups)
      (λ i h. (
      let at : Lane = lane_at heaps (bucket_of (i % 6)) in
      let l : LaneFollows arena at count (bucket_of (i % 6)) s = f.lanes (bucket_of (i % 6)) in
      sym (l.follows.units.each (i / 6) (unit_within i h)).spans ∙ ap (λ (k : ℕ). get_or s.spans k no_spans) (place_of at i l.bucket)))

  pub turns_by_place : turns_in heaps count ≡ s.turns
  turns_by_place =
      listed_by None (λ place. rank_turn (rank_at (lane_at heaps (bucket_of (place % 6))) (place / 6))) (count * 6) s.turns
      (let l = f.lanes Ui in l.follows.units.turn_places ∙ ap (λ (n : ℕ). n * 6) l.groups)
      (λ i h. (
      let at : Lane = lane_at heaps (bucket_of (i % 6)) in
      let l : LaneFollows arena at count (bucket_of (i % 6)) s = f.lanes (bucket_of (i % 6)) in
      sym (l.follows.turns (i / 6) (unit_within i h)) ∙ ap (λ (k : ℕ). get_or s.turns k None) (place_of at i l.bucket)))
