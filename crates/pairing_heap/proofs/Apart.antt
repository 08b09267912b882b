-- Heaps that share no slot stay so, slots that are written in place, and how many pairs a heap has.
use Rattle.std.proofs.Common.{◌≡◌, ◌≢◌, ℕ, ◌+◌, ◌≤◌, Bool, true, List, [], ◌∷◌, Option, Some, length, count_by, cond, refl, sym, ap, ◌∙◌, inl, inr, arith}
use Rattle.std.proofs.lemmas.Bool.{cases_eq}
use Rattle.std.proofs.lemmas.List.Sums.{sum_by-cons}
use Rattle.link_arena.specs.Arena.{Arena, value_at, IsLive, Revalues}
use Rattle.pairing_heap.specs.Heap.{SameElements, times_of, key_of_value, keys_at, pairs_at, Stands, Holds, Lacks, IsApart, OthersStay, RevaluesOnly, AddsPair, TakesPair, RekeysPair, ClearsSlots}
use Rattle.pairing_heap.specs.Laws.{AreApart, StaysApart, StaysIn}
use Rattle.pairing_heap.proofs.Adding.{key_from_live}
use Rattle.pairing_heap.proofs.Counts.{one_other}
use Rattle.pairing_heap.proofs.Rekeying.{Rekeys, live_held}
use Rattle.pairing_heap.proofs.Size.{none_or_some}
use Rattle.pairing_heap.proofs.Staying.{stays, once, adds_slot, takes_slot, rekeys_slot}

count_by-all : {X : Type 0} → (xs : List X) → count_by (λ _. true) xs ≡ length xs
count_by-all [] = refl
count_by-all (x ∷ xs) = omega (arith, sum_by-cons (λ _. cond true 1 0) x xs, count_by-all xs)

-- lists with the same elements are of one length
length-same : {X : Type 0} → (xs ys : List X) → SameElements xs ys → length xs ≡ length ys
length-same xs ys same = sym (count_by-all xs) ∙ same (λ _. true) ∙ count_by-all ys

module _ {V X : Type 0} (k : ℕ) (key_of : V → X) (precedes : X → X → Bool) where
  -- every slot keeps its key where one gets a value with the same key
  same_keys : (old new : Arena V) (slot : ℕ) (value : V) → Revalues old new slot value → keys_at key_of old slot ≡ Some (key_of value) → (other : ℕ) → keys_at key_of new other ≡ keys_at key_of old other
  same_keys old new slot value revalues keyed other =
      elim (cases_eq other slot) [
        | inl same ↦
            ap (keys_at key_of new) same
            ∙ ap (key_of_value key_of) revalues.here
            ∙ sym (ap (keys_at key_of old) same ∙ keyed)
        | inr differs ↦ ap (key_of_value key_of) (revalues.elsewhere other differs)
      ]

  pub stays_keyed : (old new : Arena V) (slot : ℕ) (value : V) → Revalues old new slot value → keys_at key_of old slot ≡ Some (key_of value) → (heap : Option ℕ) → Stands k key_of precedes old heap → StaysIn k key_of precedes old new heap
  stays_keyed old new slot value revalues keyed heap stands =
      stays k key_of precedes old new heap stands record {
        keys = λ other held. same_keys old new slot value revalues keyed other;
        links = λ other held. revalues.links k other;
      }

  pub stays_rekeyed : (old new : Arena V) (set slot : ℕ) (value : V) → k ≢ set → RevaluesOnly set old new slot value → (heap : Option ℕ) → (Holds k key_of old heap slot → keys_at key_of old slot ≡ Some (key_of value)) → Stands k key_of precedes old heap → StaysIn k key_of precedes old new heap
  stays_rekeyed old new set slot value unlike only heap keyed stands =
      stays k key_of precedes old new heap stands record {
        keys = λ other held. elim (cases_eq other slot) [
          | inl same ↦
              ap (keys_at key_of new) same
              ∙ ap (key_of_value key_of) only.stored
              ∙ sym (ap (keys_at key_of old) same ∙ keyed (omega (arith, held, ap (times_of (pairs_at k key_of old heap)) same)))
          | inr differs ↦ ap (key_of_value key_of) (only.values other differs)
        ];
        links = λ other held. only.other_set k other unlike;
      }

  pub adds_pair : (old new : Arena V) (heap later : Option ℕ) (slot : ℕ) → IsLive old slot → AddsPair k key_of precedes old new heap later slot → length (pairs_at k key_of new later) ≡ length (pairs_at k key_of old heap) + 1
  adds_pair old new heap later slot live adds =
      let keyed = key_from_live key_of (value_at old slot) live in
      omega (arith, length-same (pairs_at k key_of new later) ((keyed.0, slot) ∷ pairs_at k key_of old heap) (adds.pairs keyed.0 keyed.1))

  pub takes_pair : (old new : Arena V) (heap later : Option ℕ) (slot : ℕ) → Stands k key_of precedes old heap → TakesPair k key_of precedes old new heap later slot → length (pairs_at k key_of old heap) ≡ length (pairs_at k key_of new later) + 1
  takes_pair old new heap later slot stands takes =
      let keyed = key_from_live key_of (value_at old slot) (live_held k key_of precedes old heap slot stands takes.held) in
      omega (arith, length-same (pairs_at k key_of old heap) ((keyed.0, slot) ∷ pairs_at k key_of new later) (takes.pairs keyed.0 keyed.1))

  pub rekeys_pair : (old new : Arena V) (heap later : Option ℕ) (slot : ℕ) (value : V) → IsLive old slot → RekeysPair k key_of precedes old new heap later slot value → length (pairs_at k key_of new later) ≡ length (pairs_at k key_of old heap)
  rekeys_pair old new heap later slot value live rekeys =
      let keyed = key_from_live key_of (value_at old slot) live in
      omega (arith, length-same ((keyed.0, slot) ∷ pairs_at k key_of new later) ((key_of value, slot) ∷ pairs_at k key_of old heap) (rekeys.pairs keyed.0 keyed.1))

  pub rekeys_again : (a b c d : Arena V) (heap mid later : Option ℕ) (slot : ℕ) (value : V) → Stands k key_of precedes a heap → TakesPair k key_of precedes a b heap mid slot → Revalues b c slot value → c.spare ≡ b.spare → AddsPair k key_of precedes c d mid later slot → RekeysPair k key_of precedes a d heap later slot value
  rekeys_again a b c d heap mid later slot value stands takes revalues spare adds =
      Rekeys k key_of precedes a b c d heap mid later slot value (live_held k key_of precedes a heap slot stands takes.held) stands takes revalues spare adds

  pub rekeys_there : (old new : Arena V) (heap : Option ℕ) (slot : ℕ) (value : V) → Stands k key_of precedes old heap → Holds k key_of old heap slot → Revalues old new slot value → new.spare ≡ old.spare → keys_at key_of old slot ≡ Some (key_of value) → RekeysPair k key_of precedes old new heap heap slot value
  rekeys_there old new heap slot value stands held revalues spare keyed =
      let still = stays_keyed old new slot value revalues keyed heap stands in
      record {
        stands = still.stands;
        stored = revalues.here;
        values = revalues.elsewhere;
        pairs = λ key is test.
            let e = sym is ∙ keyed in
            let same : key ≡ key_of value = cc in
            ap (λ xs. count_by test ((key, slot) ∷ xs)) still.same
            ∙ ap (λ (x : X). count_by test ((x, slot) ∷ pairs_at k key_of old heap)) same;
        other_set = λ set other differs. revalues.links set other;
        elsewhere = λ other none. revalues.links k other;
        spare = spare;
        others = λ root there apart.
            let there_still = stays_keyed old new slot value revalues keyed root there in
            (there_still.stands, there_still.same);
      }

  -- a heap that shares no slot with another has each slot with it once at most
  apart_sum : (a : Arena V) (heap other : Option ℕ) → Stands k key_of precedes a heap → Stands k key_of precedes a other → AreApart k key_of precedes a heap other → IsApart k key_of a other (times_of (pairs_at k key_of a heap))
  apart_sum a heap other stands there apart slot =
      elim (none_or_some (times_of (pairs_at k key_of a heap) slot)) [
        | inl none ↦ omega (arith, none, once k key_of precedes a other slot there)
        | inr some ↦ omega (arith, apart slot some, once k key_of precedes a heap slot stands)
      ]

  -- what stays apart by the sum of each slot stays apart
  apart_after : (old new : Arena V) (later other : Option ℕ) → OthersStay k key_of precedes old new (times_of (pairs_at k key_of new later)) → Stands k key_of precedes old other → IsApart k key_of old other (times_of (pairs_at k key_of new later)) → StaysApart k key_of precedes old new later other
  apart_after old new later other others there sums =
      let still = others other there sums in
      record {
        stays = record { stands = still.0; same = still.1 };
        apart = λ slot held. omega (arith, held, sums slot, ap (λ xs. times_of xs slot) still.1);
        back = λ slot held. omega (arith, held, sums slot, ap (λ xs. times_of xs slot) still.1);
      }

  -- the same where the sums are of the heap as it was, and it has no slot more
  apart_within : (old new : Arena V) (heap later other : Option ℕ) → OthersStay k key_of precedes old new (times_of (pairs_at k key_of old heap)) → ((slot : ℕ) → times_of (pairs_at k key_of new later) slot ≤ times_of (pairs_at k key_of old heap) slot) → Stands k key_of precedes old heap → Stands k key_of precedes old other → AreApart k key_of precedes old heap other → StaysApart k key_of precedes old new later other
  apart_within old new heap later other others less stands there apart =
      let sums = apart_sum old heap other stands there apart in
      let still = others other there sums in
      record {
        stays = record { stands = still.0; same = still.1 };
        apart = λ slot held. omega (arith, held, less slot, sums slot, ap (λ xs. times_of xs slot) still.1);
        back = λ slot held. omega (arith, held, less slot, sums slot, ap (λ xs. times_of xs slot) still.1);
      }

  pub added_apart : (old new : Arena V) (heap later : Option ℕ) (slot : ℕ) → IsLive old slot → Stands k key_of precedes old heap → AddsPair k key_of precedes old new heap later slot → (other : Option ℕ) → Stands k key_of precedes old other → AreApart k key_of precedes old heap other → Lacks k key_of old other slot → StaysApart k key_of precedes old new later other
  added_apart old new heap later slot live stands adds other there apart lacks =
      let before = apart_sum old heap other stands there apart in
      apart_after old new later other adds.others there (λ at.
      let sum = adds_slot k key_of precedes old new heap later slot live adds at in
      elim (cases_eq slot at) [
        | inl same ↦ omega (arith, lacks, ap (times_of (pairs_at k key_of old other)) same, once k key_of precedes new later at adds.stands)
        | inr differs ↦ omega (arith, sum, before at, one_other slot at differs)
      ])

  pub taken_apart : (old new : Arena V) (heap later : Option ℕ) (slot : ℕ) → Stands k key_of precedes old heap → TakesPair k key_of precedes old new heap later slot → (other : Option ℕ) → Stands k key_of precedes old other → AreApart k key_of precedes old heap other → StaysApart k key_of precedes old new later other
  taken_apart old new heap later slot stands takes other there apart =
      apart_within old new heap later other takes.others (λ at. omega (arith, takes_slot k key_of precedes old new heap later slot stands takes at)) stands there apart

  pub rekeyed_apart : (old new : Arena V) (heap later : Option ℕ) (slot : ℕ) (value : V) → IsLive old slot → Stands k key_of precedes old heap → RekeysPair k key_of precedes old new heap later slot value → (other : Option ℕ) → Stands k key_of precedes old other → AreApart k key_of precedes old heap other → StaysApart k key_of precedes old new later other
  rekeyed_apart old new heap later slot value live stands rekeys other there apart =
      apart_within old new heap later other rekeys.others (λ at. omega (arith, rekeys_slot k key_of precedes old new heap later slot value live rekeys at)) stands there apart

  pub stays_cleared : (old new : Arena V) (heap : Option ℕ) → Stands k key_of precedes old heap → ClearsSlots k key_of precedes old new heap → (other : Option ℕ) → Stands k key_of precedes old other → AreApart k key_of precedes old heap other → StaysIn k key_of precedes old new other
  stays_cleared old new heap stands clears other there apart =
      let still = clears.others other there (apart_sum old heap other stands there apart) in
      record { stands = still.0; same = still.1 }
