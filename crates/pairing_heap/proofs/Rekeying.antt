-- What a slot with another value makes of a heap: it is taken out, gets the value, and is pushed again.
use Rattle.std.proofs.Common.{◌≡◌, ℕ, ◌+◌, Bool, Option, Some, None, count_by, cond, sym, ap, ◌∙◌, arith}
use Rattle.std.specs.Prelude.{◌==◌}
use Rattle.link_arena.specs.Arena.{Arena, value_at, links_at, IsLive, Revalues}
use Rattle.pairing_heap.specs.Tree.{Tree, leaf, node}
use Rattle.pairing_heap.specs.Melding.{melded}
use Rattle.pairing_heap.specs.Heap.{times_of, key_of_value, keys_at, tree_at, pairs_at, Stands, Holds, Lacks, AddsPair, TakesPair, RekeysPair}
use Rattle.pairing_heap.proofs.Counts.{one_same, apart}
use Rattle.pairing_heap.proofs.Size.{keyed-joined}
use Rattle.pairing_heap.proofs.Melding.{live_from_key}
use Rattle.pairing_heap.proofs.Standing.{Stands-kept, tree_at-kept, count_by-stands, count_by-more}
use Rattle.pairing_heap.proofs.Adding.{key_from_live}

module _ {V X : Type 0} (k : ℕ) (key_of : V → X) (precedes : X → X → Bool) where
  -- a heap without the slot stays while the slot gets a value
  pub Stands-revalued : (old new : Arena V) (heap : Option ℕ) (slot : ℕ) (value : V) → Revalues old new slot value → Stands k key_of precedes old heap → times_of (pairs_at k key_of old heap) slot ≡ 0 → Stands k key_of precedes new heap × (pairs_at k key_of new heap ≡ pairs_at k key_of old heap)
  Stands-revalued old new heap slot value revalues stands lacks =
      let absent = sym (count_by-stands k key_of precedes old heap (λ pair. pair.1 == slot)) ∙ lacks in
      Stands-kept k key_of precedes old new heap stands record {
        keys_stay = λ other some. ap (key_of_value key_of) (revalues.elsewhere other (apart (tree_at k key_of old heap) slot other absent some));
        links_stay = λ other some. revalues.links k other;
      }

  -- and keeps its shape, so that the slot is melded with what was left of the heap
  pub Rekeys-tree : (b c d : Arena V) (mid later : Option ℕ) (slot : ℕ) (value : V) (left : Tree X) → Revalues b c slot value → Stands k key_of precedes b mid → times_of (pairs_at k key_of b mid) slot ≡ 0 → tree_at k key_of b mid ≡ left → ((key : X) → keys_at key_of c slot ≡ Some key → tree_at k key_of d later ≡ melded precedes (tree_at k key_of c mid) (node key slot leaf leaf)) → tree_at k key_of d later ≡ melded precedes left (node (key_of value) slot leaf leaf)
  Rekeys-tree b c d mid later slot value left revalues stands lacks is melds =
      let absent = sym (count_by-stands k key_of precedes b mid (λ pair. pair.1 == slot)) ∙ lacks in
      let same = tree_at-kept k key_of precedes b c mid stands record {
        keys_stay = λ other some. ap (key_of_value key_of) (revalues.elsewhere other (apart (tree_at k key_of b mid) slot other absent some));
        links_stay = λ other some. revalues.links k other;
      } in
      melds (key_of value) (ap (key_of_value key_of) revalues.here)
      ∙ ap (λ t. melded precedes t (node (key_of value) slot leaf leaf)) (same ∙ is)

  -- once the slot is taken out, the heap lacks it
  pub Lacks-taken : (old new : Arena V) (heap later : Option ℕ) (slot : ℕ) → IsLive old slot → Stands k key_of precedes old heap → TakesPair k key_of precedes old new heap later slot → Lacks k key_of new later slot
  Lacks-taken old new heap later slot live stands takes =
      let keyed = key_from_live key_of (value_at old slot) live in
      let test : X × ℕ → Bool = λ pair. pair.1 == slot in
      omega (arith, takes.pairs keyed.0 keyed.1 test, count_by-more test (keyed.0, slot) (pairs_at k key_of new later), one_same slot, count_by-stands k key_of precedes old heap test, stands.heap.once slot)

  pub Rekeys : (a b c d : Arena V) (heap mid later : Option ℕ) (slot : ℕ) (value : V) → IsLive a slot → Stands k key_of precedes a heap → TakesPair k key_of precedes a b heap mid slot → Revalues b c slot value → c.spare ≡ b.spare → AddsPair k key_of precedes c d mid later slot → RekeysPair k key_of precedes a d heap later slot value
  Rekeys a b c d heap mid later slot value live stands takes revalues spare adds =
      let lacks = Lacks-taken a b heap mid slot live stands takes in
      let still = Stands-revalued b c mid slot value revalues takes.stands lacks in
      let new_key = ap (key_of_value key_of) revalues.here in
      let counts : (key : X) → keys_at key_of a slot ≡ Some key → (test : X × ℕ → Bool) → cond (test (key, slot)) 1 0 + count_by test (pairs_at k key_of d later) ≡ cond (test (key_of value, slot)) 1 0 + count_by test (pairs_at k key_of a heap) =
      λ key keyed test. omega (
        arith,
        takes.pairs key keyed test,
        count_by-more test (key, slot) (pairs_at k key_of b mid),
        adds.pairs (key_of value) new_key test,
        count_by-more test (key_of value, slot) (pairs_at k key_of c mid),
        ap (count_by test) still.1,
      ) in
      let keyed = key_from_live key_of (value_at a slot) live in
      let same_times : (other : ℕ) → times_of (pairs_at k key_of d later) other ≡ times_of (pairs_at k key_of a heap) other =
      λ other. omega (arith, counts keyed.0 keyed.1 (λ pair. pair.1 == other)) in
      record {
        stands = adds.stands;
        stored = adds.kept.values slot ∙ revalues.here;
        values = λ other differs. adds.kept.values other ∙ revalues.elsewhere other differs ∙ takes.kept.values other;
        pairs = λ key is test. count_by-more test (key, slot) (pairs_at k key_of d later) ∙ counts key is test ∙ sym (count_by-more test (key_of value, slot) (pairs_at k key_of a heap));
        other_set = λ set other differs. adds.kept.other_set set other differs ∙ revalues.links set other ∙ takes.kept.other_set set other differs;
        elsewhere = λ other none. adds.kept.elsewhere other (same_times other ∙ none) ∙ revalues.links k other ∙ takes.kept.elsewhere other none;
        spare = adds.kept.spare ∙ spare ∙ takes.kept.spare;
        others = λ root there alone.
            let first = takes.others root there alone in
            let none : times_of (pairs_at k key_of b root) slot ≡ 0 = omega (arith, ap (λ xs. times_of xs slot) first.1, alone slot, takes.held) in
            let second = Stands-revalued b c root slot value revalues first.0 none in
            let third = adds.others root second.0 (λ other. omega (arith, alone other, same_times other, ap (λ xs. times_of xs other) (second.1 ∙ first.1))) in
            (third.0, third.1 ∙ second.1 ∙ first.1);
      }

  -- a slot that a heap holds is live
  pub live_held : (a : Arena V) (heap : Option ℕ) (slot : ℕ) → Stands k key_of precedes a heap → Holds k key_of a heap slot → IsLive a slot
  live_held a heap slot stands held =
      let keyed = keyed-joined (keys_at key_of a) (links_at a k) None heap (tree_at k key_of a heap) slot stands.heap.joined (omega (arith, held, count_by-stands k key_of precedes a heap (λ pair. pair.1 == slot))) in
      live_from_key key_of (value_at a slot) keyed.0 keyed.1
