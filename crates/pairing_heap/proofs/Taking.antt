-- What taking a slot out makes of a heap.
use Rattle.std.proofs.Common.{◌≡◌, ℕ, ◌+◌, ◌<◌, ◌≤◌, Bool, true, Option, Some, length, count_by, cond, refl, sym, ap, ◌∙◌, arith}
use Rattle.std.proofs.lemmas.Bool.{eq-eqb}
use Rattle.std.specs.Prelude.{◌==◌}
use Rattle.link_arena.specs.Arena.{Arena, value_at, links_at, IsLive, unlinked, Relinks}
use Rattle.pairing_heap.specs.Tree.{Tree, leaf, node, tally, slot_count, IsHeap}
use Rattle.pairing_heap.specs.Melding.{heaps, melded, paired, folded, first_of, children_of, without, taken_out}
use Rattle.pairing_heap.specs.Heap.{times_of, keys_at, tree_at, pairs_at, Stands, LinksOnly, TakesPair}
use Rattle.pairing_heap.specs.Chain.{solo, siblings, Chained, Merges}
use Rattle.pairing_heap.proofs.Counts.{one, one_same}
use Rattle.pairing_heap.proofs.Frame.{IsChain-kept, IsChain-joined}
use Rattle.pairing_heap.proofs.Melding.{live_from_key}
use Rattle.pairing_heap.proofs.Passes.{Kept-apart}
use Rattle.pairing_heap.proofs.Pairing.{LinksOnly-relinks, LinksOnly-then}
use Rattle.pairing_heap.proofs.Standing.{HasRoot, has_root, Stands-heap, tree_at-heap, count_by-heap, count_by-stands, count_by-more, length-pairs, OthersStay-links}
use Rattle.pairing_heap.proofs.Size.{siblings-most}

-- without its root, a heap is what its children become
taken_root : {X : Type 0} (precedes : X → X → Bool) (key : X) (root : ℕ) (children : Tree X) → folded precedes (paired precedes (heaps children)) ≡ taken_out precedes root (solo key root children)
taken_root {X} precedes key root children =
    ap (λ t. melded precedes (cond t leaf (node key root (without root children) leaf)) (folded precedes (paired precedes (heaps (cond t children (first_of (children_of root children) leaf)))))) (sym (eq-eqb root root refl))

module _ {V X : Type 0} (k : ℕ) (key_of : V → X) (precedes : X → X → Bool) where
  pub Takes-links : (old new : Arena V) (heap later : Option ℕ) (slot : ℕ) (key : X) (tree : Tree X) → k < 2 → keys_at key_of old slot ≡ Some key → IsHeap precedes (keys_at key_of new) (links_at new k) later tree → ((test : X × ℕ → Bool) → count_by test (pairs_at k key_of old heap) ≡ cond (test (key, slot)) 1 0 + tally test tree) → links_at new k slot ≡ unlinked → LinksOnly k old new (times_of (pairs_at k key_of old heap)) → TakesPair k key_of precedes old new heap later slot
  Takes-links old new heap later slot key tree set keyed stands nodes free kept =
      record {
        held = omega (arith, nodes (λ pair. pair.1 == slot), one_same slot);
        stands = Stands-heap k key_of precedes new later tree set stands;
        pairs = λ other_key other_keyed test.
            let e = sym keyed ∙ other_keyed in
            let same : key ≡ other_key = cc in
            nodes test ∙ ap (λ x. cond (test (x, slot)) 1 0 + tally test tree) same
            ∙ ap (λ n. cond (test (other_key, slot)) 1 0 + n) (sym (count_by-heap k key_of precedes new later tree stands test))
            ∙ sym (count_by-more test (other_key, slot) (pairs_at k key_of new later));
        free = free;
        kept = kept;
        others = OthersStay-links k key_of precedes old new (times_of (pairs_at k key_of old heap)) kept;
      }

  -- the root of a heap that stands
  pub root_of : (a : Arena V) (root : ℕ) → Stands k key_of precedes a (Some root) → HasRoot precedes (keys_at key_of a) (links_at a k) root (tree_at k key_of a (Some root))
  root_of a root stands = has_root precedes (keys_at key_of a) (links_at a k) root (tree_at k key_of a (Some root)) stands.heap

  pub live_root : (a : Arena V) (root : ℕ) → Stands k key_of precedes a (Some root) → IsLive a root
  live_root a root stands = let before = root_of a root stands in live_from_key key_of (value_at a root) before.key before.rooted.keyed

  -- the children of the root, once its links lead nowhere
  pub Chained-children : (old mid : Arena V) (root : ℕ) (stands : Stands k key_of precedes old (Some root)) → Relinks old mid k root unlinked → mid.spare ≡ old.spare → (chained : Chained k key_of precedes mid (links_at old k root).child) × ((test : X × ℕ → Bool) → count_by test (pairs_at k key_of old (Some root)) ≡ cond (test ((root_of old root stands).key, root)) 1 0 + tally test chained.tree)
  Chained-children old mid root stands relinks spare =
      let before = root_of old root stands in
      let written = LinksOnly-relinks k old mid root unlinked relinks spare in
      let once : (slot : ℕ) → slot_count slot (solo before.key root before.children) ≤ 1 = λ slot. omega (arith, stands.heap.once slot, ap (slot_count slot) before.is) in
      let kept = Kept-apart k key_of precedes old mid (one root) before.children written (λ slot. omega (arith, once slot)) in
      let chain = IsChain-joined precedes (keys_at key_of old) (links_at old k) (Some root) (links_at old k root).child before.key before.children before.rooted.joined before.rooted.ordered in (
        record {
          set = stands.set;
          tree = before.children;
          chain = IsChain-kept (keys_at key_of old) (keys_at key_of mid) (links_at old k) (links_at mid k) precedes (links_at old k root).child before.children kept chain;
          once = λ slot. omega (arith, once slot);
        },
        λ test. omega (arith, count_by-stands k key_of precedes old (Some root) test, ap (tally test) before.is),
      )

  -- the root has fewer children than the heap has pairs
  pub children-most : (old mid : Arena V) (root : ℕ) (stands : Stands k key_of precedes old (Some root)) (relinks : Relinks old mid k root unlinked) (spare : mid.spare ≡ old.spare) → siblings (Chained-children old mid root stands relinks spare).0.tree < length (pairs_at k key_of old (Some root))
  children-most old mid root stands relinks spare =
      let children = Chained-children old mid root stands relinks spare in
      omega (arith, children.1 (λ _. true), siblings-most children.0.tree, length-pairs (tree_at k key_of old (Some root)), count_by-stands k key_of precedes old (Some root) (λ _. true))

  -- the root goes, and its children become the heap
  pub Takes-root : (old mid new : Arena V) (root : ℕ) (later : Option ℕ) (stands : Stands k key_of precedes old (Some root)) (relinks : Relinks old mid k root unlinked) (spare : mid.spare ≡ old.spare) → Merges k key_of precedes mid new (links_at old k root).child later (Chained-children old mid root stands relinks spare).0 (folded precedes (paired precedes (heaps (Chained-children old mid root stands relinks spare).0.tree))) → TakesPair k key_of precedes old new (Some root) later root
  Takes-root old mid new root later stands relinks spare merges =
      let before = root_of old root stands in
      let children = Chained-children old mid root stands relinks spare in
      let written = LinksOnly-relinks k old mid root unlinked relinks spare in
      let absent : slot_count root children.0.tree ≡ 0 = omega (arith, stands.heap.once root, count_by-stands k key_of precedes old (Some root) (λ pair. pair.1 == root), children.1 (λ pair. pair.1 == root), one_same root) in
      Takes-links old new (Some root) later root before.key merges.tree stands.set before.rooted.keyed merges.heap
      (λ test. omega (arith, children.1 test, merges.nodes test))
      (merges.kept.elsewhere root absent ∙ relinks.here)
      (LinksOnly-then k old mid new (one root) (λ slot. slot_count slot children.0.tree) (times_of (pairs_at k key_of old (Some root))) written merges.kept
      (λ slot none. omega (arith, none, children.1 (λ pair. pair.1 == slot)))
      (λ slot none. omega (arith, none, children.1 (λ pair. pair.1 == slot))))

  -- so the heap is what its children become
  pub Takes-paired : (old mid new : Arena V) (root : ℕ) (later : Option ℕ) (stands : Stands k key_of precedes old (Some root)) (relinks : Relinks old mid k root unlinked) (spare : mid.spare ≡ old.spare) → Merges k key_of precedes mid new (links_at old k root).child later (Chained-children old mid root stands relinks spare).0 (folded precedes (paired precedes (heaps (Chained-children old mid root stands relinks spare).0.tree))) → tree_at k key_of new later ≡ taken_out precedes root (tree_at k key_of old (Some root))
  unfolding Chained-children root_of
  Takes-paired old mid new root later stands relinks spare merges =
      let before = root_of old root stands in
      tree_at-heap k key_of precedes new later merges.tree merges.heap ∙ merges.is
      ∙ taken_root precedes before.key root before.children
      ∙ ap (taken_out precedes root) (sym before.is)
