-- What it is that a heap stands in an arena.
use Rattle.std.proofs.Common.{◌≡◌, ℕ, ◌+◌, ◌<◌, ◌≤◌, Bool, List, ◌∷◌, ◌++◌, Option, Some, None, length, length-append, count_by, cond, refl, sym, ap, subst, ◌∙◌, arith}
use Rattle.std.specs.Prelude.{◌==◌}
use Rattle.std.proofs.lemmas.List.Sums.{sum_by-cons, sum_by-append}
use Rattle.link_arena.specs.declared.arena.Links.{Links}
use Rattle.link_arena.specs.Arena.{Arena, value_at, links_at}
use Rattle.pairing_heap.specs.Tree.{Tree, leaf, node, pairs, tally, slot_count, Joined, Ordered, IsHeap}
use Rattle.pairing_heap.specs.Heap.{key_of_value, keys_at, tree_at, pairs_at, Stands, LinksOnly, OthersStay, SameSlots}
use Rattle.pairing_heap.specs.Chain.{solo, IsRoot}
use Rattle.pairing_heap.proofs.Size.{size, size-most, tree_from-joined, keyed-joined}
use Rattle.pairing_heap.proofs.Frame.{Kept, Joined-kept}
use Rattle.pairing_heap.proofs.Melding.{live_from_key}
use Rattle.pairing_heap.proofs.Passes.{within_from_live}

module _ {X : Type 0} where
  -- a test counts as many pairs as nodes
  pub count_by-pairs : (test : X × ℕ → Bool) (tree : Tree X) → count_by test (pairs tree) ≡ tally test tree
  count_by-pairs test leaf = refl
  count_by-pairs test (node key slot children rest) =
      omega (
        arith,
        sum_by-cons (λ pair. cond (test pair) 1 0) (key, slot) (pairs children ++ pairs rest),
        sum_by-append (λ pair. cond (test pair) 1 0) (pairs children) (pairs rest),
        count_by-pairs test children,
        count_by-pairs test rest,
      )

  -- there are as many pairs as nodes
  pub length-pairs : (tree : Tree X) → length (pairs tree) ≡ size tree
  length-pairs leaf = refl
  length-pairs (node key slot children rest) =
      omega (arith, length-append (pairs children) (pairs rest), length-pairs children, length-pairs rest)

  pub count_by-more : (test : X × ℕ → Bool) (pair : X × ℕ) (xs : List (X × ℕ)) → count_by test (pair ∷ xs) ≡ cond (test pair) 1 0 + count_by test xs
  count_by-more test pair xs = sum_by-cons (λ p. cond (test p) 1 0) pair xs

  -- a heap with a root is that root and its children
  pub record HasRoot (precedes : X → X → Bool) (keys : ℕ → Option X) (links : ℕ → Links) (root : ℕ) (tree : Tree X) : Type 0 where
    pub key : X
    pub children : Tree X
    pub rooted : IsRoot precedes keys links root key children
    pub next : (links root).next ≡ None
    pub prev : (links root).prev ≡ None
    pub is : tree ≡ solo key root children

  module _ (precedes : X → X → Bool) (keys : ℕ → Option X) (links : ℕ → Links) where
    no_rest : (at : Option ℕ) (prev : Option ℕ) (rest : Tree X) → rest ≡ leaf → Joined keys links prev at rest → at ≡ None
    no_rest at prev rest is joined = subst (λ (t : Tree X). Joined keys links prev at t) is joined

    root_here : (key : X) (slot root : ℕ) (children rest : Tree X) → Some root ≡ Some slot → rest ≡ leaf → keys slot ≡ Some key → (links slot).prev ≡ None → Joined keys links (Some slot) (links slot).child children → Joined keys links (Some slot) (links slot).next rest → Ordered precedes key children → HasRoot precedes keys links root (node key slot children rest)
    root_here key slot root children rest at alone keyed prev below beside ordered =
        let here : HasRoot precedes keys links slot (node key slot children rest) = record {
          key = key;
          children = children;
          rooted = record { keyed = keyed; joined = below; ordered = ordered };
          next = no_rest (links slot).next (Some slot) rest alone beside;
          prev = prev;
          is = ap (λ (t : Tree X). node key slot children t) alone;
        } in
        let same : slot ≡ root = cc in
        subst (λ (s : ℕ). HasRoot precedes keys links s (node key slot children rest)) same here

    pub has_root : (root : ℕ) (tree : Tree X) → IsHeap precedes keys links (Some root) tree → HasRoot precedes keys links root tree
    has_root root leaf heap = let e = heap.joined in absurd (cc)
    has_root root (node key slot children rest) heap =
        root_here key slot root children rest heap.joined.0 heap.ordered.0 heap.joined.1 heap.joined.2 heap.joined.3 heap.joined.4 heap.ordered.1

    -- a root with nothing before and after it is a heap
    pub heap_from_root : (root : ℕ) (key : X) (children : Tree X) → IsRoot precedes keys links root key children → (links root).next ≡ None → (links root).prev ≡ None → ((slot : ℕ) → slot_count slot (solo key root children) ≤ 1) → IsHeap precedes keys links (Some root) (solo key root children)
    heap_from_root root key children rooted next prev once =
        record { joined = (refl, rooted.keyed, prev, rooted.joined, next); once = once; ordered = (refl, rooted.ordered) }

    pub no_root : (tree : Tree X) → IsHeap precedes keys links None tree → tree ≡ leaf
    no_root leaf heap = refl
    no_root (node key slot children rest) heap = let e = heap.joined.0 in absurd (cc)

module _ {V X : Type 0} (k : ℕ) (key_of : V → X) (precedes : X → X → Bool) where
  abbrev HeapAt : Arena V → Option ℕ → Tree X → Type 0
  HeapAt a root tree = IsHeap precedes (keys_at key_of a) (links_at a k) root tree

  -- the tree that a heap's links say is the one that a walk finds
  pub tree_at-heap : (a : Arena V) (root : Option ℕ) (tree : Tree X) → HeapAt a root tree → tree_at k key_of a root ≡ tree
  tree_at-heap a root tree heap =
      let deep = size-most (length a.nodes) tree heap.once (λ slot some.
      let keyed = keyed-joined (keys_at key_of a) (links_at a k) None root tree slot heap.joined some in
      within_from_live a slot (live_from_key key_of (value_at a slot) keyed.0 keyed.1)) in
      tree_from-joined (keys_at key_of a) (links_at a k) (length a.nodes) None root tree deep heap.joined

  pub Stands-heap : (a : Arena V) (root : Option ℕ) (tree : Tree X) → k < 2 → HeapAt a root tree → Stands k key_of precedes a root
  Stands-heap a root tree set heap =
      record { set = set; heap = subst (λ (t : Tree X). HeapAt a root t) (sym (tree_at-heap a root tree heap)) heap }

  -- a test counts as many of the heap's pairs as nodes
  pub count_by-heap : (a : Arena V) (root : Option ℕ) (tree : Tree X) → HeapAt a root tree → (test : X × ℕ → Bool) → count_by test (pairs_at k key_of a root) ≡ tally test tree
  count_by-heap a root tree heap test = ap (λ t. count_by test (pairs t)) (tree_at-heap a root tree heap) ∙ count_by-pairs test tree

  pub count_by-stands : (a : Arena V) (root : Option ℕ) → (test : X × ℕ → Bool) → count_by test (pairs_at k key_of a root) ≡ tally test (tree_at k key_of a root)
  count_by-stands a root test = count_by-pairs test (tree_at k key_of a root)

  -- a heap's shape stays where keys and links of its slots stay
  pub tree_at-kept : (old new : Arena V) (root : Option ℕ) → Stands k key_of precedes old root → Kept (keys_at key_of old) (keys_at key_of new) (links_at old k) (links_at new k) (tree_at k key_of old root) → tree_at k key_of new root ≡ tree_at k key_of old root
  tree_at-kept old new root stands kept =
      tree_at-heap new root (tree_at k key_of old root) record {
        joined = Joined-kept (keys_at key_of old) (keys_at key_of new) (links_at old k) (links_at new k) None root (tree_at k key_of old root) kept stands.heap.joined;
        once = stands.heap.once;
        ordered = stands.heap.ordered;
      }

  -- a heap stays where keys and links of its slots stay
  pub Stands-kept : (old new : Arena V) (root : Option ℕ) → Stands k key_of precedes old root → Kept (keys_at key_of old) (keys_at key_of new) (links_at old k) (links_at new k) (tree_at k key_of old root) → Stands k key_of precedes new root × (pairs_at k key_of new root ≡ pairs_at k key_of old root)
  Stands-kept old new root stands kept =
      let tree = tree_at k key_of old root in
      let heap : HeapAt new root tree = record {
        joined = Joined-kept (keys_at key_of old) (keys_at key_of new) (links_at old k) (links_at new k) None root tree kept stands.heap.joined;
        once = stands.heap.once;
        ordered = stands.heap.ordered;
      } in (
        Stands-heap new root tree stands.set heap,
        ap pairs (tree_at-heap new root tree heap),
      )

  pub Stands-same : (old new : Arena V) (root : Option ℕ) → Stands k key_of precedes old root → SameSlots k key_of old new root → Stands k key_of precedes new root × (pairs_at k key_of new root ≡ pairs_at k key_of old root)
  Stands-same old new root stands same =
      Stands-kept old new root stands record {
        keys_stay = λ slot some. same.keys slot (omega (arith, count_by-stands old root (λ pair. pair.1 == slot), some));
        links_stay = λ slot some. same.links slot (omega (arith, count_by-stands old root (λ pair. pair.1 == slot), some));
      }

  -- heaps with no slot of those that are written stay
  pub OthersStay-links : (old new : Arena V) (times : ℕ → ℕ) → LinksOnly k old new times → OthersStay k key_of precedes old new times
  OthersStay-links old new times kept root stands apart =
      Stands-kept old new root stands record {
        keys_stay = λ slot some. ap (key_of_value key_of) (kept.values slot);
        links_stay = λ slot some. kept.elsewhere slot (omega (arith, count_by-stands old root (λ pair. pair.1 == slot), some, apart slot));
      }

  -- the empty heap stands in every arena
  pub Stands-empty : (a : Arena V) → k < 2 → Stands k key_of precedes a None
  Stands-empty a set = Stands-heap a None leaf set record { joined = refl; once = λ slot. omega arith; ordered = tt }
