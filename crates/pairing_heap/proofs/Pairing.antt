-- Each step of the passes over a chain, and what they end with.
use Rattle.std.proofs.Common.{◌≡◌, ℕ, ◌+◌, ◌-◌, ◌/◌, ◌<◌, ◌≤◌, Bool, true, Option, Some, None, List, [], ◌∷◌, length, min, refl, sym, ap, subst, ◌∙◌, arith}
use Rattle.std.specs.Prelude.{◌==◌}
use Rattle.std.specs.List.{fold}
use Rattle.link_arena.specs.declared.arena.Links.{Links}
use Rattle.link_arena.specs.Arena.{Arena, value_at, links_at, IsLive, Relinks}
use Rattle.pairing_heap.specs.Tree.{Tree, leaf, node, tally, slot_count, tree_from}
use Rattle.pairing_heap.specs.Melding.{heaps, melded, paired, folded}
use Rattle.pairing_heap.specs.Heap.{key_of_value, keys_at, LinksOnly}
use Rattle.pairing_heap.specs.Chain.{solo, siblings, turned, IsChain, Chained, Split, split_tally, split_heaps, Resplits, Pairs, Folds, Halves, Rechains, Merges}
use Rattle.pairing_heap.proofs.Counts.{one, one_same}
use Rattle.pairing_heap.proofs.Size.{size, tree_from-chain}
use Rattle.pairing_heap.proofs.Frame.{IsRoot-kept, IsChain-kept}
use Rattle.pairing_heap.proofs.Melding.{live_from_key}
use Rattle.pairing_heap.proofs.Passes.{split_chain, Chained-left, Kept-apart, size-chained}

module _ {V : Type 0} (k : ℕ) where
  pub LinksOnly-same : (a : Arena V) (times : ℕ → ℕ) → LinksOnly k a a times
  LinksOnly-same a times = record { values = λ _. refl; other_set = λ _ _ _. refl; elsewhere = λ _ _. refl; spare = refl }

  pub LinksOnly-then : (a b c : Arena V) (first second both : ℕ → ℕ) → LinksOnly k a b first → LinksOnly k b c second → ((slot : ℕ) → both slot ≡ 0 → first slot ≡ 0) → ((slot : ℕ) → both slot ≡ 0 → second slot ≡ 0) → LinksOnly k a c both
  LinksOnly-then a b c first second both p q none_first none_second =
      record {
        values = λ slot. q.values slot ∙ p.values slot;
        other_set = λ set slot differs. q.other_set set slot differs ∙ p.other_set set slot differs;
        elsewhere = λ slot none. q.elsewhere slot (none_second slot none) ∙ p.elsewhere slot (none_first slot none);
        spare = q.spare ∙ p.spare;
      }

  pub LinksOnly-relinks : (a b : Arena V) (slot : ℕ) (l : Links) → Relinks a b k slot l → b.spare ≡ a.spare → LinksOnly k a b (one slot)
  LinksOnly-relinks a b slot l relinks spare =
      record {
        values = relinks.values;
        other_set = relinks.other_set;
        elsewhere = λ other none. relinks.elsewhere other (λ same. omega (arith, none, one_same slot, ap (one slot) same));
        spare = spare;
      }

module _ {X : Type 0} (precedes : X → X → Bool) where
  -- to meld the heaps from the last on is to meld the turned ones from the first on
  fold-turned : (xs done : List (Tree X)) → fold (melded precedes) leaf (turned xs done) ≡ fold (melded precedes) (folded precedes xs) done
  fold-turned [] done = refl
  fold-turned (a ∷ more) done = fold-turned more (a ∷ done)

module _ {V X : Type 0} (k : ℕ) (key_of : V → X) (precedes : X → X → Bool) where
  -- how many nodes a walk from this slot finds
  abbrev pub walk_size : Arena V → ℕ → Option ℕ → ℕ
  walk_size a depth at = size (tree_from (keys_at key_of a) (links_at a k) depth at)

  pub walk_size-chain : (a : Arena V) (depth : ℕ) (at : Option ℕ) (tree : Tree X) → size tree ≤ depth → IsChain precedes (keys_at key_of a) (links_at a k) at tree → walk_size a depth at ≡ size tree
  walk_size-chain a depth at tree deep chain = ap size (tree_from-chain precedes (keys_at key_of a) (links_at a k) depth at tree deep chain)

  -- a chain from nowhere has no nodes
  pub tally-no_chain : (a : Arena V) (tree : Tree X) → IsChain precedes (keys_at key_of a) (links_at a k) None tree → (test : X × ℕ → Bool) → tally test tree ≡ 0
  tally-no_chain a leaf chain test = refl
  tally-no_chain a (node key slot children rest) chain test = let e = chain.0 in absurd (cc)

  -- a chain's first root, where what comes next is known
  pub split_before : (a : Arena V) (first : ℕ) (rest : Option ℕ) (was : Chained k key_of precedes a (Some first)) → (links_at a k first).next ≡ rest → (split : Split k key_of precedes a first rest) × ((test : X × ℕ → Bool) → split_tally k key_of precedes a first rest split test ≡ tally test was.tree) × (1 + siblings split.left ≡ siblings was.tree) × (heaps was.tree ≡ split_heaps k key_of precedes a first rest split)
  split_before a first rest was is =
      subst (λ (r : Option ℕ). (split : Split k key_of precedes a first r) × ((test : X × ℕ → Bool) → split_tally k key_of precedes a first r split test ≡ tally test was.tree) × (1 + siblings split.left ≡ siblings was.tree) × (heaps was.tree ≡ split_heaps k key_of precedes a first r split)) is (split_chain k key_of precedes a first was)

  -- nor heaps
  pub heaps-no_chain : (a : Arena V) (tree : Tree X) → IsChain precedes (keys_at key_of a) (links_at a k) None tree → heaps tree ≡ []
  heaps-no_chain a leaf chain = refl
  heaps-no_chain a (node key slot children rest) chain = let e = chain.0 in absurd (cc)

  -- nor has it roots
  pub siblings-no_chain : (a : Arena V) (tree : Tree X) → IsChain precedes (keys_at key_of a) (links_at a k) None tree → siblings tree ≡ 0
  siblings-no_chain a leaf chain = refl
  siblings-no_chain a (node key slot children rest) chain = let e = chain.0 in absurd (cc)

  -- a chain of one root
  pub siblings-alone : (a : Arena V) (first : ℕ) (was : Chained k key_of precedes a (Some first)) → (links_at a k first).next ≡ None → siblings was.tree ≡ 1
  siblings-alone a first was is =
      let split = split_before a first None was is in
      omega (arith, split.2, siblings-no_chain a split.0.left split.0.chain)

  -- a chain of two roots or more
  pub siblings-two : (a : Arena V) (first second : ℕ) (was : Chained k key_of precedes a (Some first)) → (links_at a k first).next ≡ Some second → 2 ≤ siblings was.tree
  siblings-two a first second was is =
      let split = split_before a first (Some second) was is in
      let after = split_chain k key_of precedes a second (Chained-left k key_of precedes a first (Some second) split.0) in
      omega (arith, split.2, after.2)

  -- a heap alone is all of its pairs, and a second one goes with the first
  alone_pairs : (one : Tree X) (all left : List (Tree X)) → all ≡ one ∷ left → left ≡ [] → paired precedes all ≡ one ∷ paired precedes left
  alone_pairs one all left all_is none =
      ap (paired precedes) all_is ∙ subst (λ (xs : List (Tree X)). paired precedes (one ∷ xs) ≡ one ∷ paired precedes xs) (sym none) refl

  two_pairs : (one two both : Tree X) (all left more : List (Tree X)) → all ≡ one ∷ left → left ≡ two ∷ more → both ≡ melded precedes one two → paired precedes all ≡ both ∷ paired precedes more
  two_pairs one two both all left more all_is left_is both_is =
      ap (paired precedes) (all_is ∙ ap (λ (xs : List (Tree X)). one ∷ xs) left_is) ∙ ap (λ (t : Tree X). t ∷ paired precedes more) (sym both_is)

  pub Pairs-alone : (a : Arena V) (first : ℕ) (was : Chained k key_of precedes a (Some first)) → (links_at a k first).next ≡ None → Pairs k key_of precedes a a first first None was
  Pairs-alone a first was is =
      let split = split_before a first None was is in
      record {
        now = split.0;
        pairs = alone_pairs (solo split.0.key first split.0.children) (heaps was.tree) (heaps split.0.left) split.3 (heaps-no_chain a split.0.left split.0.chain);
        nodes = split.1;
        less = omega (arith, split.1 (λ _. true));
        fewer = omega (arith, split.2, siblings-no_chain a split.0.left split.0.chain);
        kept = LinksOnly-same k a (λ slot. slot_count slot was.tree);
      }

  pub Pairs-two : (old new : Arena V) (first second later : ℕ) (rest : Option ℕ) (was : Chained k key_of precedes old (Some first)) (is : (links_at old k first).next ≡ Some second) → Resplits k key_of precedes old new first second later rest (split_before old first (Some second) was is).0 → Pairs k key_of precedes old new first later rest was
  Pairs-two old new first second later rest was is step =
      let split = split_before old first (Some second) was is in
      record {
        now = step.now;
        pairs = two_pairs (solo split.0.key first split.0.children) step.second (solo step.now.key later step.now.children) (heaps was.tree) (heaps split.0.left) (heaps step.now.left) split.3 step.before step.becomes;
        nodes = λ test. step.nodes test ∙ split.1 test;
        less = omega (arith, step.less, split.1 (λ _. true));
        fewer = omega (arith, step.fewer, split.2);
        kept = record {
          values = step.kept.values;
          other_set = step.kept.other_set;
          spare = step.kept.spare;
          elsewhere = λ slot none. step.kept.elsewhere slot (split.1 (λ pair. pair.1 == slot) ∙ none);
        };
      }

  -- at first all is left
  pub Halves-start : (a : Arena V) (first : Option ℕ) (was : Chained k key_of precedes a first) (start : ℕ) → Halves k key_of precedes a a first first None was start start
  Halves-start a first was start =
      record {
        left = was.tree;
        ready = leaf;
        left_chain = was.chain;
        ready_chain = refl;
        pairs = refl;
        half = omega arith;
        spent = omega arith;
        nodes = λ test. omega arith;
        kept = LinksOnly-same k a (λ slot. slot_count slot was.tree);
      }

  -- what is left is a chain
  abbrev pub Chained-halves : (old new : Arena V) (first rest done : Option ℕ) (was : Chained k key_of precedes old first) (start steps : ℕ) → Halves k key_of precedes old new first rest done was start steps → Chained k key_of precedes new rest
  Chained-halves old new first rest done was start steps halves =
      record {
        set = was.set;
        tree = halves.left;
        chain = halves.left_chain;
        once = λ slot. omega (arith, was.once slot, halves.nodes (λ pair. pair.1 == slot));
      }

  -- a pair is put before what is done
  pub Halves-step : (f b m c : Arena V) (first rest done : Option ℕ) (a top : ℕ) (was : Chained k key_of precedes f first) (start steps later : ℕ) (halves : Halves k key_of precedes f b first (Some a) done was start steps) → later ≡ steps + min 1 (siblings halves.left - 1) → Pairs k key_of precedes b m a top rest (Chained-halves f b first (Some a) done was start steps halves) → Relinks m c k top record { child = (links_at m k top).child; next = done; prev = None } → c.spare ≡ m.spare → Halves k key_of precedes f c first rest (Some top) was start later
  Halves-step f b m c first rest done a top was start steps later halves ticks pairs relinks spare =
      let key = pairs.now.key in
      let children = pairs.now.children in
      let written = LinksOnly-relinks k m c top record { child = (links_at m k top).child; next = done; prev = None } relinks spare in
      let total : (slot : ℕ) → (slot_count slot (solo key top children) + slot_count slot pairs.now.left) + slot_count slot halves.ready ≤ 1 =
      λ slot. omega (arith, was.once slot, halves.nodes (λ pair. pair.1 == slot), pairs.nodes (λ pair. pair.1 == slot)) in
      let left_kept = Kept-apart k key_of precedes m c (one top) pairs.now.left written (λ slot. omega (arith, total slot)) in
      let children_kept = Kept-apart k key_of precedes m c (one top) children written (λ slot. omega (arith, total slot)) in
      let ready_first = Kept-apart k key_of precedes b m (λ slot. slot_count slot halves.left) halves.ready pairs.kept (λ slot. omega (arith, was.once slot, halves.nodes (λ pair. pair.1 == slot))) in
      let ready_then = Kept-apart k key_of precedes m c (one top) halves.ready written (λ slot. omega (arith, total slot)) in
      let some : 1 ≤ siblings halves.left = omega (arith, (split_chain k key_of precedes b a (Chained-halves f b first (Some a) done was start steps halves)).2) in
      let ready_chain = IsChain-kept (keys_at key_of m) (keys_at key_of c) (links_at m k) (links_at c k) precedes done halves.ready ready_then
      (IsChain-kept (keys_at key_of b) (keys_at key_of m) (links_at b k) (links_at m k) precedes done halves.ready ready_first halves.ready_chain) in
      record {
        left = pairs.now.left;
        ready = node key top children halves.ready;
        left_chain = IsChain-kept (keys_at key_of m) (keys_at key_of c) (links_at m k) (links_at c k) precedes rest pairs.now.left left_kept pairs.now.chain;
        ready_chain = (
          refl,
          IsRoot-kept (keys_at key_of m) (keys_at key_of c) (links_at m k) (links_at c k) precedes top key children (ap (key_of_value key_of) (relinks.values top)) (ap (λ l. l.child) relinks.here) children_kept pairs.now.rooted,
          subst (λ (at : Option ℕ). IsChain precedes (keys_at key_of c) (links_at c k) at halves.ready) (ap (λ l. l.next) (sym relinks.here)) ready_chain,
        );
        pairs = ap (λ (xs : List (Tree X)). turned xs (heaps halves.ready)) (sym pairs.pairs) ∙ halves.pairs;
        half = omega (arith, halves.half, pairs.fewer, some);
        spent = omega (arith, halves.spent, ticks, pairs.fewer, some);
        nodes = λ test. omega (arith, halves.nodes test, pairs.nodes test);
        kept = LinksOnly-then k f b c (λ slot. slot_count slot was.tree) (λ slot. slot_count slot was.tree) (λ slot. slot_count slot was.tree) halves.kept
            (LinksOnly-then k b m c (λ slot. slot_count slot halves.left) (one top) (λ slot. slot_count slot was.tree) pairs.kept written
            (λ slot none. omega (arith, none, halves.nodes (λ pair. pair.1 == slot)))
            (λ slot none. omega (arith, none, halves.nodes (λ pair. pair.1 == slot), pairs.nodes (λ pair. pair.1 == slot))))
            (λ slot none. none)
            (λ slot none. none);
      }

  -- a walk over what is left gets shorter
  pub Halves-less : (f b m c : Arena V) (first rest done : Option ℕ) (a top : ℕ) (was : Chained k key_of precedes f first) (start steps : ℕ) (halves : Halves k key_of precedes f b first (Some a) done was start steps) → Pairs k key_of precedes b m a top rest (Chained-halves f b first (Some a) done was start steps halves) → Relinks m c k top record { child = (links_at m k top).child; next = done; prev = None } → c.spare ≡ m.spare → walk_size c (length f.nodes) rest < walk_size b (length f.nodes) (Some a)
  Halves-less f b m c first rest done a top was start steps halves pairs relinks spare =
      let deep = size-chained k key_of precedes f first was in
      let written = LinksOnly-relinks k m c top record { child = (links_at m k top).child; next = done; prev = None } relinks spare in
      let left_kept = Kept-apart k key_of precedes m c (one top) pairs.now.left written (λ slot. omega (arith, pairs.now.once slot)) in
      let left_chain = IsChain-kept (keys_at key_of m) (keys_at key_of c) (links_at m k) (links_at c k) precedes rest pairs.now.left left_kept pairs.now.chain in
      let all = halves.nodes (λ _. true) in
      let before = walk_size-chain b (length f.nodes) (Some a) halves.left (omega arith) halves.left_chain in
      let after = walk_size-chain c (length f.nodes) rest pairs.now.left (omega (arith, pairs.less)) left_chain in
      omega (arith, before, after, pairs.less)

  -- at the end all is done
  pub Rechains-done : (old new : Arena V) (first done : Option ℕ) (was : Chained k key_of precedes old first) (start steps : ℕ) → Halves k key_of precedes old new first None done was start steps → Rechains k key_of precedes old new first done was
  Rechains-done old new first done was start steps halves =
      record {
        tree = halves.ready;
        chain = halves.ready_chain;
        pairs = ap (λ (xs : List (Tree X)). turned (paired precedes xs) (heaps halves.ready)) (sym (heaps-no_chain new halves.left halves.left_chain)) ∙ halves.pairs;
        half = omega (arith, halves.half, siblings-no_chain new halves.left halves.left_chain);
        nodes = λ test. omega (arith, halves.nodes test, tally-no_chain new halves.left halves.left_chain test);
        kept = halves.kept;
      }

  -- and half as many comparisons were made as there were roots
  pub Rechains-spent : (old new : Arena V) (first done : Option ℕ) (was : Chained k key_of precedes old first) (start steps : ℕ) → Halves k key_of precedes old new first None done was start steps → steps ≡ start + siblings was.tree / 2
  Rechains-spent old new first done was start steps halves =
      omega (arith, halves.spent, halves.half, siblings-no_chain new halves.left halves.left_chain)

  -- the second pass begins with the first root
  pub Folds-start : (a : Arena V) (top : ℕ) (was : Chained k key_of precedes a (Some top)) (start : ℕ) → Folds k key_of precedes a a (Some top) top (links_at a k top).next was start start
  Folds-start a top was start =
      let split = split_chain k key_of precedes a top was in
      record {
        now = split.0;
        folds = ap (fold (melded precedes) leaf) (sym split.3);
        some = omega (arith, split.2);
        spent = omega (arith, split.2);
        nodes = split.1;
        kept = LinksOnly-same k a (λ slot. slot_count slot was.tree);
      }

  -- one more root goes in
  pub Folds-step : (f b m : Arena V) (first rest : Option ℕ) (top other later : ℕ) (was : Chained k key_of precedes f first) (start steps after : ℕ) (folds : Folds k key_of precedes f b first top (Some other) was start steps) → after ≡ steps + 1 → Resplits k key_of precedes b m top other later rest folds.now → Folds k key_of precedes f m first later rest was start after
  Folds-step f b m first rest top other later was start steps after folds ticks step =
      record {
        now = step.now;
        folds = ap (λ (t : Tree X). fold (melded precedes) t (heaps step.now.left)) step.becomes
            ∙ ap (fold (melded precedes) (solo folds.now.key top folds.now.children)) (sym step.before)
            ∙ folds.folds;
        some = folds.some;
        spent = omega (arith, folds.spent, ticks, step.fewer);
        nodes = λ test. step.nodes test ∙ folds.nodes test;
        kept = LinksOnly-then k f b m (λ slot. slot_count slot was.tree) (λ slot. split_tally k key_of precedes b top (Some other) folds.now (λ pair. pair.1 == slot)) (λ slot. slot_count slot was.tree) folds.kept step.kept
            (λ slot none. none)
            (λ slot none. folds.nodes (λ pair. pair.1 == slot) ∙ none);
      }

  pub Folds-less : (f b m : Arena V) (first rest : Option ℕ) (top other later : ℕ) (was : Chained k key_of precedes f first) (start steps : ℕ) (folds : Folds k key_of precedes f b first top (Some other) was start steps) → Resplits k key_of precedes b m top other later rest folds.now → walk_size m (length f.nodes) rest < walk_size b (length f.nodes) (Some other)
  Folds-less f b m first rest top other later was start steps folds step =
      let deep = size-chained k key_of precedes f first was in
      let all = folds.nodes (λ _. true) in
      let before = walk_size-chain b (length f.nodes) (Some other) folds.now.left (omega (arith, all, deep)) folds.now.chain in
      let after = walk_size-chain m (length f.nodes) rest step.now.left (omega (arith, step.less, all, deep)) step.now.chain in
      omega (arith, before, after, step.less)

  -- the last root stands alone
  pub Merges-done : (f b c : Arena V) (first : Option ℕ) (top : ℕ) (was : Chained k key_of precedes f first) (start steps : ℕ) (folds : Folds k key_of precedes f b first top None was start steps) → Relinks b c k top record { child = (links_at b k top).child; next = None; prev = None } → c.spare ≡ b.spare → Merges k key_of precedes f c first (Some top) was (fold (melded precedes) leaf (heaps was.tree))
  Merges-done f b c first top was start steps folds relinks spare =
      let key = folds.now.key in
      let children = folds.now.children in
      let written = LinksOnly-relinks k b c top record { child = (links_at b k top).child; next = None; prev = None } relinks spare in
      let children_kept = Kept-apart k key_of precedes b c (one top) children written (λ slot. omega (arith, folds.now.once slot)) in
      let root = IsRoot-kept (keys_at key_of b) (keys_at key_of c) (links_at b k) (links_at c k) precedes top key children (ap (key_of_value key_of) (relinks.values top)) (ap (λ l. l.child) relinks.here) children_kept folds.now.rooted in
      record {
        tree = solo key top children;
        is = ap (fold (melded precedes) (solo key top children)) (sym (heaps-no_chain b folds.now.left folds.now.chain)) ∙ folds.folds;
        heap = record {
          joined = (refl, root.keyed, ap (λ l. l.prev) relinks.here, root.joined, ap (λ l. l.next) relinks.here);
          once = λ slot. omega (arith, folds.now.once slot);
          ordered = (refl, root.ordered);
        };
        nodes = λ test. omega (arith, folds.nodes test, tally-no_chain b folds.now.left folds.now.chain test);
        kept = LinksOnly-then k f b c (λ slot. slot_count slot was.tree) (one top) (λ slot. slot_count slot was.tree) folds.kept written
            (λ slot none. none)
            (λ slot none. omega (arith, none, folds.nodes (λ pair. pair.1 == slot)));
      }

  -- and one comparison less was made than there were roots
  pub Merges-spent : (f b : Arena V) (first : Option ℕ) (top : ℕ) (was : Chained k key_of precedes f first) (start steps : ℕ) → Folds k key_of precedes f b first top None was start steps → steps ≡ start + (siblings was.tree - 1)
  Merges-spent f b first top was start steps folds =
      omega (arith, folds.some, folds.spent, siblings-no_chain b folds.now.left folds.now.chain)

  -- of no chain comes no heap
  pub Merges-none : (a : Arena V) (was : Chained k key_of precedes a None) → Merges k key_of precedes a a None None was (fold (melded precedes) leaf (heaps was.tree))
  Merges-none a was =
      record {
        tree = leaf;
        is = ap (fold (melded precedes) leaf) (sym (heaps-no_chain a was.tree was.chain));
        heap = record { joined = refl; once = λ slot. omega arith; ordered = tt };
        nodes = λ test. sym (tally-no_chain a was.tree was.chain test);
        kept = LinksOnly-same k a (λ slot. slot_count slot was.tree);
      }

  -- the chain that the first pass leaves
  abbrev pub Chained-rechains : (old new : Arena V) (first later : Option ℕ) (was : Chained k key_of precedes old first) → Rechains k key_of precedes old new first later was → Chained k key_of precedes new later
  Chained-rechains old new first later was rechains =
      record {
        set = was.set;
        tree = rechains.tree;
        chain = rechains.chain;
        once = λ slot. omega (arith, was.once slot, rechains.nodes (λ pair. pair.1 == slot));
      }

  -- both passes together
  pub Merges-both : (a b c : Arena V) (first middle root : Option ℕ) (was : Chained k key_of precedes a first) (rechains : Rechains k key_of precedes a b first middle was) → Merges k key_of precedes b c middle root (Chained-rechains a b first middle was rechains) (fold (melded precedes) leaf (heaps rechains.tree)) → Merges k key_of precedes a c first root was (folded precedes (paired precedes (heaps was.tree)))
  Merges-both a b c first middle root was rechains merges =
      record {
        tree = merges.tree;
        is = merges.is ∙ ap (fold (melded precedes) leaf) rechains.pairs ∙ fold-turned precedes (paired precedes (heaps was.tree)) [];
        heap = merges.heap;
        nodes = λ test. merges.nodes test ∙ rechains.nodes test;
        kept = LinksOnly-then k a b c (λ slot. slot_count slot was.tree) (λ slot. slot_count slot rechains.tree) (λ slot. slot_count slot was.tree) rechains.kept merges.kept
            (λ slot none. none)
            (λ slot none. rechains.nodes (λ pair. pair.1 == slot) ∙ none);
      }

  -- the first slot of a chain is live
  pub live_first : (a : Arena V) (first : ℕ) → Chained k key_of precedes a (Some first) → IsLive a first
  live_first a first was =
      let split = split_chain k key_of precedes a first was in
      live_from_key key_of (value_at a first) split.0.key split.0.rooted.keyed

  -- so is a root
  pub live_top : (a : Arena V) (top : ℕ) (rest : Option ℕ) → Split k key_of precedes a top rest → IsLive a top
  live_top a top rest split = live_from_key key_of (value_at a top) split.key split.rooted.keyed

  pub Folds-begin : (a : Arena V) (first : Option ℕ) (top : ℕ) (next : Option ℕ) → first ≡ Some top → next ≡ (links_at a k top).next → (was : Chained k key_of precedes a first) (start : ℕ) → Folds k key_of precedes a a first top next was start start
  Folds-begin a first top next is next_is =
      subst (λ (n : Option ℕ). (was : Chained k key_of precedes a first) (start : ℕ) → Folds k key_of precedes a a first top n was start start) (sym next_is)
      (subst (λ (f : Option ℕ). (was : Chained k key_of precedes a f) (start : ℕ) → Folds k key_of precedes a a f top (links_at a k top).next was start start) (sym is) (Folds-start a top))

  pub live_begin : (a : Arena V) (first : Option ℕ) (top : ℕ) → first ≡ Some top → Chained k key_of precedes a first → IsLive a top
  live_begin a first top is was = live_first a top (subst (λ (f : Option ℕ). Chained k key_of precedes a f) is was)

  pub siblings-nowhere : (a : Arena V) (first : Option ℕ) → first ≡ None → (was : Chained k key_of precedes a first) → siblings was.tree ≡ 0
  siblings-nowhere a first is was =
      siblings-no_chain a was.tree (subst (λ (f : Option ℕ). IsChain precedes (keys_at key_of a) (links_at a k) f was.tree) is was.chain)

  pub Merges-nowhere : (a : Arena V) (first : Option ℕ) → first ≡ None → (was : Chained k key_of precedes a first) → Merges k key_of precedes a a first None was (fold (melded precedes) leaf (heaps was.tree))
  Merges-nowhere a first is = subst (λ (f : Option ℕ). (was : Chained k key_of precedes a f) → Merges k key_of precedes a a f None was (fold (melded precedes) leaf (heaps was.tree))) (sym is) (Merges-none a)

  pub Folds-at : (a b : Arena V) (first : Option ℕ) (top : ℕ) (rest now : Option ℕ) (was : Chained k key_of precedes a first) (start steps : ℕ) → rest ≡ now → Folds k key_of precedes a b first top rest was start steps → Folds k key_of precedes a b first top now was start steps
  Folds-at a b first top rest now was start steps is folds = subst (λ (r : Option ℕ). Folds k key_of precedes a b first top r was start steps) is folds

  pub Halves-at : (a b : Arena V) (first rest now done : Option ℕ) (was : Chained k key_of precedes a first) (start steps : ℕ) → rest ≡ now → Halves k key_of precedes a b first rest done was start steps → Halves k key_of precedes a b first now done was start steps
  Halves-at a b first rest now done was start steps is halves = subst (λ (r : Option ℕ). Halves k key_of precedes a b first r done was start steps) is halves
