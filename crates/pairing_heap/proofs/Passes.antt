-- The two passes over a chain of heaps.
use Rattle.std.proofs.Common.{◌≡◌, ℕ, ◌+◌, ◌<◌, ◌≤◌, Bool, true, Option, Some, None, is_some, length, refl, ap, subst, inl, inr, arith}
use Rattle.std.specs.Prelude.{◌==◌}
use Rattle.std.proofs.lemmas.Bool.{cases_lt}
use Rattle.std.proofs.lemmas.List.{get_or_past}
use Rattle.link_arena.specs.Arena.{Arena, value_of, value_at, links_at, IsLive}
use Rattle.pairing_heap.specs.Tree.{Tree, leaf, node, tally, slot_count}
use Rattle.pairing_heap.specs.Heap.{key_of_value, keys_at, LinksOnly}
use Rattle.pairing_heap.specs.Melding.{heaps}
use Rattle.pairing_heap.specs.Chain.{solo, IsRoot, IsChain, CanMeld, Melds, Chained, Split, siblings, split_tally, split_heaps, Resplits}
use Rattle.pairing_heap.proofs.Size.{size, size-most, keyed-chain}
use Rattle.pairing_heap.proofs.Frame.{Kept, IsChain-kept}
use Rattle.pairing_heap.proofs.Melding.{live_from_key}

-- a slot with a value is below the length of the arena's list
pub within_from_live : {V : Type 0} (a : Arena V) (slot : ℕ) → IsLive a slot → slot < length a.nodes
within_from_live {V} a slot live =
    elim (cases_lt slot (length a.nodes)) [
      | inl within ↦ within
      | inr past ↦ let none = ap (λ o. is_some (value_of o)) (get_or_past a.nodes slot None past) in absurd (cc)
    ]

module _ {V X : Type 0} (k : ℕ) (key_of : V → X) (precedes : X → X → Bool) where
  abbrev ChainAt : Arena V → Option ℕ → Tree X → Type 0
  ChainAt a at tree = IsChain precedes (keys_at key_of a) (links_at a k) at tree

  -- the keys and links at a tree's slots stay where only other slots are written
  pub Kept-apart : (old new : Arena V) (times : ℕ → ℕ) (tree : Tree X) → LinksOnly k old new times → ((slot : ℕ) → times slot + slot_count slot tree ≤ 1) → Kept (keys_at key_of old) (keys_at key_of new) (links_at old k) (links_at new k) tree
  Kept-apart old new times tree kept once =
      record {
        keys_stay = λ slot some. ap (key_of_value key_of) (kept.values slot);
        links_stay = λ slot some. kept.elsewhere slot (omega (arith, once slot));
      }

  -- a chain has no more nodes than the arena has slots
  pub size-chained : (a : Arena V) (first : Option ℕ) (was : Chained k key_of precedes a first) → size was.tree ≤ length a.nodes
  size-chained a first was =
      size-most (length a.nodes) was.tree was.once (λ slot some.
      let keyed = keyed-chain precedes (keys_at key_of a) (links_at a k) first was.tree slot was.chain some in
      within_from_live a slot (live_from_key key_of (value_at a slot) keyed.0 keyed.1))

  split_node : (a : Arena V) (key : X) (slot top : ℕ) (children rest : Tree X) → k < 2 → Some top ≡ Some slot → IsRoot precedes (keys_at key_of a) (links_at a k) slot key children → ChainAt a (links_at a k slot).next rest → ((other : ℕ) → slot_count other (node key slot children rest) ≤ 1) → (split : Split k key_of precedes a top (links_at a k top).next) × ((test : X × ℕ → Bool) → split_tally k key_of precedes a top (links_at a k top).next split test ≡ tally test (node key slot children rest)) × (1 + siblings split.left ≡ 1 + siblings rest) × (heaps (node key slot children rest) ≡ split_heaps k key_of precedes a top (links_at a k top).next split)
  split_node a key slot top children rest set is rooted chain once =
      let here : (split : Split k key_of precedes a slot (links_at a k slot).next) × ((test : X × ℕ → Bool) → split_tally k key_of precedes a slot (links_at a k slot).next split test ≡ tally test (node key slot children rest)) × (1 + siblings split.left ≡ 1 + siblings rest) × (heaps (node key slot children rest) ≡ split_heaps k key_of precedes a slot (links_at a k slot).next split) = (
        record { set = set; key = key; children = children; left = rest; rooted = rooted; chain = chain; once = λ other. omega (arith, once other) },
        λ test. omega arith,
        refl,
        refl,
      ) in
      let same : slot ≡ top = cc in
      subst (λ (t : ℕ). (split : Split k key_of precedes a t (links_at a k t).next) × ((test : X × ℕ → Bool) → split_tally k key_of precedes a t (links_at a k t).next split test ≡ tally test (node key slot children rest)) × (1 + siblings split.left ≡ 1 + siblings rest) × (heaps (node key slot children rest) ≡ split_heaps k key_of precedes a t (links_at a k t).next split)) same here

  split_tree : (a : Arena V) (top : ℕ) (tree : Tree X) → k < 2 → ChainAt a (Some top) tree → ((other : ℕ) → slot_count other tree ≤ 1) → (split : Split k key_of precedes a top (links_at a k top).next) × ((test : X × ℕ → Bool) → split_tally k key_of precedes a top (links_at a k top).next split test ≡ tally test tree) × (1 + siblings split.left ≡ siblings tree) × (heaps tree ≡ split_heaps k key_of precedes a top (links_at a k top).next split)
  split_tree a top leaf set chain once = absurd (cc)
  split_tree a top (node key slot children rest) set chain once = split_node a key slot top children rest set chain.0 chain.1 chain.2 once

  -- a chain is its first root and the chain after it
  pub split_chain : (a : Arena V) (top : ℕ) (was : Chained k key_of precedes a (Some top)) → (split : Split k key_of precedes a top (links_at a k top).next) × ((test : X × ℕ → Bool) → split_tally k key_of precedes a top (links_at a k top).next split test ≡ tally test was.tree) × (1 + siblings split.left ≡ siblings was.tree) × (heaps was.tree ≡ split_heaps k key_of precedes a top (links_at a k top).next split)
  split_chain a top was = split_tree a top was.tree was.set was.chain was.once

  -- the chain after a root
  abbrev pub Chained-left : (a : Arena V) (top : ℕ) (rest : Option ℕ) → Split k key_of precedes a top rest → Chained k key_of precedes a rest
  Chained-left a top rest was = record { set = was.set; tree = was.left; chain = was.chain; once = λ slot. omega (arith, was.once slot) }

  -- a root and the first of the chain after it can be melded
  abbrev pub CanMeld-next : (a : Arena V) (top other : ℕ) → Split k key_of precedes a top (Some other) → CanMeld k key_of precedes a top other
  CanMeld-next a top other was =
      let second = split_chain a other (Chained-left a top (Some other) was) in
      record {
        set = was.set;
        a_key = was.key;
        b_key = second.0.key;
        a_children = was.children;
        b_children = second.0.children;
        a_root = was.rooted;
        b_root = second.0.rooted;
        once = λ slot. omega (arith, was.once slot, second.1 (λ pair. pair.1 == slot));
      }

  -- a root was melded with the first of the chain after it
  pub Resplits-melds : (old new : Arena V) (top other later : ℕ) (was : Split k key_of precedes old top (Some other)) → Melds k key_of precedes old new top other later (CanMeld-next old top other was) → Resplits k key_of precedes old new top other later (links_at old k other).next was
  Resplits-melds old new top other later was melds =
      let second = split_chain old other (Chained-left old top (Some other) was) in
      let both = CanMeld-next old top other was in
      let apart : (slot : ℕ) → (slot_count slot (solo both.a_key top both.a_children) + slot_count slot (solo both.b_key other both.b_children)) + slot_count slot second.0.left ≤ 1 =
      λ slot. omega (arith, was.once slot, second.1 (λ pair. pair.1 == slot)) in
      let kept = Kept-apart old new (λ slot. slot_count slot (solo both.a_key top both.a_children) + slot_count slot (solo both.b_key other both.b_children)) second.0.left melds.kept apart in
      record {
        now = record {
          set = was.set;
          key = melds.key;
          children = melds.children;
          left = second.0.left;
          rooted = melds.rooted;
          chain = IsChain-kept (keys_at key_of old) (keys_at key_of new) (links_at old k) (links_at new k) precedes (links_at old k other).next second.0.left kept second.0.chain;
          once = λ slot. omega (arith, apart slot, melds.nodes (λ pair. pair.1 == slot));
        };
        second = solo second.0.key other second.0.children;
        before = second.3;
        becomes = melds.becomes;
        nodes = λ test. omega (arith, melds.nodes test, second.1 test);
        less = omega (arith, second.1 (λ _. true));
        fewer = second.2;
        kept = record {
          values = melds.kept.values;
          other_set = melds.kept.other_set;
          spare = melds.kept.spare;
          elsewhere = λ slot none. melds.kept.elsewhere slot (omega (arith, none, second.1 (λ pair. pair.1 == slot)));
        };
      }
