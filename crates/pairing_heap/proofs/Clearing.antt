-- A heap is taken apart root by root.
use Rattle.std.proofs.Common.{◌≡◌, ◌≢◌, ℕ, zero, suc, ◌+◌, ◌<◌, ◌≤◌, Bool, true, Option, Some, None, length, refl, sym, ap, subst, ◌∙◌, inl, inr, arith}
use Rattle.std.specs.Prelude.{◌==◌}
use Rattle.std.proofs.lemmas.Bool.{cases_eq, cases_lt}
use Rattle.link_arena.specs.declared.arena.Links.{Links}
use Rattle.link_arena.specs.Arena.{Arena, value_at, links_at, IsLive, unlinked, Relinks}
use Rattle.pairing_heap.specs.Tree.{Tree, leaf, node, tally, slot_count, tree_from, Joined}
use Rattle.pairing_heap.specs.Heap.{key_of_value, keys_at, tree_at, times_of, pairs_at, Stands, ClearsSlots, LinksOnly}
use Rattle.pairing_heap.specs.Forest.{Hangs, effort, Forest, Loosens, LoosensOne}
use Rattle.pairing_heap.proofs.Counts.{one, one_same, one_other, slot_count-root}
use Rattle.pairing_heap.proofs.Frame.{Kept, Kept-children, Kept-rest}
use Rattle.pairing_heap.proofs.Melding.{live_from_key}
use Rattle.pairing_heap.proofs.Pairing.{LinksOnly-same, LinksOnly-then, LinksOnly-relinks}
use Rattle.pairing_heap.proofs.Passes.{Kept-apart, within_from_live}
use Rattle.pairing_heap.proofs.Size.{size, size-most, none_or_some}
use Rattle.pairing_heap.proofs.Standing.{OthersStay-links, count_by-stands}

module _ {X : Type 0} where
  -- what hangs from a root
  pub record HangsFrom (keys : ℕ → Option X) (links : ℕ → Links) (first : ℕ) (tree : Tree X) : Type 0 where
    pub key : X
    pub children : Tree X
    pub rest : Tree X
    pub is : tree ≡ node key first children rest
    pub keyed : keys first ≡ Some key
    pub below : Hangs keys links (links first).child children
    pub beside : Hangs keys links (links first).next rest

  module _ (keys : ℕ → Option X) (links : ℕ → Links) where
    hangs_here : (first slot : ℕ) (key : X) (children rest : Tree X) → Some first ≡ Some slot → keys slot ≡ Some key → Hangs keys links (links slot).child children → Hangs keys links (links slot).next rest → HangsFrom keys links first (node key slot children rest)
    hangs_here first slot key children rest at keyed below beside =
        let here : HangsFrom keys links slot (node key slot children rest) =
        record { key = key; children = children; rest = rest; is = refl; keyed = keyed; below = below; beside = beside } in
        let same : slot ≡ first = cc in
        subst (λ (s : ℕ). HangsFrom keys links s (node key slot children rest)) same here

    pub hangs_from : (first : ℕ) (tree : Tree X) → Hangs keys links (Some first) tree → HangsFrom keys links first tree
    hangs_from first leaf hangs = absurd (cc)
    hangs_from first (node key slot children rest) hangs = hangs_here first slot key children rest hangs.0 hangs.1 hangs.2 hangs.3

    pub hangs_nowhere : (tree : Tree X) → Hangs keys links None tree → tree ≡ leaf
    hangs_nowhere leaf hangs = refl
    hangs_nowhere (node key slot children rest) hangs = let e = hangs.0 in absurd (cc)

    -- a heap's tree hangs
    pub Hangs-joined : (prev at : Option ℕ) (tree : Tree X) → Joined keys links prev at tree → Hangs keys links at tree
    Hangs-joined prev at leaf joined = joined
    Hangs-joined prev at (node key slot children rest) joined = (
      joined.0,
      joined.1,
      Hangs-joined (Some slot) (links slot).child children joined.3,
      Hangs-joined (Some slot) (links slot).next rest joined.4,
    )

    -- each slot that hangs has a key
    keyed-hangs : (at : Option ℕ) (tree : Tree X) (slot : ℕ) → Hangs keys links at tree → 0 < slot_count slot tree → (key : X) × (keys slot ≡ Some key)
    keyed-hangs at leaf slot hangs some = absurd (omega arith)
    keyed-hangs at (node key here children rest) slot hangs some =
        elim (cases_eq here slot) [
          | inl same ↦ (key, ap keys (sym same) ∙ hangs.1)
          | inr differs ↦ elim (none_or_some (slot_count slot children)) [
            | inl none ↦ keyed-hangs (links here).next rest slot hangs.3 (omega (arith, one_other here slot differs))
            | inr more ↦ keyed-hangs (links here).child children slot hangs.2 more
          ]
        ]

    -- a walk that is deep enough finds what hangs
    tree_from-hangs : (depth : ℕ) (at : Option ℕ) (tree : Tree X) → size tree ≤ depth → Hangs keys links at tree → tree_from keys links depth at ≡ tree
    tree_from-hangs zero at leaf deep hangs = refl
    tree_from-hangs (suc depth) at leaf deep hangs = rw hangs refl
    tree_from-hangs zero at (node key slot children rest) deep hangs = absurd (omega arith)
    tree_from-hangs (suc depth) at (node key slot children rest) deep hangs =
        found depth slot key at (tree_from keys links depth (links slot).child) (tree_from keys links depth (links slot).next) hangs.0 hangs.1
        ∙ ap (λ t. node key slot t (tree_from keys links depth (links slot).next)) (tree_from-hangs depth (links slot).child children (omega arith) hangs.2)
        ∙ ap (λ t. node key slot children t) (tree_from-hangs depth (links slot).next rest (omega arith) hangs.3)
      where
        found : (depth slot : ℕ) (key : X) (at : Option ℕ) (below beside : Tree X) → at ≡ Some slot → keys slot ≡ Some key → tree_from keys links (suc depth) at ≡ node key slot (tree_from keys links depth (links slot).child) (tree_from keys links depth (links slot).next)
        found depth slot key at below beside is keyed = rw is (rw keyed refl)

  module _ (keys later_keys : ℕ → Option X) (links later : ℕ → Links) where
    -- a tree hangs still where its slots keep keys and links
    Hangs-kept : (at : Option ℕ) (tree : Tree X) → Kept keys later_keys links later tree → Hangs keys links at tree → Hangs later_keys later at tree
    Hangs-kept at leaf kept hangs = hangs
    Hangs-kept at (node key slot children rest) kept hangs =
        let here : 0 < slot_count slot (node key slot children rest) = omega (arith, slot_count-root key slot children rest) in
        let same = kept.links_stay slot here in (
          hangs.0,
          kept.keys_stay slot here ∙ hangs.1,
          subst (λ (to : Option ℕ). Hangs later_keys later to children) (ap (λ l. l.child) (sym same)) (Hangs-kept (links slot).child children (Kept-children keys later_keys links later key slot children rest kept) hangs.2),
          subst (λ (to : Option ℕ). Hangs later_keys later to rest) (ap (λ l. l.next) (sym same)) (Hangs-kept (links slot).next rest (Kept-rest keys later_keys links later key slot children rest kept) hangs.3),
        )

module _ {V X : Type 0} (k : ℕ) (key_of : V → X) where
  abbrev HangsAt : Arena V → Option ℕ → Tree X → Type 0
  HangsAt a at tree = Hangs (keys_at key_of a) (links_at a k) at tree

  pub live_hangs : (a : Arena V) (at : Option ℕ) (tree : Tree X) (slot : ℕ) → HangsAt a at tree → 0 < slot_count slot tree → IsLive a slot
  live_hangs a at tree slot hangs some =
      let keyed = keyed-hangs (keys_at key_of a) (links_at a k) at tree slot hangs some in
      live_from_key key_of (value_at a slot) keyed.0 keyed.1

  pub live_root : (a : Arena V) (first : ℕ) (was : Forest k key_of a (Some first)) → IsLive a first
  live_root a first was =
      let root = hangs_from (keys_at key_of a) (links_at a k) first was.tree was.hangs in
      live_from_key key_of (value_at a first) root.key root.keyed

  pub live_child : (a : Arena V) (first child : ℕ) (was : Forest k key_of a (Some first)) → (links_at a k first).child ≡ Some child → IsLive a child
  live_child a first child was is =
      let root = hangs_from (keys_at key_of a) (links_at a k) first was.tree was.hangs in
      let below = hangs_from (keys_at key_of a) (links_at a k) child root.children (subst (λ (at : Option ℕ). HangsAt a at root.children) is root.below) in
      live_from_key key_of (value_at a child) below.key below.keyed

  -- a root without a child goes out
  pub Loosens-root : (old new : Arena V) (first : ℕ) (next : Option ℕ) (was : Forest k key_of old (Some first)) → (links_at old k first).child ≡ None → next ≡ (links_at old k first).next → Relinks old new k first unlinked → new.spare ≡ old.spare → LoosensOne k key_of old new (Some first) next was.tree
  Loosens-root old new first next was none next_is relinks spare =
      let root = hangs_from (keys_at key_of old) (links_at old k) first was.tree was.hangs in
      let empty = hangs_nowhere (keys_at key_of old) (links_at old k) root.children (subst (λ (at : Option ℕ). HangsAt old at root.children) none root.below) in
      let written = LinksOnly-relinks k old new first unlinked relinks spare in
      let counts : (test : X × ℕ → Bool) → tally test was.tree ≡ tally test (node root.key first leaf root.rest) =
      λ test. ap (tally test) (root.is ∙ ap (λ (t : Tree X). node root.key first t root.rest) empty) in
      let at_first = slot_count-root root.key first leaf root.rest in
      let kept = Kept-apart k key_of (λ _ _. true) old new (one first) root.rest written (λ slot. omega (arith, was.once slot, counts (λ pair. pair.1 == slot))) in
      record {
        loosens = record {
          now = root.rest;
          hangs = subst (λ (at : Option ℕ). HangsAt new at root.rest) (sym next_is) (Hangs-kept (keys_at key_of old) (keys_at key_of new) (links_at old k) (links_at new k) (links_at old k first).next root.rest kept root.beside);
          fewer = λ test. omega (arith, counts test);
          freed = λ slot less. elim (cases_eq first slot) [
            | inl same ↦ ap (links_at new k) (sym same) ∙ relinks.here
            | inr differs ↦ absurd (omega (arith, less, counts (λ pair. pair.1 == slot), one_other first slot differs))
          ];
          kept = LinksOnly-then k old old new (λ slot. slot_count slot was.tree) (one first) (λ slot. slot_count slot was.tree) (LinksOnly-same k old (λ slot. slot_count slot was.tree)) written
              (λ slot zero. zero)
              (λ slot zero. omega (arith, zero, counts (λ pair. pair.1 == slot)));
        };
        less = omega (arith, ap effort (root.is ∙ ap (λ (t : Tree X). node root.key first t root.rest) empty));
      }

  -- a root's first child becomes a root before it
  pub Loosens-child : (old mid new : Arena V) (first child : ℕ) (was : Forest k key_of old (Some first)) → (links_at old k first).child ≡ Some child → (above below : Links) → above.child ≡ (links_at old k child).next → above.next ≡ (links_at old k first).next → below.child ≡ (links_at old k child).child → below.next ≡ Some first → Relinks old mid k first above → mid.spare ≡ old.spare → Relinks mid new k child below → new.spare ≡ mid.spare → LoosensOne k key_of old new (Some first) (Some child) was.tree
  Loosens-child old mid new first child was is above below above_child above_next below_child below_next first_relinks first_spare relinks spare =
      let keys = keys_at key_of old in
      let root = hangs_from keys (links_at old k) first was.tree was.hangs in
      let top = hangs_from keys (links_at old k) child root.children (subst (λ (at : Option ℕ). HangsAt old at root.children) is root.below) in
      let whole : was.tree ≡ node root.key first (node top.key child top.children top.rest) root.rest = root.is ∙ ap (λ (t : Tree X). node root.key first t root.rest) top.is in
      let counts : (test : X × ℕ → Bool) → tally test was.tree ≡ tally test (node root.key first (node top.key child top.children top.rest) root.rest) = λ test. ap (tally test) whole in
      let once : (slot : ℕ) → one first slot + (one child slot + slot_count slot top.children + slot_count slot top.rest) + slot_count slot root.rest ≤ 1 =
      λ slot. omega (arith, was.once slot, counts (λ pair. pair.1 == slot)) in
      let differs : first ≢ child = λ same. omega (arith, once first, one_same first, ap (λ (s : ℕ). one s first) same) in
      let first_written = LinksOnly-relinks k old mid first above first_relinks first_spare in
      let child_written = LinksOnly-relinks k mid new child below relinks spare in
      let written = LinksOnly-then k old mid new (one first) (one child) (λ slot. one first slot + one child slot) first_written child_written (λ slot zero. omega (arith, zero)) (λ slot zero. omega (arith, zero)) in
      let later_keys = keys_at key_of new in
      let same_key : (slot : ℕ) → later_keys slot ≡ keys slot = λ slot. ap (key_of_value key_of) (written.values slot) in
      let at_child : links_at new k child ≡ below = relinks.here in
      let at_first : links_at new k first ≡ above = relinks.elsewhere first differs ∙ first_relinks.here in
      let children_kept = Kept-apart k key_of (λ _ _. true) old new (λ slot. one first slot + one child slot) top.children written (λ slot. omega (arith, once slot)) in
      let siblings_kept = Kept-apart k key_of (λ _ _. true) old new (λ slot. one first slot + one child slot) top.rest written (λ slot. omega (arith, once slot)) in
      let rest_kept = Kept-apart k key_of (λ _ _. true) old new (λ slot. one first slot + one child slot) root.rest written (λ slot. omega (arith, once slot)) in
      record {
        loosens = record {
          now = node top.key child top.children (node root.key first top.rest root.rest);
          hangs = (
            refl,
            same_key child ∙ top.keyed,
            subst (λ (at : Option ℕ). HangsAt new at top.children) (sym (ap (λ l. l.child) at_child ∙ below_child)) (Hangs-kept keys later_keys (links_at old k) (links_at new k) (links_at old k child).child top.children children_kept top.below),
            (
              ap (λ l. l.next) at_child ∙ below_next,
              same_key first ∙ root.keyed,
              subst (λ (at : Option ℕ). HangsAt new at top.rest) (sym (ap (λ l. l.child) at_first ∙ above_child)) (Hangs-kept keys later_keys (links_at old k) (links_at new k) (links_at old k child).next top.rest siblings_kept top.beside),
              subst (λ (at : Option ℕ). HangsAt new at root.rest) (sym (ap (λ l. l.next) at_first ∙ above_next)) (Hangs-kept keys later_keys (links_at old k) (links_at new k) (links_at old k first).next root.rest rest_kept root.beside),
            ),
          );
          fewer = λ test. omega (arith, counts test);
          freed = λ slot less. absurd (omega (arith, less, counts (λ pair. pair.1 == slot)));
          kept = LinksOnly-then k old old new (λ slot. slot_count slot was.tree) (λ slot. one first slot + one child slot) (λ slot. slot_count slot was.tree) (LinksOnly-same k old (λ slot. slot_count slot was.tree)) written
              (λ slot zero. zero)
              (λ slot zero. omega (arith, zero, counts (λ pair. pair.1 == slot)));
        };
        less = omega (arith, ap effort whole);
      }

  -- how much is left to do from this root on
  abbrev pub effort_from : Arena V → ℕ → Option ℕ → ℕ
  effort_from a depth at = effort (tree_from (keys_at key_of a) (links_at a k) depth at)

  pub effort_from-hangs : (a : Arena V) (depth : ℕ) (at : Option ℕ) (tree : Tree X) → size tree ≤ depth → HangsAt a at tree → effort_from a depth at ≡ effort tree
  effort_from-hangs a depth at tree deep hangs = ap effort (tree_from-hangs (keys_at key_of a) (links_at a k) depth at tree deep hangs)

  -- what is left is a forest
  abbrev pub Forest-left : (old new : Arena V) (first later : Option ℕ) (was : Tree X) → k < 2 → ((slot : ℕ) → slot_count slot was ≤ 1) → Loosens k key_of old new first later was → Forest k key_of new later
  Forest-left old new first later was set once loosens = record {
    set = set;
    tree = loosens.now;
    hangs = loosens.hangs;
    once = λ slot. omega (arith, once slot, loosens.fewer (λ pair. pair.1 == slot));
  }

  pub Loosens-at : (old new : Arena V) (first later now : Option ℕ) (was : Tree X) → later ≡ now → Loosens k key_of old new first later was → Loosens k key_of old new first now was
  Loosens-at old new first later now was is loosens = subst (λ (l : Option ℕ). Loosens k key_of old new first l was) is loosens

  -- one step more
  pub Loosens-step : (f b c : Arena V) (first later after : Option ℕ) (was : Tree X) → ((slot : ℕ) → slot_count slot was ≤ 1) → (loosens : Loosens k key_of f b first later was) → LoosensOne k key_of b c later after loosens.now → Loosens k key_of f c first after was
  Loosens-step f b c first later after was once loosens one_more =
      let step = one_more.loosens in
      record {
        now = step.now;
        hangs = step.hangs;
        fewer = λ test. omega (arith, loosens.fewer test, step.fewer test);
        freed = λ slot less. elim (cases_lt (slot_count slot step.now) (slot_count slot loosens.now)) [
          | inl fewer ↦ step.freed slot fewer
          | inr same ↦
              step.kept.elsewhere slot (omega (arith, less, same, once slot))
              ∙ loosens.freed slot (omega (arith, less, same, once slot))
        ];
        kept = LinksOnly-then k f b c (λ slot. slot_count slot was) (λ slot. slot_count slot loosens.now) (λ slot. slot_count slot was) loosens.kept step.kept
            (λ slot zero. zero)
            (λ slot zero. omega (arith, zero, loosens.fewer (λ pair. pair.1 == slot)));
      }

  -- a forest has no more nodes than the arena has slots
  size-forest : (a : Arena V) (first : Option ℕ) (was : Forest k key_of a first) → size was.tree ≤ length a.nodes
  size-forest a first was =
      size-most (length a.nodes) was.tree was.once (λ slot some. within_from_live a slot (live_hangs a first was.tree slot was.hangs some))

  -- after each step less is left to do
  pub Loosens-less : (f b c : Arena V) (first later after : Option ℕ) (start : Forest k key_of f first) (loosens : Loosens k key_of f b first later start.tree) → LoosensOne k key_of b c later after loosens.now → effort_from c (length f.nodes) after < effort_from b (length f.nodes) later
  Loosens-less f b c first later after start loosens step =
      let deep = size-forest f first start in
      let before = effort_from-hangs b (length f.nodes) later loosens.now (omega (arith, deep, loosens.fewer (λ _. true))) loosens.hangs in
      let behind = effort_from-hangs c (length f.nodes) after step.loosens.now (omega (arith, deep, loosens.fewer (λ _. true), step.loosens.fewer (λ _. true))) step.loosens.hangs in
      omega (arith, before, behind, step.less)

  module _ (precedes : X → X → Bool) where
    -- a heap is a forest
    abbrev pub Forest-heap : (a : Arena V) (heap : Option ℕ) → Stands k key_of precedes a heap → Forest k key_of a heap
    Forest-heap a heap stands = record {
      set = stands.set;
      tree = tree_at k key_of a heap;
      hangs = Hangs-joined (keys_at key_of a) (links_at a k) None heap (tree_at k key_of a heap) stands.heap.joined;
      once = stands.heap.once;
    }

    -- at first nothing is loose
    pub Loosens-start : (a : Arena V) (heap : Option ℕ) (stands : Stands k key_of precedes a heap) → Loosens k key_of a a heap heap (tree_at k key_of a heap)
    Loosens-start a heap stands =
        let forest = Forest-heap a heap stands in
        record {
          now = forest.tree;
          hangs = forest.hangs;
          fewer = λ test. omega arith;
          freed = λ slot less. absurd (omega (arith, less));
          kept = LinksOnly-same k a (λ slot. slot_count slot forest.tree);
        }

    -- at the end all is
    pub Clears-all : (old new : Arena V) (heap : Option ℕ) → Stands k key_of precedes old heap → Loosens k key_of old new heap None (tree_at k key_of old heap) → ClearsSlots k key_of precedes old new heap
    Clears-all old new heap stands loosens =
        let empty = hangs_nowhere (keys_at key_of new) (links_at new k) loosens.now loosens.hangs in
        let kept : LinksOnly k old new (times_of (pairs_at k key_of old heap)) = record {
          values = loosens.kept.values;
          other_set = loosens.kept.other_set;
          elsewhere = λ slot none. loosens.kept.elsewhere slot (sym (count_by-stands k key_of precedes old heap (λ pair. pair.1 == slot)) ∙ none);
          spare = loosens.kept.spare;
        } in
        record {
          free = λ slot held. loosens.freed slot (omega (arith, held, ap (slot_count slot) empty, count_by-stands k key_of precedes old heap (λ pair. pair.1 == slot)));
          kept = kept;
          others = OthersStay-links k key_of precedes old new (times_of (pairs_at k key_of old heap)) kept;
        }
