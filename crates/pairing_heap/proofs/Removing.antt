-- What taking a slot out of the middle makes of a heap.
use Rattle.std.proofs.Common.{◌≡◌, ◌≢◌, ℕ, ◌+◌, ◌<◌, ◌≤◌, Bool, true, Option, Some, None, IsSome, length, count_by, cond, refl, sym, ap, subst, ◌∙◌, arith}
use Rattle.std.specs.Prelude.{◌==◌}
use Rattle.link_arena.specs.Arena.{Arena, value_at, links_at, IsLive, unlinked, Relinks}
use Rattle.pairing_heap.specs.Tree.{Tree, leaf, node, tally, slot_count, Joined}
use Rattle.pairing_heap.specs.Melding.{heaps, melded, paired, folded, children_of, without, taken_out}
use Rattle.pairing_heap.specs.Heap.{times_of, key_of_value, keys_at, tree_at, pairs_at, Stands, Holds, LinksOnly, TakesPair}
use Rattle.pairing_heap.specs.Chain.{solo, siblings, IsRoot, Unhooks, CanUnhook, KeepsRest, Split, split_tally, Joins}
use Rattle.pairing_heap.proofs.Counts.{one, one_same, one_other, apart}
use Rattle.pairing_heap.proofs.Size.{keyed-joined, siblings-most}
use Rattle.pairing_heap.proofs.Frame.{Kept, IsRoot-kept, IsChain-kept, IsChain-joined}
use Rattle.pairing_heap.proofs.Melding.{live_from_key}
use Rattle.pairing_heap.proofs.Pairing.{LinksOnly-relinks, LinksOnly-then}
use Rattle.pairing_heap.proofs.Standing.{no_root, tree_at-heap, count_by-stands, length-pairs}
use Rattle.pairing_heap.proofs.Taking.{Takes-links, root_of}
use Rattle.pairing_heap.proofs.Cutting.{without-other, children-other, first_of-alone, pred_in, next_in}
use Rattle.pairing_heap.proofs.Cuts.{cut_below, cut_in}

module _ {V X : Type 0} (k : ℕ) (key_of : V → X) (precedes : X → X → Bool) where
  -- a heap that holds a slot has a root
  pub some_held : (a : Arena V) (heap : Option ℕ) (slot : ℕ) → Stands k key_of precedes a heap → Holds k key_of a heap slot → IsSome heap
  some_held a None slot stands held =
      absurd (omega (arith, held, count_by-stands k key_of precedes a None (λ pair. pair.1 == slot), ap (slot_count slot) (no_root precedes (keys_at key_of a) (links_at a k) (tree_at k key_of a None) stands.heap)))
  some_held a (Some root) slot stands held = refl

  -- a heap's root, and a slot below it
  pub record Inner (a : Arena V) (root slot : ℕ) : Type 0 where
    pub set : k < 2
    pub key : X
    pub children : Tree X
    pub is : tree_at k key_of a (Some root) ≡ solo key root children
    pub rooted : IsRoot precedes (keys_at key_of a) (links_at a k) root key children
    pub joined : Joined (keys_at key_of a) (links_at a k) None (Some root) (solo key root children)
    pub once : (other : ℕ) → slot_count other (solo key root children) ≤ 1
    pub inside : 0 < slot_count slot children
    pub differs : root ≢ slot
    pub next : (links_at a k root).next ≡ None
    pub prev : (links_at a k root).prev ≡ None
    pub nodes : (test : X × ℕ → Bool) → count_by test (pairs_at k key_of a (Some root)) ≡ tally test (solo key root children)

  pub inner_held : (a : Arena V) (root slot : ℕ) → Stands k key_of precedes a (Some root) → Holds k key_of a (Some root) slot → root ≢ slot → Inner a root slot
  inner_held a root slot stands held differs =
      let before = root_of k key_of precedes a root stands in
      let nodes : (test : X × ℕ → Bool) → count_by test (pairs_at k key_of a (Some root)) ≡ tally test (solo before.key root before.children) =
      λ test. count_by-stands k key_of precedes a (Some root) test ∙ ap (tally test) before.is in
      record {
        set = stands.set;
        key = before.key;
        children = before.children;
        is = before.is;
        rooted = before.rooted;
        joined = (refl, before.rooted.keyed, before.prev, before.rooted.joined, before.next);
        once = λ other. omega (arith, stands.heap.once other, ap (slot_count other) before.is);
        inside = omega (arith, held, nodes (λ pair. pair.1 == slot), one_other root slot differs);
        differs = differs;
        next = before.next;
        prev = before.prev;
        nodes = nodes;
      }

  -- what comes before the slot
  pub record Before (a : Arena V) (root slot pred : ℕ) (inner : Inner a root slot) : Type 0 where
    pub prev_is : (links_at a k slot).prev ≡ Some pred
    pub inside : 0 < slot_count pred (solo inner.key root inner.children)
    pub apart : (links_at a k slot).next ≢ Some pred

  pub some_before : (a : Arena V) (root slot : ℕ) (inner : Inner a root slot) → (pred : ℕ) × Before a root slot pred inner
  some_before a root slot inner =
      let found = pred_in precedes (keys_at key_of a) (links_at a k) None (Some root) slot (solo inner.key root inner.children) inner.once inner.joined (omega (arith, inner.inside)) (λ is. inner.differs (cc)) in
      (found.0, record { prev_is = found.1; inside = found.2; apart = found.3 })

  pub before_inner : (a : Arena V) (root slot pred : ℕ) (inner : Inner a root slot) → (links_at a k slot).prev ≡ Some pred → Before a root slot pred inner
  before_inner a root slot pred inner is =
      let found = some_before a root slot inner in
      let e = sym found.1.prev_is ∙ is in
      let same : found.0 ≡ pred = cc in
      subst (λ (p : ℕ). Before a root slot p inner) same found.1

  next_inside : (a : Arena V) (root slot after : ℕ) (inner : Inner a root slot) → (links_at a k slot).next ≡ Some after → 0 < slot_count after (solo inner.key root inner.children)
  next_inside a root slot after inner is =
      next_in precedes (keys_at key_of a) (links_at a k) None (Some root) slot after (solo inner.key root inner.children) inner.joined (omega (arith, inner.inside)) is

  live_inside : (a : Arena V) (root slot other : ℕ) (inner : Inner a root slot) → 0 < slot_count other (solo inner.key root inner.children) → IsLive a other
  live_inside a root slot other inner some =
      let keyed = keyed-joined (keys_at key_of a) (links_at a k) None (Some root) (solo inner.key root inner.children) other inner.joined some in
      live_from_key key_of (value_at a other) keyed.0 keyed.1

  pub live_inner : (a : Arena V) (root slot : ℕ) (inner : Inner a root slot) → IsLive a slot
  live_inner a root slot inner = live_inside a root slot slot inner (omega (arith, inner.inside))

  -- the links round the slot can be written
  pub CanUnhook-inner : (a : Arena V) (root slot pred : ℕ) (inner : Inner a root slot) → Before a root slot pred inner → CanUnhook k a slot pred
  CanUnhook-inner a root slot pred inner before =
      record {
        set = inner.set;
        slot_live = live_inner a root slot inner;
        pred_live = live_inside a root slot pred inner before.inside;
        apart = before.apart;
        after_live = λ after is. live_inside a root slot after inner (next_inside a root slot after inner is);
      }

  -- the slot is out: its children are a chain beside the root of the rest
  pub record Outside (old new : Arena V) (root slot : ℕ) : Type 0 where
    pub key : X
    pub keyed : keys_at key_of old slot ≡ Some key
    pub split : Split k key_of precedes new root (links_at old k slot).child
    pub gone : without slot (tree_at k key_of old (Some root)) ≡ solo split.key root split.children
    pub children : children_of slot (tree_at k key_of old (Some root)) ≡ split.left
    pub next : (links_at new k root).next ≡ None
    pub prev : (links_at new k root).prev ≡ None
    pub nodes : (test : X × ℕ → Bool) → count_by test (pairs_at k key_of old (Some root)) ≡ cond (test (key, slot)) 1 0 + split_tally k key_of precedes new root (links_at old k slot).child split test
    pub absent : split_tally k key_of precedes new root (links_at old k slot).child split (λ pair. pair.1 == slot) ≡ 0
    pub free : links_at new k slot ≡ unlinked
    pub kept : LinksOnly k old new (times_of (pairs_at k key_of old (Some root)))

  LinksOnly-unhooked : (old mid : Arena V) (root slot pred : ℕ) (inner : Inner old root slot) → Before old root slot pred inner → Unhooks (links_at old k) (links_at mid k) slot pred → KeepsRest k old mid → LinksOnly k old mid (times_of (pairs_at k key_of old (Some root)))
  LinksOnly-unhooked old mid root slot pred inner before unhooks rest =
      record {
        values = rest.values;
        other_set = rest.other_set;
        spare = rest.spare;
        elsewhere = λ other none.
            let absent : slot_count other (solo inner.key root inner.children) ≡ 0 = sym (inner.nodes (λ pair. pair.1 == other)) ∙ none in
            unhooks.elsewhere other
            (λ same. omega (arith, absent, before.inside, ap (λ s. slot_count s (solo inner.key root inner.children)) same))
            (λ is. omega (arith, absent, next_inside old root slot other inner is));
      }

  pub Outside-unhooked : (old mid new : Arena V) (root slot pred : ℕ) (inner : Inner old root slot) → Before old root slot pred inner → Unhooks (links_at old k) (links_at mid k) slot pred → KeepsRest k old mid → Relinks mid new k slot unlinked → new.spare ≡ mid.spare → Outside old new root slot
  Outside-unhooked old mid new root slot pred inner before unhooks rest relinks spare =
      let keys = keys_at key_of old in
      let below = cut_below precedes keys (links_at old k) (links_at mid k) slot pred unhooks before.prev_is None (Some root) inner.key root inner.children leaf inner.once inner.inside inner.joined inner.rooted.ordered
      (λ not. cut_in precedes keys (links_at old k) (links_at mid k) slot pred unhooks before.prev_is (Some root) (links_at old k root).child inner.key inner.children (λ other. omega (arith, inner.once other)) inner.inside inner.joined.3 inner.rooted.ordered not) in
      let cut = below.cut in
      let same_keys : (other : ℕ) → keys_at key_of new other ≡ keys other = λ other. ap (key_of_value key_of) (relinks.values other ∙ rest.values other) in
      let total : (other : ℕ) → (one slot other + slot_count other cut.below) + slot_count other cut.rest ≤ 1 = λ other. omega (arith, inner.once other, cut.nodes (λ pair. pair.1 == other)) in
      let alone : slot_count slot cut.below + slot_count slot cut.rest ≡ 0 = omega (arith, total slot, one_same slot) in
      let rest_kept : Kept keys (keys_at key_of new) (links_at mid k) (links_at new k) cut.rest = record {
        keys_stay = λ other some. same_keys other;
        links_stay = λ other some. relinks.elsewhere other (apart cut.rest slot other (omega (arith, alone)) some);
      } in
      let below_kept : Kept keys (keys_at key_of new) (links_at old k) (links_at new k) cut.below = record {
        keys_stay = λ other some. same_keys other;
        links_stay = λ other some. relinks.elsewhere other (apart cut.below slot other (omega (arith, alone)) some) ∙ cut.below_kept.links_stay other some;
      } in
      let rooted : IsRoot precedes keys (links_at mid k) root inner.key cut.rest = record { keyed = inner.rooted.keyed; joined = cut.joined; ordered = cut.ordered } in
      let chain = IsChain-joined precedes keys (links_at old k) (Some slot) (links_at old k slot).child cut.key cut.below cut.rooted.joined cut.rooted.ordered in
      let at_root = relinks.elsewhere root inner.differs in
      record {
        key = cut.key;
        keyed = cut.rooted.keyed;
        split = record {
          set = inner.set;
          key = inner.key;
          children = cut.rest;
          left = cut.below;
          rooted = IsRoot-kept keys (keys_at key_of new) (links_at mid k) (links_at new k) precedes root inner.key cut.rest (same_keys root) (ap (λ l. l.child) at_root) rest_kept rooted;
          chain = IsChain-kept keys (keys_at key_of new) (links_at old k) (links_at new k) precedes (links_at old k slot).child cut.below below_kept chain;
          once = λ other. omega (arith, inner.once other, cut.nodes (λ pair. pair.1 == other));
        };
        gone = ap (without slot) inner.is ∙ without-other inner.key root slot inner.children leaf inner.differs ∙ ap (λ t. node inner.key root t leaf) cut.gone;
        children = ap (children_of slot) inner.is ∙ children-other inner.key root slot inner.children leaf inner.differs ∙ first_of-alone (children_of slot inner.children) ∙ cut.children;
        next = ap (λ l. l.next) at_root ∙ below.next ∙ inner.next;
        prev = ap (λ l. l.prev) at_root ∙ below.prev ∙ inner.prev;
        nodes = λ test. omega (arith, inner.nodes test, cut.nodes test);
        absent = omega (arith, alone, one_other root slot inner.differs);
        free = relinks.here;
        kept = LinksOnly-then k old mid new (times_of (pairs_at k key_of old (Some root))) (one slot) (times_of (pairs_at k key_of old (Some root)))
            (LinksOnly-unhooked old mid root slot pred inner before unhooks rest)
            (LinksOnly-relinks k mid new slot unlinked relinks spare)
            (λ other none. none)
            (λ other none. omega (arith, none, inner.nodes (λ pair. pair.1 == other), cut.nodes (λ pair. pair.1 == other)));
      }

  -- the rest and the slot's children became one heap
  pub Takes-inner : (old mid new : Arena V) (root slot result : ℕ) → Stands k key_of precedes old (Some root) → (outside : Outside old mid root slot) → Joins k key_of precedes mid new root (links_at old k slot).child result outside.split → TakesPair k key_of precedes old new (Some root) (Some result) slot
  Takes-inner old mid new root slot result stands outside joins =
      Takes-links k key_of precedes old new (Some root) (Some result) slot outside.key joins.tree stands.set outside.keyed joins.heap
      (λ test. omega (arith, outside.nodes test, joins.nodes test))
      (joins.kept.elsewhere slot outside.absent ∙ outside.free)
      (LinksOnly-then k old mid new (times_of (pairs_at k key_of old (Some root))) (λ other. split_tally k key_of precedes mid root (links_at old k slot).child outside.split (λ pair. pair.1 == other)) (times_of (pairs_at k key_of old (Some root))) outside.kept joins.kept
      (λ other none. none)
      (λ other none. omega (arith, none, outside.nodes (λ pair. pair.1 == other))))

  -- and the rest was melded with what the slot's children became
  pub Takes-inner-paired : (old mid new : Arena V) (root slot result : ℕ) (outside : Outside old mid root slot) → Joins k key_of precedes mid new root (links_at old k slot).child result outside.split → tree_at k key_of new (Some result) ≡ taken_out precedes slot (tree_at k key_of old (Some root))
  Takes-inner-paired old mid new root slot result outside joins =
      tree_at-heap k key_of precedes new (Some result) joins.tree joins.heap ∙ joins.becomes
      ∙ ap (λ t. melded precedes t (folded precedes (paired precedes (heaps outside.split.left)))) (sym outside.gone)
      ∙ ap (λ t. melded precedes (without slot (tree_at k key_of old (Some root))) (folded precedes (paired precedes (heaps t)))) (sym outside.children)

  pub Takes-inner-paired-at : (old mid new : Arena V) (root slot result : ℕ) (at : Option ℕ) → (links_at old k slot).child ≡ at → Outside old mid root slot → ((was : Split k key_of precedes mid root at) → (links_at mid k root).next ≡ None → (links_at mid k root).prev ≡ None → Joins k key_of precedes mid new root at result was) → tree_at k key_of new (Some result) ≡ taken_out precedes slot (tree_at k key_of old (Some root))
  Takes-inner-paired-at old mid new root slot result at is outside joins =
      let moved = subst (λ (a : Option ℕ). (was : Split k key_of precedes mid root a) → (links_at mid k root).next ≡ None → (links_at mid k root).prev ≡ None → Joins k key_of precedes mid new root a result was) (sym is) joins in
      Takes-inner-paired old mid new root slot result outside (moved outside.split outside.next outside.prev)

  -- the same, where the slot's first child is known by another name
  pub Takes-inner-at : (old mid new : Arena V) (root slot result : ℕ) (at : Option ℕ) → (links_at old k slot).child ≡ at → Stands k key_of precedes old (Some root) → Outside old mid root slot → ((was : Split k key_of precedes mid root at) → (links_at mid k root).next ≡ None → (links_at mid k root).prev ≡ None → Joins k key_of precedes mid new root at result was) → TakesPair k key_of precedes old new (Some root) (Some result) slot
  Takes-inner-at old mid new root slot result at is stands outside joins =
      let moved = subst (λ (a : Option ℕ). (was : Split k key_of precedes mid root a) → (links_at mid k root).next ≡ None → (links_at mid k root).prev ≡ None → Joins k key_of precedes mid new root a result was) (sym is) joins in
      Takes-inner old mid new root slot result stands outside (moved outside.split outside.next outside.prev)

  -- the slot and the root are no children of the slot
  below-most : (old mid : Arena V) (root slot : ℕ) (outside : Outside old mid root slot) → siblings outside.split.left + 2 ≤ length (pairs_at k key_of old (Some root))
  below-most old mid root slot outside =
      omega (arith, outside.nodes (λ _. true), siblings-most outside.split.left, length-pairs (tree_at k key_of old (Some root)), count_by-stands k key_of precedes old (Some root) (λ _. true))

  -- so a merge of the slot's children and the rest compares less often than the heap has pairs
  pub Spent-at : (old mid : Arena V) (root slot start steps : ℕ) (at : Option ℕ) → (links_at old k slot).child ≡ at → Outside old mid root slot → ((was : Split k key_of precedes mid root at) → steps ≤ start + (siblings was.left + 1)) → steps ≤ start + length (pairs_at k key_of old (Some root))
  Spent-at old mid root slot start steps at is outside most =
      let moved = subst (λ (a : Option ℕ). (was : Split k key_of precedes mid root a) → steps ≤ start + (siblings was.left + 1)) (sym is) most in
      omega (arith, moved outside.split, below-most old mid root slot outside)

  pub Split-at : (old mid : Arena V) (root slot : ℕ) (at : Option ℕ) → (links_at old k slot).child ≡ at → Outside old mid root slot → Split k key_of precedes mid root at
  Split-at old mid root slot at is outside = subst (λ (a : Option ℕ). Split k key_of precedes mid root a) is outside.split

  -- what a slot's links say before it is unhooked
  pub Outside-written : (old mid new : Arena V) (root slot pred : ℕ) → Stands k key_of precedes old (Some root) → Holds k key_of old (Some root) slot → root ≢ slot → (links_at old k slot).prev ≡ Some pred → Unhooks (links_at old k) (links_at mid k) slot pred → KeepsRest k old mid → Relinks mid new k slot unlinked → new.spare ≡ mid.spare → Outside old new root slot
  Outside-written old mid new root slot pred stands held differs prev_is unhooks rest relinks spare =
      let inner = inner_held old root slot stands held differs in
      Outside-unhooked old mid new root slot pred inner (before_inner old root slot pred inner prev_is) unhooks rest relinks spare
