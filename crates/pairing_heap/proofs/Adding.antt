-- What a slot that is pushed makes of a heap.
use Rattle.std.proofs.Common.{◌≡◌, ◌≢◌, ℕ, ◌+◌, ◌<◌, ◌≤◌, Bool, true, Option, Some, None, is_some, count_by, cond, refl, sym, ap, subst, ◌∙◌, inl, inr, arith}
use Rattle.std.specs.Prelude.{◌==◌}
use Rattle.link_arena.specs.Arena.{Arena, value_at, links_at, IsLive, unlinked, Relinks}
use Rattle.pairing_heap.specs.Tree.{Tree, leaf, tally, slot_count, IsHeap}
use Rattle.pairing_heap.specs.Melding.{melded}
use Rattle.pairing_heap.specs.Heap.{times_of, key_of_value, keys_at, tree_at, pairs_at, Stands, Lacks, LinksOnly, AddsPair}
use Rattle.pairing_heap.specs.Chain.{solo, IsRoot, CanMeld, Melds}
use Rattle.pairing_heap.proofs.Counts.{one, one_most, once_beside, slot_count-root}
use Rattle.pairing_heap.proofs.Frame.{IsRoot-kept}
use Rattle.pairing_heap.proofs.Passes.{Kept-apart}
use Rattle.pairing_heap.proofs.Pairing.{LinksOnly-relinks, LinksOnly-then}
use Rattle.pairing_heap.proofs.Standing.{HasRoot, has_root, heap_from_root, no_root, Stands-heap, tree_at-heap, count_by-heap, count_by-stands, count_by-more, OthersStay-links}

-- a live slot has a key
pub key_from_live : {V X : Type 0} (key_of : V → X) (value : Option V) → is_some value ≡ true → (key : X) × (key_of_value key_of value ≡ Some key)
key_from_live key_of None live = cc
key_from_live key_of (Some value) live = (key_of value, refl)

module _ {V X : Type 0} (k : ℕ) (key_of : V → X) (precedes : X → X → Bool) where
  pub Adds-links : (old new : Arena V) (heap : Option ℕ) (later slot : ℕ) (key : X) (tree : Tree X) → k < 2 → IsHeap precedes (keys_at key_of new) (links_at new k) (Some later) tree → keys_at key_of old slot ≡ Some key → ((test : X × ℕ → Bool) → tally test tree ≡ cond (test (key, slot)) 1 0 + count_by test (pairs_at k key_of old heap)) → LinksOnly k old new (λ other. slot_count other tree) → AddsPair k key_of precedes old new heap (Some later) slot
  Adds-links old new heap later slot key tree set stands keyed nodes kept =
      let counted = count_by-heap k key_of precedes new (Some later) tree stands in
      let written : LinksOnly k old new (times_of (pairs_at k key_of new (Some later))) = record {
        values = kept.values;
        other_set = kept.other_set;
        spare = kept.spare;
        elsewhere = λ other none. kept.elsewhere other (sym (counted (λ pair. pair.1 == other)) ∙ none);
      } in
      record {
        stands = Stands-heap k key_of precedes new (Some later) tree set stands;
        pairs = λ other_key other_keyed test.
            let e = sym keyed ∙ other_keyed in
            let same : key ≡ other_key = cc in
            counted test ∙ nodes test ∙ ap (λ x. cond (test (x, slot)) 1 0 + count_by test (pairs_at k key_of old heap)) same ∙ sym (count_by-more test (other_key, slot) (pairs_at k key_of old heap));
        kept = written;
        others = OthersStay-links k key_of precedes old new (times_of (pairs_at k key_of new (Some later))) written;
      }

  -- the slot alone is a root
  pub lone_root : (old new : Arena V) (slot : ℕ) (key : X) → keys_at key_of old slot ≡ Some key → Relinks old new k slot unlinked → IsRoot precedes (keys_at key_of new) (links_at new k) slot key leaf
  lone_root old new slot key keyed relinks =
      record { keyed = ap (key_of_value key_of) (relinks.values slot) ∙ keyed; joined = ap (λ l. l.child) relinks.here; ordered = tt }

  -- alone it is the heap
  pub Adds-first-tree : (old new : Arena V) (heap : Option ℕ) (slot : ℕ) → heap ≡ None → Stands k key_of precedes old heap → Relinks old new k slot unlinked → (key : X) → keys_at key_of old slot ≡ Some key → tree_at k key_of new (Some slot) ≡ melded precedes (tree_at k key_of old heap) (solo key slot leaf)
  Adds-first-tree old new heap slot empty stands relinks key keyed =
      let rooted = lone_root old new slot key keyed relinks in
      let none = no_root precedes (keys_at key_of old) (links_at old k) (tree_at k key_of old heap) (subst (λ (r : Option ℕ). IsHeap precedes (keys_at key_of old) (links_at old k) r (tree_at k key_of old heap)) empty stands.heap) in
      tree_at-heap k key_of precedes new (Some slot) (solo key slot leaf)
      (heap_from_root precedes (keys_at key_of new) (links_at new k) slot key leaf rooted (ap (λ l. l.next) relinks.here) (ap (λ l. l.prev) relinks.here) (λ other. omega (arith, one_most slot other)))
      ∙ ap (λ t. melded precedes t (solo key slot leaf)) (sym none)

  -- a slot is pushed into an empty heap
  pub Adds-first : (old new : Arena V) (heap : Option ℕ) (slot : ℕ) → heap ≡ None → Stands k key_of precedes old heap → IsLive old slot → Relinks old new k slot unlinked → new.spare ≡ old.spare → AddsPair k key_of precedes old new heap (Some slot) slot
  Adds-first old new heap slot empty stands live relinks spare =
      let keyed = key_from_live key_of (value_at old slot) live in
      let rooted = lone_root old new slot keyed.0 keyed.1 relinks in
      let written = LinksOnly-relinks k old new slot unlinked relinks spare in
      let none = no_root precedes (keys_at key_of old) (links_at old k) (tree_at k key_of old heap) (subst (λ (r : Option ℕ). IsHeap precedes (keys_at key_of old) (links_at old k) r (tree_at k key_of old heap)) empty stands.heap) in
      Adds-links old new heap slot slot keyed.0 (solo keyed.0 slot leaf) stands.set
      (heap_from_root precedes (keys_at key_of new) (links_at new k) slot keyed.0 leaf rooted (ap (λ l. l.next) relinks.here) (ap (λ l. l.prev) relinks.here) (λ other. omega (arith, one_most slot other)))
      keyed.1
      (λ test. omega (arith, count_by-stands k key_of precedes old heap test, ap (tally test) none))
      record {
        values = written.values;
        other_set = written.other_set;
        spare = written.spare;
        elsewhere = λ other none_here. written.elsewhere other (omega (arith, none_here));
      }

  -- the root before a push, as it is once the slot's links lead nowhere
  pub record Pushes (old new : Arena V) (root slot : ℕ) : Type 0 where
    pub before : HasRoot precedes (keys_at key_of old) (links_at old k) root (tree_at k key_of old (Some root))
    pub key : X
    pub keyed : keys_at key_of old slot ≡ Some key
    pub rooted : IsRoot precedes (keys_at key_of new) (links_at new k) root before.key before.children
    pub alone : IsRoot precedes (keys_at key_of new) (links_at new k) slot key leaf
    pub differs : root ≢ slot
    pub once : (other : ℕ) → slot_count other (solo before.key root before.children) + slot_count other (solo key slot leaf) ≤ 1
    pub written : LinksOnly k old new (one slot)

  pub Pushes-relinks : (old new : Arena V) (root slot : ℕ) → Stands k key_of precedes old (Some root) → Lacks k key_of old (Some root) slot → IsLive old slot → Relinks old new k slot unlinked → new.spare ≡ old.spare → Pushes old new root slot
  Pushes-relinks old new root slot stands lacks live relinks spare =
      let keyed = key_from_live key_of (value_at old slot) live in
      let tree = tree_at k key_of old (Some root) in
      let before = has_root precedes (keys_at key_of old) (links_at old k) root tree stands.heap in
      let written = LinksOnly-relinks k old new slot unlinked relinks spare in
      let same : (other : ℕ) → slot_count other tree ≡ slot_count other (solo before.key root before.children) = λ other. ap (slot_count other) before.is in
      let absent : slot_count slot tree ≡ 0 = sym (count_by-stands k key_of precedes old (Some root) (λ pair. pair.1 == slot)) ∙ lacks in
      let differs : root ≢ slot = λ is. omega (arith, absent, same slot, slot_count-root before.key root before.children leaf, ap (λ s. slot_count s (solo before.key root before.children)) is) in
      let unlike : (other : ℕ) → slot_count other (solo before.key root before.children) + one slot other ≤ 1 =
      λ other. omega (arith, same other, once_beside (λ x. slot_count x tree) slot stands.heap.once absent other) in
      let kept = Kept-apart k key_of precedes old new (one slot) before.children written (λ other. omega (arith, unlike other)) in
      record {
        before = before;
        key = keyed.0;
        keyed = keyed.1;
        rooted = IsRoot-kept (keys_at key_of old) (keys_at key_of new) (links_at old k) (links_at new k) precedes root before.key before.children (ap (key_of_value key_of) (relinks.values root)) (ap (λ l. l.child) (relinks.elsewhere root differs)) kept before.rooted;
        alone = lone_root old new slot keyed.0 keyed.1 relinks;
        differs = differs;
        once = λ other. omega (arith, unlike other);
        written = written;
      }

  -- the two roots can be melded
  abbrev pub CanMeld-push : (old new : Arena V) (root slot : ℕ) → k < 2 → Pushes old new root slot → CanMeld k key_of precedes new root slot
  CanMeld-push old new root slot set pushes =
      record {
        set = set;
        a_key = pushes.before.key;
        b_key = pushes.key;
        a_children = pushes.before.children;
        b_children = leaf;
        a_root = pushes.rooted;
        b_root = pushes.alone;
        once = pushes.once;
      }

  -- the heap that a slot and the root became
  heap_pushed : (old mid new : Arena V) (root slot later : ℕ) (set : k < 2) (pushes : Pushes old mid root slot) → Relinks old mid k slot unlinked → (melds : Melds k key_of precedes mid new root slot later (CanMeld-push old mid root slot set pushes)) → IsHeap precedes (keys_at key_of new) (links_at new k) (Some later) (solo melds.key later melds.children)
  heap_pushed old mid new root slot later set pushes relinks melds =
      let before = pushes.before in
      let next : (links_at mid k later).next ≡ None = elim melds.which [
        | inl is ↦ ap (λ s. (links_at mid k s).next) is ∙ ap (λ l. l.next) (relinks.elsewhere root pushes.differs) ∙ before.next
        | inr is ↦ ap (λ s. (links_at mid k s).next) is ∙ ap (λ l. l.next) relinks.here
      ] in
      let prev : (links_at mid k later).prev ≡ None = elim melds.which [
        | inl is ↦ ap (λ s. (links_at mid k s).prev) is ∙ ap (λ l. l.prev) (relinks.elsewhere root pushes.differs) ∙ before.prev
        | inr is ↦ ap (λ s. (links_at mid k s).prev) is ∙ ap (λ l. l.prev) relinks.here
      ] in
      heap_from_root precedes (keys_at key_of new) (links_at new k) later melds.key melds.children melds.rooted (melds.next ∙ next) (melds.prev ∙ prev)
      (λ other. omega (arith, pushes.once other, melds.nodes (λ pair. pair.1 == other)))

  -- which is their heap of two
  pub Adds-melded-tree : (old mid new : Arena V) (root slot later : ℕ) (set : k < 2) (pushes : Pushes old mid root slot) → Relinks old mid k slot unlinked → Melds k key_of precedes mid new root slot later (CanMeld-push old mid root slot set pushes) → (key : X) → keys_at key_of old slot ≡ Some key → tree_at k key_of new (Some later) ≡ melded precedes (tree_at k key_of old (Some root)) (solo key slot leaf)
  Adds-melded-tree old mid new root slot later set pushes relinks melds key keyed =
      let e = sym pushes.keyed ∙ keyed in
      let same : pushes.key ≡ key = cc in
      tree_at-heap k key_of precedes new (Some later) (solo melds.key later melds.children) (heap_pushed old mid new root slot later set pushes relinks melds)
      ∙ melds.becomes
      ∙ ap (λ t. melded precedes t (solo pushes.key slot leaf)) (sym pushes.before.is)
      ∙ ap (λ x. melded precedes (tree_at k key_of old (Some root)) (solo x slot leaf)) same

  -- a slot was melded with the root
  pub Adds-melded : (old mid new : Arena V) (root slot later : ℕ) (set : k < 2) (pushes : Pushes old mid root slot) → Relinks old mid k slot unlinked → Melds k key_of precedes mid new root slot later (CanMeld-push old mid root slot set pushes) → Stands k key_of precedes old (Some root) → AddsPair k key_of precedes old new (Some root) (Some later) slot
  Adds-melded old mid new root slot later set pushes relinks melds stands =
      let before = pushes.before in
      let heap = heap_pushed old mid new root slot later set pushes relinks melds in
      Adds-links old new (Some root) later slot pushes.key (solo melds.key later melds.children) set heap pushes.keyed
      (λ test. omega (arith, melds.nodes test, count_by-stands k key_of precedes old (Some root) test, ap (tally test) before.is))
      (LinksOnly-then k old mid new (one slot) (λ other. slot_count other (solo before.key root before.children) + slot_count other (solo pushes.key slot leaf)) (λ other. slot_count other (solo melds.key later melds.children)) pushes.written melds.kept
      (λ other none. omega (arith, none, melds.nodes (λ pair. pair.1 == other)))
      (λ other none. omega (arith, none, melds.nodes (λ pair. pair.1 == other))))
