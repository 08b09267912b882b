-- What melding makes of trees.
use Rattle.std.proofs.Common.{◌≡◌, ℕ, ◌+◌, ◌<◌, ◌≤◌, Bool, true, false, Option, Some, None, is_some, cond, refl, sym, ap, subst, ◌∙◌, inl, inr, arith}
use Rattle.link_arena.specs.declared.arena.Links.{Links}
use Rattle.link_arena.specs.Arena.{Arena, value_at, links_at}
use Rattle.pairing_heap.specs.Order.{IsStrictOrder}
use Rattle.pairing_heap.specs.Tree.{Tree, leaf, node, slot_count, Joined}
use Rattle.pairing_heap.specs.Heap.{key_of_value, keys_at, LinksOnly}
use Rattle.pairing_heap.specs.Chain.{Adopts, CanAdopt, KeepsRest, solo, IsRoot, CanMeld, Melds}
use Rattle.pairing_heap.proofs.Counts.{slot_count-root, apart}
use Rattle.pairing_heap.proofs.Size.{keyed-joined}
use Rattle.pairing_heap.proofs.Frame.{Kept, Joined-kept, Joined-rehung}

-- of two keys of which the first precedes, the second does not
pub asymmetric : {X : Type 0} (precedes : X → X → Bool) → IsStrictOrder precedes → (a b : X) → precedes a b ≡ true → precedes b a ≡ false
asymmetric {X} precedes order a b before = either (precedes b a) refl
  where
    either : (t : Bool) → precedes b a ≡ t → t ≡ false
    either false is = refl
    either true is = let loop = order.transitive a b a before is in let never = order.irreflexive a in cc

-- a slot with a key is live
pub live_from_key : {V X : Type 0} (key_of : V → X) (value : Option V) (key : X) → key_of_value key_of value ≡ Some key → is_some value ≡ true
live_from_key key_of None key keyed = cc
live_from_key key_of (Some value) key keyed = refl

module _ {X : Type 0} where
  -- the slot that a tree begins at is in it
  pub head_in : (keys : ℕ → Option X) (links : ℕ → Links) (prev at : Option ℕ) (tree : Tree X) (slot : ℕ) → Joined keys links prev at tree → at ≡ Some slot → 0 < slot_count slot tree
  head_in keys links prev at leaf slot joined is = let e = sym joined ∙ is in absurd (cc)
  head_in keys links prev at (node key here children rest) slot joined is =
      let e = sym joined.0 ∙ is in
      let same : here ≡ slot = cc in
      omega (arith, slot_count-root key here children rest, ap (λ s. slot_count s (node key here children rest)) same)

  -- two roots with no common slot
  abbrev pub Unlike : ℕ → X → Tree X → ℕ → X → Tree X → Type 0
  Unlike a a_key a_children b b_key b_children =
      (slot : ℕ) → slot_count slot (solo a_key a a_children) + slot_count slot (solo b_key b b_children) ≤ 1

  pub Unlike-swapped : (a : ℕ) (a_key : X) (a_children : Tree X) (b : ℕ) (b_key : X) (b_children : Tree X) → Unlike a a_key a_children b b_key b_children → Unlike b b_key b_children a a_key a_children
  Unlike-swapped a a_key a_children b b_key b_children once slot = omega (arith, once slot)

  module _ (precedes : X → X → Bool) (keys later_keys : ℕ → Option X) (links later : ℕ → Links) (parent child : ℕ) (parent_key child_key : X) (parents childs : Tree X) where
    -- the child is the first of the parent's children
    pub IsRoot-adopted : Unlike parent parent_key parents child child_key childs → ((slot : ℕ) → later_keys slot ≡ keys slot) → Adopts links later parent child → IsRoot precedes keys links parent parent_key parents → IsRoot precedes keys links child child_key childs → precedes child_key parent_key ≡ false → IsRoot precedes later_keys later parent parent_key (node child_key child childs parents)
    IsRoot-adopted once same_keys adopts above below behind =
        let p = slot_count-root parent_key parent parents leaf in
        let c = slot_count-root child_key child childs leaf in
        let first : (slot : ℕ) → (links parent).child ≡ Some slot → 0 < slot_count slot parents =
        λ slot is. head_in keys links (Some parent) (links parent).child parents slot above.joined is in
        let childs_kept : Kept keys later_keys links later childs = record {
          keys_stay = λ slot some. same_keys slot;
          links_stay = λ slot some. adopts.elsewhere slot
              (apart childs parent slot (omega (arith, once parent, p)) some)
              (apart childs child slot (omega (arith, once child, c)) some)
              (λ is. omega (arith, once slot, first slot is));
        } in
        let parents_kept = Joined-rehung keys later_keys links later (Some parent) (Some child) (links parent).child parents
        (λ slot. omega (arith, once slot))
        (λ slot some. same_keys slot)
        adopts.beside
        (λ slot some not_first. adopts.elsewhere slot
        (apart parents parent slot (omega (arith, once parent, p)) some)
        (apart parents child slot (omega (arith, once child, c)) some)
        not_first)
        above.joined in
        record {
          keyed = same_keys parent ∙ above.keyed;
          joined = (
            ap (λ l. l.child) adopts.above,
            same_keys child ∙ below.keyed,
            ap (λ l. l.prev) adopts.below,
            subst (λ (to : Option ℕ). Joined later_keys later (Some child) to childs) (ap (λ l. l.child) (sym adopts.below)) (Joined-kept keys later_keys links later (Some child) (links child).child childs childs_kept below.joined),
            subst (λ (to : Option ℕ). Joined later_keys later (Some child) to parents) (ap (λ l. l.next) (sym adopts.below)) parents_kept,
          );
          ordered = (behind, below.ordered, above.ordered);
        }

module _ {V X : Type 0} (k : ℕ) (key_of : V → X) (precedes : X → X → Bool) where
  abbrev RootAt : Arena V → ℕ → X → Tree X → Type 0
  RootAt a slot key children = IsRoot precedes (keys_at key_of a) (links_at a k) slot key children

  -- the links of two unlike roots can be written
  pub CanAdopt-roots : (a : Arena V) (parent child : ℕ) (parent_key child_key : X) (parents childs : Tree X) → k < 2 → Unlike parent parent_key parents child child_key childs → RootAt a parent parent_key parents → RootAt a child child_key childs → CanAdopt k a parent child
  CanAdopt-roots a parent child parent_key child_key parents childs set once above below =
      let p = slot_count-root parent_key parent parents leaf in
      let c = slot_count-root child_key child childs leaf in
      let first : (slot : ℕ) → (links_at a k parent).child ≡ Some slot → 0 < slot_count slot parents =
      λ slot is. head_in (keys_at key_of a) (links_at a k) (Some parent) (links_at a k parent).child parents slot above.joined is in
      record {
        set = set;
        parent_live = live_from_key key_of (value_at a parent) parent_key above.keyed;
        child_live = live_from_key key_of (value_at a child) child_key below.keyed;
        apart = λ same. omega (arith, p, c, once child, ap (λ s. slot_count s (solo parent_key parent parents)) same);
        not_parent = λ is. omega (arith, p, once parent, first parent is);
        not_child = λ is. omega (arith, c, once child, first child is);
        sibling_live = λ slot is.
            let keyed = keyed-joined (keys_at key_of a) (links_at a k) (Some parent) (links_at a k parent).child parents slot above.joined (first slot is) in
            live_from_key key_of (value_at a slot) keyed.0 keyed.1;
      }

  LinksOnly-adopted : (old new : Arena V) (parent child : ℕ) (parent_key child_key : X) (parents childs : Tree X) → RootAt old parent parent_key parents → Adopts (links_at old k) (links_at new k) parent child → KeepsRest k old new → LinksOnly k old new (λ slot. slot_count slot (solo parent_key parent parents) + slot_count slot (solo child_key child childs))
  LinksOnly-adopted old new parent child parent_key child_key parents childs above adopts rest =
      record {
        values = rest.values;
        other_set = rest.other_set;
        spare = rest.spare;
        elsewhere = λ slot none. adopts.elsewhere slot
            (λ same. omega (arith, none, slot_count-root parent_key parent parents leaf, ap (λ s. slot_count s (solo parent_key parent parents)) same))
            (λ same. omega (arith, none, slot_count-root child_key child childs leaf, ap (λ s. slot_count s (solo child_key child childs)) same))
            (λ is. omega (arith, none, head_in (keys_at key_of old) (links_at old k) (Some parent) (links_at old k parent).child parents slot above.joined is));
      }

  -- the first of two roots adopts the second
  pub Melds-first : (old new : Arena V) (a b : ℕ) (both : CanMeld k key_of precedes old a b) → Adopts (links_at old k) (links_at new k) a b → KeepsRest k old new → precedes both.b_key both.a_key ≡ false → Melds k key_of precedes old new a b a both
  Melds-first old new a b both adopts rest behind =
      record {
        key = both.a_key;
        children = node both.b_key b both.b_children both.a_children;
        rooted = IsRoot-adopted precedes (keys_at key_of old) (keys_at key_of new) (links_at old k) (links_at new k) a b both.a_key both.b_key both.a_children both.b_children both.once (λ slot. ap (key_of_value key_of) (rest.values slot)) adopts both.a_root both.b_root behind;
        becomes = ap (λ t. cond t (node both.b_key b (node both.a_key a both.a_children both.b_children) leaf) (node both.a_key a (node both.b_key b both.b_children both.a_children) leaf)) (sym behind);
        nodes = λ test. omega arith;
        next = ap (λ l. l.next) adopts.above;
        prev = ap (λ l. l.prev) adopts.above;
        which = inl refl;
        kept = LinksOnly-adopted old new a b both.a_key both.b_key both.a_children both.b_children both.a_root adopts rest;
      }

  -- the second of two roots adopts the first
  pub Melds-second : IsStrictOrder precedes → (old new : Arena V) (a b : ℕ) (both : CanMeld k key_of precedes old a b) → Adopts (links_at old k) (links_at new k) b a → KeepsRest k old new → precedes both.b_key both.a_key ≡ true → Melds k key_of precedes old new a b b both
  Melds-second order old new a b both adopts rest before =
      let once = Unlike-swapped a both.a_key both.a_children b both.b_key both.b_children both.once in
      let kept = LinksOnly-adopted old new b a both.b_key both.a_key both.b_children both.a_children both.b_root adopts rest in
      record {
        key = both.b_key;
        children = node both.a_key a both.a_children both.b_children;
        rooted = IsRoot-adopted precedes (keys_at key_of old) (keys_at key_of new) (links_at old k) (links_at new k) b a both.b_key both.a_key both.b_children both.a_children once (λ slot. ap (key_of_value key_of) (rest.values slot)) adopts both.b_root both.a_root (asymmetric precedes order both.b_key both.a_key before);
        becomes = ap (λ t. cond t (node both.b_key b (node both.a_key a both.a_children both.b_children) leaf) (node both.a_key a (node both.b_key b both.b_children both.a_children) leaf)) (sym before);
        nodes = λ test. omega arith;
        next = ap (λ l. l.next) adopts.above;
        prev = ap (λ l. l.prev) adopts.above;
        which = inr refl;
        kept = record {
          values = kept.values;
          other_set = kept.other_set;
          spare = kept.spare;
          elsewhere = λ slot none. kept.elsewhere slot (omega (arith, none));
        };
      }
