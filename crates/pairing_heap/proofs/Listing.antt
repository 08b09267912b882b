-- A walk that puts each slot of a heap into a list.
use Rattle.std.proofs.Common.{◌≡◌, ℕ, ◌+◌, ◌-◌, ◌<◌, ◌≤◌, Bool, List, [], ◌∷◌, ◌++◌, length, length-append, Option, Some, None, refl, sym, ap, ◌∙◌, arith}
use Rattle.std.proofs.lemmas.List.{append_assoc}
use Rattle.std.specs.Prelude.{◌==◌}
use Rattle.link_arena.specs.Arena.{Arena}
use Rattle.pairing_heap.specs.Tree.{Tree, leaf, node, slots, pairs}
use Rattle.pairing_heap.specs.Heap.{tree_at, pairs_at, slots_at, first_slot, Stands, Holds}
use Rattle.pairing_heap.proofs.Counts.{one_same}
use Rattle.pairing_heap.proofs.Standing.{count_by-stands}
use Rattle.pairing_heap.proofs.Walking.{often, often-append, often-slots, begins}

-- a list with a first slot is that slot and more
starts_with : (xs : List ℕ) (slot : ℕ) → Some slot ≡ first_slot xs → (more : List ℕ) × (xs ≡ slot ∷ more)
starts_with [] slot is = absurd (cc)
starts_with (x ∷ more) slot is = let same : slot ≡ x = cc in (more, ap (λ (y : ℕ). y ∷ more) (sym same))

ends : (xs : List ℕ) → None ≡ first_slot xs → xs ≡ []
ends [] is = refl
ends (x ∷ more) is = absurd (cc)

append-none : (xs : List ℕ) → xs ++ [] ≡ xs
append-none [] = refl
append-none (x ∷ more) = ap (λ (ys : List ℕ). x ∷ ys) (append-none more)

length-slots : {X : Type 0} (tree : Tree X) → length (slots tree) ≡ length (pairs tree)
length-slots {X} leaf = refl
length-slots {X} (node key slot children rest) =
    omega (
      arith,
      length-append (slots children) (slots rest),
      length-append (pairs children) (pairs rest),
      length-slots children,
      length-slots rest,
    )

module _ {V X : Type 0} (k : ℕ) (key_of : V → X) (precedes : X → X → Bool) where
  -- the list has grown by those slots of the heap that the walk has passed
  pub record Listed (a : Arena V) (root : Option ℕ) (was now : List ℕ) (at : Option ℕ) (start len : ℕ) : Type 0 where
    pub passed : List ℕ
    pub ahead : List ℕ
    pub pushed : now ≡ was ++ passed
    pub counted : len ≡ start + length passed
    pub split : slots_at k key_of a root ≡ passed ++ ahead
    pub at_is : at ≡ first_slot ahead

  pub Listed-start : (a : Arena V) (root : Option ℕ) (was : List ℕ) (start : ℕ) → Stands k key_of precedes a root → Listed a root was was root start start
  Listed-start a root was start stands =
      record {
        passed = [];
        ahead = slots_at k key_of a root;
        pushed = sym (append-none was);
        counted = omega arith;
        split = refl;
        at_is = sym (begins k key_of precedes a root stands);
      }

  -- the slot ahead is the heap's, and the list has room for it
  pub record Ahead (a : Arena V) (root : Option ℕ) (was now : List ℕ) (slot start len : ℕ) (listed : Listed a root was now (Some slot) start len) : Type 0 where
    pub more : List ℕ
    pub split : slots_at k key_of a root ≡ listed.passed ++ (slot ∷ more)
    pub held : Holds k key_of a root slot
    pub fits : len < start + length (pairs_at k key_of a root)

  pub ahead_of : (a : Arena V) (root : Option ℕ) (was now : List ℕ) (slot start len : ℕ) (listed : Listed a root was now (Some slot) start len) → Ahead a root was now slot start len listed
  ahead_of a root was now slot start len listed =
      let from = starts_with listed.ahead slot listed.at_is in
      let split = listed.split ∙ ap (λ xs. listed.passed ++ xs) from.1 in
      let tree = tree_at k key_of a root in
      record {
        more = from.0;
        split = split;
        held = omega (
          arith,
          often-slots slot tree,
          ap (often slot) split,
          often-append slot listed.passed (slot ∷ from.0),
          one_same slot,
          count_by-stands k key_of precedes a root (λ pair. pair.1 == slot),
        );
        fits = omega (
          arith,
          length-slots tree,
          ap length split,
          length-append listed.passed (slot ∷ from.0),
          listed.counted,
        );
      }

  pub Listed-step : (a : Arena V) (root : Option ℕ) (was now later : List ℕ) (slot : ℕ) (next : Option ℕ) (start len more : ℕ) (listed : Listed a root was now (Some slot) start len) → later ≡ now ++ (slot ∷ []) → more ≡ len + 1 → ((before after : List ℕ) → slots_at k key_of a root ≡ before ++ (slot ∷ after) → next ≡ first_slot after) → Listed a root was later next start more
  Listed-step a root was now later slot next start len more listed later_is more_is goes =
      let there = ahead_of a root was now slot start len listed in
      record {
        passed = listed.passed ++ (slot ∷ []);
        ahead = there.more;
        pushed = later_is ∙ ap (λ xs. xs ++ (slot ∷ [])) listed.pushed ∙ append_assoc was listed.passed (slot ∷ []);
        counted = omega (arith, listed.counted, more_is, length-append listed.passed (slot ∷ []));
        split = there.split ∙ sym (append_assoc listed.passed (slot ∷ []) there.more);
        at_is = goes listed.passed there.more there.split;
      }

  pub Listed-end : (a : Arena V) (root : Option ℕ) (was now : List ℕ) (start len : ℕ) (listed : Listed a root was now None start len) → now ≡ was ++ slots_at k key_of a root
  Listed-end a root was now start len listed =
      listed.pushed
      ∙ ap (λ xs. was ++ xs) (sym (append-none listed.passed) ∙ ap (λ xs. listed.passed ++ xs) (sym (ends listed.ahead listed.at_is)) ∙ sym listed.split)

  pub Listed-at : (a : Arena V) (root : Option ℕ) (was now : List ℕ) (at to : Option ℕ) (start len : ℕ) → at ≡ to → Listed a root was now at start len → Listed a root was now to start len
  Listed-at a root was now at to start len is listed =
      record { passed = listed.passed; ahead = listed.ahead; pushed = listed.pushed; counted = listed.counted; split = listed.split; at_is = sym is ∙ listed.at_is }
