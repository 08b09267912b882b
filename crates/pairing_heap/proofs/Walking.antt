-- A walk over a heap's slots: what comes after each.
use Rattle.std.proofs.Common.{◌≡◌, ◌≢◌, ℕ, ◌+◌, ◌<◌, ◌≤◌, Bool, true, false, List, [], ◌∷◌, ◌++◌, Option, Some, None, cond, ltb, refl, sym, ap, subst, ◌∙◌, inl, inr, arith, lt-ltb, count_by}
use Rattle.std.proofs.lemmas.Bool.{cases_eq, eq-eqb}
use Rattle.std.proofs.lemmas.List.Sums.{sum_by-cons, sum_by-append}
use Rattle.std.specs.Prelude.{◌==◌}
use Rattle.link_arena.specs.declared.arena.Links.{Links}
use Rattle.link_arena.specs.Arena.{Arena, links_at, value_at, IsLive}
use Rattle.pairing_heap.specs.Tree.{Tree, leaf, node, slot_count, slots, Joined}
use Rattle.pairing_heap.specs.Heap.{times_of, keys_at, tree_at, pairs_at, slots_at, first_slot, Stands, Holds}
use Rattle.pairing_heap.specs.Walk.{start, or_else, beyond}
use Rattle.pairing_heap.proofs.Counts.{one, one_same, one_other, slot_count-root, apart}
use Rattle.pairing_heap.proofs.Size.{none_or_some, keyed-joined}
use Rattle.pairing_heap.proofs.Melding.{head_in, live_from_key}
use Rattle.pairing_heap.proofs.Cutting.{different, names_or_not, first_prev}
use Rattle.pairing_heap.proofs.Standing.{count_by-stands}

-- how often a slot stands in a list
abbrev pub often : ℕ → List ℕ → ℕ
often slot [] = 0
often slot (x ∷ more) = one x slot + often slot more

-- what comes after a slot in a list; `out` comes after the list
abbrev pub next_after : ℕ → List ℕ → Option ℕ → Option ℕ
next_after slot [] out = out
next_after slot (x ∷ more) out = cond (x == slot) (start more out) (next_after slot more out)

pub often-append : (slot : ℕ) (xs ys : List ℕ) → often slot (xs ++ ys) ≡ often slot xs + often slot ys
often-append slot [] ys = omega arith
often-append slot (x ∷ more) ys = omega (arith, often-append slot more ys)

start-append : (xs ys : List ℕ) (out : Option ℕ) → start (xs ++ ys) out ≡ start xs (start ys out)
start-append [] ys out = refl
start-append (x ∷ more) ys out = refl

or_else-alone : (at : Option ℕ) → or_else at None ≡ at
or_else-alone None = refl
or_else-alone (Some slot) = refl

start-first : (xs : List ℕ) → start xs None ≡ first_slot xs
start-first [] = refl
start-first (x ∷ more) = refl

next_after-here : (slot : ℕ) (more : List ℕ) (out : Option ℕ) → next_after slot (slot ∷ more) out ≡ start more out
next_after-here slot more out = ap (λ t. cond t (start more out) (next_after slot more out)) (eq-eqb slot slot refl)

next_after-other : (x slot : ℕ) (more : List ℕ) (out : Option ℕ) → x ≢ slot → next_after slot (x ∷ more) out ≡ next_after slot more out
next_after-other x slot more out differs = ap (λ t. cond t (start more out) (next_after slot more out)) (different x slot differs)

-- the slot is in the first list, or it is not
next_after-first : (slot : ℕ) (xs ys : List ℕ) (out : Option ℕ) → 0 < often slot xs → next_after slot (xs ++ ys) out ≡ next_after slot xs (start ys out)
next_after-first slot [] ys out some = absurd (omega (arith, some))
next_after-first slot (x ∷ more) ys out some =
    elim (cases_eq x slot) [
      | inl same ↦ subst (λ (y : ℕ). next_after slot (y ∷ (more ++ ys)) out ≡ next_after slot (y ∷ more) (start ys out)) (sym same)
          (next_after-here slot (more ++ ys) out ∙ start-append more ys out ∙ sym (next_after-here slot more (start ys out)))
      | inr differs ↦
          next_after-other x slot (more ++ ys) out differs
          ∙ next_after-first slot more ys out (omega (arith, some, one_other x slot differs))
          ∙ sym (next_after-other x slot more (start ys out) differs)
    ]

next_after-second : (slot : ℕ) (xs ys : List ℕ) (out : Option ℕ) → often slot xs ≡ 0 → next_after slot (xs ++ ys) out ≡ next_after slot ys out
next_after-second slot [] ys out none = refl
next_after-second slot (x ∷ more) ys out none =
    next_after-other x slot (more ++ ys) out (λ same. omega (arith, none, one_same slot, ap (λ y. one y slot) same))
    ∙ next_after-second slot more ys out (omega (arith, none))

-- where a slot stands once, what comes after it is what is first of the rest
next_after-split : (slot : ℕ) (xs before after : List ℕ) → often slot xs ≤ 1 → xs ≡ before ++ (slot ∷ after) → next_after slot xs None ≡ first_slot after
next_after-split slot xs before after once is =
    let none : often slot before ≡ 0 = omega (arith, once, ap (often slot) is, often-append slot before (slot ∷ after), one_same slot) in
    ap (λ ys. next_after slot ys None) is
    ∙ next_after-second slot before (slot ∷ after) None none
    ∙ next_after-here slot after None
    ∙ start-first after

module _ {X : Type 0} where
  -- a test counts in the list as often as the slot stands in the tree
  pub count_by-slots : (slot : ℕ) (tree : Tree X) → count_by (λ other. other == slot) (slots tree) ≡ slot_count slot tree
  count_by-slots slot leaf = refl
  count_by-slots slot (node key here children rest) =
      omega (
        arith,
        sum_by-cons (λ other. cond (other == slot) 1 0) here (slots children ++ slots rest),
        sum_by-append (λ other. cond (other == slot) 1 0) (slots children) (slots rest),
        count_by-slots slot children,
        count_by-slots slot rest,
      )

  pub often-slots : (slot : ℕ) (tree : Tree X) → often slot (slots tree) ≡ slot_count slot tree
  often-slots slot leaf = refl
  often-slots slot (node key here children rest) =
      omega (arith, often-append slot (slots children) (slots rest), often-slots slot children, often-slots slot rest)

  beyond-here : (key : X) (slot : ℕ) (children rest : Tree X) (out : Option ℕ) → beyond slot (node key slot children rest) out ≡ out
  beyond-here key slot children rest out =
      ap (λ t. cond t out (cond (ltb 0 (slot_count slot children)) (beyond slot children (start (slots rest) out)) (beyond slot rest out))) (eq-eqb slot slot refl)

  beyond-children : (key : X) (here slot : ℕ) (children rest : Tree X) (out : Option ℕ) → here ≢ slot → 0 < slot_count slot children → beyond slot (node key here children rest) out ≡ beyond slot children (start (slots rest) out)
  beyond-children key here slot children rest out differs some =
      ap (λ t. cond t out (cond (ltb 0 (slot_count slot children)) (beyond slot children (start (slots rest) out)) (beyond slot rest out))) (different here slot differs)
      ∙ ap (λ t. cond t (beyond slot children (start (slots rest) out)) (beyond slot rest out)) (lt-ltb 0 (slot_count slot children) some)

  beyond-rest : (key : X) (here slot : ℕ) (children rest : Tree X) (out : Option ℕ) → here ≢ slot → slot_count slot children ≡ 0 → beyond slot (node key here children rest) out ≡ beyond slot rest out
  beyond-rest key here slot children rest out differs none =
      ap (λ t. cond t out (cond (ltb 0 (slot_count slot children)) (beyond slot children (start (slots rest) out)) (beyond slot rest out))) (different here slot differs)
      ∙ ap (λ n. cond (ltb 0 n) (beyond slot children (start (slots rest) out)) (beyond slot rest out)) none

  -- how far a slot is from the first one
  abbrev pub place : ℕ → Tree X → ℕ
  place slot leaf = 0
  place slot (node key here children rest) =
      cond (here == slot) 0 (1 + cond (ltb 0 (slot_count slot children)) (place slot children) (place slot rest))

  place-here : (key : X) (slot : ℕ) (children rest : Tree X) → place slot (node key slot children rest) ≡ 0
  place-here key slot children rest =
      ap {B = ℕ} (λ t. cond t 0 (1 + cond (ltb 0 (slot_count slot children)) (place slot children) (place slot rest))) (eq-eqb slot slot refl)

  place-children : (key : X) (here slot : ℕ) (children rest : Tree X) → here ≢ slot → 0 < slot_count slot children → place slot (node key here children rest) ≡ 1 + place slot children
  place-children key here slot children rest differs some =
      ap {B = ℕ} (λ t. cond t 0 (1 + cond (ltb 0 (slot_count slot children)) (place slot children) (place slot rest))) (different here slot differs)
      ∙ ap {B = ℕ} (λ t. 1 + cond t (place slot children) (place slot rest)) (lt-ltb 0 (slot_count slot children) some)

  place-rest : (key : X) (here slot : ℕ) (children rest : Tree X) → here ≢ slot → slot_count slot children ≡ 0 → place slot (node key here children rest) ≡ 1 + place slot rest
  place-rest key here slot children rest differs none =
      ap {B = ℕ} (λ t. cond t 0 (1 + cond (ltb 0 (slot_count slot children)) (place slot children) (place slot rest))) (different here slot differs)
      ∙ ap {B = ℕ} (λ n. 1 + cond (ltb 0 n) (place slot children) (place slot rest)) none

module _ {X : Type 0} (keys : ℕ → Option X) (links : ℕ → Links) where
  -- where a tree begins is what its slots start with
  start-joined : (prev at : Option ℕ) (tree : Tree X) (out : Option ℕ) → Joined keys links prev at tree → start (slots tree) out ≡ or_else at out
  start-joined prev at leaf out joined = ap (λ a. or_else a out) (sym joined)
  start-joined prev at (node key slot children rest) out joined = ap (λ a. or_else a out) (sym joined.0)

  -- nothing but what follows the tree comes after its first siblings
  beyond-first : (prev at : Option ℕ) (slot : ℕ) (tree : Tree X) (out : Option ℕ) → Joined keys links prev at tree → at ≡ Some slot → beyond slot tree out ≡ out
  beyond-first prev at slot leaf out joined is = refl
  beyond-first prev at slot (node key here children rest) out joined is =
      let e = sym joined.0 ∙ is in
      let same : here ≡ slot = cc in
      subst (λ (s : ℕ). beyond s (node key here children rest) out ≡ out) same (beyond-here key here children rest out)

  follow_here : (prev at : Option ℕ) (key : X) (here : ℕ) (children rest : Tree X) (out : Option ℕ) → Joined keys links prev at (node key here children rest) → next_after here (slots (node key here children rest)) out ≡ or_else (links here).child (or_else (links here).next (beyond here (node key here children rest) out))
  follow_here prev at key here children rest out joined =
      next_after-here here (slots children ++ slots rest) out
      ∙ start-append (slots children) (slots rest) out
      ∙ start-joined (Some here) (links here).child children (start (slots rest) out) joined.3
      ∙ ap (or_else (links here).child) (start-joined (Some here) (links here).next rest out joined.4 ∙ ap (or_else (links here).next) (sym (beyond-here key here children rest out)))

  -- after a slot comes its first child, or what is next after it, or what is beyond
  pub follow_in : (prev at : Option ℕ) (slot : ℕ) (tree : Tree X) (out : Option ℕ) → Joined keys links prev at tree → 0 < slot_count slot tree → next_after slot (slots tree) out ≡ or_else (links slot).child (or_else (links slot).next (beyond slot tree out))
  follow_in prev at slot leaf out joined some = absurd (omega (arith, some))
  follow_in prev at slot (node key here children rest) out joined some =
      elim (cases_eq here slot) [
        | inl same ↦ subst (λ (s : ℕ). next_after s (slots (node key here children rest)) out ≡ or_else (links s).child (or_else (links s).next (beyond s (node key here children rest) out))) same (follow_here prev at key here children rest out joined)
        | inr differs ↦ next_after-other here slot (slots children ++ slots rest) out differs ∙ elim (none_or_some (slot_count slot children)) [
          | inl none ↦
              next_after-second slot (slots children) (slots rest) out (often-slots slot children ∙ none)
              ∙ follow_in (Some here) (links here).next slot rest out joined.4 (omega (arith, some, none, one_other here slot differs))
              ∙ ap (λ o. or_else (links slot).child (or_else (links slot).next o)) (sym (beyond-rest key here slot children rest out differs none))
          | inr more ↦
              next_after-first slot (slots children) (slots rest) out (omega (arith, more, often-slots slot children))
              ∙ follow_in (Some here) (links here).child slot children (start (slots rest) out) joined.3 more
              ∙ ap (λ o. or_else (links slot).child (or_else (links slot).next o)) (sym (beyond-children key here slot children rest out differs more))
        ]
      ]

  -- a slot comes after another one, as its first child or as what is next after it
  pub record Climbs (tree : Tree X) (out : Option ℕ) (slot pred : ℕ) : Type 0 where
    pub prev_is : (links slot).prev ≡ Some pred
    pub inside : 0 < slot_count pred tree
    pub less : place pred tree < place slot tree
    pub child : (links pred).child ≡ Some slot → beyond slot tree out ≡ or_else (links pred).next (beyond pred tree out)
    pub sibling : (links pred).child ≢ Some slot → beyond slot tree out ≡ beyond pred tree out

  climb_sibling : (prev at : Option ℕ) (key : X) (here slot : ℕ) (children rest : Tree X) (out : Option ℕ) → Joined keys links prev at (node key here children rest) → here ≢ slot → slot_count slot children ≡ 0 → (links here).next ≡ Some slot → Climbs (node key here children rest) out slot here
  climb_sibling prev at key here slot children rest out joined differs none is =
      record {
        prev_is = first_prev (λ _ _. true) keys links slot (Some here) (links here).next rest joined.4 is;
        inside = omega (arith, slot_count-root key here children rest);
        less = omega (arith, place-here key here children rest, place-rest key here slot children rest differs none);
        child = λ first. absurd (omega (arith, none, head_in keys links (Some here) (links here).child children slot joined.3 first));
        sibling = λ not. beyond-rest key here slot children rest out differs none
            ∙ beyond-first (Some here) (links here).next slot rest out joined.4 is
            ∙ sym (beyond-here key here children rest out);
      }

  climb_child : (prev at : Option ℕ) (key : X) (here slot : ℕ) (children rest : Tree X) (out : Option ℕ) → Joined keys links prev at (node key here children rest) → here ≢ slot → 0 < slot_count slot children → (links here).child ≡ Some slot → Climbs (node key here children rest) out slot here
  climb_child prev at key here slot children rest out joined differs more is =
      record {
        prev_is = first_prev (λ _ _. true) keys links slot (Some here) (links here).child children joined.3 is;
        inside = omega (arith, slot_count-root key here children rest);
        less = omega (arith, place-here key here children rest, place-children key here slot children rest differs more);
        child = λ first. beyond-children key here slot children rest out differs more
            ∙ beyond-first (Some here) (links here).child slot children (start (slots rest) out) joined.3 is
            ∙ start-joined (Some here) (links here).next rest out joined.4
            ∙ ap (or_else (links here).next) (sym (beyond-here key here children rest out));
        sibling = λ not. absurd (not is);
      }

  climb_in_rest : (key : X) (here slot pred : ℕ) (children rest : Tree X) (out : Option ℕ) → here ≢ slot → here ≢ pred → slot_count slot children ≡ 0 → slot_count pred children ≡ 0 → Climbs rest out slot pred → Climbs (node key here children rest) out slot pred
  climb_in_rest key here slot pred children rest out differs unlike none no_pred climbs =
      let from = beyond-rest key here slot children rest out differs none in
      let to = sym (beyond-rest key here pred children rest out unlike no_pred) in
      record {
        prev_is = climbs.prev_is;
        inside = omega (arith, climbs.inside);
        less = omega (arith, climbs.less, place-rest key here slot children rest differs none, place-rest key here pred children rest unlike no_pred);
        child = λ is. from ∙ climbs.child is ∙ ap (or_else (links pred).next) to;
        sibling = λ not. from ∙ climbs.sibling not ∙ to;
      }

  climb_in_children : (key : X) (here slot pred : ℕ) (children rest : Tree X) (out : Option ℕ) → here ≢ slot → here ≢ pred → 0 < slot_count slot children → Climbs children (start (slots rest) out) slot pred → Climbs (node key here children rest) out slot pred
  climb_in_children key here slot pred children rest out differs unlike more climbs =
      let from = beyond-children key here slot children rest out differs more in
      let to = sym (beyond-children key here pred children rest out unlike climbs.inside) in
      record {
        prev_is = climbs.prev_is;
        inside = omega (arith, climbs.inside);
        less = omega (arith, climbs.less, place-children key here slot children rest differs more, place-children key here pred children rest unlike climbs.inside);
        child = λ is. from ∙ climbs.child is ∙ ap (or_else (links pred).next) to;
        sibling = λ not. from ∙ climbs.sibling not ∙ to;
      }

  -- each slot of a tree that does not begin with it comes after another one
  pub climb_in : (prev at : Option ℕ) (slot : ℕ) (tree : Tree X) (out : Option ℕ) → ((other : ℕ) → slot_count other tree ≤ 1) → Joined keys links prev at tree → 0 < slot_count slot tree → at ≢ Some slot → (pred : ℕ) × Climbs tree out slot pred
  climb_in prev at slot leaf out once joined some elsewhere = absurd (omega (arith, some))
  climb_in prev at slot (node key here children rest) out once joined some elsewhere =
      let differs : here ≢ slot = λ same. elsewhere (joined.0 ∙ ap (λ (s : ℕ). Some s) same) in
      let root = slot_count-root key here children rest in
      elim (none_or_some (slot_count slot children)) [
        | inl none ↦
            let more : 0 < slot_count slot rest = omega (arith, some, none, one_other here slot differs) in
            elim (names_or_not (links here).next slot) [
              | inl is ↦ (here, climb_sibling prev at key here slot children rest out joined differs none is)
              | inr not ↦
                  let deep = climb_in (Some here) (links here).next slot rest out (λ other. omega (arith, once other)) joined.4 more not in
                  let unlike : here ≢ deep.0 = λ same. omega (arith, root, once here, deep.1.inside, ap (λ s. slot_count s rest) same) in
                  (deep.0, climb_in_rest key here slot deep.0 children rest out differs unlike none (omega (arith, once deep.0, deep.1.inside)) deep.1)
            ]
        | inr more ↦ elim (names_or_not (links here).child slot) [
          | inl is ↦ (here, climb_child prev at key here slot children rest out joined differs more is)
          | inr not ↦
              let deep = climb_in (Some here) (links here).child slot children (start (slots rest) out) (λ other. omega (arith, once other)) joined.3 more not in
              let unlike : here ≢ deep.0 = λ same. omega (arith, root, once here, deep.1.inside, ap (λ s. slot_count s children) same) in
              (deep.0, climb_in_children key here slot deep.0 children rest out differs unlike more deep.1)
        ]
      ]

module _ {V X : Type 0} (k : ℕ) (key_of : V → X) (precedes : X → X → Bool) where
  pub inside_held : (a : Arena V) (root : Option ℕ) (slot : ℕ) → Holds k key_of a root slot → 0 < slot_count slot (tree_at k key_of a root)
  inside_held a root slot held = omega (arith, held, count_by-stands k key_of precedes a root (λ pair. pair.1 == slot))

  pub live_inside : (a : Arena V) (root : Option ℕ) (slot : ℕ) → Stands k key_of precedes a root → 0 < slot_count slot (tree_at k key_of a root) → IsLive a slot
  live_inside a root slot stands inside =
      let keyed = keyed-joined (keys_at key_of a) (links_at a k) None root (tree_at k key_of a root) slot stands.heap.joined inside in
      live_from_key key_of (value_at a slot) keyed.0 keyed.1

  -- the walk goes on as the list of the heap's slots does
  pub next_is : (a : Arena V) (root : Option ℕ) (slot : ℕ) → Stands k key_of precedes a root → Holds k key_of a root slot → (result : Option ℕ) → result ≡ or_else (links_at a k slot).child (or_else (links_at a k slot).next (beyond slot (tree_at k key_of a root) None)) → (before after : List ℕ) → slots_at k key_of a root ≡ before ++ (slot ∷ after) → result ≡ first_slot after
  next_is a root slot stands held result result_is before after is =
      let tree = tree_at k key_of a root in
      result_is
      ∙ sym (follow_in (keys_at key_of a) (links_at a k) None root slot tree None stands.heap.joined (inside_held a root slot held))
      ∙ next_after-split slot (slots tree) before after (omega (arith, stands.heap.once slot, often-slots slot tree)) is

  -- a walk begins with the root
  pub begins : (a : Arena V) (root : Option ℕ) → Stands k key_of precedes a root → first_slot (slots_at k key_of a root) ≡ root
  begins a root stands =
      let tree = tree_at k key_of a root in
      sym (start-first (slots tree)) ∙ start-joined (keys_at key_of a) (links_at a k) None root tree None stands.heap.joined ∙ or_else-alone root

  -- and comes to each slot as often as it stands in the heap
  pub counts : (a : Arena V) (root : Option ℕ) (slot : ℕ) → count_by (λ other. other == slot) (slots_at k key_of a root) ≡ times_of (pairs_at k key_of a root) slot
  counts a root slot = count_by-slots slot (tree_at k key_of a root) ∙ sym (count_by-stands k key_of precedes a root (λ pair. pair.1 == slot))

  -- a walk up from the slot has come to this one, and to what is before it
  pub record Climbing (a : Arena V) (root : Option ℕ) (slot at : ℕ) (before : Option ℕ) : Type 0 where
    pub inside : 0 < slot_count at (tree_at k key_of a root)
    pub prev_is : before ≡ (links_at a k at).prev
    pub same : beyond slot (tree_at k key_of a root) None ≡ beyond at (tree_at k key_of a root) None

  pub Climbing-start : (a : Arena V) (root : Option ℕ) (slot : ℕ) (before : Option ℕ) → Holds k key_of a root slot → before ≡ (links_at a k slot).prev → Climbing a root slot slot before
  Climbing-start a root slot before held is = record { inside = inside_held a root slot held; prev_is = is; same = refl }

  pub climbs_at : (a : Arena V) (root : Option ℕ) (slot at pred : ℕ) (before : Option ℕ) → before ≡ Some pred → Stands k key_of precedes a root → Climbing a root slot at before → Climbs (keys_at key_of a) (links_at a k) (tree_at k key_of a root) None at pred
  climbs_at a root slot at pred before is stands climbing =
      let tree = tree_at k key_of a root in
      let prev = sym climbing.prev_is ∙ is in
      let found = climb_in (keys_at key_of a) (links_at a k) None root at tree None stands.heap.once stands.heap.joined climbing.inside
      (λ first. let e = sym (first_prev precedes (keys_at key_of a) (links_at a k) at None root tree stands.heap.joined first) ∙ prev in cc) in
      let e = sym found.1.prev_is ∙ prev in
      let same : found.0 ≡ pred = cc in
      subst (λ (p : ℕ). Climbs (keys_at key_of a) (links_at a k) tree None at p) same found.1

  -- what comes past the children of the slot before, if this one is their first
  pub record Past (a : Arena V) (at pred : ℕ) (past : Option ℕ) : Type 0 where
    pub child : (links_at a k pred).child ≡ Some at → past ≡ (links_at a k pred).next
    pub sibling : (links_at a k pred).child ≢ Some at → past ≡ None

  pub Past-read : (a : Arena V) (at pred : ℕ) (past : Option ℕ) (above : Links) → above ≡ links_at a k pred → (above.child ≡ Some at → past ≡ above.next) → (above.child ≢ Some at → past ≡ None) → Past a at pred past
  Past-read a at pred past above read child sibling =
      record {
        child = λ first. child (ap (λ l. l.child) read ∙ first) ∙ ap (λ l. l.next) read;
        sibling = λ not. sibling (λ first. not (sym (ap (λ l. l.child) read) ∙ first));
      }

  past_is : (a : Arena V) (root : Option ℕ) (at pred : ℕ) (past : Option ℕ) → Past a at pred past → Climbs (keys_at key_of a) (links_at a k) (tree_at k key_of a root) None at pred → beyond at (tree_at k key_of a root) None ≡ or_else past (beyond pred (tree_at k key_of a root) None)
  past_is a root at pred past is climbs =
      elim (names_or_not (links_at a k pred).child at) [
        | inl first ↦ climbs.child first ∙ ap (λ o. or_else o (beyond pred (tree_at k key_of a root) None)) (sym (is.child first))
        | inr not ↦ climbs.sibling not ∙ ap (λ o. or_else o (beyond pred (tree_at k key_of a root) None)) (sym (is.sibling not))
      ]

  pub Climbing-step : (a : Arena V) (root : Option ℕ) (slot at pred : ℕ) (before later past : Option ℕ) → before ≡ Some pred → Stands k key_of precedes a root → Climbing a root slot at before → Past a at pred past → past ≡ None → later ≡ (links_at a k pred).prev → Climbing a root slot pred later
  Climbing-step a root slot at pred before later past is stands climbing past_at none later_is =
      let climbs = climbs_at a root slot at pred before is stands climbing in
      record {
        inside = climbs.inside;
        prev_is = later_is;
        same = climbing.same ∙ past_is a root at pred past past_at climbs ∙ ap (λ o. or_else o (beyond pred (tree_at k key_of a root) None)) none;
      }

  pub Climbing-found : (a : Arena V) (root : Option ℕ) (slot at pred : ℕ) (before past : Option ℕ) (next : ℕ) → before ≡ Some pred → Stands k key_of precedes a root → Climbing a root slot at before → Past a at pred past → past ≡ Some next → Some next ≡ beyond slot (tree_at k key_of a root) None
  Climbing-found a root slot at pred before past next is stands climbing past_at found =
      let climbs = climbs_at a root slot at pred before is stands climbing in
      sym (climbing.same ∙ past_is a root at pred past past_at climbs ∙ ap (λ o. or_else o (beyond pred (tree_at k key_of a root) None)) found)

  -- where nothing is before it, the walk is at its end
  pub Climbing-end : (a : Arena V) (root : Option ℕ) (slot at : ℕ) (before : Option ℕ) → before ≡ None → Stands k key_of precedes a root → Climbing a root slot at before → ◌≡◌ {A = Option ℕ} None (beyond slot (tree_at k key_of a root) None)
  Climbing-end a root slot at before is stands climbing =
      let tree = tree_at k key_of a root in
      let prev = sym climbing.prev_is ∙ is in
      elim (names_or_not root at) [
        | inl first ↦ sym (climbing.same ∙ beyond-first (keys_at key_of a) (links_at a k) None root at tree None stands.heap.joined first)
        | inr not ↦
            let found = climb_in (keys_at key_of a) (links_at a k) None root at tree None stands.heap.once stands.heap.joined climbing.inside not in
            let e = sym prev ∙ found.1.prev_is in
            absurd (cc)
      ]
