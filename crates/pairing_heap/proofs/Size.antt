-- A tree without repetition has no more nodes than there are slots, so a walk as deep as that finds it whole.
use Rattle.std.proofs.Common.{◌≡◌, ◌⊎◌, ℕ, zero, suc, ◌+◌, ◌<◌, ◌≤◌, Bool, true, Option, Some, refl, sym, ap, ◌∙◌, inl, inr, arith}
use Rattle.std.proofs.lemmas.Bool.{cases_eq}
use Rattle.link_arena.specs.declared.arena.Links.{Links}
use Rattle.pairing_heap.specs.Tree.{Tree, leaf, node, tally, slot_count, tree_from, Joined}
use Rattle.pairing_heap.specs.Chain.{IsChain, siblings}
use Rattle.pairing_heap.proofs.Counts.{one, one_same, one_other}

-- how many nodes a tree has
abbrev pub size : {X : Type 0} → Tree X → ℕ
size {X} tree = tally (λ _. true) tree

-- the sum of f over the numbers below n
abbrev sum_below : ℕ → (ℕ → ℕ) → ℕ
sum_below zero f = 0
sum_below (suc n) f = f n + sum_below n f

sum_below-add : (n : ℕ) (f g h : ℕ → ℕ) → sum_below n (λ x. f x + (g x + h x)) ≡ sum_below n f + (sum_below n g + sum_below n h)
sum_below-add zero f g h = refl
sum_below-add (suc n) f g h = omega (arith, sum_below-add n f g h)

sum_below-zero : (n : ℕ) → sum_below n (λ _. 0) ≡ 0
sum_below-zero zero = refl
sum_below-zero (suc n) = omega (arith, sum_below-zero n)

sum_below-one_past : (n slot : ℕ) → n ≤ slot → sum_below n (one slot) ≡ 0
sum_below-one_past zero slot past = refl
sum_below-one_past (suc n) slot past = omega (arith, one_other slot n (λ e. omega arith), sum_below-one_past n slot (omega arith))

sum_below-one : (n slot : ℕ) → slot < n → sum_below n (one slot) ≡ 1
sum_below-one zero slot within = absurd (omega arith)
sum_below-one (suc n) slot within =
    elim (cases_eq slot n) [
      | inl same ↦ omega (arith, ap (one slot) (sym same) ∙ one_same slot, sum_below-one_past n slot (omega arith))
      | inr differs ↦ omega (arith, one_other slot n differs, sum_below-one n slot (omega arith))
    ]

sum_below-most : (n : ℕ) (f : ℕ → ℕ) → ((x : ℕ) → f x ≤ 1) → sum_below n f ≤ n
sum_below-most zero f most = omega arith
sum_below-most (suc n) f most = omega (arith, most n, sum_below-most n f most)

-- a number is 0 or more
pub none_or_some : (n : ℕ) → (n ≡ 0) ⊎ (0 < n)
none_or_some zero = inl refl
none_or_some (suc n) = inr (omega arith)

module _ {X : Type 0} where
  size-sum : (n : ℕ) (tree : Tree X) → ((slot : ℕ) → 0 < slot_count slot tree → slot < n) → sum_below n (λ slot. slot_count slot tree) ≡ size tree
  size-sum n leaf below = sum_below-zero n
  size-sum n (node key slot children rest) below =
      omega (
        arith,
        sum_below-add n (one slot) (λ x. slot_count x children) (λ x. slot_count x rest),
        sum_below-one n slot (below slot (omega (arith, one_same slot))),
        size-sum n children (λ x some. below x (omega arith)),
        size-sum n rest (λ x some. below x (omega arith)),
      )

  -- a tree without repetition has no more nodes than there are slots
  pub size-most : (n : ℕ) (tree : Tree X) → ((slot : ℕ) → slot_count slot tree ≤ 1) → ((slot : ℕ) → 0 < slot_count slot tree → slot < n) → size tree ≤ n
  size-most n tree once below = omega (arith, size-sum n tree below, sum_below-most n (λ slot. slot_count slot tree) once)

  -- roots are nodes
  pub siblings-most : (tree : Tree X) → siblings tree ≤ size tree
  siblings-most leaf = omega arith
  siblings-most (node key slot children rest) = omega (arith, siblings-most rest)

  tree_from-step : (keys : ℕ → Option X) (links : ℕ → Links) (depth slot : ℕ) (key : X) (at : Option ℕ) → at ≡ Some slot → keys slot ≡ Some key → tree_from keys links (suc depth) at ≡ node key slot (tree_from keys links depth (links slot).child) (tree_from keys links depth (links slot).next)
  tree_from-step keys links depth slot key at is keyed = rw is (rw keyed refl)

  -- a walk that is deep enough finds the tree
  pub tree_from-joined : (keys : ℕ → Option X) (links : ℕ → Links) (depth : ℕ) (prev at : Option ℕ) (tree : Tree X) → size tree ≤ depth → Joined keys links prev at tree → tree_from keys links depth at ≡ tree
  tree_from-joined keys links zero prev at leaf deep joined = refl
  tree_from-joined keys links (suc depth) prev at leaf deep joined = rw joined refl
  tree_from-joined keys links zero prev at (node key slot children rest) deep joined = absurd (omega arith)
  tree_from-joined keys links (suc depth) prev at (node key slot children rest) deep joined =
      tree_from-step keys links depth slot key at joined.0 joined.1
      ∙ ap (λ t. node key slot t (tree_from keys links depth (links slot).next)) (tree_from-joined keys links depth (Some slot) (links slot).child children (omega arith) joined.3)
      ∙ ap (λ t. node key slot children t) (tree_from-joined keys links depth (Some slot) (links slot).next rest (omega arith) joined.4)

  -- the same for a chain of roots
  pub tree_from-chain : (precedes : X → X → Bool) (keys : ℕ → Option X) (links : ℕ → Links) (depth : ℕ) (at : Option ℕ) (tree : Tree X) → size tree ≤ depth → IsChain precedes keys links at tree → tree_from keys links depth at ≡ tree
  tree_from-chain precedes keys links zero at leaf deep chain = refl
  tree_from-chain precedes keys links (suc depth) at leaf deep chain = rw chain refl
  tree_from-chain precedes keys links zero at (node key slot children rest) deep chain = absurd (omega arith)
  tree_from-chain precedes keys links (suc depth) at (node key slot children rest) deep chain =
      tree_from-step keys links depth slot key at chain.0 chain.1.keyed
      ∙ ap (λ t. node key slot t (tree_from keys links depth (links slot).next)) (tree_from-joined keys links depth (Some slot) (links slot).child children (omega arith) chain.1.joined)
      ∙ ap (λ t. node key slot children t) (tree_from-chain precedes keys links depth (links slot).next rest (omega arith) chain.2)

  -- each slot of a tree has a key
  pub keyed-joined : (keys : ℕ → Option X) (links : ℕ → Links) (prev at : Option ℕ) (tree : Tree X) (slot : ℕ) → Joined keys links prev at tree → 0 < slot_count slot tree → (key : X) × (keys slot ≡ Some key)
  keyed-joined keys links prev at leaf slot joined some = absurd (omega arith)
  keyed-joined keys links prev at (node key here children rest) slot joined some =
      elim (cases_eq here slot) [
        | inl same ↦ (key, ap keys (sym same) ∙ joined.1)
        | inr differs ↦ elim (none_or_some (slot_count slot children)) [
          | inl none ↦ keyed-joined keys links (Some here) (links here).next rest slot joined.4 (omega (arith, one_other here slot differs))
          | inr more ↦ keyed-joined keys links (Some here) (links here).child children slot joined.3 more
        ]
      ]

  -- each slot of a chain has a key
  pub keyed-chain : (precedes : X → X → Bool) (keys : ℕ → Option X) (links : ℕ → Links) (at : Option ℕ) (tree : Tree X) (slot : ℕ) → IsChain precedes keys links at tree → 0 < slot_count slot tree → (key : X) × (keys slot ≡ Some key)
  keyed-chain precedes keys links at leaf slot chain some = absurd (omega arith)
  keyed-chain precedes keys links at (node key here children rest) slot chain some =
      elim (cases_eq here slot) [
        | inl same ↦ (key, ap keys (sym same) ∙ chain.1.keyed)
        | inr differs ↦ elim (none_or_some (slot_count slot children)) [
          | inl none ↦ keyed-chain precedes keys links (links here).next rest slot chain.2 (omega (arith, one_other here slot differs))
          | inr more ↦ keyed-joined keys links (Some here) (links here).child children slot chain.1.joined more
        ]
      ]
