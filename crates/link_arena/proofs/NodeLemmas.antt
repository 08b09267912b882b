-- Lists of cells and values side by side, and how many of their elements are something.
use Rattle.std.proofs.Common.{◌≡◌, ℕ, zero, suc, ◌+◌, ◌<◌, cond, true, false, ◌≢◌, List, [], ◌∷◌, ◌++◌, length, get_or, set, Option, Some, None, IsSome, is_some, count_by, refl, sym, ap, ◌∙◌, arith, add-zero}
use Rattle.std.proofs.lemmas.List.{get_or_past, get_or-append-add}
use Rattle.std.proofs.lemmas.List.Sums.{sum_by-cons, sum_by-set}
use Rattle.link_arena.specs.Arena.{Node}
use Rattle.link_arena.specs.Sound.{node_of, nodes_of}
use Rattle.link_arena.specs.declared.arena.Cell.{Cell}

-- the element that a list ends with
pub last_of : {X : Type 0} (items rest : List X) (last d : X) → items ≡ rest ++ last ∷ [] → get_or items (length rest) d ≡ last
last_of items rest last d is =
    ap (λ xs. get_or xs (length rest) d) is
    ∙ ap (λ k. get_or (rest ++ last ∷ []) k d) (sym (add-zero (length rest)))
    ∙ get_or-append-add rest (last ∷ []) 0 d

module _ {X : Type 0} where
  count_by-first : (x : Option X) (xs : List (Option X)) → count_by is_some (x ∷ xs) ≡ cond (is_some x) 1 0 + count_by is_some xs
  count_by-first x xs = sum_by-cons (λ o. cond (is_some {T = X} o) 1 0) x xs

  -- lists with something at the same indices have as many elements that are something
  pub count_by-alike : (xs ys : List (Option X)) → ((k : ℕ) → is_some (get_or ys k None) ≡ is_some (get_or xs k None)) → count_by is_some ys ≡ count_by is_some xs
  count_by-alike [] [] alike = refl
  count_by-alike [] (y ∷ ys) alike =
      omega (arith, count_by-first y ys, ap {B = ℕ} (λ b. cond b 1 0) (alike 0), count_by-alike [] ys (λ k. alike (suc k)))
  count_by-alike (x ∷ xs) [] alike =
      omega (arith, count_by-first x xs, ap {B = ℕ} (λ b. cond b 1 0) (alike 0), count_by-alike xs [] (λ k. alike (suc k)))
  count_by-alike (x ∷ xs) (y ∷ ys) alike =
      omega (arith, count_by-first x xs, count_by-first y ys, ap {B = ℕ} (λ b. cond b 1 0) (alike 0), count_by-alike xs ys (λ k. alike (suc k)))

  -- one more is something where that is so at one index alone
  pub count_by-one_more : (xs ys : List (Option X)) (i : ℕ) → is_some (get_or ys i None) ≡ true → is_some (get_or xs i None) ≡ false → ((k : ℕ) → k ≢ i → is_some (get_or ys k None) ≡ is_some (get_or xs k None)) → count_by is_some ys ≡ count_by is_some xs + 1
  count_by-one_more [] [] i some none alike = absurd (cc)
  count_by-one_more [] (y ∷ ys) zero some none alike =
      omega (arith, count_by-first y ys, ap {B = ℕ} (λ b. cond b 1 0) some, count_by-alike [] ys (λ k. alike (suc k) (λ e. omega arith)))
  count_by-one_more [] (y ∷ ys) (suc i) some none alike =
      omega (arith, count_by-first y ys, ap {B = ℕ} (λ b. cond b 1 0) (alike 0 (λ e. omega arith)), count_by-one_more [] ys i some none (λ k differs. alike (suc k) (λ e. differs (omega arith))))
  count_by-one_more (x ∷ xs) [] i some none alike = absurd (cc)
  count_by-one_more (x ∷ xs) (y ∷ ys) zero some none alike =
      omega (arith, count_by-first x xs, count_by-first y ys, ap {B = ℕ} (λ b. cond b 1 0) some, ap {B = ℕ} (λ b. cond b 1 0) none, count_by-alike xs ys (λ k. alike (suc k) (λ e. omega arith)))
  count_by-one_more (x ∷ xs) (y ∷ ys) (suc i) some none alike =
      omega (arith, count_by-first x xs, count_by-first y ys, ap {B = ℕ} (λ b. cond b 1 0) (alike 0 (λ e. omega arith)), count_by-one_more xs ys i some none (λ k differs. alike (suc k) (λ e. differs (omega arith))))

  -- lists that agree at every index have as many elements that are something
  pub count_by-same : (xs ys : List (Option X)) → ((k : ℕ) → get_or ys k None ≡ get_or xs k None) → count_by is_some ys ≡ count_by is_some xs
  count_by-same xs ys same = count_by-alike xs ys (λ k. ap is_some (same k))

  -- one more is something where an element that was nothing becomes something
  pub count_by-set_more : (xs : List (Option X)) (i : ℕ) (y : X) → i < length xs → get_or xs i None ≡ None → count_by is_some (set xs i (Some y)) ≡ count_by is_some xs + 1
  count_by-set_more xs i y within was =
      omega (arith, sum_by-set (λ o. cond (is_some {T = X} o) 1 0) xs i (Some y) None within, ap {B = ℕ} (λ o. cond (is_some {T = X} o) 1 0) was)

  -- one less is something where an element that was something becomes nothing
  pub count_by-set_less : (xs : List (Option X)) (i : ℕ) (x : X) → i < length xs → get_or xs i None ≡ Some x → count_by is_some (set xs i None) + 1 ≡ count_by is_some xs
  count_by-set_less xs i x within was =
      omega (arith, sum_by-set (λ o. cond (is_some {T = X} o) 1 0) xs i None None within, ap {B = ℕ} (λ o. cond (is_some {T = X} o) 1 0) was)

  -- as many are something where something takes the place of something
  pub count_by-set_same : (xs : List (Option X)) (i : ℕ) (x y : X) → i < length xs → get_or xs i None ≡ Some x → count_by is_some (set xs i (Some y)) ≡ count_by is_some xs
  count_by-set_same xs i x y within was =
      omega (arith, sum_by-set (λ o. cond (is_some {T = X} o) 1 0) xs i (Some y) None within, ap {B = ℕ} (λ o. cond (is_some {T = X} o) 1 0) was)

  -- an index at which something stands is within the list
  pub within_from_some : (xs : List (Option X)) (i : ℕ) (x : X) → get_or xs i None ≡ Some x → i < length xs
  within_from_some xs i x found = grind (arith, get_or_past)

  -- what is something is the something that it is
  pub from_some : (o : Option X) → IsSome o → (x : X) × (o ≡ Some x)
  from_some None some = cc
  from_some (Some x) some = (x, refl)

module _ {V : Type 0} where
  -- no value is no node
  pub node_of-nothing : (cell : Option Cell) → node_of {V = V} cell None ≡ None
  node_of-nothing None = refl
  node_of-nothing (Some cell) = refl

  -- the node at an index is that of the cell and the value there
  pub get_or-nodes_of : (cells : List (Option Cell)) (values : List (Option V)) (k : ℕ) → get_or (nodes_of cells values) k None ≡ node_of (get_or cells k None) (get_or values k None)
  get_or-nodes_of [] values k = refl
  get_or-nodes_of (cell ∷ cells) [] k = sym (node_of-nothing (get_or (cell ∷ cells) k None))
  get_or-nodes_of (cell ∷ cells) (value ∷ values) zero = refl
  get_or-nodes_of (cell ∷ cells) (value ∷ values) (suc k) = get_or-nodes_of cells values k

  -- another value is another node
  pub nodes_of-set : (cells : List (Option Cell)) (values : List (Option V)) (k : ℕ) (value : Option V) → nodes_of cells (set values k value) ≡ set (nodes_of cells values) k (node_of (get_or cells k None) value)
  nodes_of-set [] values k value = refl
  nodes_of-set (cell ∷ cells) [] k value = refl
  nodes_of-set (cell ∷ cells) (old ∷ values) zero value = refl
  nodes_of-set (cell ∷ cells) (old ∷ values) (suc k) value = ap (λ xs. node_of cell old ∷ xs) (nodes_of-set cells values k value)

  -- where each value has a cell, as many are nodes as are values
  pub count_by-nodes_of : (cells : List (Option Cell)) (values : List (Option V)) → ((k : ℕ) → IsSome (get_or values k None) → IsSome (get_or cells k None)) → count_by is_some (nodes_of cells values) ≡ count_by is_some values
  count_by-nodes_of [] values linked =
      sym (count_by-same [] values (λ k. no_value (get_or values k None) (linked k)))
    where
      no_value : (value : Option V) → (IsSome value → IsSome {T = Cell} None) → value ≡ None
      no_value None linked = refl
      no_value (Some v) linked = let e = linked refl in cc
  count_by-nodes_of (cell ∷ cells) [] linked = refl
  count_by-nodes_of (cell ∷ cells) (value ∷ values) linked =
      let rest = count_by-nodes_of cells values (λ k. linked (suc k)) in
      let head = some_node cell value (linked 0) in
      omega (
        arith,
        rest,
        ap {B = ℕ} (λ b. cond b 1 0) head,
        sum_by-cons (λ o. cond (is_some {T = Node V} o) 1 0) (node_of cell value) (nodes_of cells values),
        sum_by-cons (λ o. cond (is_some {T = V} o) 1 0) value values,
      )
    where
      some_node : (cell : Option Cell) (value : Option V) → (IsSome value → IsSome cell) → is_some (node_of cell value) ≡ is_some value
      some_node None None linked = refl
      some_node None (Some v) linked = let e = linked refl in cc
      some_node (Some cell) None linked = refl
      some_node (Some cell) (Some v) linked = refl
