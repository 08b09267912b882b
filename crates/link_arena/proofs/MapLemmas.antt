-- What the map of an arena becomes under each of its steps.
use Rattle.std.proofs.Common.{◌≡◌, ◌≢◌, ℕ, zero, suc, ◌<◌, List, length, get_or, set, Option, Some, None, is_some, IsSome, refl, sym, ap, ◌∙◌, inl, inr, arith}
use Rattle.std.proofs.lemmas.Bool.{cases_eq, cases_lt}
use Rattle.std.proofs.lemmas.List.{get_or-set_other, get_or-set_same, get_or_default, get_or_past}
use Rattle.slab.specs.Slab.{Slab, get, with_value, Updates}
use Rattle.slab.proofs.SlabLemmas.{Updates-with_value}
use Rattle.link_arena.specs.declared.arena.Cell.{Cell}
use Rattle.link_arena.specs.declared.arena.Links.{Links}
use Rattle.link_arena.specs.Arena.{Arena, Node, unlinked, value_of, links_of, links_in, node_at, value_at, links_at, IsLive, SameMap, SameElsewhere, Inserts, Removes, Relinks, Revalues, node_with_value, with_value as arena_with_value}
use Rattle.link_arena.specs.Sound.{node_of, nodes_of, cell_links, cell_with_links}
use Rattle.link_arena.proofs.NodeLemmas.{node_of-nothing, get_or-nodes_of, nodes_of-set, from_some, within_from_some}

-- a cell without links
abbrev empty_cell : Cell
empty_cell = record { first = unlinked; second = unlinked }

-- a slab that got more room and then a cell at its vacant key got that cell alone
pub Updates-added : (s m t : Slab Cell) (key given : ℕ) (slot : Option Cell) → m ≡ record s { capacity = m.capacity } → Updates m t given slot → given ≡ m.vacant_key → key ≡ s.vacant_key → Updates s t key slot
Updates-added s m t key given slot kept updates gives key_is =
    let same : given ≡ key = gives ∙ ap (λ x. x.vacant_key) kept ∙ sym key_is in
    record {
      changed = ap (get t) (sym same) ∙ updates.changed;
      others = λ other differs.
          updates.others other (λ equal. differs (equal ∙ same)) ∙ ap (λ x. get x other) kept;
    }

module _ {V : Type 0} where
  -- the arena with these cells and values
  abbrev pub seen : Slab Cell → List (Option V) → ℕ → Arena V
  seen s values spare = record { nodes = nodes_of s.slots values; spare = spare }

  -- each value has a cell
  abbrev pub Linked : Slab Cell → List (Option V) → Type 0
  Linked s values = (key : ℕ) → IsSome (get_or values key None) → IsSome (get s key)

  node_at-seen : (s : Slab Cell) (values : List (Option V)) (n key : ℕ) → node_at (seen s values n) key ≡ node_of (get s key) (get_or values key None)
  node_at-seen s values n key = get_or-nodes_of s.slots values key

  value_of-node_of : (cell : Option Cell) (value : Option V) → (IsSome value → IsSome cell) → value_of (node_of cell value) ≡ value
  value_of-node_of None None linked = refl
  value_of-node_of None (Some v) linked = let e = linked refl in cc
  value_of-node_of (Some cell) None linked = refl
  value_of-node_of (Some cell) (Some v) linked = refl

  -- the value at a slot is that in the list
  pub value_at-seen : (s : Slab Cell) (values : List (Option V)) (n key : ℕ) → Linked s values → value_at (seen s values n) key ≡ get_or values key None
  value_at-seen s values n key linked =
      ap value_of (node_at-seen s values n key) ∙ value_of-node_of (get s key) (get_or values key None) (linked key)

  -- the same of an arena that is seen so
  pub value_is : (a : Arena V) (s : Slab Cell) (values : List (Option V)) (n key : ℕ) → seen s values n ≡ a → Linked s values → value_at a key ≡ get_or values key None
  value_is a s values n key view linked = ap (λ b. value_at b key) (sym view) ∙ value_at-seen s values n key linked

  -- a live slot has a value, a place in the list and a cell
  pub record Found (s : Slab Cell) (values : List (Option V)) (key : ℕ) : Type 0 where
    pub value : V
    pub cell : Cell
    pub stored : get_or values key None ≡ Some value
    pub linked : get s key ≡ Some cell
    pub within : key < length values

  pub found : (a : Arena V) (s : Slab Cell) (values : List (Option V)) (n key : ℕ) → seen s values n ≡ a → Linked s values → IsLive a key → Found s values key
  found a s values n key view linked live =
      let some : IsSome (get_or values key None) = ap is_some (sym (value_is a s values n key view linked)) ∙ live in
      let value = from_some (get_or values key None) some in
      let cell = from_some (get s key) (linked key some) in
      record {
        value = value.0;
        cell = cell.0;
        stored = value.1;
        linked = cell.1;
        within = within_from_some values key value.0 value.1;
      }

  node_at-same : (s t : Slab Cell) (old new : List (Option V)) (m n key : ℕ) → get t key ≡ get s key → get_or new key None ≡ get_or old key None → node_at (seen t new n) key ≡ node_at (seen s old m) key
  node_at-same s t old new m n key same_cell same_value =
      node_at-seen t new n key
      ∙ ap (λ cell. node_of cell (get_or new key None)) same_cell
      ∙ ap (λ value. node_of (get s key) value) same_value
      ∙ sym (node_at-seen s old m key)

  elsewhere : (s t : Slab Cell) (old new : List (Option V)) (m n key : ℕ) → ((other : ℕ) → other ≢ key → get t other ≡ get s other) → ((other : ℕ) → other ≢ key → get_or new other None ≡ get_or old other None) → SameElsewhere (seen s old m) (seen t new n) key
  elsewhere s t old new m n key cells values =
      record {
        values = λ other differs. ap value_of (node_at-same s t old new m n other (cells other differs) (values other differs));
        links = λ k other differs. ap (links_in k) (node_at-same s t old new m n other (cells other differs) (values other differs));
      }

  links_in-empty : (k : ℕ) (v : V) → links_in k (node_of (Some empty_cell) (Some v)) ≡ unlinked
  links_in-empty zero v = refl
  links_in-empty (suc zero) v = refl
  links_in-empty (suc (suc _)) v = refl

  -- a value without links goes into a free slot
  pub Inserts-set : (s : Slab Cell) (values : List (Option V)) (m n key : ℕ) (v : V) → Linked s values → IsSome (get s key) → get_or values key None ≡ None → key < length values → Inserts (seen s values m) (seen (with_value s key empty_cell) (set values key (Some v)) n) key v
  Inserts-set s values m n key v linked present was within =
      let updates = Updates-with_value s key empty_cell present in
      let node : node_at (seen (with_value s key empty_cell) (set values key (Some v)) n) key ≡ node_of (Some empty_cell) (Some v) =
      node_at-seen (with_value s key empty_cell) (set values key (Some v)) n key
      ∙ ap (λ cell. node_of cell (get_or (set values key (Some v)) key None)) updates.changed
      ∙ ap (λ value. node_of (Some empty_cell) value) (get_or-set_same values key (Some v) None within) in
      record {
        was_free = value_at-seen s values m key linked ∙ was;
        stored = ap value_of node;
        unlinked = λ k. ap (links_in k) node ∙ links_in-empty k v;
        elsewhere = elsewhere s (with_value s key empty_cell) values (set values key (Some v)) m n key updates.others (λ other differs. get_or-set_other values key other (Some v) None differs);
      }

  -- a value goes out of its slot
  pub Removes-set : (s : Slab Cell) (values : List (Option V)) (m n key : ℕ) → key < length values → Removes (seen s values m) (seen s (set values key None) n) key
  Removes-set s values m n key within =
      record {
        free = ap value_of (node_at-seen s (set values key None) n key
            ∙ ap (λ value. node_of (get s key) value) (get_or-set_same values key None None within)
            ∙ node_of-nothing (get s key));
        elsewhere = elsewhere s s values (set values key None) m n key (λ other differs. refl) (λ other differs. get_or-set_other values key other None None differs);
      }

  -- what is read at a live slot, whatever stands for a value past the end
  pub read : (s : Slab Cell) (values : List (Option V)) (key : ℕ) (here : Found s values key) (o : Option V) → o ≡ get_or values key o → o ≡ Some here.value
  read s values key here o is = is ∙ get_or_default values key o None here.within ∙ here.stored

  -- the links that are read at a live slot
  pub links_is : (a : Arena V) (s : Slab Cell) (values : List (Option V)) (n k key : ℕ) (cell : Cell) → seen s values n ≡ a → (here : Found s values key) → get s key ≡ Some cell → links_at a k key ≡ links_of k record { value = here.value; first = cell.first; second = cell.second }
  links_is a s values n k key cell view here found =
      ap (λ b. links_at b k key) (sym view)
      ∙ ap (links_in k) (node_at-seen s values n key
      ∙ ap (λ c. node_of c (get_or values key None)) found
      ∙ ap (λ value. node_of (Some cell) value) here.stored)

  links_of-cell : (k : ℕ) (v : V) (cell : Cell) → k < 2 → links_of k record { value = v; first = cell.first; second = cell.second } ≡ cell_links k cell
  links_of-cell zero v cell small = refl
  links_of-cell (suc zero) v cell small = refl
  links_of-cell (suc (suc k)) v cell small = absurd (omega arith)

  -- the links at a live slot are those of its cell
  pub cell_links_is : (a : Arena V) (s : Slab Cell) (values : List (Option V)) (n k key : ℕ) (cell : Cell) → seen s values n ≡ a → (here : Found s values key) → get s key ≡ Some cell → k < 2 → links_at a k key ≡ cell_links k cell
  cell_links_is a s values n k key cell view here found small = links_is a s values n k key cell view here found ∙ links_of-cell k here.value cell small

  -- a slot is added, which is free
  pub SameMap-added : (s t : Slab Cell) (old new : List (Option V)) (m n key : ℕ) (cell : Cell) → Linked s old → get s key ≡ None → Updates s t key (Some cell) → ((k : ℕ) → get_or new k None ≡ get_or old k None) → SameMap (seen s old m) (seen t new n)
  SameMap-added s t old new m n key cell linked vacant updates same =
      let free : get_or old key None ≡ None = unlinked_value (get_or old key None) (get s key) (linked key) vacant in
      let node : (other : ℕ) → node_at (seen t new n) other ≡ node_at (seen s old m) other =
      λ other. elim (cases_eq other key) [
        | inl equal ↦
            ap (node_at (seen t new n)) equal
            ∙ node_at-seen t new n key
            ∙ ap (λ value. node_of (get t key) value) (same key ∙ free)
            ∙ node_of-nothing (get t key)
            ∙ sym (ap (node_at (seen s old m)) equal
            ∙ node_at-seen s old m key
            ∙ ap (λ value. node_of (get s key) value) free
            ∙ node_of-nothing (get s key))
        | inr differs ↦ node_at-same s t old new m n other (updates.others other differs) (same other)
      ] in
      record { values = λ slot. ap value_of (node slot); links = λ k slot. ap (links_in k) (node slot) }
    where
      unlinked_value : (value : Option V) (cell : Option Cell) → (IsSome value → IsSome cell) → cell ≡ None → value ≡ None
      unlinked_value None cell linked vacant = refl
      unlinked_value (Some v) cell linked vacant = let e = ap is_some (sym vacant) ∙ linked refl in cc

  links_in-written : (k : ℕ) (l : Links) (old : Cell) (v : V) → k < 2 → links_in k (node_of (Some (cell_with_links k l old)) (Some v)) ≡ l
  links_in-written zero l old v small = refl
  links_in-written (suc zero) l old v small = refl
  links_in-written (suc (suc k)) l old v small = absurd (omega arith)

  links_in-kept : (k set : ℕ) (l : Links) (old : Cell) (v : V) → k < 2 → set ≢ k → links_in set (node_of (Some (cell_with_links k l old)) (Some v)) ≡ links_in set (node_of (Some old) (Some v))
  links_in-kept zero zero l old v small differs = absurd (differs refl)
  links_in-kept zero (suc zero) l old v small differs = refl
  links_in-kept zero (suc (suc _)) l old v small differs = refl
  links_in-kept (suc zero) zero l old v small differs = refl
  links_in-kept (suc zero) (suc zero) l old v small differs = absurd (differs refl)
  links_in-kept (suc zero) (suc (suc _)) l old v small differs = refl
  links_in-kept (suc (suc k)) set l old v small differs = absurd (omega arith)

  -- links are written at a slot that has a value
  pub Relinks-set : (s : Slab Cell) (values : List (Option V)) (m n k key : ℕ) (l : Links) (old : Cell) (v : V) → k < 2 → get s key ≡ Some old → get_or values key None ≡ Some v → Relinks (seen s values m) (seen (with_value s key (cell_with_links k l old)) values n) k key l
  Relinks-set s values m n k key l old v small linked stored =
      let cell = cell_with_links k l old in
      let later = with_value s key cell in
      let updates = Updates-with_value s key cell (ap is_some linked) in
      let node : node_at (seen later values n) key ≡ node_of (Some cell) (Some v) =
      node_at-seen later values n key
      ∙ ap (λ c. node_of c (get_or values key None)) updates.changed
      ∙ ap (λ value. node_of (Some cell) value) stored in
      let before : node_at (seen s values m) key ≡ node_of (Some old) (Some v) =
      node_at-seen s values m key
      ∙ ap (λ c. node_of c (get_or values key None)) linked
      ∙ ap (λ value. node_of (Some old) value) stored in
      let beside : (other : ℕ) → other ≢ key → node_at (seen later values n) other ≡ node_at (seen s values m) other =
      λ other differs. node_at-same s later values values m n other (updates.others other differs) refl in
      record {
        here = ap (links_in k) node ∙ links_in-written k l old v small;
        elsewhere = λ other differs. ap (links_in k) (beside other differs);
        other_set = λ set other differs. elim (cases_eq other key) [
          | inl same ↦
              ap (λ o. links_at (seen later values n) set o) same
              ∙ ap (links_in set) node
              ∙ links_in-kept k set l old v small differs
              ∙ sym (ap (λ o. links_at (seen s values m) set o) same ∙ ap (links_in set) before)
          | inr elsewhere ↦ ap (links_in set) (beside other elsewhere)
        ];
        values = λ other. elim (cases_eq other key) [
          | inl same ↦
              ap (value_at (seen later values n)) same
              ∙ ap value_of node
              ∙ sym (ap (value_at (seen s values m)) same ∙ ap value_of before)
          | inr elsewhere ↦ ap value_of (beside other elsewhere)
        ];
      }

  -- another value in the list is another value in its node
  pub seen-with_value : (s : Slab Cell) (values : List (Option V)) (n key : ℕ) (w : V) → Found s values key → seen s (set values key (Some w)) n ≡ arena_with_value (seen s values n) key w
  seen-with_value s values n key w here =
      let before : node_at (seen s values n) key ≡ node_of (Some here.cell) (Some here.value) =
      node_at-seen s values n key
      ∙ ap (λ c. node_of c (get_or values key None)) here.linked
      ∙ ap (λ value. node_of (Some here.cell) value) here.stored in
      let node : node_of (get s key) (Some w) ≡ node_with_value w (node_at (seen s values n) key) =
      ap (λ c. node_of c (Some w)) here.linked ∙ sym (ap (node_with_value w) before) in
      let nodes = nodes_of-set s.slots values key (Some w) ∙ ap (λ o. set (nodes_of s.slots values) key o) node in
      ap (λ (xs : List (Option (Node V))). record { nodes = xs; spare = n }) nodes

  within_from_live : (a : Arena V) (slot : ℕ) → IsLive a slot → slot < length a.nodes
  within_from_live a slot live =
      elim (cases_lt slot (length a.nodes)) [
        | inl within ↦ within
        | inr past ↦ let none = ap (λ o. is_some (value_of o)) (get_or_past a.nodes slot None past) in absurd (cc)
      ]

  node_at-with_value : (a : Arena V) (slot : ℕ) (w : V) → IsLive a slot → node_at (arena_with_value a slot w) slot ≡ node_with_value w (node_at a slot)
  node_at-with_value a slot w live = get_or-set_same a.nodes slot (node_with_value w (node_at a slot)) None (within_from_live a slot live)

  node_at-beside : (a : Arena V) (slot other : ℕ) (w : V) → other ≢ slot → node_at (arena_with_value a slot w) other ≡ node_at a other
  node_at-beside a slot other w differs = get_or-set_other a.nodes slot other (node_with_value w (node_at a slot)) None differs

  value_of-with_value : (w : V) (o : Option (Node V)) → IsSome (value_of o) → value_of (node_with_value w o) ≡ Some w
  value_of-with_value w None live = cc
  value_of-with_value w (Some node) live = refl

  links_in-with_value : (k : ℕ) (w : V) (o : Option (Node V)) → links_in k (node_with_value w o) ≡ links_in k o
  links_in-with_value k w None = refl
  links_in-with_value zero w (Some node) = refl
  links_in-with_value (suc zero) w (Some node) = refl
  links_in-with_value (suc (suc _)) w (Some node) = refl

  -- a write of a value to a live slot changes that value alone
  pub Revalues-with_value : (a : Arena V) (slot : ℕ) (w : V) → IsLive a slot → Revalues a (arena_with_value a slot w) slot w
  Revalues-with_value a slot w live =
      record {
        here = ap value_of (node_at-with_value a slot w live) ∙ value_of-with_value w (node_at a slot) live;
        elsewhere = λ other differs. ap value_of (node_at-beside a slot other w differs);
        links = λ k other. elim (cases_eq other slot) [
          | inl same ↦
              ap (λ o. links_at (arena_with_value a slot w) k o) same
              ∙ ap (links_in k) (node_at-with_value a slot w live)
              ∙ links_in-with_value k w (node_at a slot)
              ∙ sym (ap (λ o. links_at a k o) same)
          | inr differs ↦ ap (links_in k) (node_at-beside a slot other w differs)
        ];
      }
