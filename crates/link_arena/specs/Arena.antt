-- What a contract sees of an `Arena`: a finite map from slots to values with two link sets, and a number.
use Rattle.std.specs.Prelude.{◌≡◌, ◌≢◌, ℕ, zero, suc, List, Option, Some, None, IsSome, is_some, count_by, slice_index_or, slice_set, refl}
use Rattle.std.specs.Coded.{Coded, code_by, coded×, coded_ℕ, coded_list, coded_option}
use Rattle.link_arena.specs.declared.arena.Links.{Links}

-- a value with its links of set 0 and of set 1
pub record Node (V : Type 0) : Type 0 where
  pub value : V
  pub first : Links
  pub second : Links

-- the node or nothing at each slot from 0 on, and how many values fit with no memory taken
pub record Arena (V : Type 0) : Type 0 where
  pub nodes : List (Option (Node V))
  pub spare : ℕ

-- links are stored as the tuple of their slots
abbrev pub links_code : Coded Links
links_code =
    code_by
    (Option ℕ × (Option ℕ × Option ℕ))
    (coded× (coded_option coded_ℕ) (coded× (coded_option coded_ℕ) (coded_option coded_ℕ)))
    (λ l. (l.child, (l.next, l.prev)))
    (λ p. record { child = p.0; next = p.1.0; prev = p.1.1 })
    (λ _. refl)

-- a node is stored as the tuple of its fields
abbrev pub node_code : {V : Type 0} → Coded V → Coded (Node V)
node_code {V} code =
    code_by
    (V × (Links × Links))
    (coded× code (coded× links_code links_code))
    (λ n. (n.value, (n.first, n.second)))
    (λ p. record { value = p.0; first = p.1.0; second = p.1.1 })
    (λ _. refl)

-- an arena is stored as the pair of its nodes and its spare slots
abbrev pub arena_code : {V : Type 0} → Coded V → Coded (Arena V)
arena_code {V} code =
    code_by
    (List (Option (Node V)) × ℕ)
    (coded× (coded_list (coded_option (node_code code))) coded_ℕ)
    (λ a. (a.nodes, a.spare))
    (λ p. record { nodes = p.0; spare = p.1 })
    (λ _. refl)

-- links that lead nowhere
abbrev pub unlinked : Links
unlinked = record { child = None; next = None; prev = None }

module _ {V : Type 0} where
  -- the links of one set: those of set 0 or 1, and none for other numbers
  abbrev pub links_of : ℕ → Node V → Links
  links_of zero node = node.first
  links_of (suc zero) node = node.second
  links_of (suc (suc _)) node = unlinked

  -- the value of a node, if there is a node
  abbrev pub value_of : Option (Node V) → Option V
  value_of None = None
  value_of (Some node) = Some node.value

  -- the links of a node, if there is a node
  abbrev pub links_in : ℕ → Option (Node V) → Links
  links_in k None = unlinked
  links_in k (Some node) = links_of k node

  -- the node at a slot
  abbrev pub node_at : Arena V → ℕ → Option (Node V)
  node_at a slot = slice_index_or a.nodes slot None

  -- the value at a slot, and nothing where the slot is free
  abbrev pub value_at : Arena V → ℕ → Option V
  value_at a slot = value_of (node_at a slot)

  -- the links of set k at a slot, which lead nowhere where the slot is free
  abbrev pub links_at : Arena V → ℕ → ℕ → Links
  links_at a k slot = links_in k (node_at a slot)

  -- the slot holds a value
  abbrev pub IsLive : Arena V → ℕ → Type 0
  IsLive a slot = IsSome (value_at a slot)

  -- how many slots hold a value
  abbrev pub live_count : Arena V → ℕ
  live_count a = count_by is_some a.nodes

  -- every slot has the same value and the same links
  pub record SameMap (old new : Arena V) : Type 0 where
    pub values : (slot : ℕ) → value_at new slot ≡ value_at old slot
    pub links : (k slot : ℕ) → links_at new k slot ≡ links_at old k slot

  -- every slot but one has the same value and the same links
  pub record SameElsewhere (old new : Arena V) (slot : ℕ) : Type 0 where
    pub values : (other : ℕ) → other ≢ slot → value_at new other ≡ value_at old other
    pub links : (k other : ℕ) → other ≢ slot → links_at new k other ≡ links_at old k other

  -- the slot was free, and has this value and no links; nothing else changes
  pub record Inserts (old new : Arena V) (slot : ℕ) (value : V) : Type 0 where
    pub was_free : value_at old slot ≡ None
    pub stored : value_at new slot ≡ Some value
    pub unlinked : (k : ℕ) → links_at new k slot ≡ unlinked
    pub elsewhere : SameElsewhere old new slot

  -- the slot is free; nothing else changes
  pub record Removes (old new : Arena V) (slot : ℕ) : Type 0 where
    pub free : value_at new slot ≡ None
    pub elsewhere : SameElsewhere old new slot

  -- the slot has these links of set k; no other link and no value changes
  pub record Relinks (old new : Arena V) (k slot : ℕ) (links : Links) : Type 0 where
    pub here : links_at new k slot ≡ links
    pub elsewhere : (other : ℕ) → other ≢ slot → links_at new k other ≡ links_at old k other
    pub other_set : (set other : ℕ) → set ≢ k → links_at new set other ≡ links_at old set other
    pub values : (other : ℕ) → value_at new other ≡ value_at old other

  -- the slot has this value; no other value and no link changes
  pub record Revalues (old new : Arena V) (slot : ℕ) (value : V) : Type 0 where
    pub here : value_at new slot ≡ Some value
    pub elsewhere : (other : ℕ) → other ≢ slot → value_at new other ≡ value_at old other
    pub links : (k other : ℕ) → links_at new k other ≡ links_at old k other

  -- the node with another value
  abbrev pub node_with_value : V → Option (Node V) → Option (Node V)
  node_with_value value None = None
  node_with_value value (Some node) = Some (record node { value = value })

  -- the arena after a write through `get_mut(slot)`
  abbrev pub with_value : Arena V → ℕ → V → Arena V
  with_value a slot value =
      record a { nodes = slice_set a.nodes slot (node_with_value value (node_at a slot)) }
