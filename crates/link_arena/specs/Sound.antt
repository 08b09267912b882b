-- How an `Arena` keeps its slots. No public clause cites this module.
use Rattle.std.specs.Prelude.{◌≡◌, ◌≢◌, ℕ, zero, suc, ◌+◌, ◌<◌, ◌≤◌, ◌^◌, List, [], ◌∷◌, length, Option, Some, None, IsSome, is_some, count_by, slice_index, slice_index_or}
use Rattle.slab.specs.Slab.{Slab, get, slab_len}
use Rattle.link_arena.specs.Arena.{Node}
use Rattle.link_arena.specs.declared.arena.Cell.{Cell}
use Rattle.link_arena.specs.declared.arena.Links.{Links}

-- the links of a cell in set 0, or else in set 1
abbrev pub cell_links : ℕ → Cell → Links
cell_links zero cell = cell.first
cell_links (suc _) cell = cell.second

-- the cell with other links in set 0, or else in set 1
abbrev pub cell_with_links : ℕ → Links → Cell → Cell
cell_with_links zero links cell = record cell { first = links }
cell_with_links (suc _) links cell = record cell { second = links }

module _ {V : Type 0} where
  -- the node of a value with its cell
  abbrev pub node_of : Option Cell → Option V → Option (Node V)
  node_of None value = None
  node_of (Some cell) None = None
  node_of (Some cell) (Some value) = Some (record { value = value; first = cell.first; second = cell.second })

  -- the nodes of cells and values that stand side by side
  abbrev pub nodes_of : List (Option Cell) → List (Option V) → List (Option (Node V))
  nodes_of [] values = []
  nodes_of (cell ∷ cells) [] = []
  nodes_of (cell ∷ cells) (value ∷ values) = node_of cell value ∷ nodes_of cells values

  -- each value has a cell, and the list has each cell's number that has no value once, with room for every cell
  pub record IsSound (cells : Slab Cell) (values : List (Option V)) (free : List ℕ) (capacity : ℕ) : Type 0 where
    pub counted : count_by is_some values + length free ≡ slab_len cells
    pub room : slab_len cells ≤ capacity
    pub placed : (key : ℕ) → IsSome (get cells key) → key < length values
    pub linked : (key : ℕ) → IsSome (slice_index_or values key None) → IsSome (get cells key)
    pub waiting : (k : ℕ) → k < length free → IsSome (get cells (slice_index free k))
    pub vacant : (k : ℕ) → k < length free → slice_index_or values (slice_index free k) None ≡ None
    pub apart : (j k : ℕ) → j < k → k < length free → slice_index free j ≢ slice_index free k
    pub small : (key : ℕ) → IsSome (get cells key) → key < 2 ^ 32
