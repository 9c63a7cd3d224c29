-- The edges' part of the block: what is put there of any edge rows. Assumes nothing: these are
-- definitions.
use Rattle.std.specs.Prelude.{ℕ, zero, suc, ◌+◌, ◌-◌, ◌%◌, ◌≤◌, ◌<◌, ◌≡◌, List, map, length, get_or, take, drop}
use Rattle.std.proofs.Math.Option.{Option, some, none}
use Rattle.scope_graph.specs.Path.{HopOf}
use Rattle.scope_graph.specs.Turns.{Turned}
use Rattle.graph_table.specs.Rows.{row_hops}
use Rattle.block.specs.Layout.{FIRST, EDGE}
use Rattle.block.specs.Block.{first_edge, edge_cell, turn_of, packed_edge, block_hops}
use Rattle.board.specs.Cells.{puts, Only}
use Rattle.board.specs.declared.edges.Put.{Put}

-- how many edges there is room for
abbrev pub ROOM : ℕ
ROOM = 512

-- the turn of an edge row; 0 where there is none
unfoldable pub turn_number : Option ℕ → ℕ
turn_number none = 0
turn_number (some n) = n

-- a hop as a cell
unfoldable pub compact : HopOf Turned → ℕ
compact h = packed_edge (turn_number h.step.turn) h.step.label h.to

-- a hop whose label, turn and scope are cut to what a cell holds; of rows in range it is the hop
-- itself
unfoldable pub narrow : HopOf Turned → HopOf Turned
narrow h =
    record { step = record { label = h.step.label % 8; turn = some (turn_number h.step.turn % 128) }; to = h.to % 64 }

-- the cells for the hops, if k edges are there already: as many as there is room for
unfoldable pub cells_for : ℕ → List (HopOf Turned) → List ℕ
cells_for k hs = take (ROOM - k) (map compact hs)

-- how many rows are found for the scopes below s
unfoldable pub below : List ℕ → ℕ → ℕ
below rows zero = 0
below rows (suc s) = below rows s + length (row_hops rows s)

-- the hops of the scope for which there is room behind those of the scopes below it
unfoldable pub placed : List ℕ → ℕ → List (HopOf Turned)
placed rows s = take (ROOM - below rows s) (map narrow (row_hops rows s))

-- One scope's hops put behind those that are put: what stands in the block then, how many edges
-- there are, the place from which on a later scope's rows are found, and a number that neither the
-- one before nor a cell put is above.
pub record ScopePut (rows : List ℕ) (s : ℕ) (put : Put) (old new : List ℕ) (r : Put) : Type 0 where
  pub cells : new ≡ puts old (EDGE + put.edges) (cells_for put.edges (row_hops (drop put.place rows) s))
  pub count : r.edges ≡ put.edges + length (cells_for put.edges (row_hops (drop put.place rows) s))
  pub on : (u : ℕ) → s < u → row_hops (drop put.place rows) u ≡ row_hops (drop r.place rows) u
  pub more : put.top ≤ r.top
  pub most : (j : ℕ) → put.edges ≤ j → j < r.edges → get_or new (EDGE + j) 0 ≤ r.top

-- what filling the two regions from any rows leaves: no turn of a scope's edges is above `turn`
pub record EdgesPut (rows old new : List ℕ) (turn : ℕ) : Type 0 where
  pub only : Only FIRST 577 old new
  pub hops : (s : ℕ) → s < 64 → block_hops new s ≡ placed rows s
  pub turns : (s p : ℕ) → s < 64 → p < first_edge new (suc s) → turn_of (edge_cell new p) ≤ turn
