-- The places that are counted, as the board's tables have them: they are the lawful beginnings (02,
-- K11), which `places` in proofs/Places.antt says. Assumes nothing: these are definitions.
use Rattle.std.specs.Prelude.{ℕ, ◌<◌, Bool, List}
use Rattle.scope_graph.specs.Language.{◌∈◌, End}
use Rattle.scope_graph.specs.Order.{end_of}
use Rattle.scope_graph.specs.Path.{HopOf}
use Rattle.scope_graph.specs.Turns.{Turned}
use Rattle.scope_graph.specs.Computed.{NodeOf}
use Rattle.block.specs.Sets.{has_state}
use Rattle.block.specs.Block.{next_cell, accept_set, scopes_cell, block_hops}
use Rattle.search.specs.Board.{hits_from}
use Rattle.search.specs.Tables.{plain_end, table_order, table_board}
use Rattle.board.specs.Tables.{hopeful_set}

-- the states from which transitions alone lead to an accepting one
unfoldable pub hopes_in : List ℕ → ℕ
hopes_in block = hopeful_set (next_cell block) (accept_set block)

-- The end behind all labels' ends: a file has at most eight labels, so no end is preferred to it,
-- and a place is cut there only if a step on the way to it is.
abbrev pub past_ends : End Turned
past_ends = plain_end (end_of 9)

-- the places that no cut step leads to, in a state from which transitions lead on
unfoldable pub places_behind : List ℕ → ℕ → ℕ → (ℕ → Bool) → ℕ → ℕ → List (NodeOf Turned)
places_behind block goal fuel free s q =
    hits_from (table_board block goal) (table_order block) (λ t r. has_state (hopes_in block) r) past_ends fuel free s q

-- hops lead to scopes of the file
abbrev pub InScopes : List ℕ → Type 0
InScopes block = (s : ℕ) (h : HopOf Turned) → h ∈ block_hops block s → h.to < scopes_cell block
