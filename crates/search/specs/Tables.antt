-- The board that the cells of a block are, and tables of places: a set of states for each of 64
-- scopes. Assumes nothing: these are definitions.
use Rattle.std.specs.Prelude.{ℕ, suc, Bool, true, false, ◌||◌, List, ltb, get_or}
use Rattle.std.proofs.Math.Option.{none}
use Rattle.scope_graph.specs.Language.{End, stop, by}
use Rattle.scope_graph.specs.Turns.{Turned, same_turned, label_end, later_step}
use Rattle.block.specs.Sets.{has_state, places_of}
use Rattle.block.specs.Block.{state_of, next_cell, accept_set, pair_flag, block_hops}
use Rattle.search.specs.Board.{Board}

-- is the place of a scope and a state in a table that has a set of states for each of 64 scopes?
unfoldable pub place_flag : List ℕ → ℕ → ℕ → Bool
place_flag t s q = elim (ltb s 64) [ true ↦ has_state (get_or t s 0) q | false ↦ false ]

-- an end's number: 0 is `$`, n + 1 the label n
unfoldable pub end_number : End ℕ → ℕ
end_number stop = 0
end_number (by l) = suc l

-- an end by its label alone: it has no turn, so no step is later than it
unfoldable pub plain_end : End ℕ → End Turned
plain_end stop = stop
plain_end (by l) = by (record { label = l; turn = none })

-- an end is preferred by the order pairs, or at one label by its turn (02, K12)
unfoldable pub table_order : List ℕ → End Turned → End Turned → Bool
table_order block a c = pair_flag block (end_number (label_end a)) (end_number (label_end c)) || later_step a c

-- the board of a block and the set of scopes that declare the name: what is sought is there, in an
-- accepting state
unfoldable pub table_board : List ℕ → ℕ → Board Turned
table_board block goal = record {
  hops = block_hops block;
  next = λ q t. state_of (next_cell block q t.label);
  here = places_of goal (accept_set block);
  same = same_turned;
}
