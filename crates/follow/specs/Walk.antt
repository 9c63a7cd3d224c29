-- What the walk takes: for each followed place that is asked for, the rows of its entries, or one
-- row of a byte where places are sought, in the listing's order (01, "Paths" and "The listing").
-- Assumes nothing: these are definitions.
use Rattle.std.specs.Prelude.{ℕ, ◌%◌, Bool, true, false, leb, take, drop}
use mathlib.Core.List.{List, [], ◌∷◌, ◌++◌, map, flat_map}
use Rattle.scope_graph.specs.Order.{end_of}
use Rattle.scope_graph.specs.Path.{HopOf}
use Rattle.scope_graph.specs.Turns.{Turned}
use Rattle.scope_graph.specs.Rows.{any_of}
use Rattle.scope_graph.specs.Computed.{NodeOf}
use Rattle.block.specs.Sets.{places_of}
use Rattle.block.specs.Layout.{LETTER}
use Rattle.block.specs.Block.{hop_of, scopes_cell, declared_part}
use Rattle.block.specs.Ask.{ask_start, ask_name, ask_goal}
use Rattle.search.specs.Board.{hits_from}
use Rattle.search.specs.Tables.{plain_end, table_order, table_board}
use Rattle.search.specs.Conditions.{free_at}
use Rattle.board.specs.Marks.{marks_in}
use Rattle.follow.specs.declared.Task.{Task}
use Rattle.follow.specs.declared.Task.TheVariants.{Entries, Place}
use Rattle.follow.specs.declared.Path.{Path}
use Rattle.follow.specs.declared.Aim.{Aim}
use Rattle.follow.specs.Text.{row_text}
use Rattle.follow.specs.Tally.{Taken, State, take_rows}

-- the hops of the path that a walk holds, `depth` of them and no more than it has places
unfoldable pub path_hops : Path → List (HopOf Turned)
path_hops p = map hop_of (take p.depth p.hops)

-- the labels' letters as bytes
unfoldable pub letter_bytes : List ℕ → List ℕ
letter_bytes block = map (λ x. x % 256) (take 8 (drop LETTER block))

-- the rows of the entries with these marks, by one path that ends at a scope
unfoldable pub entry_rows : List ℕ → ℕ → List (HopOf Turned) → ℕ → List ℕ → List Taken
entry_rows letters start hops at marks =
    map (λ mark. record { at = at; mark = mark; text = row_text letters mark start hops }) marks

-- the row of a place where places are sought; its scope and mark stand for nothing
abbrev pub place_row : Taken
place_row = record { at = 0; mark = 0; text = 0 ∷ [] }

-- with the board's block, the graph table and the ask
module _ (block table ask : List ℕ) where
  -- the marks of the declarations of the name sought at a scope
  unfoldable pub marks_at : ℕ → List ℕ
  marks_at s = marks_in (declared_part block table s) s (ask_name ask)

  -- a place's rows, `hops` being the path up to where it was sought from
  unfoldable pub place_rows : Task → List (HopOf Turned) → NodeOf Turned → List Taken
  place_rows Entries hops n = entry_rows (letter_bytes block) (ask_start ask) (hops ++ n.hops) n.at (marks_at n.at)
  place_rows Place hops n = place_row ∷ []

  -- the followed places of a set of scopes and a set of states where the end is not cut, from a
  -- scope and state on
  unfoldable pub places_from : ℕ → ℕ → ℕ → ℕ → (ℕ → Bool) → ℕ → ℕ → List (NodeOf Turned)
  places_from scopes states e fuel free s q =
      hits_from (table_board block (ask_goal ask)) (table_order block) (places_of scopes states) (plain_end (end_of e)) fuel free s q

  module _ (aim : Aim) where
    -- what the followed places behind a path give, from a scope and state on, with fewer than
    -- `fuel` hops
    unfoldable pub rows_from : List (HopOf Turned) → ℕ → (ℕ → Bool) → ℕ → ℕ → List Taken
    rows_from hops fuel free s q =
        flat_map (place_rows aim.task hops) (places_from aim.scopes aim.states aim.end fuel free s q)

    -- what the whole walk from the query's start takes; nothing where there are more scopes than a
    -- file may have
    unfoldable pub walked : State → State
    walked st =
        elim (leb (scopes_cell block) 64) [
          | true ↦ take_rows aim.bounds st (rows_from [] (scopes_cell block) (free_at (ask_start ask)) (ask_start ask) 0)
          | false ↦ st
        ]

  -- The question: is some place of these scopes and states followed from the query's start, and the
  -- end not cut there?
  unfoldable pub followed_in : ℕ → ℕ → ℕ → Bool
  followed_in scopes states e =
      elim (leb (scopes_cell block) 64) [
        | true ↦ any_of (λ n. true) (places_from scopes states e (scopes_cell block) (free_at (ask_start ask)) (ask_start ask) 0)
        | false ↦ false
      ]
