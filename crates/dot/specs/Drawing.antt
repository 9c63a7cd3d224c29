-- A scope graph drawn in the DOT language (02, K14): the lines, the drawing of a table, and that of
-- a gym file. Assumes nothing: these are definitions.
use Rattle.std.specs.Prelude.{ℕ, Bool, true, false, get_or}
use mathlib.Core.List.{List, [], ◌∷◌, ◌++◌, map, flat_map}
use Rattle.scope_graph.specs.Readers.{numbers_below}
use Rattle.text_field.specs.Number.{number_text}
use Rattle.text_field.specs.Outcome.{Outcome, done, and_then}
use Rattle.graph_rows.specs.Format.{edge_section}
use Rattle.graph_rows.specs.Admission.{Row, value}
use Rattle.graph_rows.specs.Decode.{rows_in, letters_of, scopes_of}
use Rattle.graph_rows.specs.Formed.{other_turns}
use Rattle.graph_file.specs.File.{read_cells}
use Rattle.dot_text.specs.Tokens.{comment}
use Rattle.dot_text.specs.Grammar.{DrawnEdge}

-- `// turns dropped`: the drawing shows no turns, and some of the graph's are not 0
unfoldable pub dropped_if : Bool → List ℕ
dropped_if true = comment
dropped_if false = []

-- `digraph scopes {`
unfoldable pub open_line : List ℕ
open_line = 100 ∷ 105 ∷ 103 ∷ 114 ∷ 97 ∷ 112 ∷ 104 ∷ 32 ∷ 115 ∷ 99 ∷ 111 ∷ 112 ∷ 101 ∷ 115 ∷ 32 ∷ 123 ∷ 10 ∷ []

-- a scope, as `4;`
unfoldable pub scope_line : ℕ → List ℕ
scope_line s = number_text s ++ (59 ∷ 10 ∷ [])

-- ` -> ` between the scopes, and around the letter ` [label="` and `"];`
abbrev pub arrow : List ℕ
arrow = 32 ∷ 45 ∷ 62 ∷ 32 ∷ []

abbrev pub before_letter : List ℕ
before_letter = 32 ∷ 91 ∷ 108 ∷ 97 ∷ 98 ∷ 101 ∷ 108 ∷ 61 ∷ 34 ∷ []

abbrev pub after_letter : List ℕ
after_letter = 34 ∷ 93 ∷ 59 ∷ 10 ∷ []

-- an edge, as `1 -> 0 [label="P"];`
unfoldable pub edge_line : DrawnEdge → List ℕ
edge_line e = number_text e.from ++ (arrow ++ (number_text e.to ++ (before_letter ++ (e.letter ∷ after_letter))))

-- `}`
unfoldable pub close_line : List ℕ
close_line = 125 ∷ 10 ∷ []

-- the whole text: whether turns are lost, the scopes, the edges
unfoldable pub drawing_text : Bool → List ℕ → List DrawnEdge → List ℕ
drawing_text dropped scopes edges =
    dropped_if dropped ++ (open_line ++ (flat_map scope_line scopes ++ (flat_map edge_line edges ++ close_line)))

-- an edge row as it is drawn; its second value is the label's number in the list of letters
unfoldable pub drawn_edge : List ℕ → Row → DrawnEdge
drawn_edge letters row = record { from = value row 0; letter = get_or letters (value row 1) 0; to = value row 2 }

-- a table's edges in row sequence
unfoldable pub drawn_edges : List ℕ → List DrawnEdge
drawn_edges cells = map (drawn_edge (letters_of cells)) (rows_in edge_section cells)

-- the drawing of a table: all its scopes, ascending, and all its edges
unfoldable pub drawing_of : List ℕ → List ℕ
drawing_of cells = drawing_text (other_turns cells) (numbers_below (scopes_of cells)) (drawn_edges cells)

-- for a text: its refusals 1 to 6, and else the drawing
unfoldable pub dot_of : List ℕ → Outcome (List ℕ)
dot_of text = and_then (read_cells text) (λ cells. done (drawing_of cells))
