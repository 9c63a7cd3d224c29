-- What is promised of a drawing (02, K14). These are the statements; their values are in
-- proofs/Promises.antt. Assumes nothing: these are definitions.
use Rattle.std.specs.Prelude.{ℕ, ◌≤◌, ◌<◌, ◌≡◌, ◌↔◌, List, [], ◌∷◌, ◌++◌, length}
use Rattle.std.proofs.Math.Option.{some}
use Rattle.scope_graph.specs.Language.{◌∈◌}
use Rattle.scope_graph.specs.Graph.{Edge}
use Rattle.scope_graph.specs.Rows.{language}
use Rattle.text_field.specs.Outcome.{refused, done}
use Rattle.text_field.specs.Answer.{answer}
use Rattle.graph_rows.specs.Decode.{letters_of, rules_of, scopes_of, graph_of}
use Rattle.graph_file.specs.File.{read_cells}
use Rattle.board.specs.Example.{example_text}
use Rattle.dot_text.specs.Tokens.{comment}
use Rattle.dot_text.specs.Grammar.{DrawnEdge}
use Rattle.dot.specs.Drawing.{drawn_edges, drawing_of, dot_of}

-- the text begins with the line
abbrev pub Begins : List ℕ → List ℕ → Type 0
Begins line text = (rest : List ℕ) × (text ≡ line ++ rest)

-- some edge of the graph has another turn than 0
pub record Turned (cells : List ℕ) : Type 0 where
  pub edge : Edge (language (rules_of cells))
  pub stands : edge ∈ (graph_of cells).edges
  pub turned : ¬ (edge.step.turn ≡ some 0)

-- the line about turns stands first exactly if the drawing loses one
abbrev pub TurnsTold : Type 0
TurnsTold = (cells : List ℕ) → Begins comment (drawing_of cells) ↔ Turned cells

-- Which refusals there are: a text's own by its number; a text that is read has its drawing, which
-- nothing but 9 refuses, and exactly if the buffer is shorter than it.
pub record Refusals : Type 0 where
  pub reading : (text : List ℕ) (n : ℕ) → read_cells text ≡ refused n → dot_of text ≡ refused n
  pub read : (text cells : List ℕ) → read_cells text ≡ done cells → dot_of text ≡ done (drawing_of cells)
  pub nine : (text cells : List ℕ) → read_cells text ≡ done cells → (room n : ℕ)
      → (answer (dot_of text) room ≡ refused n) ↔ ((n ≡ 9) × (room < length (drawing_of cells)))

-- a buffer of this length serves for every file
abbrev pub drawing_bytes : ℕ
drawing_bytes = 11556

abbrev pub Longest : Type 0
Longest = (text cells : List ℕ) → read_cells text ≡ done cells → length (drawing_of cells) ≤ drawing_bytes

-- An edge of a drawing is between scopes of the file, and its letter is one of the file's labels.
pub record InFile (cells : List ℕ) (e : DrawnEdge) : Type 0 where
  pub from : e.from < scopes_of cells
  pub to : e.to < scopes_of cells
  pub letter : e.letter ∈ letters_of cells

-- so it is with every edge drawn of a text that is read
abbrev pub EdgesInFile : Type 0
EdgesInFile = (text cells : List ℕ) → read_cells text ≡ done cells → (e : DrawnEdge) → e ∈ drawn_edges cells → InFile cells e

-- Document 01's example drawn, line by line: the graph opened, the scopes 0 to 4, the edges
-- `1 P 0`, `2 I 4`, `2 P 1` and `3 P 1`, the graph closed. It has no turns.
abbrev pub example_drawing : List ℕ
example_drawing =
    100 ∷ 105 ∷ 103 ∷ 114 ∷ 97 ∷ 112 ∷ 104 ∷ 32 ∷ 115 ∷ 99 ∷ 111 ∷ 112 ∷ 101 ∷ 115 ∷ 32 ∷ 123 ∷ 10 ∷
    48 ∷ 59 ∷ 10 ∷
    49 ∷ 59 ∷ 10 ∷
    50 ∷ 59 ∷ 10 ∷
    51 ∷ 59 ∷ 10 ∷
    52 ∷ 59 ∷ 10 ∷
    49 ∷ 32 ∷ 45 ∷ 62 ∷ 32 ∷ 48 ∷ 32 ∷ 91 ∷ 108 ∷ 97 ∷ 98 ∷ 101 ∷ 108 ∷ 61 ∷ 34 ∷ 80 ∷ 34 ∷ 93 ∷ 59 ∷ 10 ∷
    50 ∷ 32 ∷ 45 ∷ 62 ∷ 32 ∷ 52 ∷ 32 ∷ 91 ∷ 108 ∷ 97 ∷ 98 ∷ 101 ∷ 108 ∷ 61 ∷ 34 ∷ 73 ∷ 34 ∷ 93 ∷ 59 ∷ 10 ∷
    50 ∷ 32 ∷ 45 ∷ 62 ∷ 32 ∷ 49 ∷ 32 ∷ 91 ∷ 108 ∷ 97 ∷ 98 ∷ 101 ∷ 108 ∷ 61 ∷ 34 ∷ 80 ∷ 34 ∷ 93 ∷ 59 ∷ 10 ∷
    51 ∷ 32 ∷ 45 ∷ 62 ∷ 32 ∷ 49 ∷ 32 ∷ 91 ∷ 108 ∷ 97 ∷ 98 ∷ 101 ∷ 108 ∷ 61 ∷ 34 ∷ 80 ∷ 34 ∷ 93 ∷ 59 ∷ 10 ∷
    125 ∷ 10 ∷ []

abbrev pub ExampleDrawn : Type 0
ExampleDrawn = dot_of example_text ≡ done example_drawing

pub record Promises : Type 0 where
  pub turns : TurnsTold
  pub refusals : Refusals
  pub longest : Longest
  pub in_file : EdgesInFile
  pub example : ExampleDrawn
