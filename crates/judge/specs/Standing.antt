-- What the judge answers is what the rules say (document 01, "Paths": visible, shadowed,
-- unreached). This is the statement; proofs/Right.antt has the value. Assumes nothing: these are
-- definitions.
use Rattle.std.specs.Prelude.{ℕ, ◌≤◌, ◌<◌, ◌≡◌, ◌↔◌, List, length}
use Rattle.scope_graph.specs.Rows.{language}
use Rattle.scope_graph.specs.Path.{Reached, MarkDeclared, Entry}
use Rattle.scope_graph.specs.Agree.{Judgement, as_visible, as_shadowed, as_unreached, ShadowedWith}
use Rattle.text_field.specs.Outcome.{done}
use Rattle.graph_file.specs.File.{read_cells}
use Rattle.graph_rows.specs.Decode.{rules_of, graph_of, queries_of}
use Rattle.path_row.specs.Form.{PathRow, row_here}
use Rattle.board.specs.Queries.{query_at}
use Rattle.judge.specs.Judge.{as_rules_row, judge_answer}

-- The row has this standing for query i: its path is visible, shadowed with so many steps (02, K7)
-- or unreached, and one with a mark that no matching declaration has is unreached.
abbrev pub Stands : (cells : List ℕ) → ℕ → PathRow → Judgement → Type 0
Stands cells i p as_visible = Entry (language (rules_of cells)) (graph_of cells) (query_at cells i) (as_rules_row cells p)
Stands cells i p (as_shadowed n) =
    ShadowedWith (language (rules_of cells)) (graph_of cells) (query_at cells i) (as_rules_row cells p).path n
    × MarkDeclared (language (rules_of cells)) (graph_of cells) (query_at cells i) (as_rules_row cells p)
Stands cells i p as_unreached =
    ¬ (Reached (language (rules_of cells)) (graph_of cells) (query_at cells i) (as_rules_row cells p).path
    × MarkDeclared (language (rules_of cells)) (graph_of cells) (query_at cells i) (as_rules_row cells p))

-- the answer is a standing, the row has it, and has no other
pub record RightStanding (cells : List ℕ) (i : ℕ) (p : PathRow) (text row : List ℕ) (room : ℕ) : Type 0 where
  pub answered : (s : Judgement) → (judge_answer text i row room ≡ done s) ↔ Stands cells i p s
  pub standing : Judgement
  pub stands : Stands cells i p standing
  pub only : (s : Judgement) → Stands cells i p s → s ≡ standing

-- every text that is read, every query of it, every row that is one and fits the records lent for
-- its steps
abbrev pub JudgedRight : Type 0
JudgedRight = (text cells : List ℕ) → read_cells text ≡ done cells → (i : ℕ) → i < length (queries_of cells)
    → (row : List ℕ) (p : PathRow) → row_here row ≡ done p → (room : ℕ) → length p.steps ≤ room → RightStanding cells i p text row room
