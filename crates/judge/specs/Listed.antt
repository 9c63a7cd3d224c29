-- The listing and the judge agree (document 01, "Paths" and "The listing"). This is the statement;
-- the value is in proofs/Listed.antt. Assumes nothing: these are definitions.
use Rattle.std.specs.Prelude.{ℕ, ◌<◌, ◌≡◌, List, [], ◌∷◌, ◌++◌, length}
use Rattle.scope_graph.specs.Rows.{language}
use Rattle.scope_graph.specs.Path.{PathRow, Entry}
use Rattle.scope_graph.specs.Agree.{as_visible}
use Rattle.text_field.specs.Outcome.{done}
use Rattle.graph_file.specs.File.{read_cells}
use Rattle.graph_rows.specs.Decode.{rules_of, graph_of, queries_of, letters_of}
use Rattle.follow.specs.Text.{row_text}
use Rattle.board.specs.Queries.{query_at}
use Rattle.judge.specs.Judge.{judge_answer}

-- Every text that is read, every query of it, every entry: the row that a listing shows for it is,
-- without its LF, a path row that the judge calls visible.
abbrev pub ListedVisible : Type 0
ListedVisible = (text cells : List ℕ) → read_cells text ≡ done cells → (i : ℕ) → i < length (queries_of cells)
    → (r : PathRow (language (rules_of cells))) → Entry (language (rules_of cells)) (graph_of cells) (query_at cells i) r
    → (row : List ℕ) × (row_text (letters_of cells) r.mark r.path.start r.path.hops ≡ row ++ (10 ∷ []))
    × (judge_answer text i row 63 ≡ done as_visible)
