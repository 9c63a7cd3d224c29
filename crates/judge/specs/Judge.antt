-- A path row judged for a query of a gym file (document 01, "Paths" and "Who can cause a refusal").
-- Assumes nothing: these are definitions.
use Rattle.std.specs.Prelude.{ℕ, ◌≡◌, List, leb, ltb, length}
use Rattle.scope_graph.specs.Rows.{language}
use Rattle.scope_graph.specs.Path.{PathRow as RulesRow}
use Rattle.scope_graph.specs.Agree.{Judgement, as_visible, as_shadowed, as_unreached, judgement}
use Rattle.std.specs.declared.result.Result.{Result}
use Rattle.std.specs.declared.result.Result.TheVariants.{Ok, Err}
use Rattle.text_field.specs.declared.refusal.Refusal.{Refusal}
use Rattle.text_field.specs.Refusal.{number_of}
use Rattle.text_field.specs.Outcome.{Outcome, refused, done, and_then, refuse_if}
use Rattle.graph_file.specs.File.{read_cells}
use Rattle.graph_rows.specs.Decode.{rules_of, graph_of, queries_of}
use Rattle.path_row.specs.Form.{PathRow, row_here, steps_held}
use Rattle.path_row.specs.Lent.{steps_lent}
use Rattle.path_row.specs.Numbering.{path_in}
use Rattle.board.specs.Queries.{query_at}
use Rattle.judge.specs.declared.standing.Judged.{Judged}
use Rattle.judge.specs.declared.standing.Judged.TheVariants.{Visible, Shadowed, Unreached}
use Rattle.judge.specs.declared.text.JudgedRow.{JudgedRow}

-- one of the three standings, of which *shadowed* carries its number of steps (02, K7)
unfoldable pub standing_in : Judged → Judgement
standing_in Visible = as_visible
standing_in (Shadowed n) = as_shadowed n
standing_in Unreached = as_unreached

-- what an answer means: that, or a refusal by its number (01, "Where each language form goes")
unfoldable pub meaning : Result Judged Refusal → Outcome Judgement
meaning (Ok j) = done (standing_in j)
meaning (Err r) = refused (number_of r)

-- The row as the rules have it: its steps by their labels' numbers, with the turns of their edge
-- rows (02, K12). A letter that is not listed has a number that no edge has.
unfoldable pub as_rules_row : (cells : List ℕ) → PathRow → RulesRow (language (rules_of cells))
as_rules_row cells p = record { mark = p.mark; path = path_in cells p }

-- With the graph table in hand: 7 where there is no query i, 8 for a row that is none, 9 where its
-- steps outnumber the records lent for them.
unfoldable pub judge_of : List ℕ → ℕ → List ℕ → ℕ → Outcome Judgement
judge_of cells i row room =
    refuse_if (leb (length (queries_of cells)) i) 7
    (and_then (row_here row) (λ p.
    refuse_if (ltb room (length p.steps)) 9
    (done (judgement (language (rules_of cells)) (graph_of cells) (query_at cells i) (as_rules_row cells p)))))

-- The whole call: first the file's refusals, 1 to 6.
unfoldable pub judge_answer : List ℕ → ℕ → List ℕ → ℕ → Outcome Judgement
judge_answer text i row room = and_then (read_cells text) (λ cells. judge_of cells i row room)

-- What a judgement with this outcome hands out: the answer, and for the row's table the value that
-- holds its steps, none of them after a refusal.
pub record HandsOut (o : Outcome Judgement) (row : List ℕ) (r : JudgedRow) : Type 0 where
  pub answer : meaning r.answer ≡ o
  pub steps : r.steps ≡ steps_held (steps_lent o row)
