-- Two path rows compared by the order of a file (document 01, "Paths"), whose letters and rules are
-- graph_rows's Decode. Assumes nothing: these are definitions.
use Rattle.std.specs.Prelude.{ℕ, ◌≡◌, List, Bool, true, false, ltb, length}
use Rattle.std.specs.declared.result.Result.{Result}
use Rattle.std.specs.declared.result.Result.TheVariants.{Ok, Err}
use Rattle.text_field.specs.declared.refusal.Refusal.{Refusal}
use Rattle.text_field.specs.Refusal.{number_of}
use Rattle.text_field.specs.Outcome.{Outcome, refused, done, and_then, refuse_if}
use Rattle.graph_file.specs.File.{read_cells}
use Rattle.graph_rows.specs.Decode.{rules_of}
use Rattle.scope_graph.specs.Rows.{language}
use Rattle.scope_graph.specs.Computed.{more_specific}
use Rattle.scope_graph.specs.Agree.{agree}
use Rattle.path_row.specs.declared.form.Step.{Step}
use Rattle.path_row.specs.Form.{PathRow, row_here, steps_held}
use Rattle.path_row.specs.Lent.{steps_lent}
use Rattle.path_row.specs.Numbering.{path_in}
use Rattle.comparison.specs.declared.rows.Compared.{Compared}
use Rattle.comparison.specs.declared.rows.Compared.TheVariants.{First, Second, Neither}
use Rattle.comparison.specs.declared.rows.ComparedRows.{ComparedRows}

-- which of two rows is *more specific* (01, "Paths")
pub data Comparison : Type 0 where
  first second neither : Comparison

-- by the two tests: the first row is before the second, the second is before the first
unfoldable pub which_of : Bool → Bool → Comparison
which_of true u = first
which_of false true = second
which_of false false = neither

-- and in how many steps the rows agree (02, K7)
pub record Told : Type 0 where
  pub which : Comparison
  pub steps : ℕ

abbrev pub as_told : Comparison → ℕ → Told
as_told c n = record { which = c; steps = n }

-- which row is more specific, with the number of steps that are equal
unfoldable pub told_in : Compared → Told
told_in (First n) = as_told first n
told_in (Second n) = as_told second n
told_in (Neither n) = as_told neither n

-- what an answer means: that, or a refusal by its number (01, "Where each language form goes")
unfoldable pub meaning : Result Compared Refusal → Outcome Told
meaning (Ok c) = done (told_in c)
meaning (Err r) = refused (number_of r)

-- is the one row more specific than the other, by the file's order?
unfoldable pub row_before : List ℕ → PathRow → PathRow → Bool
row_before cells p q = more_specific (language (rules_of cells)) (path_in cells p) (path_in cells q)

-- both ways
unfoldable pub comparison : List ℕ → PathRow → PathRow → Comparison
comparison cells p q = which_of (row_before cells p q) (row_before cells q p)

-- In how many steps the rows agree: by the labels' numbers and by the scopes. That these are the
-- letters and scopes that the rows show stands in Promises.
unfoldable pub agreement : List ℕ → PathRow → PathRow → ℕ
agreement cells p q = agree (language (rules_of cells)) (path_in cells p) (path_in cells q)

unfoldable pub told : List ℕ → PathRow → PathRow → Told
told cells p q = as_told (comparison cells p q) (agreement cells p q)

-- by the starts and the steps of the rows, since a mark tells nothing here
unfoldable pub told_of : List ℕ → ℕ → ℕ → List Step → List Step → Told
told_of cells s t ts us = told cells (record { mark = 0; start = s; steps = ts }) (record { mark = 0; start = t; steps = us })

-- With the graph table in hand (01, "Paths", where it tells the refusals of two rows): 8 for the
-- first row, 8 for the second, and 9 where the steps of one outnumber the records lent for it.
unfoldable pub compare_rows : List ℕ → List ℕ → List ℕ → ℕ → ℕ → Outcome Told
compare_rows cells a b room_a room_b =
    and_then (row_here a) (λ p.
    and_then (row_here b) (λ q.
    refuse_if (ltb room_a (length p.steps)) 9
    (refuse_if (ltb room_b (length q.steps)) 9
    (done (told cells p q)))))

-- The whole call (01, "Who can cause a refusal"): before these, the file's refusals, 1 to 6.
unfoldable pub compare_answer : List ℕ → List ℕ → List ℕ → ℕ → ℕ → Outcome Told
compare_answer text a b room_a room_b = and_then (read_cells text) (λ cells. compare_rows cells a b room_a room_b)

-- What a comparison with this outcome hands out: the answer, and for each row's table the value that
-- holds its steps, none of them after a refusal.
pub record HandsOut (o : Outcome Told) (a b : List ℕ) (r : ComparedRows) : Type 0 where
  pub answer : meaning r.answer ≡ o
  pub first : r.first ≡ steps_held (steps_lent o a)
  pub second : r.second ≡ steps_held (steps_lent o b)
