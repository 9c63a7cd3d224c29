-- A lent step table (document 01, "Paths"): which steps go into it and what it holds after a call.
-- Assumes nothing: these are definitions.
use Rattle.std.specs.Prelude.{ℕ, List, [], ◌++◌, length, drop}
use Rattle.text_field.specs.Outcome.{Outcome, refused, done}
use Rattle.path_row.specs.declared.form.Step.{Step}
use Rattle.path_row.specs.Form.{PathRow, row_here}

-- the steps of a row that was read
unfoldable pub row_steps : Outcome PathRow → List Step
row_steps (refused n) = []
row_steps (done r) = r.steps

-- a table with steps at its front, and the records behind them as they were
unfoldable pub overlaid : List Step → List Step → List Step
overlaid steps lent = steps ++ drop (length steps) lent

-- What a lent step table holds after a call (01, "Paths"), whatever the call answers: the row's
-- steps, and the records behind them as they were; after a refusal, what it held.
unfoldable pub steps_left : {A : Type 0} → Outcome A → List ℕ → List Step → List Step
steps_left (refused n) row lent = lent
steps_left (done c) row lent = overlaid (row_steps (row_here row)) lent

-- the steps of a row that a call hands out for its table: all of them, and none after a refusal
unfoldable pub steps_lent : {A : Type 0} → Outcome A → List ℕ → List Step
steps_lent (refused n) row = []
steps_lent (done c) row = row_steps (row_here row)
