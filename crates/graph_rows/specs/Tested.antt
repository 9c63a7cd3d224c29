-- Is a table of cells a graph? Each row is tested by 2, 5, 3 and 4 in turn, then the order pairs by
-- 6, and nothing is written (document 01, "Who can cause a refusal"). The writer's tests are these.
-- Assumes nothing: these are definitions.
use Rattle.std.specs.Prelude.{ℕ, List, [], ◌∷◌, Bool, false, not, ltb, leb, length, get_or, drop}
use Rattle.graph_rows.specs.Format.{shape_at, old_form, turn_form}
use Rattle.std.specs.declared.result.Result.{Result}
use Rattle.std.specs.declared.result.Result.TheVariants.{Ok, Err}
use Rattle.text_field.specs.declared.refusal.Refusal.{Refusal}
use Rattle.text_field.specs.Refusal.{number_of}
use Rattle.text_field.specs.Outcome.{Outcome, refused, done, refuse_if}
use Rattle.graph_rows.specs.Admission.{row_of, blank, Sofar}
use Rattle.graph_rows.specs.Values.{formed}
use Rattle.graph_rows.specs.Way.{Stage, Piece, Way, whole, starts_with}
use Rattle.graph_rows.specs.Table.{sofar_at}
use Rattle.graph_rows.specs.declared.tested.Tested.{Tested}

-- A row is six cells: fewer are refused by 2, and so are values that no line has.
unfoldable pub test_row : ℕ → ℕ → List ℕ → List ℕ → Outcome Piece
test_row form k letters cells =
    refuse_if (ltb (length cells) 6) 2
    (refuse_if (not (formed (shape_at form k).row (row_of cells))) 2
    (done (record { row = row_of cells; made = []; rest = drop 6 cells })))

-- A table has no names lines to take.
unfoldable pub test_names : ℕ → List ℕ → Outcome Piece
test_names k cells = done (record { row = blank; made = []; rest = cells })

-- Testing makes nothing of a row. A row of section k comes next if its first cell is k; a row of any
-- other number is left over at the end, which is 2.
unfoldable pub testing : ℕ → Way
testing form = record { form = form; names = test_names; more = starts_with; row = test_row form }

-- Does the table have a first cell, and is it a form's number?
unfoldable pub has_form : List ℕ → Bool
has_form [] = false
has_form (x ∷ rest) = leb x turn_form

-- the form of a graph table
unfoldable pub form_in : List ℕ → ℕ
form_in cells = get_or cells 0 old_form

-- a table gone through in its form; without a form it is refused by 2
unfoldable pub tested : List ℕ → Outcome Stage
tested cells = refuse_if (not (has_form cells)) 2 (whole (testing (form_in cells)) [] (drop 1 cells))

-- the number of a refusal; 0 if there is none
unfoldable pub refusal_in : {A : Type 0} → Outcome A → ℕ
refusal_in (refused n) = n
refusal_in (done a) = 0

-- The number by which a table of any content is refused, or 0 if it is a graph.
unfoldable pub table_refusal : List ℕ → ℕ
table_refusal cells = refusal_in (tested cells)

-- For the contracts of the code: a stage with nothing made yet,
unfoldable pub stage_from : Sofar → List ℕ → Stage
stage_from st rest = record { sofar = st; made = []; rest = rest }

-- what a testing function returns: a refusal, or how far it has come in the table
unfoldable pub test_outcome : Result Tested Refusal → List ℕ → Outcome Stage
test_outcome (Ok r) table = done (stage_from (sofar_at table r.cells r.counts) (drop r.cells table))
test_outcome (Err r) table = refused (number_of r)
