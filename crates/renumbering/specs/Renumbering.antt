-- A gym file with its scopes renumbered, the list that tells the old numbers, and the way back from
-- both (02, K13). Assumes nothing: these are definitions.
use Rattle.std.specs.Prelude.{ℕ, ◌||◌, List, ltb, length}
use Rattle.text_field.specs.Outcome.{Outcome, refused, done, and_then, refuse_if}
use Rattle.graph_file.specs.File.{read_cells, write_text}
use Rattle.graph_rows.specs.Decode.{scopes_of}
use Rattle.renumbered.specs.Renumbered.{renumbered_by, back_of}
use Rattle.was.specs.Order.{was_list}
use Rattle.was.specs.WasText.{was_text, read_was}
use Rattle.std.specs.declared.result.Result.{Result}
use Rattle.std.specs.declared.result.Result.TheVariants.{Ok, Err}
use Rattle.text_field.specs.declared.refusal.Refusal.{Refusal}
use Rattle.text_field.specs.Refusal.{number_of}

-- what is put out: the new file and the list's text
pub record Renumbering : Type 0 where
  pub file : List ℕ
  pub list : List ℕ

-- of a graph table: the table under the numbers of its breadth-first list, written as a file
unfoldable pub renumber_text : List ℕ → Outcome Renumbering
renumber_text cells =
    and_then (write_text (renumbered_by (was_list cells) cells)) (λ file. done (record { file = file; list = was_text (was_list cells) }))

-- of a text: its refusals 1 to 6 first
unfoldable pub renumber_of : List ℕ → Outcome Renumbering
renumber_of text = and_then (read_cells text) renumber_text

-- with so much room for the file and for the list: 9 if either is too long
unfoldable pub room_for : ℕ → ℕ → Outcome Renumbering → Outcome Renumbering
room_for out lines o =
    and_then o (λ r. refuse_if (ltb out (length r.file) || ltb lines (length r.list)) 9 (done r))

-- how many bytes the file and the list have
pub record Sizes : Type 0 where
  pub file : ℕ
  pub list : ℕ

unfoldable pub sizes_of : Outcome Renumbering → Outcome Sizes
sizes_of o = and_then o (λ r. done (record { file = length r.file; list = length r.list }))

-- each of the two alone
unfoldable pub file_of : Outcome Renumbering → Outcome (List ℕ)
file_of o = and_then o (λ r. done r.file)

unfoldable pub list_of : Outcome Renumbering → Outcome (List ℕ)
list_of o = and_then o (λ r. done r.list)

-- what the host is told: a refusal by its number, or both sizes
unfoldable pub numbered_of : Result (ℕ × ℕ) Refusal → Outcome Sizes
numbered_of (Ok (file, list)) = done (record { file = file; list = list })
numbered_of (Err r) = refused (number_of r)

-- The way back. Of a table and a list's text: 17 if the text is not one with each of the table's
-- scopes once; else the table under the numbers that the list tells.
unfoldable pub back_text : List ℕ → List ℕ → Outcome (List ℕ)
back_text was cells = and_then (read_was (scopes_of cells) was) (λ list. write_text (renumbered_by (back_of list) cells))

-- of a text: its refusals 1 to 6 first
unfoldable pub back_for : List ℕ → List ℕ → Outcome (List ℕ)
back_for text was = and_then (read_cells text) (back_text was)
