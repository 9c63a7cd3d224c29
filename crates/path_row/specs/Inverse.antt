-- The promises that tie reading and writing a path row together (document 01, "Paths"). These are
-- the statements; their proofs are in proofs/. Assumes nothing: these are definitions.
use Rattle.std.specs.Prelude.{ℕ, ◌≡◌, true, List, length}
use Rattle.text_field.specs.Outcome.{done}
use Rattle.path_row.specs.Form.{PathRow, row_here, row_text, letters_in, scopes_in, row_made, is_row, row_written}

-- what was read is written back byte for byte, and it can be written
abbrev pub ReadThenWritten : Type 0
ReadThenWritten = (s : List ℕ) (r : PathRow) → row_here s ≡ done r → (row_text r ≡ s) × (is_row r ≡ true)

-- what can be written is read back as it was
abbrev pub WrittenThenRead : Type 0
WrittenThenRead = (r : PathRow) → is_row r ≡ true → row_here (row_text r) ≡ done r

-- what is written from parts, as the writer takes them, is read back as the row that the parts make
abbrev pub PartsThenRead : Type 0
PartsThenRead = (mark start count : ℕ) (letters scopes text : List ℕ) → row_written mark start count letters scopes ≡ done text → row_here text ≡ done (row_made mark start count letters scopes)

-- and what was read is written back from its parts
abbrev pub ReadThenParts : Type 0
ReadThenParts = (s : List ℕ) (r : PathRow) → row_here s ≡ done r → row_written r.mark r.start (length r.steps) (letters_in r.steps) (scopes_in r.steps) ≡ done s
