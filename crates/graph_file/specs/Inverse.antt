-- The two promises that tie reading and writing together: what goes in one way comes back the other
-- way. These are the statements; their proofs are in proofs/. Assumes nothing: these are
-- definitions.
use Rattle.std.specs.Prelude.{ℕ, ◌≡◌, List}
use Rattle.text_field.specs.Outcome.{done}
use Rattle.graph_file.specs.File.{read_cells, write_text}

-- what was read is written back byte for byte
abbrev pub ReadThenWritten : Type 0
ReadThenWritten = (text cells : List ℕ) → read_cells text ≡ done cells → write_text cells ≡ done text

-- what was written is read back cell for cell
abbrev pub WrittenThenRead : Type 0
WrittenThenRead = (cells text : List ℕ) → write_text cells ≡ done text → read_cells text ≡ done cells
