-- What holds of the tables that texts are read as and that texts are written of. These are the
-- statements; their proofs are in proofs/Promises. Assumes nothing: these are definitions.
use Rattle.std.specs.Prelude.{ℕ, ◌<◌, ◌≡◌, List}
use Rattle.graph_rows.specs.Format.{text_bytes}
use Rattle.text_field.specs.Outcome.{done, refused}
use Rattle.graph_file.specs.File.{read_cells, write_text}
use Rattle.graph_rows.specs.Tested.{refusal_in, table_refusal}
use Rattle.text_field.specs.Answer.{answer}
use Rattle.graph_rows.specs.Accepted.{AcceptedTable}
use Rattle.graph_rows.specs.Formed.{FormedTable}
use Rattle.graph_rows.specs.NameOrder.{DeclaredInOrder}

-- what a text is read as, and what a text is written of, is a scope graph as the rules want it
-- (01's term *accepted*)
abbrev pub ReadAccepted : Type 0
ReadAccepted = (text cells : List ℕ) → read_cells text ≡ done cells → AcceptedTable cells

abbrev pub WrittenAccepted : Type 0
WrittenAccepted = (cells text : List ℕ) → write_text cells ≡ done text → AcceptedTable cells

-- it is formed
abbrev pub ReadFormed : Type 0
ReadFormed = (text cells : List ℕ) → read_cells text ≡ done cells → FormedTable cells

abbrev pub WrittenFormed : Type 0
WrittenFormed = (cells text : List ℕ) → write_text cells ≡ done text → FormedTable cells

-- a formed table can be written, and its text reads back as the table
abbrev pub FormedWritten : Type 0
FormedWritten = (cells : List ℕ) → FormedTable cells → (text : List ℕ) × (write_text cells ≡ done text) × (read_cells text ≡ done cells)

-- The writer tests a table as the test does, with the same answer.
abbrev pub WriterTests : Type 0
WriterTests = (cells : List ℕ) → refusal_in (write_text cells) ≡ table_refusal cells

-- Writing a formed table is refused by nothing but 9, and by nothing at all if the buffer has the
-- longest file's length. (A formed table's text has at most 29,823 bytes, with kinds and turns.)
abbrev pub NothingButNine : Type 0
NothingButNine = (cells : List ℕ) → FormedTable cells → (room n : ℕ) → answer (write_text cells) room ≡ refused n
    → (n ≡ 9) × (room < text_bytes)

-- the declarations of a table that a text is read as are in order
abbrev pub ReadDeclarationsAscend : Type 0
ReadDeclarationsAscend = (text cells : List ℕ) → read_cells text ≡ done cells → DeclaredInOrder cells
