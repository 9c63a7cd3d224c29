-- How the code finds the labels' letters and their number. Assumes nothing: these are definitions.
use Rattle.std.specs.Prelude.{ℕ, ◌+◌, ◌-◌, ◌*◌, ◌/◌, ◌%◌, List, get_or}
use Rattle.graph_table.specs.Sections.{start_of}

-- the letter of label i as a byte, by the row's place
unfoldable pub letter_byte : List ℕ → ℕ → ℕ
letter_byte cells i = get_or cells (1 + 6 * i + 1) 0 % 256

-- how many rows stand before the second section
unfoldable pub label_count : List ℕ → ℕ
label_count cells = (start_of 1 cells - 1) / 6
