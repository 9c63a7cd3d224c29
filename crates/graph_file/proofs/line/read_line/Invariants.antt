-- The codes from here on, read on from the row so far, are the whole line read into an empty row.
use mathlib.Core.Path.{◌≡◌}
use lib.ListN.{length, drop}
use Rattle.graph_rows.specs.Admission.{blank}
use Rattle.graph_rows.specs.Table.{line_of, items_at, letters_at}
use Rattle.graph_file.specs.Line.{read_items}
use Rattle.graph_file.proofs.line.read_line.Given as goal

abbrev pub invariant-loop-x : goal.invariant-loop-x
invariant-loop-x l = (read_items (letters_at l.labels (drop 1 l.table)) (line_of (drop l.x-index l.x-items)) l.row (drop l.place l.text) ≡ read_items (letters_at l.labels (drop 1 l.table)) (items_at l.o) blank (drop l.at l.text)) × (length l.row ≡ 5)
