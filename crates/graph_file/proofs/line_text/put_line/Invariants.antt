-- The line's text from here on is left to write.
use lib.ListN.{drop}
use Rattle.text_field.proofs.WritingLaws.{Left}
use Rattle.graph_rows.specs.Table.{line_of, items_at, letters_at}
use Rattle.graph_file.specs.Line.{line_text}
use Rattle.graph_file.proofs.line_text.put_line.Given as goal

abbrev pub invariant-loop-x : goal.invariant-loop-x
invariant-loop-x l = Left l.initial.to l.to (line_text (letters_at l.labels (drop 1 l.table)) (items_at l.o) l.row) (line_text (letters_at l.labels (drop 1 l.table)) (line_of (drop l.x-index l.x-items)) l.row)
