use Rattle.graph_table.specs.Sections.{rows_of}
use Rattle.board.specs.Tables.{letter_of}
use Rattle.board.proofs.Fill.{Filled}
use Rattle.board.proofs.letters.letter_table.Given as goal

abbrev pub invariant-loop-i : goal.invariant-loop-i
invariant-loop-i l = Filled (letter_of (rows_of l.rows)) 8 l.i l.letter-items
