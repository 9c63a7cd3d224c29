use Rattle.path_rules.proofs.Fill.{Filled}
use Rattle.ruled.specs.Letters.{letter_byte}
use Rattle.ruled.proofs.letters.letter_bytes.Given as goal

abbrev pub invariant-loop-i : goal.invariant-loop-i
invariant-loop-i l = Filled (letter_byte l.table) 8 l.i l.t
