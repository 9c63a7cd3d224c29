use mathlib.Core.Path.{◌≡◌}
use Rattle.path_row.specs.Numbering.{label_number}
use Rattle.comparison.specs.Letters.{block_letters}
use Rattle.comparison.proofs.LetterLaws.{seek}
use Rattle.comparison.proofs.letters.label_number.Given as goal

abbrev pub invariant-loop-l : goal.invariant-loop-l
invariant-loop-l l = label_number (block_letters l.block) l.x ≡ seek l.block l.x l.l
