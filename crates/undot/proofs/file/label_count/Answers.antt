use native.Mathlib.Omega.{arith}
use Rattle.undot.proofs.FileLaws.{read_some, labels_counted}
use Rattle.undot.proofs.file.label_count.Goals as goal

pub rows_from-requires : goal.rows_from-requires
rows_from-requires c = record { column = omega arith; within = read_some _ c.requires.read }

pub overflow_cast-result : goal.overflow_cast-result
overflow_cast-result c = omega (arith, (labels_counted c.args.table.now c.requires.read _ c.rows_from.ensures.answer).1)

pub returns : goal.returns
returns c = record { answer = (labels_counted c.args.table.now c.requires.read _ c.rows_from.ensures.answer).0 }
