-- `declaration_count` meets its contract. Assumes nothing.
use Rattle.readers.proofs.Places.{count_is}
use Rattle.readers.proofs.rows.declaration_count.Goals as goal

pub returns : goal.returns
returns c = record {
  answer = count_is c.args.table.now c.requires.read _ c.part.ensures.answer _
      c.row_count.ensures.answer;
}
