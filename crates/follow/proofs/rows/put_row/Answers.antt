-- `put_row` meets its contract: the head, the hops, a line feed. Assumes nothing.
use Rattle.text_field.proofs.WritingLaws.{◌then◌}
use Rattle.follow.proofs.RowLaws.{row_parts}
use Rattle.follow.proofs.rows.put_row.Goals as goal

pub returns : goal.returns
returns c = record { wrote = rw (row_parts _ _ _ _) ((c.put_front.ensures.wrote then c.put_hops.ensures.wrote) then c.put.ensures.wrote) }
