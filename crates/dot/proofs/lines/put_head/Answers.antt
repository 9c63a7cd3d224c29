-- `put_head` meets its contract. Assumes nothing.
use Rattle.text_field.proofs.WritingLaws.{◌then◌, wrote_from}
use Rattle.dot.specs.Drawing.{dropped_if, open_line}
use Rattle.dot.proofs.lines.put_head.Goals.{then-dropped, else-dropped}
use Rattle.dot.proofs.lines.put_head.Goals as goal

pub returns : goal.returns
unfolding dropped_if open_line
returns c =
    record {
      wrote = elim c.if-dropped.branch [
        | then-dropped w ↦ rw w.if-dropped.true (w.put_bytes.ensures.wrote then wrote_from w.to-is c.put_bytes-2.ensures.wrote)
        | else-dropped w ↦ rw w.if-dropped.false (wrote_from w.to-is c.put_bytes-2.ensures.wrote)
      ];
    }
