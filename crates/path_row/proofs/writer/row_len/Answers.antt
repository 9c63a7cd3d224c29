-- `path_row::writer::row_len` meets its contract. Assumes nothing.
use mathlib.Core.Path.{◌∙◌}
use native.Mathlib.Omega.{arith}
use lib.ListN.{replicate, length-replicate}
use Rattle.text_field.proofs.WritingLaws.{written, stands}
use Rattle.path_row.specs.Form.{row_of}
use Rattle.path_row.proofs.FormLaws.{row_short}
use Rattle.path_row.proofs.writer.row_len.Goals as goal

pub returns : goal.returns
returns c =
    let short = row_short (row_of c.args.mark c.args.start c.args.steps.now) c.requires.row in
    let m = written _ _ _ _ c.new-to.ensures.starts c.put_row.ensures.wrote in
    record { answer = c.end.ensures.answer ∙ (stands (replicate 256 0) _ _ m (rw length-replicate (omega arith))).0 }
