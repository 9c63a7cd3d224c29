-- `printing::parts::put_refused` writes the line. Assumes nothing.
use borrow.Author.Rules.{rules}
use Rattle.text_field.proofs.WritingLaws.{◌then◌, written}
use Rattle.printing.specs.Printed.{refused_line}
use Rattle.printing.proofs.parts.put_refused.Goals as goal

pub returns : goal.returns
unfolding refused_line
returns c =
    let w = c.put_bytes.ensures.wrote then c.put_number.ensures.wrote then c.put.ensures.wrote
    in let m = written _ _ _ _ c.new-to.ensures.starts w
    in record { written = search (rules, w.same, m) }
