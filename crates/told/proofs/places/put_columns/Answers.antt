-- `put_columns` meets its contract: one write after another. Assumes nothing.
use borrow.Author.Rules.{rules}
use Rattle.text_field.proofs.WritingLaws.{◌then◌, written}
use Rattle.told.specs.Apart.{query_columns}
use Rattle.told.proofs.places.put_columns.Goals as goal

pub returns : goal.returns
unfolding query_columns
returns c =
    let w = c.put_number.ensures.wrote then c.put.ensures.wrote then c.put_seek.ensures.wrote then c.put-2.ensures.wrote
    in let m = written _ _ _ _ c.new-to.ensures.starts w
    in record { written = search (rules, w.same, m) }
