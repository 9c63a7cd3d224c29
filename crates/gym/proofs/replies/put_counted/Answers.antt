-- `gym::replies::put_counted` writes the line, in three writes. Assumes nothing.
use borrow.Author.Rules.{rules}
use Rattle.text_field.proofs.WritingLaws.{◌then◌, written}
use Rattle.gym.proofs.replies.put_counted.Goals as goal

pub returns : goal.returns
returns c =
    let w = c.put_bytes.ensures.wrote then c.put_number.ensures.wrote then c.put.ensures.wrote
    in let m = written _ _ _ _ c.new-to.ensures.starts w
    in record { written = search (rules, w.same, m) }
