-- `put_summary` meets its contract. Assumes nothing.
use borrow.Author.Rules.{rules}
use Rattle.text_field.proofs.WritingLaws.{◌then◌, written}
use Rattle.resolution.proofs.Counts.{summary_parts}
use Rattle.resolution.proofs.sums.put_summary.Goals as goal

pub returns : goal.returns
returns c =
    let w = c.put_counts.ensures.wrote then c.put_share.ensures.wrote then c.put.ensures.wrote
    in let m = written _ _ _ _ c.new-to.ensures.starts w
    in record { written = rw (← summary_parts c.args.c) (search (rules, w.same, m)) }
