-- `path_row::form::read_row` meets its contract: a mark, a start, steps, and nothing after them.
-- Assumes nothing.
use Rattle.path_row.proofs.Steps.{row_long, row_headless, row_more, row_whole}
use Rattle.path_row.proofs.form.read_row.Goals as goal

pub returns-then-s-gt-MOST_BYTES : goal.returns-then-s-gt-MOST_BYTES
returns-then-s-gt-MOST_BYTES c = record { answer = row_long c.args.s.now c.if-s-gt-MOST_BYTES.true }

pub returns-in_err-mark : goal.returns-in_err-mark
returns-in_err-mark c =
    let e = row_headless c.args.s.now c.if-s-gt-MOST_BYTES.false _ c.read_head.ensures.answer c.in_err-mark.was in record { answer = cc }

pub returns-then-end-s : goal.returns-then-end-s
returns-then-end-s c = record { answer = row_more c.args.s.now c.if-s-gt-MOST_BYTES.false _ c.read_head.ensures.answer c.in_ok-mark.mark c.in_ok-mark.start c.in_ok-mark.first c.in_ok-mark.was c.walk-end.result.count c.walk-end.result.at (c.walk-end.ensures.number, c.walk-end.ensures.place) c.if-end-s.true }

pub returns : goal.returns
returns c = record { answer = row_whole c.args.s.now c.if-s-gt-MOST_BYTES.false _ c.read_head.ensures.answer c.in_ok-mark.mark c.in_ok-mark.start c.in_ok-mark.first c.in_ok-mark.was c.walk-end.result.count c.walk-end.result.at (c.walk-end.ensures.number, c.walk-end.ensures.place) c.if-end-s.false }
