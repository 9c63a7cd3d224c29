-- `path_row::form::number_up_to` meets its contract: the number read, held to its limit. Assumes
-- nothing.
use lib.ListN.{drop}
use Rattle.text_field.specs.Number.{number_here}
use Rattle.path_row.specs.Form.{number_up_to}
use Rattle.path_row.proofs.Steps.{up_none, up_past, up_in}
use Rattle.path_row.proofs.form.number_up_to.Goals as goal

pub returns-in_err-v : goal.returns-in_err-v
unfolding number_up_to
returns-in_err-v c =
    let e = up_none c.args.at c.args.most (number_here (drop c.args.at c.args.s.now)) _ c.read_number.ensures.answer c.in_err-v.was in record { answer = cc }

pub returns-then-most-v : goal.returns-then-most-v
unfolding number_up_to
returns-then-most-v c = record { answer = up_past c.args.at c.args.most (number_here (drop c.args.at c.args.s.now)) _ c.in_ok-v.v c.in_ok-v.next c.read_number.ensures.answer c.in_ok-v.was c.if-most-v.true }

pub returns : goal.returns
unfolding number_up_to
returns c = record { answer = up_in c.args.at c.args.most (number_here (drop c.args.at c.args.s.now)) _ c.in_ok-v.v c.in_ok-v.next c.read_number.ensures.answer c.in_ok-v.was c.if-most-v.false }
