-- `compare_rows` meets its contract, test by test. Assumes nothing.
use Rattle.text_field.specs.Refusal.{number_of}
use Rattle.path_row.proofs.RowReads.{row_is_refused, row_is}
use Rattle.path_row.proofs.TakenLaws.{at_hand_all}
use Rattle.comparison.specs.Compare.{compare_rows}
use Rattle.comparison.proofs.RowLaws.{first_bad, second_bad, first_over, second_over, fits}
use Rattle.comparison.proofs.LentLaws.{hands_none, hands_all}
use Rattle.comparison.proofs.rows.compare_rows.Goals.{then-n-count-via-then-n-count, then-n-count-via-else-n-count+then-m-more}
use Rattle.comparison.proofs.rows.compare_rows.Goals as goal

pub returns-in_default : goal.returns-in_default
unfolding number_of
returns-in_default c = record { answer = hands_none (compare_rows c.args.cells.now c.args.a.now c.args.b.now c.args.n c.args.m) c.args.a.now c.args.b.now _ c.refused_rows.result (c.refused_rows.ensures.answer, (c.refused_rows.ensures.first, c.refused_rows.ensures.second)) (first_bad c.args.cells.now c.args.a.now c.args.b.now c.args.n c.args.m (row_is_refused c.args.a.now c.read_row.result c.read_row.ensures.answer c.in_default.is)) }

pub returns-in_default-read_row : goal.returns-in_default-read_row
unfolding number_of
returns-in_default-read_row c =
    let p = row_is c.args.a.now c.read_row.result c.read_row.ensures.answer _ _ _ c.in-Some.is in
    record { answer = hands_none (compare_rows c.args.cells.now c.args.a.now c.args.b.now c.args.n c.args.m) c.args.a.now c.args.b.now _ c.refused_rows-in_default-read_row.result (c.refused_rows-in_default-read_row.ensures.answer, (c.refused_rows-in_default-read_row.ensures.first, c.refused_rows-in_default-read_row.ensures.second)) (second_bad c.args.cells.now c.args.a.now c.args.b.now c.args.n c.args.m _ _ _ p (row_is_refused c.args.b.now c.read_row-2.result c.read_row-2.ensures.answer c.in_default-read_row.is)) }

pub returns-then-n-count : goal.returns-then-n-count
unfolding number_of
returns-then-n-count c =
    let p = row_is c.args.a.now c.read_row.result c.read_row.ensures.answer _ _ _ c.in-Some.is in
    let q = row_is c.args.b.now c.read_row-2.result c.read_row-2.ensures.answer _ _ _ c.in-Some-read_row.is in
    let none = hands_none (compare_rows c.args.cells.now c.args.a.now c.args.b.now c.args.n c.args.m) c.args.a.now c.args.b.now _ c.refused_rows-then-n-count.result (c.refused_rows-then-n-count.ensures.answer, (c.refused_rows-then-n-count.ensures.first, c.refused_rows-then-n-count.ensures.second)) in
    elim c.then-n-count.branch [
      | then-n-count-via-then-n-count w ↦ record { answer = none (first_over c.args.cells.now c.args.a.now c.args.b.now c.args.n c.args.m _ _ _ p _ _ _ q w.if-n-count.true) }
      | then-n-count-via-else-n-count+then-m-more w ↦ record { answer = none (second_over c.args.cells.now c.args.a.now c.args.b.now c.args.n c.args.m _ _ _ p _ _ _ q w.if-n-count.false w.if-m-more.true) }
    ]

pub returns : goal.returns
returns c =
    let p = row_is c.args.a.now c.read_row.result c.read_row.ensures.answer _ _ _ c.in-Some.is in
    let q = row_is c.args.b.now c.read_row-2.result c.read_row-2.ensures.answer _ _ _ c.in-Some-read_row.is in
    record { answer = hands_all c.args.cells.now c.args.a.now c.args.b.now (compare_rows c.args.cells.now c.args.a.now c.args.b.now c.args.n c.args.m) _ _ _ p _ _ _ q (fits c.args.cells.now c.args.a.now c.args.b.now c.args.n c.args.m _ _ _ p _ _ _ q c.if-n-count.false c.if-m-more.false) _ _ c.steps_of-first.ensures.answer c.steps_of-second.ensures.answer _ (rw (c.as_slice.ensures.answer, at_hand_all _ _ c.steps_of-first.ensures.answer, c.as_slice-2.ensures.answer, at_hand_all _ _ c.steps_of-second.ensures.answer) at c.compare_steps-compared.ensures.answer) }
