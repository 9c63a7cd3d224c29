-- `put_rows` meets its contract: the rows so far are put. Assumes nothing.
use mathlib.Core.Path.{refl, ◌∙◌}
use native.Mathlib.Omega.{arith}
use Rattle.ruled.proofs.PutLaws.{rows_start, rows_more, row_put, row_left}
use Rattle.ruled.proofs.put.put_rows.Goals.{in-Some, in_default}
use Rattle.ruled.proofs.put.put_rows.Goals as goal

pub loop-k-init : goal.loop-k-init
loop-k-init g c = record { size = refl; written = λ f h. rows_start f c.args.section _; place = omega arith }

pub loop-k-preserved : goal.loop-k-preserved
loop-k-preserved g c =
    elim c.match-row_of.branch [
      | in-Some w ↦ record {
        size = c.match-row_of.auto.table ∙ c.loop-k.invariant.size;
        written = λ f h.
            rows_more f c.args.section c.loop-k.k _ _ _ (c.loop-k.invariant.written f h)
            (row_put c.args.section _ (f c.loop-k.k) _ _ (rw w.in-Some.is at (h c.loop-k.k c.row_of.result c.loop-k-test.true c.row_of.ensures)) (rw (w.table-is, w.at-is) w.put_row.ensures.written));
        place = omega arith;
      }
      | in_default w ↦ record {
        size = c.match-row_of.auto.table ∙ c.loop-k.invariant.size;
        written = λ f h.
            rows_more f c.args.section c.loop-k.k _ _ _ (c.loop-k.invariant.written f h)
            (rw (w.table-is, w.at-is) (row_left c.args.section (f c.loop-k.k) _ (rw w.in_default.is at (h c.loop-k.k c.row_of.result c.loop-k-test.true c.row_of.ensures))));
        place = omega arith;
      }
    ]
