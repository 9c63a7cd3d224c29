use native.Mathlib.Omega.{arith}
use Rattle.graph_rows.specs.Admission.{ascends}
use Rattle.graph_rows.proofs.FormatLaws.{key_items}
use Rattle.graph_rows.proofs.AdmissionLaws.{back_none, back_row}
use Rattle.graph_rows.proofs.admission.ascends.Goals as goal

pub returns-then-rows-eq0 : goal.returns-then-rows-eq0
unfolding ascends
returns-then-rows-eq0 c = record { answer = rw (back_none c.args.rows c.args.p c.args.table.now c.if-rows-eq0.true) }

pub returns : goal.returns
unfolding ascends
returns c = record { answer = rw (back_row c.args.rows c.args.p c.args.table.now (omega (arith, c.if-rows-eq0.false)), ← key_items c.args.k) (cc) }
