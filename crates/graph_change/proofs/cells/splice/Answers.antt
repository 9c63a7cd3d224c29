-- `splice` meets its contract: `NoRoom`, or the cells after the place have moved and the others are
-- put. Assumes nothing.
use Prim.Native.Nat.{ℕ, ◌+◌, ◌-◌}
use mathlib.Core.Path.{refl, ap}
use native.Mathlib.Omega.{arith}
use lib.ListN.{length}
use Rattle.std.proofs.lemmas.Slice.{put_mid-paste}
use Rattle.text_field.specs.Refusal.{number_of}
use Rattle.text_field.specs.Answer.{answer_of}
use Rattle.graph_change.proofs.CellLaws.{spliced_short, spliced_fits}
use Rattle.graph_change.proofs.cells.splice.Goals as goal

pub returns-then-table-from : goal.returns-then-table-from
unfolding answer_of number_of
returns-then-table-from c = let told = spliced_short c.args.table.now c.args.new.now c.args.n c.args.place c.args.count c.min-used.result c.min-from.result (c.min-from.result + c.min.result) (c.min-used.result - (c.min-from.result + c.min.result)) c.min-used.ensures c.min-from.ensures (ap (λ (x : ℕ). c.min-from.result + x) c.min.ensures) refl c.if-table-from.true in record { answer = told.0; memory = told.1 }

pub returns : goal.returns
unfolding answer_of
returns c =
    let put = put_mid-paste c.min-from.result (c.min-from.result + length c.args.new.now - c.min-from.result) c.copy_within.new.self c.copy_from_slice.new.self c.args.new.now (length c.args.new.now) c.copy_from_slice.ensures.after (omega arith) refl in
    let told = spliced_fits c.args.table.now c.args.new.now c.args.n c.args.place c.args.count c.min-used.result c.min-from.result (c.min-from.result + c.min.result) (c.min-used.result - (c.min-from.result + c.min.result)) c.min-used.ensures c.min-from.ensures (ap (λ (x : ℕ). c.min-from.result + x) c.min.ensures) refl c.if-table-from.false _ _ c.copy_within.ensures.after put in
    record { answer = told.0; memory = told.1 }
