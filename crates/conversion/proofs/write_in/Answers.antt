-- `write_in` meets its contract: 14, or the changed table is written. Assumes nothing.
use mathlib.Core.Path.{sym}
use lib.Seq.{length-take-le}
use native.Mathlib.Omega.{arith}
use Rattle.text_field.specs.Refusal.{number_of}
use Rattle.text_field.specs.Answer.{answer_of}
use Rattle.conversion.proofs.Laws.{unfit_refused, fit_written}
use Rattle.conversion.proofs.write_in.Goals as goal

pub slice_bounds-unfit-end-2 : goal.slice_bounds-unfit-end-2
slice_bounds-unfit-end-2 c = sym (length-take-le _ _ (omega arith))

pub returns-then-unfit : goal.returns-then-unfit
unfolding answer_of number_of
returns-then-unfit c = let told = unfit_refused c.args.form c.args.n c.args.table.now c.requires.cells.0 c.requires.cells.1 c.args.out.now _ c.unfit.ensures.answer c.if-unfit.true in record { answer = told.0; memory = told.1 }

pub slice_bounds-write-end-2 : goal.slice_bounds-write-end-2
slice_bounds-write-end-2 c = sym (length-take-le _ _ (omega arith))

pub returns : goal.returns
returns c = let told = fit_written c.args.form c.args.n c.args.table.now c.requires.cells.0 c.requires.cells.1 c.args.out.now _ c.unfit.ensures.answer c.if-unfit.false _ c.set_form.ensures.memory _ _ (c.write.ensures.answer, c.write.ensures.memory) in record { answer = told.0; memory = told.1 }
