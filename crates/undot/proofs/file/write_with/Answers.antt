-- `write_with` meets its contract: the edges are put into the table without its own. Assumes
-- nothing.
use mathlib.Core.Path.{sym, ◌∙◌}
use borrow.Author.Rules.{rules}
use native.Mathlib.Omega.{arith}
use lib.Seq.{length-take-le}
use Rattle.text_field.proofs.AnswerLaws.{answer_err}
use Rattle.undot.proofs.FileLaws.{cleared_ready, put_refused, put_written}
use Rattle.undot.proofs.file.write_with.Goals as goal

pub slice_bounds-label_count-end-2 : goal.slice_bounds-label_count-end-2
slice_bounds-label_count-end-2 c = sym (length-take-le _ _ (omega arith))

pub slice_bounds-scope_count-end-2 : goal.slice_bounds-scope_count-end-2
slice_bounds-scope_count-end-2 c = sym (length-take-le _ _ (omega arith))

pub put_edges-requires : goal.put_edges-requires
put_edges-requires c = let q = cleared_ready _ c.requires.read _ _ c.label_count.ensures.answer c.scope_count.ensures.answer _ c.clear_edges-left.ensures.left in record { ready = q.0; none = q.1; room = (c.clear_edges-left.ensures.within, omega (arith, c.requires.room.1, c.clear_edges-left.auto.table)) }

pub slice_bounds-write-end : goal.slice_bounds-write-end
slice_bounds-write-end c = c.put_edges.ensures.written _ c.in_ok-used.was

pub slice_bounds-write-end-2 : goal.slice_bounds-write-end-2
slice_bounds-write-end-2 c = sym (length-take-le _ _ (c.put_edges.ensures.written _ c.in_ok-used.was))

pub returns-in_err-used : goal.returns-in_err-used
returns-in_err-used c = let told = put_refused _ c.requires.read _ _ c.clear_edges-left.ensures.left _ _ c.put_edges.ensures.answer c.args.out.now _ c.in_err-used.was in record { answer = answer_err _ c.in_err-used.field-0.0 (search rules) ∙ told.0; memory = told.1 }

pub returns : goal.returns
returns c = let told = put_written _ c.requires.read _ _ c.clear_edges-left.ensures.left _ _ c.put_edges.ensures.answer c.args.out.now _ c.in_ok-used.was _ _ (c.write.ensures.answer, c.write.ensures.memory) in record { answer = told.0; memory = told.1 }
